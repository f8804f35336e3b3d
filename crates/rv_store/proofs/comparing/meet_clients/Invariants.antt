use Rattle.std.proofs.Common.{drop, map}
use Rattle.rv_record.specs.CellTexts.{client_cell}
use Rattle.rv_book.specs.Registers.{clients_of}
use Rattle.rv_store.specs.StoreCells.{client_cells}
use Rattle.rv_store.proofs.FirstDifference.{Met}
use Rattle.rv_store.proofs.comparing.meet_clients.Given as goal

abbrev pub invariant-loop-index : goal.invariant-loop-index
invariant-loop-index l = record { met : Met (client_cells l.book.book) (map (λ c. client_cell c.0 c.1 c.2) (drop l.index (clients_of l.book.book))) l.loaded l.rest }
