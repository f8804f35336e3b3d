use Rattle.std.proofs.Common.{◌≡◌, take}
use Rattle.std.specs.List.{AllByRecursion}
use Rattle.rv_book.specs.Registers.{clients_of}
use Rattle.rv_record.specs.CellReading.{ClientFits}
use Rattle.rv_state.proofs.state.State.page_clients.Given as goal

abbrev pub invariant-loop-index : goal.invariant-loop-index
invariant-loop-index l = record { so_far : l.clients ≡ take l.index (clients_of l.self-inside.book.book); fits : AllByRecursion ClientFits l.clients }
