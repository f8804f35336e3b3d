use Rattle.std.proofs.Common.{◌≡◌, ◌≤◌, take}
use Rattle.std.specs.List.{filter_map, AllByRecursion}
use Rattle.rv_book.specs.Book.{size}
use Rattle.rv_book.specs.Registers.{client_named}
use Rattle.rv_plain.proofs.registers.told_clients.Given as goal

abbrev pub invariant-loop-name : goal.invariant-loop-name
invariant-loop-name l = (l.clients ≡ filter_map (λ client. client_named client l.book) (take l.name-index l.names)) × AllByRecursion (λ c. c.2 ≤ size l.book) l.clients
