use Rattle.std.proofs.Common.{◌≡◌, take}
use Rattle.std.specs.List.{filter_map}
use Rattle.rv_book.specs.Book.{client_in}
use Rattle.rv_plain.proofs.registers.clients_in.Given as goal

abbrev pub invariant-loop-name : goal.invariant-loop-name
invariant-loop-name l = l.clients ≡ filter_map (client_in l.group l.book) (take l.name-index l.names)
