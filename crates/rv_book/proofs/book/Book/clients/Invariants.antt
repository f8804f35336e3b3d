use Rattle.std.proofs.Common.{◌≡◌, ◌++◌}
use Rattle.rv_book.specs.Book.{ids}
use Rattle.rv_book.proofs.book.Book.clients.Given as goal

abbrev pub invariant-loop-client : goal.invariant-loop-client
invariant-loop-client l = record {
  can_next : (goal.iterator-loop-client).can_next l.client-iterator;
  is_finite : (goal.iterator-loop-client).is_finite l.client-iterator;
  so_far : l.clients ++ l.client-iterator ≡ ids l.group l.self.book;
}
