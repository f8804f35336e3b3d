use Rattle.std.proofs.Common.{◌≡◌, ◌+◌, ◌++◌, length}
use Rattle.rv_book.specs.Book.{ids}
use Rattle.rv_news.proofs.news.clients_read.Given as goal

abbrev pub invariant-loop-client : goal.invariant-loop-client
invariant-loop-client g l = record {
  can_next : (goal.iterator-loop-client g).can_next l.client-iterator;
  is_finite : (goal.iterator-loop-client g).is_finite l.client-iterator;
  so_far : l.clients ++ l.client-iterator ≡ ids l.group l.book.book;
  read : l.steps ≡ l.initial.steps + length l.clients;
}
