use Rattle.std.proofs.Common.{◌∙◌, ℕ, ◌∷◌, ◌++◌, take, drop, ap, arith, subst, sym}
use Rattle.rv_book.specs.Book.{with_entry}
use Rattle.rv_book.specs.Logs.{logged}
use Rattle.rv_book.specs.Indexes.{AreClientRows}
use Rattle.rv_book.proofs.ClientLaws.{act_again, act_first, row_there, none_there}
use Rattle.rv_book.proofs.clients.enter_act.Goals as goal

pub overflow_add-row : goal.overflow_add-row
overflow_add-row c = omega (arith, (row_there (logged c.args.log) c.args.client.now c.args.rows.now.items _ c.in-Ok.at c.index_mut-row.result.now c.requires.rows c.deref.ensures.value c.in-Ok.ensures.now c.index_mut-row.ensures.value).bound c.requires.lasts, c.requires.length)

pub returns-in-Ok-clause-rows : goal.returns-in-Ok-clause-rows
returns-in-Ok-clause-rows c = λ entry is. act_again (logged c.args.log) entry c.args.client.now c.args.rows.now.items _ c.in-Ok.at c.index_mut-row.result.now is c.requires.rows c.deref.ensures.value (c.in-Ok.ensures.next entry) c.index_mut-row.ensures.value

pub returns-in-Ok-clause-group : goal.returns-in-Ok-clause-group
returns-in-Ok-clause-group c = c.group_at.ensures ∙ (row_there (logged c.args.log) c.args.client.now c.args.rows.now.items _ c.in-Ok.at c.index_mut-row.result.now c.requires.rows c.deref.ensures.value c.in-Ok.ensures.now c.index_mut-row.ensures.value).group

pub returns-in-Ok-insert-clause-rows : goal.returns-in-Ok-insert-clause-rows
returns-in-Ok-insert-clause-rows c = λ entry is.
    subst (AreClientRows (with_entry (logged c.args.log) entry)) (ap (λ (first : ℕ). take c.in-Err.at c.args.rows.now.items ++ record { first = first; acts = 1 } ∷ drop c.in-Err.at c.args.rows.now.items) (sym c.acting_len.ensures) ∙ sym c.in-Ok-insert.ensures.items)
    (act_first (logged c.args.log) entry c.args.client.now c.args.rows.now.items _ c.in-Err.at is c.requires.rows c.deref.ensures.value (c.in-Err.ensures.next entry))

pub returns-in-Ok-insert-clause-group : goal.returns-in-Ok-insert-clause-group
returns-in-Ok-insert-clause-group c = none_there (logged c.args.log) c.args.client.now c.args.rows.now.items _ c.in-Err.at c.requires.rows c.deref.ensures.value c.in-Err.ensures.now
