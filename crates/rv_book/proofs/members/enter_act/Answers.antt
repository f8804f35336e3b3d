use Rattle.std.proofs.Common.{◌∙◌, ℕ, ◌∷◌, ◌++◌, take, drop, ap, arith, subst, sym}
use Rattle.rv_book.specs.Book.{with_entry}
use Rattle.rv_book.specs.Logs.{logged}
use Rattle.rv_book.specs.Members.{member_key, AreMemberRows}
use Rattle.rv_book.proofs.MemberLaws.{member_again, member_first, member_bound}
use Rattle.rv_book.proofs.members.enter_act.Goals as goal

pub overflow_add-index_mut : goal.overflow_add-index_mut
overflow_add-index_mut c = omega (arith, member_bound (logged c.args.log) (member_key c.args.group.now c.args.client.now) c.args.rows.now.items _ c.in-Ok.at c.index_mut.result.now c.requires.lasts c.requires.rows c.deref.ensures.value c.in-Ok.ensures.now c.index_mut.ensures.value, c.requires.length)

pub returns-in-Ok-clause-rows : goal.returns-in-Ok-clause-rows
returns-in-Ok-clause-rows c = λ entry is now. member_again (logged c.args.log) entry c.args.client.now c.args.group.now c.args.rows.now.items _ c.in-Ok.at c.index_mut.result.now is now c.requires.rows c.deref.ensures.value (c.in-Ok.ensures.next entry) c.index_mut.ensures.value

pub returns-in-Ok-insert-clause-rows : goal.returns-in-Ok-insert-clause-rows
returns-in-Ok-insert-clause-rows c = λ entry is now.
    subst (AreMemberRows (with_entry (logged c.args.log) entry)) (ap (λ (first : ℕ). take c.in-Err.at c.args.rows.now.items ++ record { first = first; acts = 1 } ∷ drop c.in-Err.at c.args.rows.now.items) (sym c.acting_len.ensures) ∙ sym c.in-Ok-insert.ensures.items)
    (member_first (logged c.args.log) entry c.args.client.now c.args.group.now c.args.rows.now.items _ c.in-Err.at is now c.requires.rows c.deref.ensures.value (c.in-Err.ensures.next entry))
