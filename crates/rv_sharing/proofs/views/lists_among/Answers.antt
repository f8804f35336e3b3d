use Rattle.std.proofs.Common.{sym, ◌∙◌}
use Rattle.rv_sharing.proofs.OpenedLaws.{among_begins, among_more, among_same, among_ends}
use Rattle.rv_sharing.proofs.views.lists_among.Goals as goal
use Rattle.rv_sharing.proofs.views.lists_among.Goals.{then-may_see+in_ok-add, else-may_see}

pub loop-list-init : goal.loop-list-init
loop-list-init c = among_begins _ _ c.args.named.now _ c.new-lists.ensures.items

pub loop-list-preserved : goal.loop-list-preserved
loop-list-preserved c =
    elim c.if-may_see.branch [
      | then-may_see+in_ok-add w ↦ (
          let after = among_more _ _ _ _ _ c.loop-list-test.true c.list-item.is _ _ (sym c.may_see.ensures ∙ w.if-may_see.true) w.in_ok-add.ensures c.loop-list.invariant in
          rw w.lists-is after)
      | else-may_see w ↦ (
          let after = among_same _ _ _ _ _ c.loop-list-test.true c.list-item.is _ (sym c.may_see.ensures ∙ w.if-may_see.false) c.loop-list.invariant in
          rw w.lists-is after)
    ]

pub returns : goal.returns
returns c = among_ends _ _ _ _ _ c.loop-list-test.false c.loop-list.invariant
