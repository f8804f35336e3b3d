use Rattle.rv_sharing.proofs.ViewerLaws.{lists_more, lists_alone, lists_same}
use Rattle.rv_sharing.proofs.viewers.lists_of.Goals as goal
use Rattle.rv_sharing.proofs.viewers.lists_of.Goals.{in-Some+in-Some-list+in_ok-add, in-Some+in_default-list, in_default}

pub loop-key-preserved : goal.loop-key-preserved
loop-key-preserved c =
    elim c.match-get.branch [
      | in-Some+in-Some-list+in_ok-add w ↦ (
          let after = lists_more _ _ _ _ (w.in-Some.row.now, w.in-Some._version) _ _ _ c.loop-key-test.true c.key-item.is w.in-Some.ensures w.in-Some-list.ensures w.in_ok-add.ensures c.loop-key.invariant in
          rw w.lists-is after)
      | in-Some+in_default-list w ↦ (
          let after = lists_alone _ _ _ _ (w.in-Some.row.now, w.in-Some._version) _ c.loop-key-test.true c.key-item.is w.in-Some.ensures w.in_default-list.ensures c.loop-key.invariant in
          rw w.lists-is after)
      | in_default w ↦ (
          let after = lists_same _ _ _ _ _ c.loop-key-test.true c.key-item.is w.in_default.ensures c.loop-key.invariant in
          rw w.lists-is after)
    ]
