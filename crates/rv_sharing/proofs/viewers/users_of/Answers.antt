use Rattle.rv_sharing.proofs.ViewerLaws.{users_more, users_alone, users_same, users_end}
use Rattle.rv_sharing.proofs.viewers.users_of.Goals as goal
use Rattle.rv_sharing.proofs.viewers.users_of.Goals.{in-Some+in-Some-row_extent+in_ok-add, in-Some+in_default-row_extent, in_default}

pub loop-key-preserved : goal.loop-key-preserved
loop-key-preserved c =
    elim c.match-get.branch [
      | in-Some+in-Some-row_extent+in_ok-add w ↦ (
          let after = users_more _ _ _ _ (w.in-Some.row.now, w.in-Some._version) _ _ _ c.loop-key-test.true c.key-item.is w.in-Some.ensures w.in-Some-row_extent.ensures w.in_ok-add.ensures c.loop-key.invariant in
          rw w.users-is after)
      | in-Some+in_default-row_extent w ↦ (
          let after = users_alone _ _ _ _ (w.in-Some.row.now, w.in-Some._version) _ c.loop-key-test.true c.key-item.is w.in-Some.ensures w.in_default-row_extent.ensures c.loop-key.invariant in
          rw w.users-is after)
      | in_default w ↦ (
          let after = users_same _ _ _ _ _ c.loop-key-test.true c.key-item.is w.in_default.ensures c.loop-key.invariant in
          rw w.users-is after)
    ]

pub returns : goal.returns
returns c = users_end _ _ _ _ _ c.loop-key-test.false c.from_vec.ensures c.loop-key.invariant
