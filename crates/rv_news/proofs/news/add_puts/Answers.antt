use Rattle.std.proofs.Common.{refl, ◌∙◌}
use Rattle.rv_news.proofs.Puts.{put_more, put_same}
use Rattle.rv_news.proofs.news.add_puts.Goals.{in-Some+in_ok-copy+in_ok-push, in_default}
use Rattle.rv_news.proofs.news.add_puts.Goals as goal

pub loop-key-preserved : goal.loop-key-preserved
loop-key-preserved c =
    elim c.match-get.branch [
      | in-Some+in_ok-copy+in_ok-push w ↦ put_more c.args.tables.now.rows c.args.keys.now c.loop-key.key-index c.key-item.result c.args.ops.now _ _ _ c.loop-key-test.true c.key-item.is c.loop-key.invariant (w.ops-is ∙ w.in_ok-push.ensures.ok) (rw (← w.in-Some.ensures, w.in_ok-copy.ensures) refl)
      | in_default w ↦ put_same c.args.tables.now.rows c.args.keys.now c.loop-key.key-index c.key-item.result c.args.ops.now _ _ c.loop-key-test.true c.key-item.is c.loop-key.invariant w.ops-is (rw (← w.in_default.ensures) refl)
    ]
