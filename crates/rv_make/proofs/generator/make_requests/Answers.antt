use Rattle.rv_make.proofs.MakingLaws.{made_on, counted_on}
use Rattle.rv_make.proofs.generator.make_requests.Goals as goal

pub loop-index-preserved : goal.loop-index-preserved
loop-index-preserved c = record {
  together = made_on _ _ _ _ _ _ _ _ c.loop-index-test.true c.loop-index.invariant.together c.in_ok-request.ensures.request c.in_ok-request.ensures.ok c.in_ok-push.ensures.ok;
  count = counted_on _ _ _ c.loop-index.invariant.count c.in_ok-request.ensures.ok;
}
