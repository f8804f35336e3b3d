use Rattle.std.proofs.lemmas.Result.{on_ok_weaker}
use Rattle.rv_report.proofs.TenLaws.{space_more, ten_ends}
use Rattle.rv_report.proofs.texts.add_in_ten.Goals as goal

pub loop-preserved : goal.loop-preserved
loop-preserved c = space_more c.args.out.now.items c.loop.out.items _ _ c.loop.counter c.loop.auto.counter c.loop.invariant c.in_ok-push.ensures.items

pub returns : goal.returns
returns c =
    on_ok_weaker c.add.result
    (λ adds. ten_ends c.args.number c.loop.counter c.args.out.now.items c.loop.out.items c.add.new.out.items c.format-text.result.now c.ranges.number.fits c.format-text.ensures.text c.loop-test.false c.loop.auto.counter-end c.loop.invariant adds)
    c.add.ensures
