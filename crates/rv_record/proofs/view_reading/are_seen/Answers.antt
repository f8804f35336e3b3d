use Rattle.rv_views.specs.Viewed.{seen_key}
use Rattle.rv_base.specs.Sorted.{is_in_order}
use Rattle.rv_base.specs.RisingLaws.{stays_in_order, was_in_order}
use Rattle.rv_record.proofs.view_reading.are_seen.Goals as goal

pub loop-i-preserved : goal.loop-i-preserved
loop-i-preserved c =
    stays_in_order seen_key c.args.rows.now c.loop-i.i c.index-rows-i.result c.index-rows-i-in-loop-i.result (is_in_order seen_key c.args.rows.now) c.loop-i.auto.i c.loop-i-test.true c.loop-i.invariant
    c.in-Less.ensures

pub returns : goal.returns
returns c = was_in_order seen_key c.args.rows.now c.loop-i.i (is_in_order seen_key c.args.rows.now) c.loop-i.auto.i c.loop-i-test.false c.loop-i.invariant
