use Rattle.rv_views.specs.Viewed.{client_of_pair}
use Rattle.rv_base.specs.Sorted.{is_in_order}
use Rattle.rv_base.specs.RisingLaws.{stays_in_order, was_in_order}
use Rattle.rv_record.proofs.view_reading.are_clients.Goals as goal

pub loop-i-preserved : goal.loop-i-preserved
loop-i-preserved c =
    stays_in_order client_of_pair c.args.clients.now c.loop-i.i c.index-clients-i.result c.index-clients-i-in-loop-i.result (is_in_order client_of_pair c.args.clients.now) c.loop-i.auto.i c.loop-i-test.true c.loop-i.invariant
    c.in-Less.ensures

pub returns : goal.returns
returns c = was_in_order client_of_pair c.args.clients.now c.loop-i.i (is_in_order client_of_pair c.args.clients.now) c.loop-i.auto.i c.loop-i-test.false c.loop-i.invariant
