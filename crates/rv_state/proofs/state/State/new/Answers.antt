use Rattle.rv_state.proofs.Entered.{none_stands}
use Rattle.rv_state.proofs.state.State.new.Goals as goal

pub invariant_of-result : goal.invariant_of-result
invariant_of-result c = rw (c.new.ensures.book, c.new.ensures.limit, c.new-2.ensures, c.new-3.ensures, c.new-4.ensures) (none_stands c.args.limit c.ranges.limit.fits)
