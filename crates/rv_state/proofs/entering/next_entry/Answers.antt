use Rattle.rv_state.proofs.EnteredCells.{not_next, not_read, next_fails}
use Rattle.rv_state.proofs.entering.next_entry.Goals as goal

pub returns-in_err-place : goal.returns-in_err-place
returns-in_err-place c = next_fails _ _ _ _ _ c.from_residual.ensures.1 (not_read _ _ _ _ c.requires c.fits.ensures.range c.in_err-place.ensures.reads)

pub returns-else-may_follow : goal.returns-else-may_follow
returns-else-may_follow c =
    not_next _ _ _ _ _ _ _ c.requires c.fits.ensures.range (c.in_ok-place.ensures.place, c.may_follow.ensures.range) c.entry_fits.ensures c.in_ok-place.ensures.reads c.may_follow.ensures.value c.if-may_follow.false c.damaged.ensures
