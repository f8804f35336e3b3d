use Rattle.std.proofs.Common.{◌∙◌}
use Rattle.rv_sharing.proofs.OpenedLaws.{opening_begins, opening_more, opening_same, opening_ends}
use Rattle.rv_sharing.proofs.views.lists_opened.Goals as goal

pub loop-row-init : goal.loop-row-init
loop-row-init c = record { can_next = tt; is_finite = tt; opening = opening_begins _ _ _ _ c.new-lists.ensures.items (c.into_iter-row-iterator.ensures.into_iter_gives ∙ c.of_user-row-items.ensures.rows) }

pub loop-row-preserved-in-Continue-1 : goal.loop-row-preserved-in-Continue-1
loop-row-preserved-in-Continue-1 c = record { can_next = tt; is_finite = tt; opening = opening_more _ _ _ _ _ _ _ _ c.in-Some.ensures.steps c.in-Some-opened.ensures c.in_ok-add.ensures c.loop-row.invariant.opening }

pub loop-row-preserved : goal.loop-row-preserved
loop-row-preserved c = record { can_next = tt; is_finite = tt; opening = opening_same _ _ _ _ _ _ c.in-Some.ensures.steps c.in_default.ensures c.loop-row.invariant.opening }

pub returns : goal.returns
returns c = opening_ends _ _ _ _ c.in-None.ensures.steps.0 c.loop-row.invariant.opening
