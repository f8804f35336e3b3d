use Rattle.std.proofs.Common.{◌∙◌, sym}
use Rattle.rv_store.proofs.Meeting.{meets_none, meets_less, meets_greater, meets_same, meets_other}
use Rattle.rv_store.proofs.comparing.meet.Goals as goal

pub returns-in_default : goal.returns-in_default
returns-in_default c = meets_none _ _ _ c.in_default.ensures.cases c.damaged.ensures

pub returns-in-Less : goal.returns-in-Less
returns-in-Less c = meets_less _ _ _ _ _ c.in-Some.ensures.cases.0 c.in-Less.ensures c.damaged-in-Less.ensures

pub returns-then-eq : goal.returns-then-eq
returns-then-eq c = meets_same _ _ _ _ _ _ c.in-Some.ensures.cases.0 c.in-Equal.ensures c.as_slice.ensures c.as_slice-in-Equal.ensures (sym c.eq.ensures ∙ c.if-eq.true)

pub returns-else-eq : goal.returns-else-eq
returns-else-eq c =
    meets_other _ _ _ _ _ _ _ c.in-Some.ensures.cases.0 c.in-Equal.ensures c.as_slice.ensures c.as_slice-in-Equal.ensures (sym c.eq.ensures ∙ c.if-eq.false) c.damaged-else-eq.ensures

pub returns-in-Greater : goal.returns-in-Greater
returns-in-Greater c = meets_greater _ _ _ _ _ c.in-Some.ensures.cases.0 c.in-Greater.ensures c.damaged-in-Greater.ensures
