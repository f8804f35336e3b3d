use Rattle.std.proofs.Common.{sym, ◌∙◌, arith}
use Rattle.std.proofs.lemmas.Fmt.{decimal_injective}
use Rattle.rv_standby.proofs.pulling.spells_above.Goals as goal

pub returns-in-Some : goal.returns-in-Some
returns-in-Some c = (
  λ above. (c.in-Some.place, c.in-Some.ensures.found, c.is_above.ensures.value.0 above, c.is_above.ensures.range),
  λ (place, is, low, small).
      let same = decimal_injective c.in-Some.place place (omega (arith, c.is_above.ensures.range)) (omega (arith, small)) (sym c.in-Some.ensures.found ∙ is) in
      c.is_above.ensures.value.1 (omega (arith, same, low)),
)
