-- What the counts of a source and a sink say at each end.
use Rattle.std.proofs.Common.{◌≡◌, ℕ, Bool, MatchBool, ap, ◌∙◌, subst}
use Rattle.rv_base.specs.Causes.{Rose}
use Rattle.rv_base.specs.Outside.{InputState, counted_if}
use Rattle.rv_http.specs.Causes.{CountsReads}

pub counts_from : (old mid new : InputState) (ended failed : Bool) → mid.faults ≡ old.faults → mid.ends ≡ old.ends → CountsReads mid new ended failed → CountsReads old new ended failed
counts_from old mid new ended failed faults ends counts = record {
  faults = subst (λ (n : ℕ). MatchBool failed (Rose n new.faults) (new.faults ≡ n)) faults counts.faults;
  ends = counts.ends ∙ ap (λ (n : ℕ). counted_if ended n) ends;
}
