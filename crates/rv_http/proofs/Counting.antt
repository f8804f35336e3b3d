-- What one call after another counts, and what each answer says of the counts.
use Rattle.std.proofs.Common.{◌≡◌, ℕ, Bool, true, false, if◌then◌else◌, ◌==◌, Err, refl, ap, ◌∙◌, subst}
use Rattle.std.specs.Prelude.{MatchBool}
use Rattle.rv_base.specs.Causes.{Rose}
use Rattle.rv_base.specs.Outside.{InputState, counted_if}
use Rattle.rv_http.specs.Causes.{CountsReads, RequestIsSteady, saw_end, read_failed}
use Rattle.rv_http.specs.Steps.{search_ended, search_failed, body_ended, body_failed, head_end, body_end}
use Rattle.rv_http.specs.declared.body.BodyStop.{BodyStop}
use Rattle.rv_http.specs.declared.body.BodyStop.TheVariants as bodies
use Rattle.rv_http.specs.declared.reading.HeadStop.{HeadStop}
use Rattle.rv_http.specs.declared.reading.HeadStop.TheVariants as heads
use Rattle.rv_http.specs.declared.http_end.HttpEnd.TheVariants.{End, Cut}

-- nothing was counted before
pub counts_from : (old mid new : InputState) (ended failed : Bool) → mid.faults ≡ old.faults → mid.ends ≡ old.ends → CountsReads mid new ended failed → CountsReads old new ended failed
counts_from old mid new ended failed faults ends b = record {
  faults = subst (λ n. MatchBool failed (Rose n new.faults) (new.faults ≡ n)) faults b.faults;
  ends = b.ends ∙ ap (counted_if ended) ends;
}

pub counts_then : (old mid new : InputState) (ended failed : Bool) → CountsReads old mid false false → CountsReads mid new ended failed → CountsReads old new ended failed
counts_then old mid new ended failed a b = counts_from old mid new ended failed a.faults a.ends b

-- where no head was found
head_causes : (stop : HeadStop) (n : ℕ) → (saw_end {T = Unit {0}} (Err (head_end stop n)) ≡ search_ended {T = Unit {0}} (Err stop)) × (read_failed {T = Unit {0}} (Err (head_end stop n)) ≡ search_failed {T = Unit {0}} (Err stop))
head_causes heads.Ended n = (ended (n == 0), failed (n == 0))
  where
    ended : (b : Bool) → saw_end {T = Unit {0}} (Err (if b then End else Cut)) ≡ true
    ended true = refl
    ended false = refl

    failed : (b : Bool) → read_failed {T = Unit {0}} (Err (if b then End else Cut)) ≡ false
    failed true = refl
    failed false = refl
head_causes heads.Fault n = (refl, refl)
head_causes heads.Refused n = (refl, refl)
head_causes heads.TooLong n = (refl, refl)

pub head_counts : (old new : InputState) (stop : HeadStop) (n : ℕ) → CountsReads old new (search_ended {T = Unit {0}} (Err stop)) (search_failed {T = Unit {0}} (Err stop)) → CountsReads old new (saw_end {T = Unit {0}} (Err (head_end stop n))) (read_failed {T = Unit {0}} (Err (head_end stop n)))
head_counts old new stop n c = let (e, f) = head_causes stop n in rw (e, f) c

pub head_steady : (steady : Type 0) (stop : HeadStop) (n : ℕ) → RequestIsSteady steady (search_failed {T = Unit {0}} (Err stop)) → RequestIsSteady steady (read_failed {T = Unit {0}} (Err (head_end stop n)))
head_steady steady stop n s = record { goes_on = s.goes_on; no_fault = (head_causes stop n).1 ∙ s.no_fault }

-- where no body was read
body_causes : (stop : BodyStop) (flag : Bool) → (saw_end {T = Unit {0}} (Err (body_end stop flag)) ≡ body_ended {T = Unit {0}} (Err stop)) × (read_failed {T = Unit {0}} (Err (body_end stop flag)) ≡ body_failed {T = Unit {0}} (Err stop))
body_causes bodies.Ended flag = (refl, refl)
body_causes bodies.Fault flag = (refl, refl)
body_causes bodies.Memory flag = (refl, refl)

pub body_counts : (old new : InputState) (stop : BodyStop) (flag : Bool) → CountsReads old new (body_ended {T = Unit {0}} (Err stop)) (body_failed {T = Unit {0}} (Err stop)) → CountsReads old new (saw_end {T = Unit {0}} (Err (body_end stop flag))) (read_failed {T = Unit {0}} (Err (body_end stop flag)))
body_counts old new stop flag c = let (e, f) = body_causes stop flag in rw (e, f) c

pub body_steady : (steady : Type 0) (stop : BodyStop) (flag : Bool) → RequestIsSteady steady (body_failed {T = Unit {0}} (Err stop)) → RequestIsSteady steady (read_failed {T = Unit {0}} (Err (body_end stop flag)))
body_steady steady stop flag s = record { goes_on = s.goes_on; no_fault = (body_causes stop flag).1 ∙ s.no_fault }
