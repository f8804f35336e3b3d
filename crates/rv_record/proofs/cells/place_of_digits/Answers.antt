use Rattle.std.proofs.Common.{◌≡◌, ℕ, ◌≤◌, Some, ap, arith}
use Rattle.rv_record.proofs.PlaceDigits.{some_place, no_place}
use Rattle.rv_record.proofs.cells.place_of_digits.Goals as goal

pub returns-then-place-eq0-clause-written : goal.returns-then-place-eq0-clause-written
returns-then-place-eq0-clause-written c = λ place fits is.
    let same : c.in-Ok.place ≡ place = some_place c.in-Ok.place c.args.digits.now c.in-Ok.ensures.value.0 place fits is in
    let zero : c.in-Ok.place ≡ 0 = c.if-place-eq0.true in
    let low : 1 ≤ place = fits.0 in
    absurd (omega arith)

pub returns-else-place-eq0-clause-written : goal.returns-else-place-eq0-clause-written
returns-else-place-eq0-clause-written c = λ place fits is. ap (λ (n : ℕ). Some n) (some_place c.in-Ok.place c.args.digits.now c.in-Ok.ensures.value.0 place fits is)

pub returns-in-Err-clause-written : goal.returns-in-Err-clause-written
returns-in-Err-clause-written c = λ place fits is. absurd (no_place c.args.digits.now c.in-Err.ensures.value.0 place fits is)
