-- Laws of the calls at which an object in memory fails.
use Rattle.std.proofs.Common.{◌≡◌, ◌≢◌, ℕ, ◌<◌, false, List, [], ◌∷◌, refl, arith}
use Rattle.std.specs.List.{AllByRecursion}
use Rattle.std.proofs.lemmas.Grind.{common_steps}
use Rattle.rv_base.specs.Outside.{counted}
use Rattle.rv_doubles.specs.InMemory.{FailsNoMore, fails_next}

-- Where no call to come fails, the next one does not.
no_next : (calls : ℕ) (failing : List ℕ) → AllByRecursion (λ call. call < counted calls) failing → fails_next calls failing ≡ false
no_next calls [] h = refl
no_next calls (call ∷ failing) h = rw (no_next calls failing h.1) (let ne : call ≢ counted calls = omega (arith, h.0) in grind (arith, common_steps))

pub not_next : (calls : ℕ) (failing : List ℕ) → FailsNoMore calls failing → fails_next calls failing ≡ false
not_next calls failing h = no_next calls failing h

-- And none is to come after it: each number of the list is below the next call's, and so below the one after.
pub fails_no_more_later : (calls : ℕ) (failing : List ℕ) → FailsNoMore calls failing → FailsNoMore (counted calls) failing
fails_no_more_later calls [] h = tt
fails_no_more_later calls (call ∷ failing) h = (omega (arith, h.0), fails_no_more_later calls failing h.1)
