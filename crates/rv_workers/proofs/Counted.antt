-- Two counts that grow alike.
use Rattle.std.proofs.Common.{◌≡◌, ◌+◌, ◌==◌, ℕ, Bool, true, false, refl, sym, arith}
use Rattle.std.proofs.lemmas.Bool.{eq-eqb, eqb-true}

-- where two counts grow alike, the one stays exactly where the other does
pub same_difference : (a b m n : ℕ) → n + a ≡ m + b → (a == b) ≡ (m == n)
same_difference a b m n grows = by_case (a == b) (m == n) (λ is. eq-eqb m n (omega (arith, eqb-true a b is, grows))) (λ is. eq-eqb a b (omega (arith, eqb-true m n is, grows)))
  where
    by_case : (x y : Bool) → (x ≡ true → y ≡ true) → (y ≡ true → x ≡ true) → x ≡ y
    by_case true y on back = sym (on refl)
    by_case false true on back = back refl
    by_case false false on back = refl
