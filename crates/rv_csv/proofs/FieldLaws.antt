-- The fields of a record that has two or three, and those of them that are text.
use Rattle.std.proofs.Common.{◌≡◌, ◌≢◌, ℕ, ◌<◌, ◌≤◌, zero, suc, Bool, true, false, List, [], ◌∷◌, length, Option, Some, None, ap, ◌∙◌, arith, IsUtf8, refl}
use Rattle.std.specs.Str.{is_utf8}
use Rattle.std.proofs.lemmas.Str.{IsUtf8-from_is_utf8, is_utf8-from_IsUtf8}
use Rattle.std.specs.Prelude.{IfNone}
use Rattle.std.proofs.lemmas.Option.{none-some, same_Some}
use Rattle.csv.specs.Records.{field_at}
use Rattle.rv_csv.specs.Records.{Record}

pub pair_is : (l : Record) (a b : List ℕ) → length l ≡ 2 → field_at l 0 ≡ Some a → field_at l 1 ≡ Some b → l ≡ a ∷ b ∷ []
unfolding field_at
pair_is [] a b n e f = absurd (omega (arith, n))
pair_is (x ∷ []) a b n e f = absurd (omega (arith, n))
pair_is (x ∷ y ∷ []) a b n e f = ap (λ (z : List ℕ). z ∷ y ∷ []) (same_Some x a e) ∙ ap (λ (z : List ℕ). a ∷ z ∷ []) (same_Some y b f)
pair_is (x ∷ y ∷ z ∷ l) a b n e f = absurd (omega (arith, n))

pub not_pair : (l : Record) → ¬ (length l ≡ 2) → (a b : List ℕ) → ¬ (l ≡ a ∷ b ∷ [])
not_pair l n a b e = n (ap length e)

pub no_first : (l : Record) → None ≡ field_at l 0 → (a b : List ℕ) → ¬ (l ≡ a ∷ b ∷ [])
unfolding field_at
no_first l n a b e = none-some a (n ∙ ap (λ (r : Record). field_at r 0) e)

pub no_second : (l : Record) → None ≡ field_at l 1 → (a b : List ℕ) → ¬ (l ≡ a ∷ b ∷ [])
unfolding field_at
no_second l n a b e = none-some b (n ∙ ap (λ (r : Record). field_at r 1) e)

pub if_none : {A P : Type 0} (o : Option A) → P → IfNone o P
if_none None p = p
if_none (Some x) p = tt

pub triple_is : (l : Record) (a b c : List ℕ) → length l ≡ 3 → field_at l 0 ≡ Some a → field_at l 1 ≡ Some b → field_at l 2 ≡ Some c → l ≡ a ∷ b ∷ c ∷ []
unfolding field_at
triple_is [] a b c n e f g = absurd (omega (arith, n))
triple_is (x ∷ []) a b c n e f g = absurd (omega (arith, n))
triple_is (x ∷ y ∷ []) a b c n e f g = absurd (omega (arith, n))
triple_is (x ∷ y ∷ z ∷ []) a b c n e f g =
    let first = same_Some x a e in
    let second = same_Some y b f in
    let third = same_Some z c g in
    cc
triple_is (x ∷ y ∷ z ∷ w ∷ l) a b c n e f g = absurd (omega (arith, n))

-- a field that is not there is past the end
pub past_end : (l : Record) (i : ℕ) → None ≡ field_at l i → length l ≤ i
unfolding field_at
past_end [] i e = omega arith
past_end (x ∷ l) zero e = absurd (none-some x e)
past_end (x ∷ l) (suc i) e = omega (arith, past_end l i e)

pub is_text : (bytes : List ℕ) → IsUtf8 bytes → is_utf8 bytes ≡ true
is_text bytes h = is_utf8-from_IsUtf8 bytes h

pub no_text : (bytes : List ℕ) → ¬ (IsUtf8 bytes) → is_utf8 bytes ≡ false
no_text bytes other = by (is_utf8 bytes) refl
  where
    by : (b : Bool) → is_utf8 bytes ≡ b → is_utf8 bytes ≡ false
    by true e = absurd (other (IsUtf8-from_is_utf8 bytes e))
    by false e = e

pub not_three : (l : Record) (i : ℕ) → None ≡ field_at l i → i < 3 → length l ≢ 3
not_three l i e less = omega (arith, past_end l i e)
