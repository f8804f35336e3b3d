-- What the texts of numbers are, sign by sign.
use Rattle.std.proofs.Common.{◌≡◌, ◌<◌, ◌^◌, ℕ, ℤ, Bool, true, false, List, Option, Some, None, refl, ap, rules, ◌↔◌, length}
use Rattle.std.proofs.lemmas.Bool.{iff_false}
use Rattle.std.specs.Prelude.{option_and_then, if◌then◌else◌, Float, slice_index, ◌==◌, ◌||◌, is_some, drop}
use Rattle.std.specs.Float.{binary64, float_is_finite}
use Rattle.std.specs.Option.{SomeIff}
use Rattle.fast_float.specs.Text.{minus, Parts, scan, digits_of, nearest}
use Rattle.serde_json.specs.Data.{Num, unsigned, negative, float}
use Rattle.serde_json.specs.Find.{as_u64}
use Rattle.serde_json.specs.Read.{number_of}
use Rattle.rv_json.specs.Numbers.{fits_whole, fits_below}

not_whole : (fits finite : Bool) (z : ℤ) (x : Float) → option_and_then as_u64 (if fits then Some (negative z) else (if finite then Some (float x) else None)) ≡ None
not_whole true finite z x = refl
not_whole false true z x = refl
not_whole false false z x = refl

whole_if : (fits finite : Bool) (n : ℕ) (x : Float) → option_and_then as_u64 (if fits then Some (unsigned n) else (if finite then Some (float x) else None)) ≡ (if fits then Some n else None)
whole_if true finite n x = refl
whole_if false true n x = refl
whole_if false false n x = refl

pub signed_is_not_whole : (s : List ℕ) → (slice_index s 0 == minus) ≡ true → option_and_then as_u64 (number_of s) ≡ None
unfolding number_of
signed_is_not_whole s e = rw e (not_whole _ _ _ _)

pub unsigned_is_whole : (s : List ℕ) → (slice_index s 0 == minus) ≡ false → option_and_then as_u64 (number_of s) ≡ (if fits_whole (scan s) then Some (digits_of (scan s)) else None)
unfolding number_of
unsigned_is_whole s e = rw e (whole_if _ _ _ _)

pub some_iff : (r : Option ℕ) (b : Bool) (P : Type 0) (n : ℕ) → ((b ≡ true) ↔ P) → SomeIff r P n → r ≡ (if b then Some n else None)
some_iff None true P n iff is = absurd (is (iff.0 refl))
some_iff None false P n iff is = refl
some_iff (Some x) true P n iff is = ap (λ y. Some y) is.1
some_iff (Some x) false P n iff is = absurd (iff_false iff refl is.0)

pub whole_iff : (p : Parts) → (fits_whole p ≡ true) ↔ ((0 < length p.whole × p.point ≡ false × length p.exponent ≡ 0) × digits_of p < 2 ^ 64)
whole_iff p = search rules

in_range_if : (fits finite : Bool) (n : Num) (x : Float) → is_some (if fits then Some n else (if finite then Some (float x) else None)) ≡ (fits || finite)
in_range_if true finite n x = refl
in_range_if false true n x = refl
in_range_if false false n x = refl

pub unsigned_in_range : (s : List ℕ) → (slice_index s 0 == minus) ≡ false → is_some (number_of s) ≡ (fits_whole (scan s) || float_is_finite (nearest binary64 false (scan s)))
unfolding number_of
unsigned_in_range s e = rw e (in_range_if _ _ _ _)

pub signed_in_range : (s : List ℕ) → (slice_index s 0 == minus) ≡ true → is_some (number_of s) ≡ (fits_below (scan (drop 1 s)) || float_is_finite (nearest binary64 true (scan (drop 1 s))))
unfolding number_of
signed_in_range s e = rw e (in_range_if _ _ _ _)
