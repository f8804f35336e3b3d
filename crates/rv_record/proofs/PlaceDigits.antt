-- A place is read from its ten digits.
use Rattle.std.proofs.Common.{◌≡◌, ℕ, ◌^◌, ◌<◌, List, length, Result, Ok, Err, OkIff, IsUtf8, refl, sym, ap, ◌∙◌, subst, arith}
use Rattle.std.specs.Str.Parse.{AllDigits, digits_value, ParsesUnsigned}
use Rattle.std.proofs.lemmas.Fmt.{IsAscii-from_digits}
use Rattle.std.proofs.lemmas.Str.{IsUtf8-from_ascii}
use Rattle.std.proofs.lemmas.Str.Parse.{IsNumeralModel, parse_digits}
use Rattle.rv_record.specs.CellTexts.{ten_digits}
use Rattle.rv_record.specs.EntryReading.{IsPlace}
use Rattle.rv_record.specs.PlaceOrderLaws.{AreDigitsOf, ten_digits-are}

own : IsNumeralModel (AllDigits 10) (digits_value 10)
own = record { to = λ ds h. h; from = λ ds h. h; same = λ ds h. refl }

at_ok : {E : Type 0} (r : Result ℕ E) (P : Type 0) (v w : ℕ) → OkIff r P v → P → v ≡ w → r ≡ Ok w
at_ok (Ok x) P v w h p e = ap (λ (n : ℕ). Ok n) (h.1 ∙ e)
at_ok (Err e) P v w h p is = absurd (h p)

parsed_place : {E : Type 0} (place : ℕ) (key : List ℕ) (r : Result ℕ E) → IsPlace place → key ≡ ten_digits place → ParsesUnsigned 32 10 key r → r ≡ Ok place
parsed_place place key r fits is parses =
    let of_key : AreDigitsOf place key = subst (AreDigitsOf place) (sym is) (ten_digits-are place (omega (arith, fits.1))) in
    at_ok r ((0 < length key) × (digits_value 10 key < 2 ^ 32)) (digits_value 10 key) place (parse_digits own 32 key r parses of_key.all)
    (omega (arith, of_key.long), subst (λ (n : ℕ). n < 2 ^ 32) (sym of_key.value) fits.1) of_key.value

-- what is parsed of a place's digits, whatever the error's type
pub some_place : (n : ℕ) (key : List ℕ) → ParsesUnsigned {E = Unit {0}} 32 10 key (Ok n) → (place : ℕ) → IsPlace place → key ≡ ten_digits place → n ≡ place
some_place n key parses place fits is = let same : ◌≡◌ {A = Result ℕ (Unit {0})} (Ok n) (Ok place) = parsed_place place key (Ok n) fits is parses in cc

pub no_place : (key : List ℕ) → ParsesUnsigned {E = Unit {0}} 32 10 key (Err tt) → (place : ℕ) → IsPlace place → key ≡ ten_digits place → ⊥
no_place key parses place fits is = let same : ◌≡◌ {A = Result ℕ (Unit {0})} (Err tt) (Ok place) = parsed_place place key (Err tt) fits is parses in cc

pub place_valid : (place : ℕ) (key : List ℕ) → IsPlace place → key ≡ ten_digits place → IsUtf8 key
place_valid place key fits is = subst IsUtf8 (sym is) (IsUtf8-from_ascii (ten_digits place) (IsAscii-from_digits (ten_digits place) (ten_digits-are place (omega (arith, fits.1))).all))
