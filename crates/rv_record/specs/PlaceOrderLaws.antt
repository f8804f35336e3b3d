-- The ten digits of places stand in the order of the places.
use Rattle.std.proofs.Common.{◌≡◌, ℕ, zero, suc, ◌+◌, ◌*◌, ◌-◌, ◌^◌, ◌<◌, ◌≤◌, inl, inr, List, [], ◌∷◌, ◌++◌, length, replicate, decimal, refl, sym, ap, ◌∙◌, arith, length-append}
use Rattle.std.specs.declared.cmp.Ordering.{Ordering}
use Rattle.std.specs.declared.cmp.Ordering.TheVariants.{Less, Equal}
use Rattle.std.specs.Char.{digit_value}
use Rattle.std.specs.Cmp.{nat_cmp_is}
use Rattle.std.specs.Cmp.Lexicographic.{slice_cmp}
use Rattle.std.specs.Ordering.{nat_cmp, ordering_then}
use Rattle.std.specs.Str.Parse.{AllDigits, digits_value, digits_value_after}
use Rattle.std.proofs.lemmas.Bool.{cases_order}
use Rattle.std.proofs.lemmas.List.{length-replicate}
use Rattle.std.proofs.lemmas.Fmt.{decimal_is_IsNumeral, length-decimal-le}
use Rattle.std.proofs.lemmas.Str.{digit_value_digit}
use Rattle.std.proofs.lemmas.Str.Parse.{digit_from_value}
use Rattle.rv_record.specs.CellTexts.{ten_digits}

zeros_are_digits : (k : ℕ) (ds : List ℕ) → AllDigits 10 ds → AllDigits 10 (replicate k 48 ++ ds)
zeros_are_digits zero ds h = h
zeros_are_digits (suc k) ds h = (omega arith, zeros_are_digits k ds h)

zeros_add_nothing : (k : ℕ) (ds : List ℕ) → digits_value 10 (replicate k 48 ++ ds) ≡ digits_value 10 ds
zeros_add_nothing zero ds = refl
zeros_add_nothing (suc k) ds = zeros_add_nothing k ds

-- these are ten digits, which write the place
pub record AreDigitsOf (place : ℕ) (digits : List ℕ) : Type 0 where
  pub all : AllDigits 10 digits
  pub value : digits_value 10 digits ≡ place
  pub long : length digits ≡ 10

pub ten_digits-are : (place : ℕ) → place < 10 ^ 10 → AreDigitsOf place (ten_digits place)
ten_digits-are place fits =
    let of_place = decimal_is_IsNumeral place (omega arith) in
    let short : length (decimal place) ≤ 10 = length-decimal-le 10 place (omega arith) fits (omega arith) in
    let zeros = 10 - length (decimal place) in
    record {
      all = zeros_are_digits zeros (decimal place) of_place.0.1;
      value = zeros_add_nothing zeros (decimal place) ∙ of_place.1;
      long = omega (arith, short, length-append (replicate zeros 48) (decimal place), length-replicate {A = ℕ} zeros 48);
    }

-- digits after a lower number write a lower number than as many after a higher one
lower_front : (low high : ℕ) (xs ys : List ℕ) → low < high → length xs ≡ length ys → AllDigits 10 xs → digits_value_after 10 low xs < digits_value_after 10 high ys
lower_front low high [] [] lower long all = lower
lower_front low high [] (y ∷ ys) lower long all = absurd (omega arith)
lower_front low high (x ∷ xs) [] lower long all = absurd (omega arith)
lower_front low high (x ∷ xs) (y ∷ ys) lower long all =
    let first : digit_value x < 10 = all.0 in
    lower_front (low * 10 + digit_value x) (high * 10 + digit_value y) xs ys (omega arith) (omega arith) all.1

-- a digit below another writes less
lower_digit : (x y : ℕ) → digit_value x < 10 → digit_value y < 10 → x < y → digit_value x < digit_value y
lower_digit x y is also lower = omega (arith, digit_value_digit x (digit_from_value x is), digit_value_digit y (digit_from_value y also))

first_digit : (x y : ℕ) (xs ys : List ℕ) (o : Ordering) → o ≡ nat_cmp x y → slice_cmp nat_cmp (x ∷ xs) (y ∷ ys) ≡ ordering_then o (slice_cmp nat_cmp xs ys)
first_digit x y xs ys o is = ap (λ (p : Ordering). ordering_then p (slice_cmp nat_cmp xs ys)) (sym is)

-- as many digits that write less stand before
order_of_value : (front : ℕ) (xs ys : List ℕ) → length xs ≡ length ys → AllDigits 10 xs → AllDigits 10 ys → digits_value_after 10 front xs < digits_value_after 10 front ys → slice_cmp nat_cmp xs ys ≡ Less
order_of_value front [] [] long all also lower = absurd (omega arith)
order_of_value front [] (y ∷ ys) long all also lower = absurd (omega arith)
order_of_value front (x ∷ xs) [] long all also lower = absurd (omega arith)
order_of_value front (x ∷ xs) (y ∷ ys) long all also lower =
    elim (cases_order x y) as (λ _. slice_cmp nat_cmp (x ∷ xs) (y ∷ ys) ≡ Less) [
      | inl same ↦ first_digit x y xs ys Equal (nat_cmp_is x y Equal same)
          ∙ order_of_value (front * 10 + digit_value x) xs ys (omega arith) all.1 also.1 (omega (arith, lower, ap (λ (d : ℕ). digits_value_after 10 (front * 10 + digit_value d) ys) same))
      | inr (inl less) ↦ first_digit x y xs ys Less (nat_cmp_is x y Less less)
      | inr (inr more) ↦
          let front_lower : front * 10 + digit_value y < front * 10 + digit_value x = omega (arith, lower_digit y x also.0 all.0 more) in
          absurd (omega (arith, lower_front (front * 10 + digit_value y) (front * 10 + digit_value x) ys xs front_lower (omega arith) also.1, lower))
    ]

-- the digits of a place stand before those of a higher one
pub ten_digits-order : (a b : ℕ) → a < b → b < 10 ^ 10 → slice_cmp nat_cmp (ten_digits a) (ten_digits b) ≡ Less
ten_digits-order a b lower fits =
    let of_a = ten_digits-are a (omega arith) in
    let of_b = ten_digits-are b fits in
    order_of_value 0 (ten_digits a) (ten_digits b) (of_a.long ∙ sym of_b.long) of_a.all of_b.all (omega (arith, of_a.value, of_b.value, lower))

-- no two places have the same digits
pub ten_digits-injective : (a b : ℕ) → a < 10 ^ 10 → b < 10 ^ 10 → ten_digits a ≡ ten_digits b → a ≡ b
ten_digits-injective a b fits also same = sym (ten_digits-are a fits).value ∙ ap (digits_value 10) same ∙ (ten_digits-are b also).value
