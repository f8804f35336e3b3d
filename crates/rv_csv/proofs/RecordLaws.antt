-- A record takes at least one byte, and a reader then stands between two records. So the count that `records` goes by is always
-- enough.
use Rattle.std.proofs.Common.{◌≡◌, ℕ, zero, suc, ◌+◌, ◌-◌, ◌<◌, ◌≤◌, Bool, true, false, cond, List, [], ◌∷◌, length, Some, None, refl, sym, ap, ◌∙◌, subst, arith, inl, inr}
use Rattle.std.specs.Prelude.{◌⊎◌, ◌==◌}
use Rattle.std.proofs.lemmas.Bool.{false≢true}
use Rattle.std.proofs.lemmas.Option.{none-some, same_Some}
use Rattle.csv.specs.Machine.{Read, ends_at_end, ends_with, in_field, is_end, next_record, start_field, start_record, step}
use Rattle.csv.specs.Reading.{default_config, records_from, records_next}
use Rattle.csv.specs.declared.parser.State.{State}
use Rattle.csv.specs.declared.parser.State.TheVariants as st
use Rattle.csv.specs.declared.parser.Action.{Action}
use Rattle.csv.specs.declared.parser.Action.TheVariants as act
use Rattle.csv.specs.declared.parser.Terminator.TheVariants as term

chosen : {A : Type 0} (b : Bool) (x y z : A) → cond b x y ≡ z → ((b ≡ true) × (x ≡ z)) ⊎ ((b ≡ false) × (y ≡ z))
chosen true x y z e = inl (refl, e)
chosen false x y z e = inr (refl, e)

-- a step that ends a record leads between two records
abbrev Sound : State × Action → Type 0
Sound x = is_end x.1 ≡ true → ends_at_end x.0 ≡ false

either : (b : Bool) (x y : State × Action) → Sound x → Sound y → Sound (cond b x y)
either true x y f g = f
either false x y f g = g

quiet : (s : State) (a : Action) → is_end a ≡ false → Sound (s, a)
quiet s a none = λ e. absurd (false≢true (sym none ∙ e))

ended : (b : Bool) → Sound (cond b st.AfterCr st.StartRecord, act.EndRecord)
ended true = λ e. refl
ended false = λ e. refl

sound_field : (c : ℕ) → Sound (in_field default_config c)
sound_field c = either (c == 44) _ _ (quiet st.StartField act.EndField refl) (either (ends_with term.CRLF c) _ _ (ended (c == 13)) (quiet st.InField act.Copy refl))

sound_start : (c : ℕ) → Sound (start_field default_config c)
sound_start c = either (c == 34) _ _ (quiet st.InQuoted act.Skip refl) (sound_field c)

sound_record : (c : ℕ) → Sound (start_record default_config c)
sound_record c = either (ends_with term.CRLF c) _ _ (quiet st.StartRecord act.Skip refl) (sound_start c)

sound_step : (s : State) (c : ℕ) → Sound (step default_config s c)
sound_step st.StartRecord c = sound_record c
sound_step st.StartField c = sound_start c
sound_step st.InField c = sound_field c
sound_step st.InQuoted c = either (c == 34) _ _ (quiet st.AfterQuote act.Skip refl) (quiet st.InQuoted act.Copy refl)
sound_step st.InEscape c = quiet st.InQuoted act.Copy refl
sound_step st.AfterQuote c = either (c == 34) _ _ (quiet st.InQuoted act.Copy refl) (sound_field c)
sound_step st.InComment c = either (c == 10) _ _ (quiet st.StartRecord act.Skip refl) (quiet st.InComment act.Skip refl)
sound_step st.AfterCr c = either (c == 10) _ _ (quiet st.StartRecord act.Skip refl) (sound_record c)

-- where a record ends, and what is left after it
pub after_record : (s : State) (fields : List (List ℕ)) (field xs : List ℕ) (p : Read) → next_record default_config s fields field xs ≡ Some p
    → (ends_at_end p.1 ≡ false) × (length p.2 ≤ length xs - 1)
unfolding next_record
after_record s fields field [] p e = elim (chosen (ends_at_end s) _ _ _ e) [
  | inl so ↦ let is = same_Some _ p so.1 in subst (λ (q : Read). (ends_at_end q.1 ≡ false) × (length q.2 ≤ 0)) is (refl, omega arith)
  | inr other ↦ absurd (none-some p other.1)
]
after_record s fields field (c ∷ rest) p e = elim (chosen (is_end (step default_config s c).1) _ _ _ e) [
  | inl so ↦ let is = same_Some _ p so.1 in subst (λ (q : Read). (ends_at_end q.1 ≡ false) × (length q.2 ≤ length (c ∷ rest) - 1)) is (sound_step s c so.0, omega arith)
  | inr other ↦ let more = after_record (step default_config s c).0 _ _ rest p other.1 in (more.0, omega (arith, more.1))
]

-- between two records there has to be a byte for another
pub shorter : (s : State) (xs : List ℕ) (p : Read) → ends_at_end s ≡ false → next_record default_config s [] [] xs ≡ Some p → length p.2 < length xs
unfolding next_record
shorter s [] p between e = absurd (none-some p (rw between at e))
shorter s (c ∷ rest) p between e = let after = after_record s [] [] (c ∷ rest) p e in omega (arith, after.1)

pub enough : (n m : ℕ) (s : State) (xs : List ℕ) → ends_at_end s ≡ false → length xs < n → length xs < m → records_from default_config n s xs ≡ records_from default_config m s xs
unfolding records_from
enough zero m s xs between a b = absurd (omega (arith, a))
enough (suc n) zero s xs between a b = absurd (omega (arith, b))
enough (suc n) (suc m) s xs between a b =
    elim (next_record default_config s [] [] xs) as (λ o. next_record default_config s [] [] xs ≡ o → records_next (records_from default_config n) o ≡ records_next (records_from default_config m) o) [
      | None ↦ λ e. refl
      | Some p ↦ λ e.
          let less = shorter s xs p between e in
          ap (λ (t : List (List (List ℕ))). p.0 ∷ t) (enough n m p.1 p.2 (after_record s [] [] xs p e).0 (omega (arith, less, a)) (omega (arith, less, b)))
    ] refl

-- the records of a text are the next one and those of what is left
pub next_is : (s : State) (xs : List ℕ) (p : Read) → ends_at_end s ≡ false → next_record default_config s [] [] xs ≡ Some p
    → records_from default_config (length xs + 1) s xs ≡ p.0 ∷ records_from default_config (length p.2 + 1) p.1 p.2
unfolding records_from
next_is s xs p between e =
    let less = shorter s xs p between e in
    enough (length xs + 1) (suc (length xs)) s xs between (omega arith) (omega arith)
    ∙ ap (records_next (records_from default_config (length xs))) e
    ∙ ap (λ (t : List (List (List ℕ))). p.0 ∷ t) (enough (length xs) (length p.2 + 1) p.1 p.2 (after_record s [] [] xs p e).0 less (omega arith))

pub none_is : (s : State) (xs : List ℕ) → ends_at_end s ≡ false → next_record default_config s [] [] xs ≡ None → records_from default_config (length xs + 1) s xs ≡ []
unfolding records_from
none_is s xs between e =
    enough (length xs + 1) (suc (length xs)) s xs between (omega arith) (omega arith)
    ∙ ap (records_next (records_from default_config (length xs))) e
