-- Texts that are the same, and tests of them.
use Rattle.std.proofs.Common.{◌≡◌, ℕ, Bool, true, false, List, refl, sym, ap, ◌∙◌, ◌&&◌}
use Rattle.std.specs.Str.{bytes_eq}
use Rattle.std.proofs.lemmas.Slice.Eq.{bytes_eq-Decides}
use Rattle.rv_base.specs.PositionLaws.{not_same}

-- texts are compared the same either way
pub same_either_way : (a b : List ℕ) → bytes_eq a b ≡ bytes_eq b a
same_either_way a b =
    elim (bytes_eq a b) as (λ t. bytes_eq a b ≡ t → t ≡ bytes_eq b a) [
      | true ↦ λ e. let same : a ≡ b = (bytes_eq-Decides a b).0 e in sym ((bytes_eq-Decides b a).1 (sym same))
      | false ↦ λ e. sym (not_same a b e)
    ] refl

-- a test of one text is that of another where they are the same
pub at_same : (f : List ℕ → Bool) (a b : List ℕ) → (f b && bytes_eq a b) ≡ (f a && bytes_eq a b)
at_same f a b =
    elim (bytes_eq a b) as (λ t. bytes_eq a b ≡ t → (f b && t) ≡ (f a && t)) [
      | true ↦ λ e. ap (λ (x : List ℕ). f x && true) (sym ((bytes_eq-Decides a b).0 e))
      | false ↦ λ e. never (f b) ∙ sym (never (f a))
    ] refl
  where
    never : (b : Bool) → (b && false) ≡ false
    never true = refl
    never false = refl
