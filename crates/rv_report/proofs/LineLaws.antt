-- Lines that are written one by one, with those that are left, are all lines.
use Rattle.std.proofs.Common.{◌≡◌, ℕ, List, [], ◌∷◌, ◌++◌, sym, ap, ◌∙◌, append_assoc, append-nil}
use Rattle.std.specs.List.{flat_map}

module _ {X : Type 0} (line : X → List ℕ) where
  pub lines_more : (x : X) (left next : List X) (out added all : List ℕ) → left ≡ x ∷ next → added ≡ out ++ line x → out ++ flat_map line left ≡ all → added ++ flat_map line next ≡ all
  lines_more x left next out added all first adds so_far =
      ap (λ (text : List ℕ). text ++ flat_map line next) adds
      ∙ append_assoc out (line x) (flat_map line next)
      ∙ ap (λ (rest : List X). out ++ flat_map line rest) (sym first)
      ∙ so_far

  pub lines_all : (left : List X) (out all : List ℕ) → left ≡ [] → out ++ flat_map line left ≡ all → out ≡ all
  lines_all left out all none so_far = sym (append-nil out) ∙ ap (λ (rest : List X). out ++ flat_map line rest) (sym none) ∙ so_far
