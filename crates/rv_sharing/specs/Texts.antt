-- Texts in the order of their bytes, each once.
use Rattle.std.specs.Prelude.{◌≡◌, ℕ, Bool, List, ◌&&◌, ◌||◌}
use Rattle.std.specs.List.{list_any}
use Rattle.rv_base.specs.Sorted.{InOrder}

abbrev pub AreInOrder : List (List ℕ) → Type 0
AreInOrder = InOrder (λ text. text)

-- the texts afterwards are those before and this one
pub record AddsText (text : List ℕ) (before after : List (List ℕ)) : Type 0 where
  pub order : AreInOrder after
  pub each : (p : List ℕ → Bool) → list_any p after ≡ (p text || list_any p before)

-- the texts afterwards are those before, and this one where the flag is set
pub record AddsTextIf (flag : Bool) (text : List ℕ) (before after : List (List ℕ)) : Type 0 where
  pub order : AreInOrder after
  pub each : (p : List ℕ → Bool) → list_any p after ≡ ((flag && p text) || list_any p before)
