-- Listeners in order, with the space beside them.
use Rattle.std.specs.Prelude.{◌≡◌, ℕ, ◌+◌, List, [], ◌∷◌, ◌++◌, Some, None}
use Rattle.std.specs.declared.option.Option.{Option}

-- the listeners, and how many slots are reserved beside them
pub record Listed (L : Type 0) : Type 0 where
  pub listeners : List L
  pub spare : ℕ

-- The last listener is taken, and its slot stays reserved. None is taken exactly where there is none, and all stays.
abbrev pub TakesLast : {L : Type 0} → Listed L → Listed L → Option L → Type 0
TakesLast old new (Some last) = (old.listeners ≡ new.listeners ++ last ∷ []) × (new.spare ≡ old.spare + 1)
TakesLast old new None = (old.listeners ≡ []) × (new ≡ old)
