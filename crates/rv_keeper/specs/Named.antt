-- Items that have names, of which the first of a name counts.
use Rattle.std.specs.Prelude.{ℕ, List, [], ◌∷◌, if◌then◌else◌}
use Rattle.std.specs.declared.option.Option.{Option}
use Rattle.std.specs.List.{find}
use Rattle.std.specs.Str.{bytes_eq}

module _ {X : Type 0} (name_of : X → List ℕ) where
  -- the first item of this name
  abbrev pub first_named : List ℕ → List X → Option X
  first_named name items = find (λ item. bytes_eq name (name_of item)) items

  -- the items with this one in place of the first of its name, or at the end
  abbrev pub with_named : X → List X → List X
  with_named new [] = new ∷ []
  with_named new (item ∷ items) = if bytes_eq (name_of new) (name_of item) then new ∷ items else item ∷ with_named new items
