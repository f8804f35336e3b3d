-- The items of an array as a cell's.
use Rattle.std.proofs.Common.{◌≡◌, List, [], ◌∷◌, length, get_or, None, Global, refl, arith}
use Rattle.json.specs.declared.value.Value.{Value}
use Rattle.serde_json.specs.Find.{as_str}
use Rattle.rv_json.specs.ValueData.{items_data, value_data}
use Rattle.rv_following.specs.FollowLines.{cell_in_items, cell_of, shelf_in}

-- an array of another length is none
pub other_items : (items : List (Value Global)) → ¬ (length items ≡ 3) → None ≡ cell_in_items (items_data items)
other_items [] other = refl
other_items (a ∷ []) other = refl
other_items (a ∷ b ∷ []) other = refl
other_items (a ∷ b ∷ c ∷ []) other = absurd (other refl)
other_items (a ∷ b ∷ c ∷ d ∷ more) other = refl

-- one of three is a cell of its items
pub three_items : (items : List (Value Global)) (shelf key body : Value Global) → length items ≡ 3 → shelf ≡ get_or items 0 shelf → key ≡ get_or items 1 key → body ≡ get_or items 2 body
    → cell_of (shelf_in (value_data shelf)) (as_str (value_data key)) (as_str (value_data body)) ≡ cell_in_items (items_data items)
three_items [] shelf key body three at0 at1 at2 = absurd (omega (arith, three))
three_items (a ∷ []) shelf key body three at0 at1 at2 = absurd (omega (arith, three))
three_items (a ∷ b ∷ []) shelf key body three at0 at1 at2 = absurd (omega (arith, three))
three_items (a ∷ b ∷ c ∷ []) shelf key body three at0 at1 at2 = λ i. cell_of (shelf_in (value_data (at0 i))) (as_str (value_data (at1 i))) (as_str (value_data (at2 i)))
three_items (a ∷ b ∷ c ∷ d ∷ more) shelf key body three at0 at1 at2 = absurd (omega (arith, three))
