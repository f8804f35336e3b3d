-- What a user's call that sets the extent leaves: what any other user sees, and every other row. And without an extent a user
-- sees what the user may see.
use Rattle.std.proofs.Common.{◌≡◌, ℕ, Bool, true, false, cond, ◌&&◌, ◌||◌, not, List, [], ◌∷◌, ◌++◌, map, Option, Some, None, refl, sym, ap, ◌∙◌, subst}
use Rattle.std.specs.List.{filter, list_any}
use Rattle.std.specs.Option.{option_map_or}
use Rattle.std.specs.Str.{bytes_eq}
use Rattle.std.proofs.lemmas.Slice.Eq.{bytes_eq-Decides}
use Rattle.std.proofs.lemmas.List.Elements.{filter-append}
use Rattle.rv_base.specs.Sorted.{Distinct}
use Rattle.rv_base.specs.PositionLaws.{equals}
use Rattle.rv_base.specs.ArrangedLaws.{filter-sorted}
use Rattle.rv_rows.specs.declared.key.Kind.TheVariants as kinds
use Rattle.rv_rows.specs.declared.row.Row.{Row}
use Rattle.rv_rows.specs.declared.row.Row.TheVariants as variants
use Rattle.rv_rows.specs.declared.call.Call.TheVariants.{SetExtent}
use Rattle.rv_rows.specs.Keys.{row_text, has_row, in_key_order}
use Rattle.rv_rows.specs.Sharing.{is_list, is_any_extent, is_extent, names, owns, shares, may_see, is_synced, sees_list, sees_row, list_of, seen}
use Rattle.rv_rows.specs.Effects.{effect, is_at, is_other, replaced}
use Rattle.rv_rows.specs.EffectLaws.{distinct-effect}

-- Where no extent stands, a user sees each list that the user may see.
pub sees_all : (user list : List ℕ) (rows : List Row) → list_any is_any_extent rows ≡ false → sees_list user list rows ≡ may_see user list rows
unfolding is_synced
sees_all user list rows none = rw (nobody's rows none) (kept (may_see user list rows))
  where
    nobody's : (rows : List Row) → list_any is_any_extent rows ≡ false → list_any (is_extent user) rows ≡ false
    nobody's [] e = refl
    nobody's (variants.Extent row ∷ rows) e = absurd (cc)
    nobody's (variants.List row ∷ rows) e = nobody's rows e
    nobody's (variants.Share row ∷ rows) e = nobody's rows e
    nobody's (variants.Todo row ∷ rows) e = nobody's rows e

    kept : (b : Bool) → (b && true) ≡ b
    kept true = refl
    kept false = refl

twice : (p : Row → Bool) (rows : List Row) → filter p (filter p rows) ≡ filter p rows
twice p [] = refl
twice p (row ∷ rows) =
    elim (p row) as (λ b. p row ≡ b → filter p (cond b (row ∷ filter p rows) (filter p rows)) ≡ cond b (row ∷ filter p rows) (filter p rows)) [
      | true ↦ λ e. rw (e, twice p rows) refl
      | false ↦ λ e. twice p rows
    ] refl

module _ (user : List ℕ) where
  -- the user's extent with these lists
  abbrev extent : List (List ℕ) → Row
  extent lists = variants.Extent (record { user = user; lists = lists })

  abbrev other : Row → Bool
  other = is_other kinds.Extent user

  not_other : (lists : List (List ℕ)) → other (extent lists) ≡ false
  not_other lists = rw (equals user) refl

  -- putting it in the place of what has its key leaves the rest
  replaced-others : (lists : List (List ℕ)) (rows : List Row) → filter other (map (replaced (extent lists)) rows) ≡ filter other rows
  replaced-others lists [] = refl
  replaced-others lists (row ∷ rows) =
      elim (bytes_eq (row_text (extent lists)) (row_text row)) as (λ b. bytes_eq (row_text (extent lists)) (row_text row) ≡ b
      → filter other (cond b (extent lists) row ∷ map (replaced (extent lists)) rows) ≡ cond (not b) (row ∷ filter other rows) (filter other rows)) [
        | true ↦ λ e. rw (not_other lists) (replaced-others lists rows)
        | false ↦ λ e. rw e (ap (λ (t : List Row). row ∷ t) (replaced-others lists rows))
      ] refl

  -- Every other row stays.
  pub others_stay : (rows : List Row) (lists : Option (List (List ℕ))) → filter other (effect rows user (SetExtent lists)) ≡ filter other rows
  others_stay rows None = twice other rows
  others_stay rows (Some lists) =
      elim (has_row (row_text (extent lists)) rows) as (λ b. filter other (cond b (map (replaced (extent lists)) rows) (rows ++ extent lists ∷ [])) ≡ filter other rows) [
        | true ↦ replaced-others lists rows
        | false ↦ filter-append other rows (extent lists ∷ []) ∙ rw (not_other lists) (append-nil (filter other rows))
      ]
    where
      append-nil : (rows : List Row) → rows ++ [] ≡ rows
      append-nil [] = refl
      append-nil (row ∷ rows) = ap (λ (t : List Row). row ∷ t) (append-nil rows)

  module _ (viewer : List ℕ) (apart : bytes_eq user viewer ≡ false) where
    -- a test that the user's extent does not pass
    abbrev Passes : (Row → Bool) → Type 0
    Passes p = (row : Row) → is_at kinds.Extent user row ≡ true → p row ≡ false

    no_extent : Passes (is_extent viewer)
    no_extent (variants.Extent row) e = subst (λ (u : List ℕ). bytes_eq u viewer ≡ false) ((bytes_eq-Decides user row.user).0 e) apart
    no_extent (variants.List row) e = refl
    no_extent (variants.Share row) e = refl
    no_extent (variants.Todo row) e = refl

    no_names : (list : List ℕ) → Passes (names viewer list)
    no_names list (variants.Extent row) e = rw (no_extent (variants.Extent row) e) refl
    no_names list (variants.List row) e = refl
    no_names list (variants.Share row) e = refl
    no_names list (variants.Todo row) e = refl

    no_owns : (list : List ℕ) → Passes (owns viewer list)
    no_owns list (variants.Extent row) e = refl
    no_owns list (variants.List row) e = absurd (cc)
    no_owns list (variants.Share row) e = refl
    no_owns list (variants.Todo row) e = refl

    no_list : (list : List ℕ) → Passes (is_list list)
    no_list list (variants.Extent row) e = refl
    no_list list (variants.List row) e = absurd (cc)
    no_list list (variants.Share row) e = refl
    no_list list (variants.Todo row) e = refl

    no_shares : (list : List ℕ) → Passes (shares viewer list)
    no_shares list (variants.Extent row) e = refl
    no_shares list (variants.List row) e = refl
    no_shares list (variants.Share row) e = absurd (cc)
    no_shares list (variants.Todo row) e = refl

    -- is told by the other rows alone
    any-others : (p : Row → Bool) → Passes p → (rows : List Row) → list_any p (filter other rows) ≡ list_any p rows
    any-others p passes [] = refl
    any-others p passes (row ∷ rows) =
        elim (is_at kinds.Extent user row) as (λ b. is_at kinds.Extent user row ≡ b → list_any p (cond (not b) (row ∷ filter other rows) (filter other rows)) ≡ (p row || list_any p rows)) [
          | true ↦ λ e. rw (passes row e) (any-others p passes rows)
          | false ↦ λ e. ap (λ (b : Bool). p row || b) (any-others p passes rows)
        ] refl

    left-others : (p : Row → Bool) → Passes p → (rows : List Row) → filter p (filter other rows) ≡ filter p rows
    left-others p passes [] = refl
    left-others p passes (row ∷ rows) =
        elim (is_at kinds.Extent user row) as (λ b. is_at kinds.Extent user row ≡ b → filter p (cond (not b) (row ∷ filter other rows) (filter other rows)) ≡ cond (p row) (row ∷ filter p rows) (filter p rows)) [
          | true ↦ λ e. rw (passes row e) (left-others p passes rows)
          | false ↦ λ e. ap (λ (t : List Row). cond (p row) (row ∷ t) t) (left-others p passes rows)
        ] refl

    module _ (rows : List Row) (lists : Option (List (List ℕ))) where
      abbrev after : List Row
      after = effect rows user (SetExtent lists)

      any-same : (p : Row → Bool) → Passes p → list_any p after ≡ list_any p rows
      any-same p passes = sym (any-others p passes after) ∙ ap (list_any p) (others_stay rows lists) ∙ any-others p passes rows

      sees_list-same : (list : List ℕ) → sees_list viewer list after ≡ sees_list viewer list rows
      unfolding may_see is_synced
      sees_list-same list =
          let owned = any-same (owns viewer list) (no_owns list) in
          let there = any-same (is_list list) (no_list list) in
          let shared = any-same (shares viewer list) (no_shares list) in
          let extended = any-same (is_extent viewer) no_extent in
          let named = any-same (names viewer list) (no_names list) in
          (λ i. (owned i || (there i && shared i)) && (not (extended i) || named i))

      no_sight : Passes (sees_row viewer rows)
      no_sight (variants.Extent row) e = no_extent (variants.Extent row) e
      no_sight (variants.List row) e = absurd (cc)
      no_sight (variants.Share row) e = absurd (cc)
      no_sight (variants.Todo row) e = absurd (cc)

      -- Another user sees what that user saw.
      pub others_see_same : Distinct row_text rows → seen viewer after ≡ seen viewer rows
      others_see_same h =
          (λ i. filter (λ row. option_map_or (λ list. sees_list-same list i) (list_of row) (is_extent viewer row)) (in_key_order after))
          ∙ of_others after (distinct-effect rows user (SetExtent lists) h)
          ∙ ap (λ (t : List Row). filter (sees_row viewer rows) (in_key_order t)) (others_stay rows lists)
          ∙ sym (of_others rows h)
        where
          of_others : (xs : List Row) → Distinct row_text xs → filter (sees_row viewer rows) (in_key_order xs) ≡ filter (sees_row viewer rows) (in_key_order (filter other xs))
          of_others xs h = sym (left-others (sees_row viewer rows) no_sight (in_key_order xs)) ∙ ap (filter (sees_row viewer rows)) (filter-sorted row_text other xs h)
