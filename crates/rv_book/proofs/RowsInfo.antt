-- What the rows of an index tell, row by row, is a register of the book: the same items at the same indexes.
use Rattle.std.proofs.Common.{◌≡◌, ℕ, zero, suc, true, false, cond, List, [], ◌∷◌, length, Option, Some, refl, sym, ap, ◌∙◌, subst}
use Rattle.std.specs.List.{slice_get, filter_map, cons_option, AllByRecursion}
use Rattle.std.specs.Option.{option_and_then}
use Rattle.std.specs.Str.{bytes_eq}
use Rattle.rv_base.specs.Sorted.{find_by, InOrder, Below}
use Rattle.rv_base.specs.PositionLaws.{Above}
use Rattle.rv_base.specs.ArrangedLaws.{in_order-same}
use Rattle.rv_book.specs.Indexes.{IsIndex}
use Rattle.rv_book.proofs.IdLaws.{finds_itself, all_weaker}

module _ {R X : Type 0} (row_key : R → List ℕ) (key : X → List ℕ) (info : R → Option X) where
  -- a row tells an item of the name k
  pub record GivesItem (k : List ℕ) (row : R) : Type 0 where
    pub item : X
    pub info_as : info row ≡ Some item
    pub keyed : key item ≡ k

  -- each row tells an item of its own name
  abbrev GiveOwn : List R → Type 0
  GiveOwn rows = AllByRecursion (λ row. GivesItem (row_key row) row) rows

  -- the item at an index is what the row there tells
  get-info : (rows : List R) (index : ℕ) → GiveOwn rows → slice_get (filter_map info rows) index ≡ option_and_then info (slice_get rows index)
  get-info [] index own = refl
  get-info (row ∷ rows) zero own = ap (λ (o : Option X). slice_get (cons_option o (filter_map info rows)) 0) own.0.info_as ∙ sym own.0.info_as
  get-info (row ∷ rows) (suc index) own = ap (λ (o : Option X). slice_get (cons_option o (filter_map info rows)) (suc index)) own.0.info_as ∙ get-info rows index own.1

  -- the items are in order
  above-info : (k : List ℕ) (rows : List R) → GiveOwn rows → Above row_key k rows → Above key k (filter_map info rows)
  above-info k [] own all = tt
  above-info k (row ∷ rows) own all =
      subst (λ (o : Option X). Above key k (cons_option o (filter_map info rows))) (sym own.0.info_as) (subst (Below k) (sym own.0.keyed) all.0, above-info k rows own.1 all.1)

  in_order-info : (rows : List R) → GiveOwn rows → InOrder row_key rows → InOrder key (filter_map info rows)
  in_order-info [] own sorted = tt
  in_order-info (row ∷ rows) own sorted =
      subst (λ (o : Option X). InOrder key (cons_option o (filter_map info rows))) (sym own.0.info_as)
      (subst (λ (k : List ℕ). Above key k (filter_map info rows)) (sym own.0.keyed) (above-info (row_key row) rows own.1 sorted.0), in_order-info rows own.1 sorted.1)

  -- what is found at a name is what the row of the name tells
  find-info : (k : List ℕ) (rows : List R) → GiveOwn rows → find_by key k (filter_map info rows) ≡ option_and_then info (find_by row_key k rows)
  find-info k [] own = refl
  find-info k (row ∷ rows) own =
      ap (λ (o : Option X). find_by key k (cons_option o (filter_map info rows))) own.0.info_as
      ∙ (λ i. cond (bytes_eq k (own.0.keyed i)) (Some own.0.item) (find-info k rows own.1 i))
      ∙ (elim (bytes_eq k (row_key row)) as (λ b. cond b (Some own.0.item) (option_and_then info (find_by row_key k rows)) ≡ option_and_then info (cond b (Some row) (find_by row_key k rows))) [
        | true ↦ sym own.0.info_as
        | false ↦ refl
      ])

  -- the number of the items is that of the rows
  count-info : (rows : List R) → GiveOwn rows → length (filter_map info rows) ≡ length rows
  count-info [] own = refl
  count-info (row ∷ rows) own = ap (λ (o : Option X). length (cons_option o (filter_map info rows))) own.0.info_as ∙ ap suc (count-info rows own.1)

  -- a register whose items are found by what the rows tell
  module _ (named : R → ℕ) (count : ℕ) (row_of : List ℕ → Option R) (rows : List R) (items : List X) (h : IsIndex row_key named count row_of rows) (sorted : InOrder key items)
      (gives : (k : List ℕ) (row : R) → row_of k ≡ Some row → GivesItem k row) (found : (k : List ℕ) → find_by key k items ≡ option_and_then info (row_of k)) where
    own : GiveOwn rows
    own = all_weaker _ _ rows (λ row itself. gives (row_key row) row (sym (h.found (row_key row)) ∙ itself)) (finds_itself row_key rows h.order)

    same_items : filter_map info rows ≡ items
    same_items = in_order-same key (filter_map info rows) items (in_order-info rows own h.order) sorted (λ k. find-info k rows own ∙ ap (option_and_then info) (h.found k) ∙ sym (found k))

    -- it has the items of the rows, at their indexes
    pub info-at : (index : ℕ) → option_and_then info (slice_get rows index) ≡ slice_get items index
    info-at index = sym (get-info rows index own) ∙ ap (λ (xs : List X). slice_get xs index) same_items

    -- and as many
    pub info-count : length rows ≡ length items
    info-count = sym (count-info rows own) ∙ ap length same_items
