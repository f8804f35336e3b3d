-- Items in order in the place of others on one shelf: keys are removed, and the new items are put.
use Rattle.std.proofs.Common.{◌≡◌, ℕ, Bool, true, false, cond, not, List, [], ◌∷◌, ◌++◌, map, Option, Some, None, refl, sym, ap, ◌∙◌, subst}
use Rattle.std.specs.List.{AllByRecursion, filter, fold}
use Rattle.std.specs.Option.{is_some, option_or}
use Rattle.std.specs.Str.{bytes_eq}
use Rattle.std.proofs.lemmas.List.Sums.{fold-append}
use Rattle.std.proofs.lemmas.Map.Entries.{option_filter}
use Rattle.std.proofs.lemmas.Slice.Eq.{bytes_eq-Decides}
use Rattle.rv_base.specs.Sorted.{find_by, put_by, without, Distinct, InOrder}
use Rattle.rv_base.specs.ArrangedLaws.{distinct-filter, distinct-in_order, find-filter, in_order-same}
use Rattle.rv_base.specs.PositionLaws.{equals, find_put, in_order-put, in_order-without, without_above}
use Rattle.rv_history.specs.ReplayLaws.{all_found}
use Rattle.rv_keeper.specs.declared.cell.Cell.{Cell}
use Rattle.rv_keeper.specs.declared.change.Change.{Change}
use Rattle.rv_keeper.specs.declared.change.Change.TheVariants.{Put, Remove}
use Rattle.rv_keeper.specs.Cells.{cell_key, change_key, change_shelf, changed_by, changed}
use Rattle.rv_store.specs.ShelfLaws.{OnShelf, AreOf, all-append, absent-changes, distinct-changes, put-cells, without-cells}
use Rattle.rv_store.proofs.RowChanges.{distinct-append}
use Rattle.rv_store.proofs.ShelfParts.{IsPart, Part}
use Rattle.rv_store.proofs.ViewChanges.{removed-passing}

-- an item that shadows what is found elsewhere
shadows : {X : Type 0} (b : Bool) (x : X) (o p : Option X) → (b ≡ true → o ≡ None) → option_or o (cond b (Some x) p) ≡ option_or (cond b (Some x) o) p
shadows true x o p none = rw (none refl) refl
shadows false x o p none = refl

either : {X : Type 0} (o p : Option X) → (o ≡ None → p ≡ None) → option_or o p ≡ o
either None p none = none refl
either (Some x) p none = refl

module _ {X : Type 0} (key : X → List ℕ) where
  -- what is left when the keys of some items are removed, and when items are put
  abbrev pub left_by : List X → List X → List X
  left_by gone xs = fold (λ t y. without key (key y) t) xs gone

  abbrev pub with_put : List X → List X → List X
  with_put new xs = fold (λ t y. put_by key y t) xs new

  found_put : (k : List ℕ) (new xs : List X) → Distinct key new → find_by key k (with_put new xs) ≡ option_or (find_by key k new) (find_by key k xs)
  found_put k [] xs once = refl
  found_put k (x ∷ new) xs once =
      found_put k new (put_by key x xs) once.1
      ∙ ap (option_or (find_by key k new)) (find_put key k x xs)
      ∙ shadows (bytes_eq k (key x)) x (find_by key k new) (find_by key k xs) (λ same. subst (λ (t : List ℕ). find_by key t new ≡ None) (sym ((bytes_eq-Decides k (key x)).0 same)) once.0)

  in_order_put : (new xs : List X) → InOrder key xs → InOrder key (with_put new xs)
  in_order_put [] xs order = order
  in_order_put (x ∷ new) xs order = in_order_put new (put_by key x xs) (in_order-put key x xs order)

  in_order_left : (gone xs : List X) → InOrder key xs → InOrder key (left_by gone xs)
  in_order_left [] xs order = order
  in_order_left (x ∷ gone) xs order = in_order_left gone (without key (key x) xs) (in_order-without key (key x) xs order)

  -- the new items alone are there, where each that is left has the key of one of them
  replaced : (gone new xs : List X) → InOrder key xs → InOrder key new → ((k : List ℕ) → find_by key k new ≡ None → find_by key k (left_by gone xs) ≡ None) → with_put new (left_by gone xs) ≡ new
  replaced gone new xs order also covered =
      in_order-same key (with_put new (left_by gone xs)) new (in_order_put new (left_by gone xs) (in_order_left gone xs order)) also
      (λ k. found_put k new (left_by gone xs) (distinct-in_order key new also) ∙ either (find_by key k new) (find_by key k (left_by gone xs)) (covered k))

  -- of items whose keys are all removed none is left
  pub all_gone : (xs : List X) → InOrder key xs → left_by xs xs ≡ []
  all_gone [] order = refl
  all_gone (x ∷ xs) order =
      ap (λ (zs : List X). left_by xs zs) (ap (λ (b : Bool). cond (not b) (x ∷ without key (key x) xs) (without key (key x) xs)) (equals (key x)) ∙ without_above key (key x) xs order.0)
      ∙ all_gone xs order.1

  -- The items whose keys are removed because the new ones have them not.
  abbrev pub left_out : List X → X → Bool
  left_out new x = not (is_some (find_by key (key x) new))

  pub are_left_out : (new xs : List X) → AllByRecursion (λ x. find_by key (key x) new ≡ None) (filter (left_out new) xs)
  are_left_out new [] = tt
  are_left_out new (x ∷ xs) = by (find_by key (key x) new) refl (are_left_out new xs)
    where
      by : (o : Option X) → find_by key (key x) new ≡ o → AllByRecursion (λ x. find_by key (key x) new ≡ None) (filter (left_out new) xs)
          → AllByRecursion (λ x. find_by key (key x) new ≡ None) (cond (not (is_some o)) (x ∷ filter (left_out new) xs) (filter (left_out new) xs))
      by None none rest = (none, rest)
      by (Some y) some rest = rest

  -- so each that is left has the key of a new one
  pub others_covered : (new xs : List X) (k : List ℕ) → InOrder key xs → find_by key k new ≡ None → find_by key k (left_by (filter (left_out new) xs) xs) ≡ None
  others_covered new xs k order none =
      ap (find_by key k) (removed-passing key (left_out new) xs order)
      ∙ find-filter key (λ x. not (left_out new x)) k xs (distinct-in_order key xs order)
      ∙ by (find_by key k xs) refl
    where
      trivial : (ys : List X) → AllByRecursion (λ y. Unit {0}) ys
      trivial [] = tt
      trivial (y ∷ ys) = (tt, trivial ys)

      by : (o : Option X) → find_by key k xs ≡ o → option_filter (λ x. not (left_out new x)) o ≡ None
      by None is = refl
      by (Some x) is =
          let own : k ≡ key x = (all_found key (λ y. Unit {0}) k xs x (trivial xs) is).1 in
          ap (λ (o : Option X). cond (not (not (is_some o))) (Some x) None) (ap (λ (t : List ℕ). find_by key t new) (sym own) ∙ none)

-- Cells of such items, on one shelf under their keys.
module _ {X : Type 0} (key : X → List ℕ) (shelf : ℕ) (cell : X → Cell) (is : (x : X) → cell_key (cell x) ≡ shelf ∷ key x) where
  abbrev pub removing : List X → List Change
  removing gone = map (λ x. Remove shelf (key x)) gone

  abbrev pub putting : List X → List Change
  putting new = map (λ x. Put (cell x)) new

  shelf_is : (x : X) → (cell x).shelf ≡ shelf
  shelf_is x = let same = is x in cc

  on_shelf : (xs : List X) → OnShelf shelf (map cell xs)
  on_shelf [] = tt
  on_shelf (x ∷ xs) = (shelf_is x, on_shelf xs)

  removing_of : (gone : List X) → AreOf shelf (removing gone)
  removing_of [] = tt
  removing_of (x ∷ gone) = (refl, removing_of gone)

  putting_of : (new : List X) → AreOf shelf (putting new)
  putting_of [] = tt
  putting_of (x ∷ new) = (shelf_is x, putting_of new)

  removing_leaves : (gone xs : List X) → changed (map cell xs) (removing gone) ≡ map cell (left_by key gone xs)
  removing_leaves [] xs = refl
  removing_leaves (x ∷ gone) xs = ap (λ (cells : List Cell). changed cells (removing gone)) (without-cells key shelf cell is (key x) xs) ∙ removing_leaves gone (without key (key x) xs)

  putting_leaves : (new xs : List X) → changed (map cell xs) (putting new) ≡ map cell (with_put key new xs)
  putting_leaves [] xs = refl
  putting_leaves (x ∷ new) xs = ap (λ (cells : List Cell). changed cells (putting new)) (put-cells key shelf cell is x xs) ∙ putting_leaves new (put_by key x xs)

  removed_once : (gone : List X) → Distinct key gone → Distinct change_key (removing gone)
  removed_once gone once = distinct-changes key shelf (λ x. Remove shelf (key x)) (λ x. refl) gone once

  -- what is removed is not put
  apart : (gone new : List X) → AllByRecursion (λ x. find_by key (key x) new ≡ None) gone → AllByRecursion (λ (c : Change). find_by change_key (change_key c) (putting new) ≡ None) (removing gone)
  apart [] new none = tt
  apart (x ∷ gone) new none = (absent-changes key shelf (λ x. Put (cell x)) is (key x) new none.0, apart gone new none.1)

  -- All cells of the items are removed.
  abbrev pub removed_part : List X → Part
  removed_part xs = record { shelf = shelf; cells = map cell xs; changes = removing xs; left = [] }

  pub removed_is : (xs : List X) → InOrder key xs → IsPart (removed_part xs)
  removed_is xs order = record {
    on = on_shelf xs;
    own = removing_of xs;
    once = removed_once xs (distinct-in_order key xs order);
    leaves = removing_leaves xs xs ∙ ap (map cell) (all_gone key xs order);
  }

  -- Cells of items are removed, and those of new items are put.
  abbrev pub put_part : List X → List X → List X → Part
  put_part gone new xs = record { shelf = shelf; cells = map cell xs; changes = removing gone ++ putting new; left = map cell new }

  put_is : (gone new xs : List X) → InOrder key xs → InOrder key new → Distinct key gone → AllByRecursion (λ x. find_by key (key x) new ≡ None) gone
      → ((k : List ℕ) → find_by key k new ≡ None → find_by key k (left_by key gone xs) ≡ None) → IsPart (put_part gone new xs)
  put_is gone new xs order also once none covered = record {
    on = on_shelf xs;
    own = all-append (λ change. change_shelf change ≡ shelf) (removing gone) (putting new) (removing_of gone) (putting_of new);
    once =
        distinct-append change_key (removing gone) (putting new) (removed_once gone once)
        (distinct-changes key shelf (λ x. Put (cell x)) is new (distinct-in_order key new also)) (apart gone new none);
    leaves =
        fold-append changed_by (map cell xs) (removing gone) (putting new)
        ∙ ap (λ (cells : List Cell). changed cells (putting new)) (removing_leaves gone xs)
        ∙ putting_leaves new (left_by key gone xs)
        ∙ ap (map cell) (replaced key gone new xs order also covered);
  }

  -- those are removed that the new items leave out
  pub replaced_is : (new xs : List X) → InOrder key xs → InOrder key new → IsPart (put_part (filter (left_out key new) xs) new xs)
  replaced_is new xs order also =
      put_is (filter (left_out key new) xs) new xs order also (distinct-filter key (left_out key new) xs (distinct-in_order key xs order)) (are_left_out key new xs)
      (λ k none. others_covered key new xs k order none)

  -- none is removed, where the new items have all keys of the others
  pub added_is : (new xs : List X) → InOrder key xs → InOrder key new → ((k : List ℕ) → find_by key k new ≡ None → find_by key k xs ≡ None) → IsPart (put_part [] new xs)
  added_is new xs order also covered = put_is [] new xs order also tt tt covered
