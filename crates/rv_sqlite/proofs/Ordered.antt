-- One more cell after cells in order.
use Rattle.std.proofs.Common.{◌≡◌, ℕ, suc, ◌<◌, ◌-◌, List, [], ◌∷◌, ◌++◌, length, arith, subst, sym, ap, ◌∙◌, Some}
use Rattle.std.specs.List.{AllByRecursion, slice_get}
use Rattle.std.specs.Option.{option_map_or}
use Rattle.std.proofs.lemmas.Cmp.{nat_list_cmp_total}
use Rattle.rv_base.specs.Sorted.{InOrder, Below}
use Rattle.rv_keeper.specs.declared.cell.Cell.{Cell}
use Rattle.rv_keeper.specs.Cells.{AreCells, cell_key}

pub all_pushed : {X : Type 0} (P : X → Type 0) (xs : List X) (x : X) → AllByRecursion P xs → P x → AllByRecursion P (xs ++ x ∷ [])
all_pushed P [] x all h = (h, tt)
all_pushed P (y ∷ ys) x all h = (all.0, all_pushed P ys x all.1 h)

-- the item of two options that are the same
same_some : {X : Type 0} (a b : X) → Some a ≡ Some b → a ≡ b
same_some a b e = ap (λ o. option_map_or (λ x. x) o a) e

module _ {X : Type 0} (key : X → List ℕ) where
  -- a key above that of the last item is above that of each
  above_last : (xs : List X) (last x : X) → InOrder key xs → slice_get xs (length xs - 1) ≡ Some last → Below (key last) (key x) → AllByRecursion (λ y. Below (key y) (key x)) xs
  above_last [] last x order is below = tt
  above_last (y ∷ []) last x order is below =
      let P : X → Type 0 = λ z. Below (key z) (key x) in (subst P (sym (same_some y last is)) below, tt)
  above_last (y ∷ z ∷ zs) last x order is below =
      let one : suc (suc (length zs)) - 1 ≡ suc (length zs) = omega arith in
      let none : suc (length zs) - 1 ≡ length zs = omega arith in
      let last_is = ap (slice_get (z ∷ zs)) none ∙ (sym (ap (slice_get (y ∷ z ∷ zs)) one) ∙ is) in
      let rest = above_last (z ∷ zs) last x order.1 last_is below in
      (nat_list_cmp_total.trans (key y) (key z) (key x) order.0.0 rest.0, rest)

  pub in_order_pushed : (xs : List X) (x : X) → InOrder key xs → AllByRecursion (λ y. Below (key y) (key x)) xs → InOrder key (xs ++ x ∷ [])
  in_order_pushed [] x order below = (tt, tt)
  in_order_pushed (y ∷ ys) x order below = (all_pushed (λ z. Below (key y) (key z)) ys x order.0 below.0, in_order_pushed ys x order.1 below.1)

-- One more cell, above the last of cells, or where there is none.
pub one_more : (cells : List Cell) (last cell : Cell) → AreCells cells → slice_get cells (length cells - 1) ≡ Some last → Below (cell_key last) (cell_key cell) → 0 < cell.shelf → AreCells (cells ++ cell ∷ [])
one_more cells last cell are is below shelf = record {
  order = in_order_pushed cell_key cells cell are.order (above_last cell_key cells last cell are.order is below);
  shelves = all_pushed (λ c. 0 < c.shelf) cells cell are.shelves shelf;
}
