-- Loaded cells on shelves behind those of a page: where the others first differ from a book's they still do; and where they do not, the first of
-- those behind is too much.
use Rattle.std.proofs.Common.{◌≡◌, ℕ, ◌+◌, ◌<◌, ◌≤◌, Bool, true, false, cond, List, [], ◌∷◌, ◌++◌, Option, Some, None, ◌⊎◌, inl, inr, refl, sym, ap, ◌∙◌, arith}
use Rattle.std.specs.List.{AllByRecursion}
use Rattle.std.specs.Str.{bytes_eq}
use Rattle.std.proofs.lemmas.Bool.{cases_lt}
use Rattle.rv_base.specs.Sorted.{find_by, InOrder, Below}
use Rattle.rv_base.specs.PositionLaws.{Above, above_chain, differs_back, find_above}
use Rattle.rv_rows.specs.Held.{Stored}
use Rattle.rv_book.specs.Book.{Book}
use Rattle.rv_news.specs.Records.{Placed}
use Rattle.rv_keeper.specs.declared.cell.Cell.{Cell}
use Rattle.rv_keeper.specs.Cells.{cell_key}
use Rattle.rv_record.specs.declared.fault.CellFault.{CellFault}
use Rattle.rv_record.specs.declared.fault.CellFault.TheVariants.{BadCell, Memory}
use Rattle.rv_record.specs.declared.fault.Damage.{Damage}
use Rattle.rv_store.specs.Opening.{IsFirstDifference}
use Rattle.rv_store.specs.OpeningSteps.{Differs}
use Rattle.rv_store.specs.ShelfLaws.{all-append, lower_shelf}
use Rattle.rv_store.specs.StoreCells.{client_cells, derived_cells, group_cells, row_cells, view_cells}
use Rattle.rv_store.specs.StoreOrderLaws.{clients-on, groups-on, rows-on, views-on}

pub front_in_order : (xs ys : List Cell) → InOrder cell_key (xs ++ ys) → InOrder cell_key xs
front_in_order [] ys order = tt
front_in_order (x ∷ xs) ys order = (left xs order.0, front_in_order xs ys order.1)
  where
    left : (zs : List Cell) → AllByRecursion (λ z. Below (cell_key x) (cell_key z)) (zs ++ ys) → AllByRecursion (λ z. Below (cell_key x) (cell_key z)) zs
    left [] all = tt
    left (z ∷ zs) all = (all.0, left zs all.1)

-- cells before shelf 10, and behind shelf 9
abbrev pub Low : List Cell → Type 0
Low cells = AllByRecursion (λ cell. cell.shelf < 10) cells

abbrev pub Far : List Cell → Type 0
Far cells = AllByRecursion (λ cell. 9 < cell.shelf) cells

low_on : (shelf : ℕ) (cells : List Cell) → shelf < 10 → AllByRecursion (λ cell. cell.shelf ≡ shelf) cells → Low cells
low_on shelf [] low all = tt
low_on shelf (cell ∷ cells) low all = (omega (arith, all.0, low), low_on shelf cells low all.1)

pub derived-low : (book : Book) (rows : List Stored) (records : List Placed) → Low (derived_cells book rows records)
derived-low book rows records =
    all-append (λ cell. cell.shelf < 10) (row_cells rows) (client_cells book ++ (group_cells book ++ view_cells records)) (low_on 2 (row_cells rows) (omega arith) (rows-on rows))
    (all-append (λ cell. cell.shelf < 10) (client_cells book) (group_cells book ++ view_cells records) (low_on 3 (client_cells book) (omega arith) (clients-on book))
    (all-append (λ cell. cell.shelf < 10) (group_cells book) (view_cells records) (low_on 4 (group_cells book) (omega arith) (groups-on book)) (low_on 5 (view_cells records) (omega arith) (views-on records))))

-- what is found among cells with others behind them of which none has the place
find_before : (place : List ℕ) (xs ys : List Cell) → find_by cell_key place ys ≡ None → find_by cell_key place (xs ++ ys) ≡ find_by cell_key place xs
find_before place [] ys none = none
find_before place (x ∷ xs) ys none = ap (λ (o : Option Cell). cond (bytes_eq place (cell_key x)) (Some x) o) (find_before place xs ys none)

-- no cell before shelf 10 stands on it or behind it
find_low : (shelf : ℕ) (key : List ℕ) (xs : List Cell) → 10 ≤ shelf → Low xs → find_by cell_key (shelf ∷ key) xs ≡ None
find_low shelf key [] high low = refl
find_low shelf key (x ∷ xs) high low =
    ap (λ (b : Bool). cond b (Some x) (find_by cell_key (shelf ∷ key) xs)) (differs_back (cell_key x) (shelf ∷ key) (lower_shelf x.shelf shelf x.key key (omega (arith, low.0, high))))
    ∙ find_low shelf key xs high low.1

above_far : (shelf : ℕ) (key : List ℕ) (ys : List Cell) → shelf < 10 → Far ys → Above cell_key (shelf ∷ key) ys
above_far shelf key [] low far = tt
above_far shelf key (y ∷ ys) low far = (lower_shelf shelf y.shelf key y.key (omega (arith, low, far.0)), above_far shelf key ys low far.1)

with_behind : (own others behind : List Cell) (damage : Damage) → Low own → Low others → Far behind → IsFirstDifference own others damage → IsFirstDifference own (others ++ behind) damage
with_behind own others behind damage low also far d = by (cases_lt damage.shelf 10)
  where
    before : damage.shelf < 10 → IsFirstDifference own (others ++ behind) damage
    before lower =
        let above = above_far damage.shelf damage.key behind lower far in
        record {
          differs = λ same. d.differs (same ∙ find_before (damage.shelf ∷ damage.key) others behind (find_above cell_key (damage.shelf ∷ damage.key) behind above));
          first = λ place less. d.first place less ∙ sym (find_before place others behind (find_above cell_key place behind (above_chain cell_key place (damage.shelf ∷ damage.key) behind less above)));
        }

    by : (damage.shelf < 10) ⊎ (10 ≤ damage.shelf) → IsFirstDifference own (others ++ behind) damage
    by (inl lower) = before lower
    by (inr high) = absurd (d.differs (find_low damage.shelf damage.key own high low ∙ sym (find_low damage.shelf damage.key others high also)))

pub differs_with : (own others behind : List Cell) (fault : CellFault) → Low own → Low others → Far behind → Differs own others fault → Differs own (others ++ behind) fault
differs_with own others behind (BadCell damage) low also far d = with_behind own others behind damage low also far d
differs_with own others behind Memory low also far d = tt

is_far : (behind : List Cell) (damage : Damage) → Far behind → IsFirstDifference [] behind damage → 10 ≤ damage.shelf
is_far behind damage far d = by (cases_lt damage.shelf 10)
  where
    by : (damage.shelf < 10) ⊎ (10 ≤ damage.shelf) → 10 ≤ damage.shelf
    by (inl lower) = absurd (d.differs (sym (find_above cell_key (damage.shelf ∷ damage.key) behind (above_far damage.shelf damage.key behind lower far))))
    by (inr le) = le

-- what is found behind cells of which none has the place
find_past : (place : List ℕ) (xs ys : List Cell) → find_by cell_key place xs ≡ None → find_by cell_key place (xs ++ ys) ≡ find_by cell_key place ys
find_past place [] ys none = refl
find_past place (x ∷ xs) ys none = by (bytes_eq place (cell_key x)) none (find_past place xs ys)
  where
    by : (b : Bool) → cond b (Some x) (find_by cell_key place xs) ≡ None → (find_by cell_key place xs ≡ None → find_by cell_key place (xs ++ ys) ≡ find_by cell_key place ys) → cond b (Some x) (find_by cell_key place (xs ++ ys)) ≡ find_by cell_key place ys
    by true found rest = absurd (cc)
    by false found rest = rest found

past : (own behind : List Cell) (damage : Damage) → Low own → Far behind → IsFirstDifference [] behind damage → IsFirstDifference own (own ++ behind) damage
past own behind damage low far d =
    let nothing = find_low damage.shelf damage.key own (is_far behind damage far d) low in
    record {
      differs = λ same. d.differs (sym nothing ∙ same ∙ find_past (damage.shelf ∷ damage.key) own behind nothing);
      first = λ place less. sym (find_before place own behind (sym (d.first place less)));
    }

pub differs_past : (own behind : List Cell) (fault : CellFault) → Low own → Far behind → Differs [] behind fault → Differs own (own ++ behind) fault
differs_past own behind (BadCell damage) low far d = past own behind damage low far d
differs_past own behind Memory low far d = tt
