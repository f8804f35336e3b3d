-- The cells of a book stand in order, each place once, on shelves from 1; and what follows from the entries stands on the
-- shelves from 2.
use Rattle.std.proofs.Common.{ℕ, ◌+◌, ◌^◌, ◌<◌, ◌≤◌, List, [], ◌∷◌, ◌++◌, sym, subst, arith, refl, map, Bool}
use Rattle.std.specs.List.{AllByRecursion}
use Rattle.rv_base.specs.Sorted.{InOrder}
use Rattle.rv_base.specs.PositionLaws.{Above}
use Rattle.rv_rows.specs.Held.{Stored, stored_key, AreRows}
use Rattle.rv_book.specs.declared.entry.Entry.{Entry}
use Rattle.rv_book.specs.Book.{Book, size}
use Rattle.rv_book.specs.LookLaws.{look_at-within}
use Rattle.rv_book.specs.Registers.{clients_of, groups_of}
use Rattle.rv_book.specs.RegisterLaws.{clients-in_order, groups-in_order}
use Rattle.rv_history.specs.Replay.{IsReplay}
use Rattle.rv_history.specs.ReplayLaws.{stored_in_order}
use Rattle.rv_news.specs.Records.{Placed, Rise, IsRecord, AreRecords}
use Rattle.rv_keeper.specs.declared.cell.Cell.{Cell}
use Rattle.rv_keeper.specs.Cells.{AreCells, cell_key}
use Rattle.rv_record.specs.CellTexts.{ten_digits, row_cell, client_cell, group_cell, view_cell}
use Rattle.rv_record.specs.PlaceOrderLaws.{ten_digits-order}
use Rattle.rv_store.specs.StoreCells.{entry_cells, row_cells, client_cells, group_cells, view_cells, derived_cells, AreDerived}
use Rattle.rv_store.specs.ShelfLaws.{OnShelf, Behind, behind-on, all-append, in_order-parts, in_order-cells}

-- Each part stands on its shelf.
pub entries-on : (place : ℕ) (entries : List Entry) → OnShelf 1 (entry_cells place entries)
entries-on place [] = tt
entries-on place (entry ∷ entries) = (refl, entries-on (place + 1) entries)

pub rows-on : (rows : List Stored) → OnShelf 2 (row_cells rows)
rows-on [] = tt
rows-on (row ∷ rows) = (refl, rows-on rows)

pub clients-on : (book : Book) → OnShelf 3 (client_cells book)
clients-on book = each (clients_of book)
  where
    each : (clients : List (List ℕ × List ℕ × ℕ)) → OnShelf 3 (map (λ c. client_cell c.0 c.1 c.2) clients)
    each [] = tt
    each (client ∷ clients) = (refl, each clients)

pub groups-on : (book : Book) → OnShelf 4 (group_cells book)
groups-on book = each (groups_of book)
  where
    each : (groups : List (List ℕ × List ℕ × ℕ × Bool)) → OnShelf 4 (map (λ g. group_cell g.0 g.1 g.2 g.3) groups)
    each [] = tt
    each (group ∷ groups) = (refl, each groups)

pub views-on : (records : List Placed) → OnShelf 5 (view_cells records)
views-on [] = tt
views-on (r ∷ records) = (refl, views-on records)

-- Each stands behind the shelves before its own.
pub views-behind : (records : List Placed) → Behind 4 (view_cells records)
views-behind records = behind-on 4 5 (view_cells records) (omega arith) (views-on records)

pub groups-behind : (book : Book) (records : List Placed) → Behind 3 (group_cells book ++ view_cells records)
groups-behind book records =
    all-append (λ cell. 3 < cell.shelf) (group_cells book) (view_cells records)
    (behind-on 3 4 (group_cells book) (omega arith) (groups-on book)) (behind-on 3 5 (view_cells records) (omega arith) (views-on records))

pub clients-behind : (book : Book) (records : List Placed) → Behind 2 (client_cells book ++ (group_cells book ++ view_cells records))
clients-behind book records =
    all-append (λ cell. 2 < cell.shelf) (client_cells book) (group_cells book ++ view_cells records)
    (behind-on 2 3 (client_cells book) (omega arith) (clients-on book))
    (all-append (λ cell. 2 < cell.shelf) (group_cells book) (view_cells records)
    (behind-on 2 4 (group_cells book) (omega arith) (groups-on book)) (behind-on 2 5 (view_cells records) (omega arith) (views-on records)))

-- what follows from the entries stands on shelves from 2
pub derived-behind : (book : Book) (rows : List Stored) (records : List Placed) → AllByRecursion (λ cell. 2 ≤ cell.shelf) (derived_cells book rows records)
derived-behind book rows records =
    all-append (λ cell. 1 < cell.shelf) (row_cells rows) (client_cells book ++ (group_cells book ++ view_cells records))
    (behind-on 1 2 (row_cells rows) (omega arith) (rows-on rows))
    (all-append (λ cell. 1 < cell.shelf) (client_cells book) (group_cells book ++ view_cells records)
    (behind-on 1 3 (client_cells book) (omega arith) (clients-on book))
    (all-append (λ cell. 1 < cell.shelf) (group_cells book) (view_cells records)
    (behind-on 1 4 (group_cells book) (omega arith) (groups-on book)) (behind-on 1 5 (view_cells records) (omega arith) (views-on records))))

-- Entries stand in the order of their places.

-- and so do records, under the digits of their places
abbrev pub record_key : Placed → List ℕ
record_key r = ten_digits r.0

above-records : (place : ℕ) (records : List Placed) → AllByRecursion (λ r. place < r.0) records → AllByRecursion (λ r. r.0 < 10 ^ 10) records → Above record_key (ten_digits place) records
above-records place [] higher fits = tt
above-records place (r ∷ records) higher fits = (ten_digits-order place r.0 higher.0 fits.0, above-records place records higher.1 fits.1)

pub in_order-records : (records : List Placed) → Rise records → AllByRecursion (λ r. r.0 < 10 ^ 10) records → InOrder record_key records
in_order-records [] rise fits = tt
in_order-records (r ∷ records) rise fits = (above-records r.0 records rise.0 fits.1, in_order-records records rise.1 fits.1)

-- The rows stand in the order of their keys, and the records in that of their places, which are within the book.
pub record AreArranged (book : Book) (rows : List Stored) (records : List Placed) : Type 0 where
  pub within : size book < 2 ^ 32
  pub sorted : AreRows rows
  pub rise : Rise records
  pub places : AllByRecursion (λ r. r.0 ≤ size book) records

-- as those of a book are
pub arranged : (book : Book) (rows : List Stored) (records : List Placed) → size book < 2 ^ 32 → IsReplay book rows → AreRecords book records → AreArranged book rows records
arranged book rows records within replay kept = record { within = within; sorted = stored_in_order book rows replay; rise = kept.rise; places = each records kept.each }
  where
    each : (rs : List Placed) → AllByRecursion (λ r. IsRecord book r.0 r.1) rs → AllByRecursion (λ r. r.0 ≤ size book) rs
    each [] all = tt
    each (r ∷ rs) all = ((look_at-within r.0 book (all.0.user, all.0.group, all.0.order) all.0.looked).1, each rs all.1)

module _ (book : Book) (rows : List Stored) (records : List Placed) (are : AreArranged book rows records) where
  pub places_fit : AllByRecursion (λ r. r.0 < 10 ^ 10) records
  places_fit = each records are.places
    where
      each : (rs : List Placed) → AllByRecursion (λ r. r.0 ≤ size book) rs → AllByRecursion (λ r. r.0 < 10 ^ 10) rs
      each [] all = tt
      each (r ∷ rs) all = (omega (arith, all.0, are.within), each rs all.1)

  in_order-views : InOrder cell_key (view_cells records)
  in_order-views = in_order-cells record_key 5 (λ r. view_cell r.0 r.1) (λ r. refl) records (in_order-records records are.rise places_fit)

  in_order-derived : InOrder cell_key (derived_cells book rows records)
  in_order-derived =
      in_order-parts 2 (row_cells rows) (client_cells book ++ (group_cells book ++ view_cells records)) (rows-on rows) (clients-behind book records)
      (in_order-cells stored_key 2 (λ s. row_cell s.0 s.1) (λ s. refl) rows are.sorted)
      (in_order-parts 3 (client_cells book) (group_cells book ++ view_cells records) (clients-on book) (groups-behind book records)
      (in_order-cells (λ c. c.0) 3 (λ c. client_cell c.0 c.1 c.2) (λ c. refl) (clients_of book) (clients-in_order book))
      (in_order-parts 4 (group_cells book) (view_cells records) (groups-on book) (views-behind records)
      (in_order-cells (λ g. g.0) 4 (λ g. group_cell g.0 g.1 g.2 g.3) (λ g. refl) (groups_of book) (groups-in_order book)) in_order-views))

  -- the cells that follow from the entries
  pub derived-are_cells : AreCells (derived_cells book rows records)
  derived-are_cells = record { order = in_order-derived; shelves = from_first (derived_cells book rows records) (derived-behind book rows records) }
    where
      from_first : (cells : List Cell) → Behind 1 cells → AllByRecursion (λ cell. 0 < cell.shelf) cells
      from_first [] all = tt
      from_first (cell ∷ cells) all = (omega (arith, all.0), from_first cells all.1)

-- and so are those that follow from its entries, all on shelves from 2
pub derived_of-are_cells : (book : Book) (cells : List Cell) → size book < 2 ^ 32 → AreDerived book cells → AreCells cells
derived_of-are_cells book cells within are = subst AreCells (sym are.made) (derived-are_cells book are.rows are.records (arranged book are.rows are.records within are.replay are.kept))
