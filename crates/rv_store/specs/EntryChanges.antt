-- The changes of cells that an entry makes, where it comes after the entries of a book: its own cell is written, and those of
-- what follows from it are written and removed.
use Rattle.std.specs.Prelude.{ℕ, ◌+◌, List, [], ◌∷◌, ◌++◌, true, false, map, Option, Some, None}
use Rattle.std.specs.List.{filter}
use Rattle.std.specs.Option.{option_map_or}
use Rattle.rv_rows.specs.declared.call.Call.{Call}
use Rattle.rv_rows.specs.declared.key.Key.{Key}
use Rattle.rv_rows.specs.declared.row.Row.{Row}
use Rattle.rv_rows.specs.Keys.{key_text}
use Rattle.rv_mutators.specs.declared.staged.Staged.{Staged}
use Rattle.rv_views.specs.Viewed.{Viewed}
use Rattle.rv_book.specs.declared.entry.Entry.{Entry}
use Rattle.rv_book.specs.declared.entry.Entry.TheVariants.{Act, Look, Retire}
use Rattle.rv_book.specs.Book.{Book, bound, size, last_order}
use Rattle.rv_book.specs.Kept.{is_look_at, falls_out}
use Rattle.rv_history.specs.Served.{Next, with_next}
use Rattle.rv_news.specs.Records.{Placed}
use Rattle.rv_keeper.specs.declared.cell.Cell.{Cell}
use Rattle.rv_keeper.specs.declared.change.Change.{Change}
use Rattle.rv_keeper.specs.declared.change.Change.TheVariants.{Put, Remove}
use Rattle.rv_keeper.specs.Cells.{AreChanges, changed}
use Rattle.rv_record.specs.CellTexts.{ten_digits, entry_cell, row_cell, client_cell, group_cell, view_cell}
use Rattle.rv_store.specs.StoreCells.{AreCellsOf}

-- the rows of the keys are removed, and the rows are written with the version
abbrev pub removed_rows : List Key → List Change
removed_rows keys = map (λ key. Remove 2 (key_text key)) keys

abbrev pub written_rows : ℕ → List Row → List Change
written_rows version rows = map (λ row. Put (row_cell row version)) rows

abbrev pub row_changes : ℕ → Staged → List Change
row_changes version changed = removed_rows changed.keys ++ written_rows version changed.rows

-- a group is written by its first act or look, and is not retired then; later acts leave it as it is
abbrev pub first_group : Book → List ℕ → List ℕ → List Change
first_group book user group = option_map_or (λ owner. []) (bound group book) (Put (group_cell group user (last_order group book) false) ∷ [])

-- An act writes and removes rows, and writes its client, with the act's id as the last, and its group where that is new.
abbrev pub act_changes : Book → List ℕ → List ℕ → List ℕ → ℕ → Call → Staged → List Change
act_changes book user group client id call changed =
    Put (entry_cell (size book + 1) (Act user group client id call))
    ∷ (row_changes (size book + 1) changed ++ Put (client_cell client group id) ∷ first_group book user group)

-- the view record of the look at a place is removed, if there is a place
abbrev pub gone_view : Option ℕ → List Change
gone_view None = []
gone_view (Some place) = Remove 5 (ten_digits place) ∷ []

-- A look writes its group, with the look's order as the last, removes the view record of the look that falls out, and writes
-- its own.
abbrev pub look_changes : Book → List ℕ → List ℕ → ℕ → Option ℕ → Viewed → List Change
look_changes book user group order base viewed =
    Put (entry_cell (size book + 1) (Look user group order base))
    ∷ Put (group_cell group user order false) ∷ (gone_view (falls_out group book) ++ Put (view_cell (size book + 1) viewed) ∷ [])

-- of these view records those of looks of the group are removed
abbrev pub gone_views : List ℕ → Book → List Placed → List Change
gone_views group book records = map (λ r. Remove 5 (ten_digits r.0)) (filter (λ r. is_look_at group book r.0) records)

-- A retirement writes its group, which is bound to the user, as retired, and removes the view records of its looks.
abbrev pub retire_changes : Book → List ℕ → List ℕ → List Placed → List Change
retire_changes book group user records =
    Put (entry_cell (size book + 1) (Retire group)) ∷ Put (group_cell group user (last_order group book) true) ∷ gone_views group book records

-- The changes name each place once, on shelves from 1, and make of the book's cells those of the book with what is entered.
pub record Enters (book : Book) (next : Next) (changes : List Change) : Type 0 where
  pub are : AreChanges changes
  pub leads : (cells : List Cell) → AreCellsOf book cells → AreCellsOf (with_next book next) (changed cells changes)
