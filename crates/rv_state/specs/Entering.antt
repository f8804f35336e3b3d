-- What is answered of a cell of shelf 1 whose entry is to come next.
use Rattle.std.specs.Prelude.{◌≡◌, ℕ, ◌+◌, ◌<◌, Result, Ok, Err}
use Rattle.rv_book.specs.declared.entry.Entry.{Entry}
use Rattle.rv_book.specs.Book.{Book, size, with_entry}
use Rattle.rv_history.specs.Lawful.{IsLawfulAfter}
use Rattle.rv_keeper.specs.declared.cell.Cell.{Cell}
use Rattle.rv_record.specs.declared.fault.CellFault.{CellFault}
use Rattle.rv_record.specs.declared.fault.CellFault.TheVariants.{BadCell, Memory}
use Rattle.rv_record.specs.CellReading.{damage_at}
use Rattle.rv_record.specs.CellTexts.{entry_cell}
use Rattle.rv_record.specs.EntryReading.{EntryFits}

-- the cell is that of an entry of the form which may come next
pub record IsNext (limit : ℕ) (book : Book) (cell : Cell) (entry : Entry) : Type 0 where
  pub fits : EntryFits entry
  pub made : cell ≡ entry_cell (size book + 1) entry
  pub below : size book < limit
  pub lawful : IsLawfulAfter book entry

-- The cell of shelf 1 is not that of an entry which may come next: its key is not the next place, its body is no entry, the
-- book is as long as it may be, or the entry may not stand after these.
pub record IsBrokenEntry (limit : ℕ) (book : Book) (cell : Cell) : Type 0 where
  pub shelf : cell.shelf ≡ 1
  pub none : (entry : Entry) → EntryFits entry → cell ≡ entry_cell (size book + 1) entry → size book < limit → IsLawfulAfter book entry → ⊥

-- the cell is that of no entry which may come next, and the damage is at its place; or memory was refused
abbrev pub Breaks : ℕ → Book → Cell → CellFault → Type 0
Breaks limit book cell (BadCell damage) = IsBrokenEntry limit book cell × (damage ≡ damage_at cell)
Breaks limit book cell Memory = Unit {0}

-- what is answered of a cell of shelf 1: the entry which comes next, or why there is none
abbrev pub ReadsNext : ℕ → Book → Cell → Result Entry CellFault → Type 0
ReadsNext limit book cell (Ok entry) = IsNext limit book cell entry
ReadsNext limit book cell (Err fault) = Breaks limit book cell fault

-- what is answered of a cell of shelf 1 whose entry is to be entered, and the book then: where it is not, the book stays
abbrev pub EntersNext : ℕ → Book → Cell → Book → Result (Unit {0}) CellFault → Type 0
EntersNext limit book cell next (Ok done) = (entry : Entry) × IsNext limit book cell entry × (next ≡ with_entry book entry)
EntersNext limit book cell next (Err fault) = Breaks limit book cell fault × (next ≡ book)
