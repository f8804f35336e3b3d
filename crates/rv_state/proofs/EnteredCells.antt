-- The entry of a cell, and why none may come next by it.
use Rattle.std.proofs.Common.{◌≡◌, ℕ, ◌+◌, ◌^◌, ◌<◌, ◌↔◌, Bool, true, false, IsTrue, Result, Ok, Err, IsErrAnd, sym, ap, ◌∙◌, subst, arith}
use Rattle.rv_book.specs.declared.entry.Entry.{Entry}
use Rattle.rv_book.specs.Book.{Book, size}
use Rattle.rv_history.specs.Lawful.{IsLawfulAfter}
use Rattle.rv_keeper.specs.declared.cell.Cell.{Cell}
use Rattle.rv_record.specs.declared.fault.CellFault.{CellFault}
use Rattle.rv_record.specs.declared.fault.CellFault.TheVariants.{BadCell, Memory}
use Rattle.rv_record.specs.CellTexts.{entry_cell}
use Rattle.rv_record.specs.PlaceOrderLaws.{ten_digits-injective}
use Rattle.rv_record.specs.EntryCellLaws.{entry_body_injective}
use Rattle.rv_record.specs.CellReading.{Blames, ReadsCell}
use Rattle.rv_record.specs.EntryReading.{IsPlace, EntryFits, PlacedFits}
use Rattle.rv_state.specs.Entering.{IsBrokenEntry, Breaks, ReadsNext}

-- a cell is that of one entry at one place
pub entry_cell-same : (place other : ℕ) (e f : Entry) → place < 10 ^ 10 → other < 10 ^ 10 → EntryFits e → EntryFits f → entry_cell place e ≡ entry_cell other f → (place ≡ other) × (e ≡ f)
entry_cell-same place other e f small also fits fit same = (
  ten_digits-injective place other small also (ap (λ (c : Cell). c.key) same),
  entry_body_injective place other e f fits fit (ap (λ (c : Cell). c.body) same),
)

-- the entry at this place may come next
abbrev pub EntryFollows : ℕ → Book → ℕ → Entry → Type 0
EntryFollows limit book place entry = (size book < limit) × (place ≡ size book + 1) × IsLawfulAfter book entry

breaks_at : (limit : ℕ) (book : Book) (cell : Cell) (fault : CellFault) → IsBrokenEntry limit book cell → Blames cell fault → Breaks limit book cell fault
breaks_at limit book cell (BadCell damage) broken is = (broken, is)
breaks_at limit book cell Memory broken is = tt

pub not_next : (limit : ℕ) (book : Book) (cell : Cell) (place : ℕ) (entry : Entry) (b : Bool) (fault : CellFault) → cell.shelf ≡ 1 → limit < 2 ^ 32 → IsPlace place → EntryFits entry → cell ≡ entry_cell place entry
    → (IsTrue b ↔ EntryFollows limit book place entry) → b ≡ false → Blames cell fault → Breaks limit book cell fault
not_next limit book cell place entry b fault shelf bound at fits is decides fails there = breaks_at limit book cell fault (record { shelf = shelf; none = none }) there
  where
    none : (other : Entry) → EntryFits other → cell ≡ entry_cell (size book + 1) other → size book < limit → IsLawfulAfter book other → ⊥
    none other also same below lawful =
        let one = entry_cell-same place (size book + 1) entry other (omega (arith, at.1)) (omega arith) fits also (sym is ∙ same) in
        let holds : b ≡ true = decides.1 (below, one.0, subst (IsLawfulAfter book) (sym one.1) lawful) in
        let both : true ≡ false = sym holds ∙ fails in
        cc

pub not_read : (limit : ℕ) (book : Book) (cell : Cell) (fault : CellFault) → cell.shelf ≡ 1 → limit < 2 ^ 32 → ReadsCell (λ e. entry_cell e.0 e.1) PlacedFits cell (Err fault) → Breaks limit book cell fault
not_read limit book cell (BadCell damage) on bound reads =
    (record { shelf = on; none = λ entry fits is below lawful. reads.1 (size book + 1, entry) ((omega arith, omega arith), fits) is }, reads.0)
not_read limit book cell Memory on bound reads = tt

pub next_fails : (limit : ℕ) (book : Book) (cell : Cell) (fault : CellFault) (r : Result Entry CellFault) → IsErrAnd r (λ d. d ≡ fault) → Breaks limit book cell fault → ReadsNext limit book cell r
next_fails limit book cell fault (Ok entry) is breaks = absurd is
next_fails limit book cell fault (Err d) is breaks = subst (Breaks limit book cell) (sym is) breaks
