-- When a cell is that of no entry at a place.
use Rattle.std.proofs.Common.{◌≡◌, ℕ, List, Option, Some, None, sym, ap, ◌∙◌}
use Rattle.std.proofs.lemmas.Option.{none-some, same_Some}
use Rattle.rv_book.specs.declared.entry.Entry.{Entry}
use Rattle.rv_keeper.specs.declared.cell.Cell.{Cell}
use Rattle.rv_record.specs.CellTexts.{ten_digits, entry_cell}
use Rattle.rv_record.specs.CellReading.{IsOfNone}
use Rattle.rv_record.specs.EntryReading.{IsPlace, PlacedFits, body_entry}
use Rattle.rv_record.specs.EntryCellLaws.{body_entry_again}

abbrev pub entry_cells : ℕ × Entry → Cell
entry_cells e = entry_cell e.0 e.1

found_entry : (cell : Cell) (body : List ℕ) (o : Option Entry) → body ≡ cell.body → o ≡ body_entry body → (made : ℕ × Entry) → PlacedFits made → cell ≡ entry_cells made → o ≡ Some made.1
found_entry cell body o body_is e made fits is = e ∙ ap body_entry (body_is ∙ ap (λ (c : Cell). c.body) is) ∙ body_entry_again made.1 fits.1

pub no_entry : (cell : Cell) (body : List ℕ) (o : Option Entry) → body ≡ cell.body → o ≡ None → o ≡ body_entry body → IsOfNone entry_cells PlacedFits cell
no_entry cell body o body_is none e = λ made fits is. none-some made.1 (sym none ∙ found_entry cell body o body_is e made fits is)

pub only_entry : (cell : Cell) (key body : List ℕ) (o : Option Entry) (place : ℕ) (entry : Entry) → key ≡ cell.key → body ≡ cell.body → ((p : ℕ) → IsPlace p → key ≡ ten_digits p → Some place ≡ Some p) → o ≡ Some entry → o ≡ body_entry body
    → (made : ℕ × Entry) → PlacedFits made → cell ≡ entry_cells made → ◌≡◌ {A = Option (ℕ × Entry)} (Some (place, entry)) (Some made)
only_entry cell key body o place entry key_is body_is written some e made fits is =
    let places : place ≡ made.0 = same_Some place made.0 (written made.0 fits.0 (key_is ∙ ap (λ (c : Cell). c.key) is)) in
    let parts : entry ≡ made.1 = same_Some entry made.1 (sym some ∙ found_entry cell body o body_is e made fits is) in
    λ i. Some (places i, parts i)
