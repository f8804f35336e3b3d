-- Lines that are written one after another.
use Rattle.std.proofs.Common.{◌≡◌, ℕ, zero, suc, ◌+◌, ◌-◌, ◌<◌, ◌≤◌, map, codes, slice_get, length-append, Some, None, List, [], ◌∷◌, ◌++◌, length, get_or, take, drop, Result, Ok, Err, IsErrAnd, refl, sym, ap, ◌∙◌, subst, arith}
use Rattle.std.specs.List.{flat_map, AllByRecursion}
use Rattle.std.proofs.KnownBytes.{Appends-nil}
use Rattle.std.proofs.lemmas.Option.{same_Some}
use Rattle.std.proofs.lemmas.Grind.{flat_map-append}
use Rattle.std.proofs.lemmas.List.{append-nil, get_or-map, length-map, take-append-drop, take_more, take_all}
use Rattle.rv_base.specs.CauseLaws.{rose_before}
use Rattle.rv_base.specs.Outside.{OutputState}
use Rattle.rv_base.specs.WritesLaws.{front_longer, writes_after}
use Rattle.rv_base.specs.declared.fault.Fault.{Fault}
use Rattle.rv_base.specs.declared.fault.Fault.TheVariants.{Memory}
use Rattle.serde_json.specs.Written.{compact_text}
use Rattle.rv_book.specs.declared.entry.Entry.{Entry}
use Rattle.rv_book.specs.Book.{Book, entry_at, size}
use Rattle.rv_book.specs.BookWordLaws.{entry_at-index}
use Rattle.rv_keeper.specs.declared.cell.Cell.{Cell}
use Rattle.rv_record.specs.ListLaws.{all-append}
use Rattle.rv_record.specs.CellTexts.{AreTexts, entry_cell}
use Rattle.rv_store.specs.StoreCells.{entry_cells}
use Rattle.rv_standby.specs.Shipping.{HasFailed, Ships, ShipsSteadily, cell_data, cell_line}

abbrev pub Done : Type 0
Done = Result (Unit {0}) Fault

abbrev pub done : Done
done = Ok tt

-- nothing was written
pub ships_nothing : (s : OutputState) → Ships s s done []
ships_nothing s = record { bytes = Appends-nil s.written; cause = refl; faults = omega arith; refusals = omega arith }

failed_then : (old mid new : ℕ) (result : Done) → mid ≡ old → HasFailed mid new result → HasFailed old new result
failed_then old mid new result same has = subst (λ (n : ℕ). HasFailed n new result) same has

-- a text, and then another
pub ships_then : (old mid new : OutputState) (result : Done) (text more : List ℕ) → Ships old mid done text → Ships mid new result more → Ships old new result (text ++ more)
ships_then old mid new result text more a b = record {
  bytes = writes_after old.written mid.written new.written result text more a.bytes b.bytes;
  cause = failed_then old.faults mid.faults new.faults result a.cause b.cause;
  faults = omega (arith, a.faults, b.faults);
  refusals = omega (arith, a.refusals, b.refusals);
}

-- of a text that was cut, and what would have followed, a front was written
pub ships_cut : (old new : OutputState) (fault : Fault) (text more : List ℕ) → Ships old new (Err fault) text → Ships old new (Err fault) (text ++ more)
ships_cut old new fault text more a = record { bytes = front_longer old.written new.written text more a.bytes; cause = a.cause; faults = a.faults; refusals = a.refusals }

-- where memory was refused before it, nothing was written of a text
pub ships_none : (s : OutputState) (text : List ℕ) → 0 < length text → Ships s s (Err Memory) text
ships_none s text some = record { bytes = ([], (text, refl, some), Appends-nil s.written); cause = refl; faults = omega arith; refusals = omega arith }

module _ (cells : List Cell) (begun : OutputState) where
  -- the lines of the first so many cells were written
  abbrev pub Shipped : ℕ → OutputState → Type 0
  Shipped index now = Ships begun now done (flat_map cell_line (take index cells))

  pub none_shipped : Shipped 0 begun
  none_shipped = ships_nothing begun

  text_more : (index : ℕ) (x : Cell) → index < length cells → x ≡ get_or cells index x → flat_map cell_line (take (index + 1) cells) ≡ flat_map cell_line (take index cells) ++ cell_line x
  text_more index x below is =
      ap (λ (ys : List Cell). flat_map cell_line ys) (take_more cells index x below ∙ ap (λ (y : Cell). take index cells ++ y ∷ []) (sym is))
      ∙ flat_map-append cell_line (take index cells) (x ∷ []) ∙ ap (λ (t : List ℕ). flat_map cell_line (take index cells) ++ t) (append-nil (cell_line x))

  pub one_shipped : (index : ℕ) (x : Cell) (mid now : OutputState) → index < length cells → x ≡ get_or cells index x → Shipped index mid → Ships mid now done (cell_line x) → Shipped (index + 1) now
  one_shipped index x mid now below is so one = subst (λ (t : List ℕ). Ships begun now done t) (sym (text_more index x below is)) (ships_then begun mid now done (flat_map cell_line (take index cells)) (cell_line x) so one)

  pub all_shipped : (index : ℕ) (now : OutputState) → length cells ≤ index → Shipped index now → Ships begun now done (flat_map cell_line cells)
  all_shipped index now le so = subst (λ (ys : List Cell). Ships begun now done (flat_map cell_line ys)) (take_all index cells le) so

  text_whole : (index : ℕ) (x : Cell) → index < length cells → x ≡ get_or cells index x → flat_map cell_line cells ≡ (flat_map cell_line (take index cells) ++ cell_line x) ++ flat_map cell_line (drop (index + 1) cells)
  text_whole index x below is =
      ap (λ (ys : List Cell). flat_map cell_line ys) (sym (take-append-drop (index + 1) cells)) ∙ flat_map-append cell_line (take (index + 1) cells) (drop (index + 1) cells)
      ∙ ap (λ (t : List ℕ). t ++ flat_map cell_line (drop (index + 1) cells)) (text_more index x below is)

  pub line_fails : (index : ℕ) (x : Cell) (mid now : OutputState) (fault : Fault) (result : Done) → IsErrAnd result (λ d. d ≡ fault) → index < length cells → x ≡ get_or cells index x → Shipped index mid → Ships mid now (Err fault) (cell_line x) → Ships begun now result (flat_map cell_line cells)
  line_fails index x mid now fault (Ok d) fails below is so one = absurd fails
  line_fails index x mid now fault (Err d) fails below is so one =
      subst (λ (f : Fault). Ships begun now (Err f) (flat_map cell_line cells)) (sym fails)
      (subst (λ (t : List ℕ). Ships begun now (Err fault) t) (sym (text_whole index x below is))
      (ships_cut begun now fault (flat_map cell_line (take index cells) ++ cell_line x) (flat_map cell_line (drop (index + 1) cells)) (ships_then begun mid now (Err fault) (flat_map cell_line (take index cells)) (cell_line x) so one)))

-- ---- Cells that are texts, one after another.

-- the first so many, and one more
pub one_text : (cells : List Cell) (index : ℕ) (x : Cell) → index < length cells → x ≡ get_or cells index x → AllByRecursion AreTexts (take index cells) → AreTexts x → AllByRecursion AreTexts (take (index + 1) cells)
one_text cells index x below is so one =
    subst (λ (ys : List Cell). AllByRecursion AreTexts ys) (sym (take_more cells index x below ∙ ap (λ (y : Cell). take index cells ++ y ∷ []) (sym is)))
    (all-append AreTexts (take index cells) (x ∷ []) so (one, tt))

pub all_texts : (cells : List Cell) (index : ℕ) → length cells ≤ index → AllByRecursion AreTexts (take index cells) → AllByRecursion AreTexts cells
all_texts cells index le so = subst (λ (ys : List Cell). AllByRecursion AreTexts ys) (take_all index cells le) so

-- memory was refused before a text was written
pub none_fails : (s : OutputState) (text : List ℕ) (result : Done) → IsErrAnd result (λ d. d ≡ Memory) → 0 < length text → Ships s s result text
none_fails s text (Ok d) fails some = absurd fails
none_fails s text (Err d) fails some = subst (λ (f : Fault). Ships s s (Err f) text) (sym fails) (ships_none s text some)

-- a line has bytes
pub line_some : (cell : Cell) → 0 < length (cell_line cell)
line_some cell = omega (arith, length-append (compact_text (cell_data cell)) (codes "\n"))

-- a sink that fails no more, after what was written before
pub fails_steadily : (steady : Type 0) (old mid new : OutputState) (text : List ℕ) (fault : Fault) (result : Done) → IsErrAnd result (λ d. d ≡ fault) → Ships old mid done text → ShipsSteadily steady mid new (Err fault) → ShipsSteadily steady old new result
fails_steadily steady old mid new text fault (Ok d) fails so goes = absurd fails
fails_steadily steady old mid new text fault (Err d) fails so goes = record {
  goes_on = goes.goes_on;
  only_memory = λ is. rose_before old.refusals mid.refusals new.refusals so.refusals (goes.only_memory (sym (ap Err fails) ∙ is));
}

-- ---- The cells of the parts of a page, and of entries.

pub piece_at : {X : Type 0} (cell : X → Cell) (xs : List X) (index : ℕ) (x : X) → index < length xs → x ≡ get_or xs index x → (index < length (map cell xs)) × (cell x ≡ get_or (map cell xs) index (cell x))
piece_at cell xs index x below is = (omega (arith, below, length-map xs cell), ap cell is ∙ sym (get_or-map cell xs index x (cell x) below))

pub pieces_end : {X : Type 0} (cell : X → Cell) (xs : List X) (index : ℕ) → length xs ≤ index → length (map cell xs) ≤ index
pieces_end cell xs index le = omega (arith, le, length-map xs cell)

cells_at : (place : ℕ) (entries : List Entry) (k : ℕ) (entry : Entry) → Some entry ≡ slice_get entries k → (k < length (entry_cells place entries)) × (entry_cell (place + k) entry ≡ get_or (entry_cells place entries) k (entry_cell (place + k) entry))
cells_at place [] k entry is = absurd (cc)
cells_at place (x ∷ xs) zero entry is =
    let same : entry ≡ x = same_Some entry x is in
    let here : place + 0 ≡ place = omega arith in
    (omega arith, λ i. entry_cell (here i) (same i))
cells_at place (x ∷ xs) (suc k) entry is =
    let (below, at) = cells_at (place + 1) xs k entry is in
    let same : place + 1 + k ≡ place + suc k = omega arith in
    (omega (arith, below), subst (λ (p : ℕ). entry_cell p entry ≡ get_or (entry_cells (place + 1) xs) k (entry_cell p entry)) same at)

pub entry_piece : (book : Book) (before : ℕ) (entry : Entry) → book.page.at ≤ before → Some entry ≡ entry_at (before + 1) book
    → (before - book.page.at < length (entry_cells (book.page.at + 1) book.entries))
    × (entry_cell (before + 1) entry ≡ get_or (entry_cells (book.page.at + 1) book.entries) (before - book.page.at) (entry_cell (before + 1) entry))
entry_piece book before entry from is =
    let index : before + 1 - (book.page.at + 1) ≡ before - book.page.at = omega (arith, from) in
    let found : Some entry ≡ slice_get book.entries (before - book.page.at) = is ∙ entry_at-index (before + 1) book (omega (arith, from)) ∙ ap (slice_get book.entries) index in
    let (below, at) = cells_at (book.page.at + 1) book.entries (before - book.page.at) entry found in
    let place : book.page.at + 1 + (before - book.page.at) ≡ before + 1 = omega (arith, from) in
    (below, subst (λ (p : ℕ). entry_cell p entry ≡ get_or (entry_cells (book.page.at + 1) book.entries) (before - book.page.at) (entry_cell p entry)) place at)

none_at : (entries : List Entry) (k : ℕ) → None ≡ slice_get entries k → length entries ≤ k
none_at [] k is = omega arith
none_at (x ∷ xs) zero is = absurd (cc)
none_at (x ∷ xs) (suc k) is = let le = none_at xs k is in omega (arith, le)

pub none_next : (book : Book) (before : ℕ) → book.page.at ≤ before → None ≡ entry_at (before + 1) book → before < size book → ⊥
none_next book before from none below =
    let index : before + 1 - (book.page.at + 1) ≡ before - book.page.at = omega (arith, from) in
    let le = none_at book.entries (before - book.page.at) (none ∙ entry_at-index (before + 1) book (omega (arith, from)) ∙ ap (slice_get book.entries) index) in
    omega (arith, from, below, le)

length-entry_cells : (place : ℕ) (entries : List Entry) → length (entry_cells place entries) ≡ length entries
length-entry_cells place [] = refl
length-entry_cells place (e ∷ entries) = ap suc (length-entry_cells (place + 1) entries)

pub entries_end : (book : Book) (before : ℕ) → size book ≤ before → length (entry_cells (book.page.at + 1) book.entries) ≤ before - book.page.at
entries_end book before le = omega (arith, le, length-entry_cells (book.page.at + 1) book.entries)
