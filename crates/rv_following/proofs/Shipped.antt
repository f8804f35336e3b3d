-- The lines that `ship` writes are read as what the book says.
use Rattle.std.proofs.Common.{◌≡◌, ℕ, suc, zero, ◌+◌, ◌%◌, ◌^◌, ◌<◌, ◌==◌, ◌||◌, ◌⊎◌, inl, inr, Bool, true, false, cond, List, [], ◌∷◌, ◌++◌, map, flat_map, append_assoc, Some, codes, decimal, refl, sym, ap, ap₂, ◌∙◌, subst, arith}
use Rattle.std.specs.List.{AllByRecursion}
use Rattle.std.proofs.lemmas.Bool.{cases_eq, cases_lt, ne_eqb, or_parts}
use Rattle.std.proofs.lemmas.Fmt.{decimal_by_steps}
use Rattle.std.proofs.lemmas.Grind.{flat_map-append}
use Rattle.std.proofs.lemmas.List.Folds.{list_any-append}
use Rattle.json.specs.Print.{escape, escape_byte, quoted}
use Rattle.json.proofs.Printed.Strings.{escape_byte_plain}
use Rattle.serde_json.specs.Written.{compact_text}
use Rattle.rv_lines.specs.Lines.{HasNoLf, ended_lines_of, has_lf}
use Rattle.rv_lines.specs.LineLaws.{ended_lines_of_line, no_ended_line}
use Rattle.rv_book.specs.declared.entry.Entry.{Entry}
use Rattle.rv_book.specs.Book.{Book}
use Rattle.rv_keeper.specs.declared.cell.Cell.{Cell}
use Rattle.rv_record.specs.CellTexts.{AreTexts}
use Rattle.rv_record.specs.ListLaws.{all-append}
use Rattle.rv_record.specs.PageCells.{page_cells}
use Rattle.rv_record.specs.PageLaws.{page_cells-on}
use Rattle.rv_store.specs.StoreCells.{entry_cells}
use Rattle.rv_standby.specs.Shipping.{cell_data, cell_line}
use Rattle.rv_following.specs.declared.follow_line.FollowLine.{FollowLine}
use Rattle.rv_following.specs.declared.follow_line.FollowLine.TheVariants as lines
use Rattle.rv_following.specs.FollowLines.{follow_line_of}
use Rattle.rv_following.specs.FollowProperties.{AreTheLinesOf, ReadAsFirst, book_says, cells_say}
use Rattle.rv_following.proofs.CellsRead.{cells_are_read, whole_pages_are_read}

-- ---- no LF stands in the line of a cell

no_lf_after : (xs ys : List ℕ) → HasNoLf xs → HasNoLf ys → HasNoLf (xs ++ ys)
no_lf_after xs ys first then = list_any-append (λ byte. byte == 10) xs ys ∙ ap₂ (λ a b. a || b) first then

abbrev no_lf_below : ℕ → Bool
no_lf_below zero = true
no_lf_below (suc n) = cond (has_lf (escape_byte n)) false (no_lf_below n)

below : (n : ℕ) → no_lf_below n ≡ true → (x : ℕ) → x < n → HasNoLf (escape_byte x)
below zero e x lt = absurd (omega (arith, lt))
below (suc n) e x lt = go (has_lf (escape_byte n)) refl e (λ e' less. below n e' x less)
  where
    go : (b : Bool) → has_lf (escape_byte n) ≡ b → cond b false (no_lf_below n) ≡ true → (no_lf_below n ≡ true → x < n → HasNoLf (escape_byte x)) → HasNoLf (escape_byte x)
    go true is e' lower = absurd cc
    go false is e' lower = elim (cases_eq x n) [
      | inl same ↦ rw same is
      | inr other ↦ lower e' (omega (arith, lt, other))
    ]

none_below : no_lf_below 93 ≡ true
unfolding escape_byte
none_below = refl

no_lf_byte : (x : ℕ) → HasNoLf (escape_byte x)
no_lf_byte x = elim (cases_lt x 93) [
  | inl low ↦ below 93 none_below x low
  | inr high ↦ subst HasNoLf (sym (escape_byte_plain x (λ e. omega (arith, e, high)) (λ e. omega (arith, e, high)) (omega (arith, high)))) (ap (λ b. b || false) (ne_eqb x 10 (λ e. omega (arith, e, high))))
]

no_lf_escaped : (text : List ℕ) → HasNoLf (escape text)
no_lf_escaped [] = refl
no_lf_escaped (x ∷ xs) = no_lf_after (escape_byte x) (escape xs) (no_lf_byte x) (no_lf_escaped xs)

no_lf_quoted : (text more : List ℕ) → HasNoLf more → HasNoLf (quoted text ++ more)
no_lf_quoted text more none = no_lf_after (quoted text) more (no_lf_after (escape text) (34 ∷ []) (no_lf_escaped text) refl) none

no_lf_decimal : (n : ℕ) → n < 2 ^ 64 → HasNoLf (decimal n)
no_lf_decimal = decimal_by_steps (λ n digits. HasNoLf digits)
    (λ n lt. ap (λ b. b || false) (ne_eqb (48 + n) 10 (λ e. omega (arith, e))))
    (λ n digits le none. no_lf_after digits ((48 + n % 10) ∷ []) none (ap (λ b. b || false) (ne_eqb (48 + n % 10) 10 (λ e. omega (arith, e)))))

no_lf_cell : (cell : Cell) → cell.shelf < 2 ^ 8 → HasNoLf (compact_text (cell_data cell))
no_lf_cell cell low =
    let body_on : List ℕ = 44 ∷ (quoted cell.body ++ 93 ∷ []) in
    let key_on : List ℕ = 44 ∷ (quoted cell.key ++ body_on) in
    let items : List ℕ = 91 ∷ (decimal cell.shelf ++ key_on) in
    let body : HasNoLf body_on = no_lf_quoted cell.body (93 ∷ []) refl in
    let key : HasNoLf key_on = no_lf_quoted cell.key body_on body in
    let all : HasNoLf items = no_lf_after (decimal cell.shelf) key_on (no_lf_decimal cell.shelf (omega (arith, low))) key in
    no_lf_quoted (codes "cell") (58 ∷ (items ++ 125 ∷ [])) (no_lf_after items (125 ∷ []) all refl)

-- ---- the lines that end in a front of the bytes

-- the text of a line of a book
abbrev spelled : FollowLine → List ℕ
spelled (lines.Cell cell) = compact_text (cell_data cell)
spelled lines.Page = codes "{\"page\":true}"
spelled (lines.Pull user pull) = []

abbrev ended : FollowLine → List ℕ
ended line = spelled line ++ 10 ∷ []

abbrev IsSpelled : FollowLine → Type 0
IsSpelled line = (follow_line_of (spelled line) ≡ Some line) × HasNoLf (spelled line)

-- where a front ends: before the first LF, or behind it
abbrev EndsAt : List ℕ → List ℕ → List ℕ → List ℕ → Type 0
EndsAt line more front back = (HasNoLf line → HasNoLf front) ⊎ ((later : List ℕ) × (front ≡ (line ++ 10 ∷ []) ++ later) × (more ≡ later ++ back))

tail_is : (b c : ℕ) (xs ys : List ℕ) → b ∷ xs ≡ c ∷ ys → (b ≡ c) × (xs ≡ ys)
tail_is b c xs ys e = (cc, cc)

ends_at : (line more front back : List ℕ) → (line ++ 10 ∷ []) ++ more ≡ front ++ back → EndsAt line more front back
ends_at line more [] back e = inl (λ none. refl)
ends_at [] more (b ∷ front) back e =
    let parts = tail_is 10 b more (front ++ back) e in
    inr (front, ap (λ x. x ∷ front) (sym parts.0), parts.1)
ends_at (c ∷ line) more (b ∷ front) back e =
    let parts = tail_is c b ((line ++ 10 ∷ []) ++ more) (front ++ back) e in
    elim (ends_at line more front back parts.1) [
      | inl none ↦ inl (λ h. let two = or_parts (c == 10) (has_lf line) h in ap₂ (λ x y. x || y) (ap (λ x. x == 10) (sym parts.0) ∙ two.0) (none two.1))
      | inr (later, is, rest) ↦ inr (later, ap₂ (λ x xs. x ∷ xs) (sym parts.0) is, rest)
    ]

fronts_are_read : (said : List FollowLine) (front back : List ℕ) → AllByRecursion IsSpelled said → flat_map ended said ≡ front ++ back → ReadAsFirst said front
fronts_are_read [] [] back all e = ([], [], refl, refl)
fronts_are_read [] (b ∷ front) back all e = absurd cc
fronts_are_read (line ∷ said) front back all e = elim (ends_at (spelled line) (flat_map ended said) front back e) [
  | inl none ↦ ([], line ∷ said, refl, ap (map follow_line_of) (no_ended_line front (none all.0.1)))
  | inr (later, is, rest) ↦
      let (taken, left, split, reads) = fronts_are_read said later back all.1 rest in (
        line ∷ taken,
        left,
        ap (λ ls. line ∷ ls) split,
        ap (λ f. map follow_line_of (ended_lines_of f)) is ∙ ap (map follow_line_of) (ended_lines_of_line (spelled line) later all.0.1)
            ∙ ap₂ (λ l ls. l ∷ ls) all.0.0 reads,
      )
]

-- ---- those of a book

cells_spelled : (cells : List Cell) → AllByRecursion AreTexts cells → AllByRecursion (λ cell. cell.shelf < 2 ^ 8) cells → AllByRecursion IsSpelled (cells_say cells)
cells_spelled [] texts low = tt
cells_spelled (cell ∷ cells) texts low = ((cells_are_read cell low.0 texts.0, no_lf_cell cell low.0), cells_spelled cells texts.1 low.1)

cells_ended : (cells : List Cell) → flat_map cell_line cells ≡ flat_map ended (cells_say cells)
cells_ended [] = refl
cells_ended (cell ∷ cells) = ap (λ t. cell_line cell ++ t) (cells_ended cells)

page_low : (cells : List Cell) → AllByRecursion (λ cell. (5 < cell.shelf) × (cell.shelf < 10)) cells → AllByRecursion (λ cell. cell.shelf < 2 ^ 8) cells
page_low [] on = tt
page_low (cell ∷ cells) on = (omega (arith, on.0.1), page_low cells on.1)

entries_low : (place : ℕ) (entries : List Entry) → AllByRecursion (λ cell. cell.shelf < 2 ^ 8) (entry_cells place entries)
entries_low place [] = tt
entries_low place (entry ∷ entries) = (omega arith, entries_low (place + 1) entries)

whole_spelled : (b : Bool) → AllByRecursion IsSpelled (cond b [] (lines.Page ∷ []))
whole_spelled true = tt
whole_spelled false = ((whole_pages_are_read, refl), tt)

whole_ended : (b : Bool) → cond b [] (codes "{\"page\":true}\n") ≡ flat_map ended (cond b [] (lines.Page ∷ []))
whole_ended true = refl
whole_ended false = refl

pub shipped_lines_are_read : (book : Book) (front back : List ℕ) → AreTheLinesOf book front back → ReadAsFirst (book_says book) front
shipped_lines_are_read book front back ((texts, more), is) =
    let pages = page_cells book.page in
    let entries = entry_cells (book.page.at + 1) book.entries in
    let whole : List FollowLine = cond (book.page.at == 0) [] (lines.Page ∷ []) in
    fronts_are_read (book_says book) front back
    (all-append IsSpelled (cells_say pages) (whole ++ cells_say entries) (cells_spelled pages texts (page_low pages (page_cells-on book.page)))
    (all-append IsSpelled whole (cells_say entries) (whole_spelled (book.page.at == 0)) (cells_spelled entries more (entries_low (book.page.at + 1) book.entries))))
    (flat_map-append ended (cells_say pages) (whole ++ cells_say entries)
    ∙ ap₂ (λ a b. a ++ b) (sym (cells_ended pages)) (flat_map-append ended whole (cells_say entries) ∙ ap₂ (λ a b. a ++ b) (sym (whole_ended (book.page.at == 0))) (sym (cells_ended entries)))
    ∙ sym (append_assoc (flat_map cell_line pages) (cond (book.page.at == 0) [] (codes "{\"page\":true}\n")) (flat_map cell_line entries))
    ∙ is)
