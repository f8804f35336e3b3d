-- A follower that is given the lines of a sound book.
use Rattle.std.proofs.Common.{◌≡◌, ℕ, ◌+◌, ◌^◌, ◌<◌, ◌≤◌, ◌==◌, ◌⊎◌, inl, inr, Bool, true, false, cond, List, [], ◌∷◌, ◌++◌, length, append_assoc, Option, Some, None, Result, Ok, Err, refl, sym, ap, ◌∙◌, subst, arith}
use Rattle.std.specs.List.{AllByRecursion}
use Rattle.std.proofs.lemmas.Bool.{lt-ltb}
use Rattle.std.proofs.lemmas.Bool.Decides.{nat_tests}
use Rattle.std.proofs.lemmas.List.{append-nil}
use Rattle.rv_book.specs.declared.entry.Entry.{Entry}
use Rattle.rv_book.specs.declared.page.Page.{Page}
use Rattle.rv_book.specs.Book.{Book, book_from, empty_book, opening, size, with_entries, with_entry}
use Rattle.rv_book.specs.BookWordLaws.{size-with_entry, with_entry-more}
use Rattle.rv_book.specs.SoundPages.{IsOpening}
use Rattle.rv_keeper.specs.declared.cell.Cell.{Cell}
use Rattle.rv_record.specs.CellTexts.{entry_cell}
use Rattle.rv_record.specs.PageCells.{on_page, page_cells}
use Rattle.rv_record.specs.PageLaws.{page_cells-on}
use Rattle.rv_store.specs.Opening.{IsSoundBook}
use Rattle.rv_store.specs.StoreCells.{entry_cells}
use Rattle.rv_answering.specs.declared.answer.Answer.{Answer}
use Rattle.rv_standby.specs.declared.take_fault.TakeFault.{TakeFault}
use Rattle.rv_standby.specs.declared.take_fault.TakeFault.TheVariants as faults
use Rattle.rv_standby.specs.Following.{Takes, TakesPage}
use Rattle.rv_standby.specs.FollowingProperties.{LeadsTo}
use Rattle.rv_standby.proofs.Fronts.{entries_are_followed, pages_are_followed}
use Rattle.rv_following.specs.declared.follow_line.FollowLine.{FollowLine}
use Rattle.rv_following.specs.declared.follow_line.FollowLine.TheVariants as lines
use Rattle.rv_following.specs.FollowSteps.{Following, Follows}
use Rattle.rv_following.specs.FollowProperties.{StandsAt, TakesEach, beginning, book_says, cells_say, gathers, follows}

-- the follower of a front, and the one that gathers
abbrev at_front : ℕ → Book → Following
at_front limit front = record { book = front; limit = limit; gathered = [] }

abbrev gathering : ℕ → List Cell → Following
gathering limit front = record { book = empty_book; limit = limit; gathered = front }

-- what is told of a line that was not refused
abbrev Goes : ℕ → Book → Following → Following → List FollowLine → Result (Option Answer) TakeFault → Type 0
Goes limit book state new rest result = ((result ≡ Ok None) × StandsAt limit book new rest) ⊎ ((result ≡ Err faults.Memory) × (new ≡ state))

not_both : {A : Type 0} (b : Bool) → b ≡ true → b ≡ false → A
not_both b holds fails = absurd (let both : true ≡ false = sym holds ∙ fails in cc)

all_behind : {X : Type 0} (P : X → Type 0) (front : List X) (x : X) (more : List X) → AllByRecursion P (front ++ x ∷ more) → P x
all_behind P [] x more all = all.0
all_behind P (y ∷ front) x more all = all_behind P front x more all.1

above_none : (n : ℕ) → 1 ≤ n → (n == 0) ≡ false
above_none n from = grind (arith, nat_tests)

module _ (limit : ℕ) (book : Book) (small : limit < 2 ^ 32) (sound : IsSoundBook limit book) where
  -- ---- An entry.

  next_taken : (front new : Book) (entry : Entry) (more : List Entry) (result : Result ℕ TakeFault) → book ≡ with_entries front (entry ∷ more) → Takes limit front (entry_cell (size front + 1) entry) result new → LeadsTo front (with_entry front entry) result new
  next_taken front new entry more result is takes = entries_are_followed limit book front new entry more result small sound is takes

  entered : (front : Book) (entry : Entry) (more : List Entry) → book ≡ with_entries front (entry ∷ more) → (new : Following) → new ≡ at_front limit (with_entry front entry) → StandsAt limit book new (cells_say (entry_cells (size front + 1 + 1) more))
  entered front entry more is new same =
      let goes : book ≡ with_entries (with_entry front entry) more = is ∙ sym (with_entry-more front entry more) in
      let place : size front + 1 + 1 ≡ size (with_entry front entry) + 1 = omega (arith, size-with_entry front entry) in
      follows (with_entry front entry) more goes same (ap (λ (p : ℕ). cells_say (entry_cells p more)) place)

  entry_goes : (front : Book) (entry : Entry) (more : List Entry) (new : Following) (result : Result (Option Answer) TakeFault) → book ≡ with_entries front (entry ∷ more)
      → Follows (at_front limit front) (lines.Cell (entry_cell (size front + 1) entry)) result new → Goes limit book (at_front limit front) new (cells_say (entry_cells (size front + 1 + 1) more)) result
  entry_goes front entry more new (Ok None) is (inl (on, gathered)) = absurd (cc)
  entry_goes front entry more new (Ok None) is (inr (off, (other, none, next, after))) =
      let led = next_taken front (with_entry front other) entry more (Ok (size (with_entry front other))) is (other, next, refl, refl) in
      inl (refl, entered front entry more is new (after ∙ by led))
    where
      by : LeadsTo front (with_entry front entry) (Ok (size (with_entry front other))) (with_entry front other) → at_front limit (with_entry front other) ≡ at_front limit (with_entry front entry)
      by (inl (length, same)) = ap (at_front limit) same
      by (inr (fails, same)) = absurd (cc)
  entry_goes front entry more new (Ok (Some answer)) is never = absurd never
  entry_goes front entry more new (Err faults.Refused) is (inl (on, gathered)) = absurd (cc)
  entry_goes front entry more new (Err faults.Refused) is (inr (off, (never, stays))) =
      by (next_taken front front entry more (Err faults.Refused) is (λ other next. never other refl next, refl))
    where
      by : LeadsTo front (with_entry front entry) (Err faults.Refused) front → Goes limit book (at_front limit front) new (cells_say (entry_cells (size front + 1 + 1) more)) (Err faults.Refused)
      by (inl (fails, same)) = absurd (cc)
      by (inr (fails, same)) = absurd (cc)
  entry_goes front entry more new (Err faults.Memory) is (inl (on, stays)) = inr (refl, stays)
  entry_goes front entry more new (Err faults.Memory) is (inr (off, stays)) = inr (refl, stays)

  -- ---- A cell of the page.

  on_its_page : (front : List Cell) (cell : Cell) (back : List Cell) → page_cells book.page ≡ front ++ cell ∷ back → on_page cell ≡ true
  on_its_page front cell back are =
      let (above, below) = all_behind (λ c. (5 < c.shelf) × (c.shelf < 10)) front cell back (subst (λ (cells : List Cell). AllByRecursion (λ c. (5 < c.shelf) × (c.shelf < 10)) cells) are (page_cells-on book.page)) in
      rw (lt-ltb 5 cell.shelf above, lt-ltb cell.shelf 10 below) refl

  cell_goes : (front : List Cell) (cell : Cell) (back : List Cell) (rest : List FollowLine) (new : Following) (result : Result (Option Answer) TakeFault) → 1 ≤ book.page.at → page_cells book.page ≡ front ++ cell ∷ back
      → rest ≡ cells_say back ++ lines.Page ∷ cells_say (entry_cells (book.page.at + 1) book.entries) → Follows (gathering limit front) (lines.Cell cell) result new → Goes limit book (gathering limit front) new rest result
  cell_goes front cell back rest new (Ok None) from are is (inl (on, (zero, after))) =
      inl (refl, gathers (front ++ cell ∷ []) back from (are ∙ sym (append_assoc front (cell ∷ []) back)) after is)
  cell_goes front cell back rest new (Ok None) from are is (inr (off, entered)) = not_both (on_page cell) (on_its_page front cell back are) off
  cell_goes front cell back rest new (Ok (Some answer)) from are is never = absurd never
  cell_goes front cell back rest new (Err faults.Refused) from are is (inl (on, (some, stays))) = absurd (some refl)
  cell_goes front cell back rest new (Err faults.Refused) from are is (inr (off, refused)) = not_both (on_page cell) (on_its_page front cell back are) off
  cell_goes front cell back rest new (Err faults.Memory) from are is (inl (on, stays)) = inr (refl, stays)
  cell_goes front cell back rest new (Err faults.Memory) from are is (inr (off, stays)) = inr (refl, stays)

  -- ---- That the page is whole.

  page_taken : (new : Book) (result : Result ℕ TakeFault) → 1 ≤ book.page.at → TakesPage limit empty_book (page_cells book.page) result new → LeadsTo empty_book (opening book) result new
  page_taken new result from takes = pages_are_followed limit book empty_book new result small sound from refl takes

  opened : (rest : List FollowLine) → rest ≡ cells_say (entry_cells (book.page.at + 1) book.entries) → (new : Following) → new ≡ at_front limit (opening book) → StandsAt limit book new rest
  opened rest is new same =
      let place : book.page.at + 1 ≡ size (opening book) + 1 = omega arith in
      follows (opening book) book.entries refl same (is ∙ ap (λ (p : ℕ). cells_say (entry_cells p book.entries)) place)

  page_goes : (rest : List FollowLine) (new : Following) (result : Result (Option Answer) TakeFault) → 1 ≤ book.page.at → rest ≡ cells_say (entry_cells (book.page.at + 1) book.entries)
      → Follows (gathering limit (page_cells book.page)) lines.Page result new → Goes limit book (gathering limit (page_cells book.page)) new rest result
  page_goes rest new (Ok None) from is (page, zero, kept, after) =
      inl (refl, opened rest is new (after ∙ by (page_taken (book_from page []) (Ok (size (book_from page []))) from (page, refl, kept, refl, refl))))
    where
      by : LeadsTo empty_book (opening book) (Ok (size (book_from page []))) (book_from page []) → at_front limit (book_from page []) ≡ at_front limit (opening book)
      by (inl (length, same)) = ap (at_front limit) same
      by (inr (fails, same)) = absurd (cc)
  page_goes rest new (Ok (Some answer)) from is never = absurd never
  page_goes rest new (Err faults.Refused) from is (never, stays) =
      by (page_taken empty_book (Err faults.Refused) from (λ page zero kept. never page zero kept, refl))
    where
      by : LeadsTo empty_book (opening book) (Err faults.Refused) empty_book → Goes limit book (gathering limit (page_cells book.page)) new rest (Err faults.Refused)
      by (inl (fails, same)) = absurd (cc)
      by (inr (fails, same)) = absurd (cc)
  page_goes rest new (Err faults.Memory) from is stays = inr (refl, stays)

  -- ---- Any line.

  line_is : (line : FollowLine) (rest : List FollowLine) (this : FollowLine) (others : List FollowLine) → line ∷ rest ≡ this ∷ others → (line ≡ this) × (rest ≡ others)
  line_is line rest this others same = (cc, cc)

  entry_line : (front : Book) (more : List Entry) (line : FollowLine) (rest : List FollowLine) (new : Following) (result : Result (Option Answer) TakeFault) → book ≡ with_entries front more → line ∷ rest ≡ cells_say (entry_cells (size front + 1) more)
      → Follows (at_front limit front) line result new → Goes limit book (at_front limit front) new rest result
  entry_line front [] line rest new result is says step = absurd (cc)
  entry_line front (entry ∷ more) line rest new result is says step =
      let (this, others) = line_is line rest (lines.Cell (entry_cell (size front + 1) entry)) (cells_say (entry_cells (size front + 1 + 1) more)) says in
      subst (λ (r : List FollowLine). Goes limit book (at_front limit front) new r result) (sym others)
      (entry_goes front entry more new result is (subst (λ (l : FollowLine). Follows (at_front limit front) l result new) this step))

  page_part : (front back : List Cell) (line : FollowLine) (rest : List FollowLine) (new : Following) (result : Result (Option Answer) TakeFault) → 1 ≤ book.page.at → page_cells book.page ≡ front ++ back
      → line ∷ rest ≡ cells_say back ++ lines.Page ∷ cells_say (entry_cells (book.page.at + 1) book.entries) → Follows (gathering limit front) line result new → Goes limit book (gathering limit front) new rest result
  page_part front [] line rest new result from are says step =
      let (this, others) = line_is line rest lines.Page (cells_say (entry_cells (book.page.at + 1) book.entries)) says in
      let whole : page_cells book.page ≡ front = are ∙ append-nil front in
      subst (λ (cells : List Cell). Goes limit book (gathering limit cells) new rest result) whole
      (page_goes rest new result from others (subst (λ (cells : List Cell). Follows (gathering limit cells) lines.Page result new) (sym whole) (subst (λ (l : FollowLine). Follows (gathering limit front) l result new) this step)))
  page_part front (cell ∷ back) line rest new result from are says step =
      let (this, others) = line_is line rest (lines.Cell cell) (cells_say back ++ lines.Page ∷ cells_say (entry_cells (book.page.at + 1) book.entries)) says in
      cell_goes front cell back rest new result from are others (subst (λ (l : FollowLine). Follows (gathering limit front) l result new) this step)

  pub line_goes : (state new : Following) (line : FollowLine) (rest : List FollowLine) (result : Result (Option Answer) TakeFault) → StandsAt limit book state (line ∷ rest) → Follows state line result new → Goes limit book state new rest result
  line_goes state new line rest result (gathers front back from are is says) step =
      subst (λ (s : Following). Goes limit book s new rest result) (sym is) (page_part front back line rest new result from are says (subst (λ (s : Following). Follows s line result new) is step))
  line_goes state new line rest result (follows front more goes is says) step =
      subst (λ (s : Following). Goes limit book s new rest result) (sym is) (entry_line front more line rest new result goes says (subst (λ (s : Following). Follows s line result new) is step))

  -- ---- All lines.

  begins : IsOpening book.page → StandsAt limit book (beginning limit) (book_says book)
  begins (inl none) =
      let zero : book.page.at ≡ 0 = ap (λ (p : Page). p.at) none in
      let is : book ≡ with_entries empty_book book.entries = ap (λ (p : Page). book_from p book.entries) none in
      follows empty_book book.entries is refl (ap (λ (p : Page). book_says (book_from p book.entries)) none)
  begins (inr (from, page)) =
      gathers [] (page_cells book.page) from refl refl (ap (λ (b : Bool). cells_say (page_cells book.page) ++ (cond b [] (lines.Page ∷ []) ++ cells_say (entry_cells (book.page.at + 1) book.entries))) (above_none book.page.at from))

  went : (state new : Following) (rest : List FollowLine) → Goes limit book state new rest (Ok None) → StandsAt limit book new rest
  went state new rest (inl (ok, there)) = there
  went state new rest (inr (fails, same)) = absurd (cc)

  each_goes : (taken rest : List FollowLine) (state new : Following) → StandsAt limit book state (taken ++ rest) → TakesEach state taken new → StandsAt limit book new rest
  each_goes [] rest state new stands same = subst (λ (s : Following). StandsAt limit book s rest) (sym same) stands
  each_goes (line ∷ taken) rest state new stands (mid, step, others) = each_goes taken rest mid new (went state mid (taken ++ rest) (line_goes state mid line (taken ++ rest) (Ok None) stands step)) others

  pub all_followed : (taken rest : List FollowLine) (state : Following) → book_says book ≡ taken ++ rest → TakesEach (beginning limit) taken state → StandsAt limit book state rest
  all_followed taken rest state are takes = each_goes taken rest (beginning limit) state (subst (λ (said : List FollowLine). StandsAt limit book (beginning limit) said) are (begins sound.lawful.opens)) takes

pub lines_are_followed : (limit : ℕ) (book : Book) (taken rest : List FollowLine) (state : Following) → limit < 2 ^ 32 → IsSoundBook limit book → book_says book ≡ taken ++ rest → TakesEach (beginning limit) taken state → StandsAt limit book state rest
lines_are_followed limit book taken rest state small sound are takes = all_followed limit book small sound taken rest state are takes

pub no_line_is_refused : (limit : ℕ) (book : Book) (state new : Following) (line : FollowLine) (rest : List FollowLine) (result : Result (Option Answer) TakeFault) → limit < 2 ^ 32 → IsSoundBook limit book → StandsAt limit book state (line ∷ rest) → Follows state line result new
    → Goes limit book state new rest result
no_line_is_refused limit book state new line rest result small sound stands step = line_goes limit book small sound state new line rest result stands step
