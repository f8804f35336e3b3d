-- Laws of the look rows of entries, and what they tell of the later looks of a group.
use Rattle.std.proofs.Common.{◌≡◌, ℕ, ◌+◌, ◌-◌, ◌^◌, ◌<◌, ◌≤◌, Bool, cond, List, [], ◌∷◌, ◌++◌, length, take, get_or, Option, Some, None, refl, sym, ap, ◌∙◌, subst, arith, not, ◌&&◌, nat_lt, below_more}
use Rattle.std.specs.List.{slice_get, count_by}
use Rattle.std.specs.Option.{option_map_or, option_and_then}
use Rattle.std.specs.Str.{bytes_eq}
use Rattle.std.proofs.lemmas.List.{length_push, take-append-le, take_all}
use Rattle.std.proofs.lemmas.List.Sums.{sum_by-take-drop}
use Rattle.std.proofs.lemmas.Option.{get_or_from_slice_get, slice_get_within}
use Rattle.rv_base.specs.PositionLaws.{equals}
use Rattle.rv_book.specs.declared.entry.Entry.{Entry}
use Rattle.rv_book.specs.declared.entry.Entry.TheVariants.{Look}
use Rattle.rv_book.specs.declared.clients.ClientRow.{ClientRow}
use Rattle.rv_book.specs.declared.groups.GroupRow.{GroupRow}
use Rattle.rv_book.specs.declared.look.LookRow.{LookRow}
use Rattle.rv_book.specs.declared.page.Page.{Page}
use Rattle.rv_book.specs.Book.{Book, book_from, entry_at, retired, size, with_entry, up_to}
use Rattle.rv_book.specs.BookWordLaws.{count-push, at_before, at_end, size-with_entry, entry_at-index, entry_at-page, entry_at-past}
use Rattle.rv_book.specs.Kept.{look_of, look_at, is_look_of, later_looks, kept, last_look, look_before}
use Rattle.rv_book.specs.LookLaws.{look_at-within, kept-look}
use Rattle.rv_book.specs.LookWalkLaws.{look_before-with_entry, look_before-end}
use Rattle.rv_book.specs.Indexes.{number_at, look_row_at, AreLookRows, AreGroupRows, AreClientRows, LastsFit}
use Rattle.rv_book.specs.Members.{AreMemberRows}
use Rattle.rv_book.specs.Indexed.{IsIndexed}

number_at-before : (book : Book) (e : Entry) (index : ℕ) → index < length book.entries → number_at index (with_entry book e) ≡ number_at index book
unfolding number_at
number_at-before book e index lt =
    let front : take (index + 1) (book.entries ++ e ∷ []) ≡ take (index + 1) book.entries = take-append-le (index + 1) book.entries (e ∷ []) (omega arith) in
    (λ i. option_map_or (λ look. count_by (is_look_of look.1) (front i)) (option_and_then look_of (at_before book.entries e index lt i)) 0)

look_row_at-before : (book : Book) (e : Entry) (index : ℕ) → index < length book.entries → look_row_at index (with_entry book e) ≡ look_row_at index book
unfolding look_row_at
look_row_at-before book e index lt = (λ i. record { number = number_at-before book e index lt i; before = look_before-with_entry (book.page.at + (index + 1)) book e (omega (arith, lt)) i })

-- the number of an entry that follows
number_at-end : (book : Book) (e : Entry) → number_at (length book.entries) (with_entry book e) ≡ option_map_or (λ look. count_by (is_look_of look.1) (book.entries ++ e ∷ [])) (look_of e) 0
unfolding number_at
number_at-end book e =
    let all : take (length book.entries + 1) (book.entries ++ e ∷ []) ≡ book.entries ++ e ∷ [] = take_all (length book.entries + 1) (book.entries ++ e ∷ []) (omega (arith, length_push book.entries e)) in
    (λ i. option_map_or (λ look. count_by (is_look_of look.1) (all i)) (option_and_then look_of (at_end book.entries e i)) 0)

-- the look before an entry that follows
before-end : (book : Book) (e : Entry) → look_before (book.page.at + (length book.entries + 1)) (with_entry book e) ≡ option_and_then (λ look. last_look look.1 book) (look_of e)
before-end book e =
    let n : book.page.at + (length book.entries + 1) ≡ size book + 1 = omega arith in
    ap (λ (place : ℕ). look_before place (with_entry book e)) n ∙ look_before-end book e

pub look_row_of_other : (book : Book) (e : Entry) → look_of e ≡ None → record { number = 0; before = None } ≡ look_row_at (length book.entries) (with_entry book e)
unfolding look_row_at
look_row_of_other book e none =
    let number : number_at (length book.entries) (with_entry book e) ≡ 0 = number_at-end book e ∙ ap (λ o. option_map_or (λ look. count_by (is_look_of look.1) (book.entries ++ e ∷ [])) o 0) none in
    let before : look_before (book.page.at + (length book.entries + 1)) (with_entry book e) ≡ None = before-end book e ∙ ap (option_and_then (λ look. last_look look.1 book)) none in
    (λ i. record { number = sym number i; before = sym before i })

pub look_row_of_look : (book : Book) (user group : List ℕ) (order : ℕ) (base : Option ℕ) → record { number = count_by (is_look_of group) book.entries + 1; before = last_look group book } ≡ look_row_at (length book.entries) (with_entry book (Look user group order base))
unfolding look_row_at
look_row_of_look book user group order base =
    let e = Look user group order base in
    let same : cond (bytes_eq group group) 1 0 ≡ 1 = rw (equals group) refl in
    let number : number_at (length book.entries) (with_entry book e) ≡ count_by (is_look_of group) book.entries + 1 = number_at-end book e ∙ count-push (is_look_of group) book.entries e ∙ ap (λ (n : ℕ). count_by (is_look_of group) book.entries + n) same in
    (λ i. record { number = sym number i; before = sym (before-end book e) i })

pub look_rows-push : (book : Book) (e : Entry) (look_rows : List LookRow) (look_row : LookRow) → look_row ≡ look_row_at (length book.entries) (with_entry book e) → AreLookRows book look_rows → AreLookRows (with_entry book e) (look_rows ++ look_row ∷ [])
look_rows-push book e look_rows look_row is h = record {
  one_each = length_push look_rows look_row ∙ ap (λ (n : ℕ). n + 1) h.one_each ∙ sym (length_push book.entries e);
  each = λ index lt. below_more (λ (k : ℕ). slice_get (look_rows ++ look_row ∷ []) k ≡ Some (look_row_at k (with_entry book e))) (length book.entries) before here index (omega (arith, lt, length_push book.entries e));
}
  where
    before : (k : ℕ) → k < length book.entries → slice_get (look_rows ++ look_row ∷ []) k ≡ Some (look_row_at k (with_entry book e))
    before k lt = at_before look_rows look_row k (omega (arith, lt, h.one_each)) ∙ h.each k lt ∙ ap Some (sym (look_row_at-before book e k lt))

    here : slice_get (look_rows ++ look_row ∷ []) (length book.entries) ≡ Some (look_row_at (length book.entries) (with_entry book e))
    here = ap (slice_get (look_rows ++ look_row ∷ [])) (sym h.one_each) ∙ at_end look_rows look_row ∙ ap Some is

pub no_look_rows : (page : Page) → AreLookRows (book_from page []) []
no_look_rows page = record { one_each = refl; each = λ index lt. absurd (omega (arith, lt)) }

-- the look row that is read at an index
pub look_row_read : (book : Book) (look_rows : List LookRow) (index : ℕ) (d : LookRow) → index < length book.entries → AreLookRows book look_rows → get_or look_rows index d ≡ look_row_at index book
look_row_read book look_rows index d lt h = get_or_from_slice_get look_rows index (look_row_at index book) d (h.each index lt)

-- the number of the look at a place, with the later looks of its group, makes all of the group's looks
pub record Parts (book : Book) (look_rows : List LookRow) (place : ℕ) (group : List ℕ) : Type 0 where
  pub first : book.page.at < place
  pub within : place - (book.page.at + 1) < length look_rows
  pub parts : (d : LookRow) → (get_or look_rows (place - (book.page.at + 1)) d).number + later_looks group place book ≡ count_by (is_look_of group) book.entries

pub parts_at : (book : Book) (look_rows : List LookRow) (place : ℕ) (look : List ℕ × List ℕ × ℕ) → look_at place book ≡ Some look → AreLookRows book look_rows → Parts book look_rows place look.1
unfolding number_at look_row_at
parts_at book look_rows place look there h =
    let stands = look_at-within place book look there in
    let index = place - (book.page.at + 1) in
    let found : option_and_then look_of (slice_get book.entries index) ≡ Some look = ap (option_and_then look_of) (sym (entry_at-index place book stands.0)) ∙ there in
    let next : index + 1 ≡ place - book.page.at = omega (arith, stands.0) in
    let number : number_at index book ≡ count_by (is_look_of look.1) (take (place - book.page.at) book.entries) =
    ap (λ o. option_map_or (λ look. count_by (is_look_of look.1) (take (index + 1) book.entries)) o 0) found ∙ ap (λ (n : ℕ). count_by (is_look_of look.1) (take n book.entries)) next in
    record {
      first = stands.0;
      within = omega (arith, stands.0, stands.1, h.one_each);
      parts = λ d.
          ap (λ (m : LookRow). m.number + later_looks look.1 place book) (look_row_read book look_rows index d (omega (arith, stands.0, stands.1)) h)
          ∙ ap (λ (n : ℕ). n + later_looks look.1 place book) number
          ∙ sum_by-take-drop _ book.entries (place - book.page.at);
    }

-- the look before that at a place, by the look row of the entry there
pub before_read : (book : Book) (look_rows : List LookRow) (place : ℕ) (d : LookRow) → book.page.at < place → place ≤ size book → AreLookRows book look_rows → (get_or look_rows (place - (book.page.at + 1)) d).before ≡ look_before place book
unfolding look_row_at
before_read book look_rows place d first le h =
    let next : book.page.at + ((place - (book.page.at + 1)) + 1) ≡ place = omega (arith, first) in
    ap (λ (m : LookRow). m.before) (look_row_read book look_rows (place - (book.page.at + 1)) d (omega (arith, first, le)) h) ∙ ap (λ (n : ℕ). look_before n book) next

-- the same, where the look row is looked up
pub before_get : (book : Book) (look_rows : List LookRow) (place : ℕ) (row : LookRow) → book.page.at < place → slice_get look_rows (place - (book.page.at + 1)) ≡ Some row → AreLookRows book look_rows → row.before ≡ look_before place book
before_get book look_rows place row first is h =
    let within = slice_get_within look_rows (place - (book.page.at + 1)) row is in
    ap (λ (r : LookRow). r.before) (sym (get_or_from_slice_get look_rows (place - (book.page.at + 1)) row row is)) ∙ before_read book look_rows place row first (omega (arith, first, within, h.one_each)) h

pub none_before : (book : Book) (place : ℕ) → entry_at place book ≡ None → look_before place book ≡ None
unfolding look_before
none_before book place none = ap (λ (o : Option Entry). option_and_then (λ look. last_look look.1 (up_to (place - 1) book)) (option_and_then look_of o)) none

-- no look stands up to the page's place, nor past the end
pub before_page : (book : Book) (place : ℕ) → place ≤ book.page.at → look_before place book ≡ None
before_page book place le = none_before book place (entry_at-page place book le)

pub before_past : (book : Book) (look_rows : List LookRow) (place : ℕ) → book.page.at < place → length look_rows ≤ place - (book.page.at + 1) → AreLookRows book look_rows → look_before place book ≡ None
before_past book look_rows place first past h = none_before book place (entry_at-past place book (omega (arith, first, past, h.one_each)))

-- whether a look is kept, by its group's looks and its number
pub kept_is : (book : Book) (place : ℕ) (look : List ℕ × List ℕ × ℕ) (number looks : ℕ) (gone : Bool) → Some look ≡ look_at place book → number + later_looks look.1 place book ≡ count_by (is_look_of look.1) book.entries → looks ≡ count_by (is_look_of look.1) book.entries
    → gone ≡ retired look.1 book → (not gone && nat_lt (looks - number) 16) ≡ kept place book
kept_is book place look number looks gone there parts all out =
    let later : looks - number ≡ later_looks look.1 place book = omega (arith, parts, all) in
    (λ i. not (out i) && nat_lt (later i) 16) ∙ sym (kept-look place book look (sym there))

-- the indexes when one more entry follows; the book as the calls saw it
pub indexed-push : (book seen new : Book) (e : Entry) (limit : ℕ) (look_rows more : List LookRow) (look_row : LookRow) (groups : List GroupRow) (clients members : List ClientRow) → size book < limit → limit < 2 ^ 32 → LastsFit book.page
    → seen ≡ book → new ≡ with_entry book e → AreLookRows book look_rows → look_row ≡ look_row_at (length seen.entries) (with_entry seen e) → more ≡ look_rows ++ look_row ∷ []
    → AreGroupRows (with_entry seen e) groups → AreClientRows (with_entry seen e) clients → AreMemberRows (with_entry seen e) members → IsIndexed new limit more groups clients members
indexed-push book seen new e limit look_rows more look_row groups clients members lt small fit saw is h own all in_groups in_clients in_members =
    subst (λ (b : Book). IsIndexed b limit more groups clients members) (sym is)
    (record {
      within = omega (arith, size-with_entry book e);
      small = small;
      lasts = fit;
      looks = subst (AreLookRows (with_entry book e)) (sym all) (look_rows-push book e look_rows look_row (own ∙ ap (λ (b : Book). look_row_at (length b.entries) (with_entry b e)) saw) h);
      groups = subst (λ (b : Book). AreGroupRows (with_entry b e) groups) saw in_groups;
      clients = subst (λ (b : Book). AreClientRows (with_entry b e) clients) saw in_clients;
      members = subst (λ (b : Book). AreMemberRows (with_entry b e) members) saw in_members;
    })
