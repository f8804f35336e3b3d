-- Laws of the words for books: how many entries there are, the entries up to a place and those since, and more entries at the end.
use Rattle.std.proofs.Common.{◌≡◌, ℕ, zero, suc, ◌+◌, ◌-◌, ◌<◌, ◌≤◌, nat_lt, Bool, true, false, cond, List, [], ◌∷◌, ◌++◌, length, take, drop, map, Some, None, refl, sym, ap, ◌∙◌, subst, arith, ◌||◌, append_assoc, append-nil}
use Rattle.std.specs.List.{slice_get, count_by, filter_map, cons_option, list_any}
use Rattle.std.specs.Option.{option_map_or}
use Rattle.std.proofs.lemmas.Bool.{le-ltb, lt-ltb, ltb-true}
use Rattle.std.proofs.lemmas.List.{length_push, length-append, length-take-le, take_all, drop_all, take-append-drop, take-append-le, drop-append-le, drop_more}
use Rattle.std.proofs.lemmas.List.Elements.{filter_map-append}
use Rattle.std.proofs.lemmas.List.Folds.{list_any-append}
use Rattle.std.proofs.lemmas.List.Sums.{fold_push}
use Rattle.std.proofs.lemmas.Option.{slice_get_past, slice_get_within, get_or_from_slice_get, none-some}
use Rattle.std.proofs.lemmas.Slice.Eq.{bytes_eq-Decides}
use Rattle.std.specs.Str.{bytes_eq}
use Rattle.rv_base.specs.PositionLaws.{equals, not_same}
use Rattle.rv_book.specs.declared.entry.Entry.{Entry}
use Rattle.rv_book.specs.Entries.{retires, is_act_of, order_after, retired_in, last_in}
use Rattle.rv_book.specs.Book.{Book, book_from, size, up_to, since, with_entries, with_entry, Extends, entry_at, page_client, page_group, retired, last, last_order, acting_client, clients_named}

-- the entry at an index, where one more follows
pub at_before : {A : Type 0} (xs : List A) (x : A) (i : ℕ) → i < length xs → slice_get (xs ++ x ∷ []) i ≡ slice_get xs i
at_before [] x i lt = absurd (omega arith)
at_before (y ∷ ys) x zero lt = refl
at_before (y ∷ ys) x (suc i) lt = at_before ys x i (omega arith)

pub at_end : {A : Type 0} (xs : List A) (x : A) → slice_get (xs ++ x ∷ []) (length xs) ≡ Some x
at_end [] x = refl
at_end (y ∷ ys) x = at_end ys x

pub size-with_entry : (book : Book) (entry : Entry) → size (with_entry book entry) ≡ size book + 1
size-with_entry book entry = omega (arith, length_push book.entries entry)

pub size-with_entries : (book : Book) (more : List Entry) → size (with_entries book more) ≡ size book + length more
size-with_entries book more = omega (arith, length-append book.entries more)

-- the book is what stands up to a place and what stands since
pub up_to-since : (place : ℕ) (book : Book) → with_entries (up_to place book) (since place book) ≡ book
up_to-since place book = ap (book_from book.page) (take-append-drop (place - book.page.at) book.entries)

-- at its end and beyond
pub up_to-all : (place : ℕ) (book : Book) → size book ≤ place → up_to place book ≡ book
up_to-all place book le = ap (book_from book.page) (take_all (place - book.page.at) book.entries (omega (arith, le)))

pub since-all : (place : ℕ) (book : Book) → size book ≤ place → since place book ≡ []
since-all place book le = drop_all (place - book.page.at) book.entries (omega (arith, le))

-- a book up to a place is as long as that place says
pub size-up_to : (place : ℕ) (book : Book) → book.page.at ≤ place → place ≤ size book → size (up_to place book) ≡ place
size-up_to place book from within =
    let count : length (take (place - book.page.at) book.entries) ≡ place - book.page.at = length-take-le (place - book.page.at) book.entries (omega (arith, within)) in
    omega (arith, count, from)

-- more entries at the end
pub with_entries-none : (book : Book) → with_entries book [] ≡ book
with_entries-none book = ap (book_from book.page) (append-nil book.entries)

pub with_entries-more : (book : Book) (more rest : List Entry) → with_entries (with_entries book more) rest ≡ with_entries book (more ++ rest)
with_entries-more book more rest = ap (book_from book.page) (append_assoc book.entries more rest)

pub with_entry-more : (book : Book) (entry : Entry) (more : List Entry) → with_entries (with_entry book entry) more ≡ with_entries book (entry ∷ more)
with_entry-more book entry more = with_entries-more book (entry ∷ []) more

pub up_to-with_entries : (place : ℕ) (book : Book) (more : List Entry) → place ≤ size book → up_to place (with_entries book more) ≡ up_to place book
up_to-with_entries place book more le = ap (book_from book.page) (take-append-le (place - book.page.at) book.entries more (omega (arith, le)))

pub since-with_entries : (place : ℕ) (book : Book) (more : List Entry) → place ≤ size book → since place (with_entries book more) ≡ since place book ++ more
since-with_entries place book more le = drop-append-le (place - book.page.at) book.entries more (omega (arith, le))

-- a book goes on from itself, and from what a book that it goes on from goes on from
pub extends_same : (new old : Book) → new ≡ old → Extends new old
extends_same new old same = ([], same ∙ sym (with_entries-none old))

pub extends_on : (new middle old : Book) → Extends new middle → Extends middle old → Extends new old
extends_on new middle old later before =
    (before.0 ++ later.0, later.1 ∙ ap (λ (book : Book). with_entries book later.0) before.1 ∙ with_entries-more old before.0 later.0)

-- one more entry
pub up_to-with_entry : (place : ℕ) (book : Book) (entry : Entry) → place ≤ size book → up_to place (with_entry book entry) ≡ up_to place book
up_to-with_entry place book entry le = up_to-with_entries place book (entry ∷ []) le

pub since-with_entry : (place : ℕ) (book : Book) (entry : Entry) → place ≤ size book → since place (with_entry book entry) ≡ since place book ++ entry ∷ []
since-with_entry place book entry le = since-with_entries place book (entry ∷ []) le

pub up_to-end : (book : Book) (entry : Entry) → up_to (size book + 1) (with_entry book entry) ≡ with_entry book entry
up_to-end book entry = up_to-all (size book + 1) (with_entry book entry) (omega (arith, size-with_entry book entry))

pub since-end : (book : Book) (entry : Entry) → since (size book + 1) (with_entry book entry) ≡ []
since-end book entry = since-all (size book + 1) (with_entry book entry) (omega (arith, size-with_entry book entry))

pub up_to-before : (book : Book) (entry : Entry) → up_to ((size book + 1) - 1) (with_entry book entry) ≡ book
up_to-before book entry =
    let n : (size book + 1) - 1 ≡ size book = omega arith in
    ap (λ (place : ℕ). up_to place (with_entry book entry)) n ∙ up_to-with_entry (size book) book entry (omega arith) ∙ up_to-all (size book) book (omega arith)

-- the entry at a place
pub entry_at-index : (place : ℕ) (book : Book) → book.page.at < place → entry_at place book ≡ slice_get book.entries (place - (book.page.at + 1))
entry_at-index place book above = ap (λ (b : Bool). cond b (slice_get book.entries (place - (book.page.at + 1))) None) (lt-ltb book.page.at place above)

pub entry_at-next : (index : ℕ) (book : Book) → entry_at (book.page.at + (index + 1)) book ≡ slice_get book.entries index
entry_at-next index book =
    let same : (book.page.at + (index + 1)) - (book.page.at + 1) ≡ index = omega arith in
    entry_at-index (book.page.at + (index + 1)) book (omega arith) ∙ ap (slice_get book.entries) same

-- no entry stands up to the page's place, nor past the end
pub entry_at-page : (place : ℕ) (book : Book) → place ≤ book.page.at → entry_at place book ≡ None
entry_at-page place book le = ap (λ (b : Bool). cond b (slice_get book.entries (place - (book.page.at + 1))) None) (le-ltb book.page.at place le)

pub entry_at-past : (place : ℕ) (book : Book) → size book < place → entry_at place book ≡ None
entry_at-past place book past = entry_at-index place book (omega (arith, past)) ∙ slice_get_past book.entries (place - (book.page.at + 1)) (omega (arith, past))

some_at : (place : ℕ) (book : Book) (entry : Entry) → entry_at place book ≡ Some entry → (book.page.at < place) × (slice_get book.entries (place - (book.page.at + 1)) ≡ Some entry)
some_at place book entry there = go (nat_lt book.page.at place) refl there
  where
    go : (b : Bool) → nat_lt book.page.at place ≡ b → cond b (slice_get book.entries (place - (book.page.at + 1))) None ≡ Some entry → (book.page.at < place) × (slice_get book.entries (place - (book.page.at + 1)) ≡ Some entry)
    go true e f = (ltb-true book.page.at place e, f)
    go false e f = absurd (cc)

pub entry_at-within : (place : ℕ) (book : Book) (entry : Entry) → entry_at place book ≡ Some entry → (book.page.at < place) × (place ≤ size book)
entry_at-within place book entry there =
    let is = some_at place book entry there in
    let lt : place - (book.page.at + 1) < length book.entries = slice_get_within book.entries (place - (book.page.at + 1)) entry is.1 in
    (is.0, omega (arith, is.0, lt))

pub entry_at-with_entry : (place : ℕ) (book : Book) (entry : Entry) → place ≤ size book → entry_at place (with_entry book entry) ≡ entry_at place book
entry_at-with_entry place book entry le =
    elim (nat_lt book.page.at place) as (λ b. nat_lt book.page.at place ≡ b → cond b (slice_get (with_entry book entry).entries (place - (book.page.at + 1))) None ≡ cond b (slice_get book.entries (place - (book.page.at + 1))) None) [
      | true ↦ λ e. at_before book.entries entry (place - (book.page.at + 1)) (omega (arith, ltb-true book.page.at place e, le))
      | false ↦ λ e. refl
    ] refl

pub entry_at-end : (book : Book) (entry : Entry) → entry_at (size book + 1) (with_entry book entry) ≡ Some entry
entry_at-end book entry =
    let next : size book + 1 ≡ book.page.at + (length book.entries + 1) = omega arith in
    ap (λ (n : ℕ). entry_at n (with_entry book entry)) next ∙ entry_at-next (length book.entries) (with_entry book entry) ∙ at_end book.entries entry

-- the entries up to a place are those of the book
front_at : (xs : List Entry) (n i : ℕ) (x : Entry) → slice_get (take n xs) i ≡ Some x → slice_get xs i ≡ Some x
front_at xs zero i x there = absurd (none-some x there)
front_at [] (suc n) i x there = there
front_at (y ∷ ys) (suc n) zero x there = there
front_at (y ∷ ys) (suc n) (suc i) x there = front_at ys n i x there

pub entry_at-up_to : (place later : ℕ) (book : Book) (entry : Entry) → entry_at place (up_to later book) ≡ Some entry → entry_at place book ≡ Some entry
entry_at-up_to place later book entry there =
    let is = some_at place (up_to later book) entry there in
    entry_at-index place book is.0 ∙ front_at book.entries (later - book.page.at) (place - (book.page.at + 1)) entry is.1

-- what stands since an entry
pub since-entry : (place : ℕ) (book : Book) (entry : Entry) → entry_at place book ≡ Some entry → since (place - 1) book ≡ entry ∷ since place book
since-entry place book entry there =
    let is = some_at place book entry there in
    let lt : place - (book.page.at + 1) < length book.entries = slice_get_within book.entries (place - (book.page.at + 1)) entry is.1 in
    let here : (place - 1) - book.page.at ≡ place - (book.page.at + 1) = omega (arith, is.0) in
    let next : (place - (book.page.at + 1)) + 1 ≡ place - book.page.at = omega (arith, is.0) in
    ap (λ (n : ℕ). drop n book.entries) here
    ∙ drop_more book.entries (place - (book.page.at + 1)) entry lt ∙ (λ i. get_or_from_slice_get book.entries (place - (book.page.at + 1)) entry entry is.1 i ∷ drop (next i) book.entries)

or_nothing : (b : Bool) → (b || false) ≡ b
or_nothing true = refl
or_nothing false = refl

-- what is counted and looked up when one more entry follows
pub retired-with_entry : (group : List ℕ) (book : Book) (entry : Entry) → retired group (with_entry book entry) ≡ (retired group book || retires group entry)
retired-with_entry group book entry =
    let before = option_map_or (λ g. g.3) (page_group group book.page) false in
    ap (λ (b : Bool). before || b) (list_any-append (retires group) book.entries (entry ∷ []) ∙ ap (λ (b : Bool). retired_in group book.entries || b) (or_nothing (retires group entry)))
    ∙ either before (retired_in group book.entries) (retires group entry)
  where
    either : (a b c : Bool) → (a || (b || c)) ≡ ((a || b) || c)
    either true b c = refl
    either false b c = refl

pub count-push : {A : Type 0} (p : A → Bool) (xs : List A) (x : A) → count_by p (xs ++ x ∷ []) ≡ count_by p xs + cond (p x) 1 0
count-push p xs x = fold_push _ _ xs x

pub last-with_entry : (client : List ℕ) (book : Book) (entry : Entry) → last client (with_entry book entry) ≡ last client book + cond (is_act_of client entry) 1 0
last-with_entry client book entry =
    let more : last_in client (book.entries ++ entry ∷ []) ≡ last_in client book.entries + cond (is_act_of client entry) 1 0 = count-push (is_act_of client) book.entries entry in
    omega (arith, more)

pub last_order-with_entry : (group : List ℕ) (book : Book) (entry : Entry) → last_order group (with_entry book entry) ≡ order_after group (last_order group book) entry
last_order-with_entry group book entry = fold_push (order_after group) (option_map_or (λ g. g.2) (page_group group book.page) 0) book.entries entry

pub clients_named-with_entry : (book : Book) (entry : Entry) → clients_named (with_entry book entry) ≡ clients_named book ++ cons_option (acting_client entry) []
clients_named-with_entry book entry =
    let page = map (λ (c : List ℕ × List ℕ × ℕ). c.0) book.page.clients in
    ap (λ (names : List (List ℕ)). page ++ names) (filter_map-append acting_client book.entries (entry ∷ []))
    ∙ sym (append_assoc page (filter_map acting_client book.entries) (cons_option (acting_client entry) []))

-- two texts are the same either way round
pub bytes_eq_back : (a b : List ℕ) → bytes_eq a b ≡ bytes_eq b a
bytes_eq_back a b =
    elim (bytes_eq a b) as (λ t. bytes_eq a b ≡ t → t ≡ bytes_eq b a) [
      | true ↦ λ e. sym (subst (λ (c : List ℕ). bytes_eq c a ≡ true) ((bytes_eq-Decides a b).0 e) (equals a))
      | false ↦ λ e. sym (not_same a b e)
    ] refl
