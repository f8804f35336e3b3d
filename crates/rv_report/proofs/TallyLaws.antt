-- The tallies of a book, and its groups, entry by entry.
use Rattle.std.proofs.Common.{◌≡◌, ℕ, ◌+◌, ◌-◌, ◌<◌, ◌≤◌, ◌^◌, ◌&&◌, ◌||◌, Bool, true, false, cond, List, [], ◌∷◌, ◌++◌, length, take, get_or, map, Option, Some, None, refl, sym, ap, ◌∙◌, subst, arith, count_by, add-zero, append_assoc, append-nil}
use Rattle.std.specs.declared.cmp.Ordering.TheVariants.{Less, Equal, Greater}
use Rattle.std.specs.Ordering.{nat_cmp, match_ordering}
use Rattle.std.specs.Cmp.Lexicographic.{slice_cmp}
use Rattle.std.specs.List.{filter_map, list_any, cons_option}
use Rattle.std.specs.Option.{option_map, option_map_or, is_some}
use Rattle.std.specs.Prelude.{slice_get}
use Rattle.std.specs.Str.{bytes_eq}
use Rattle.std.proofs.lemmas.List.{take_more}
use Rattle.std.proofs.lemmas.List.Elements.{filter_map-append}
use Rattle.std.proofs.lemmas.List.Sums.{sum_by-cons, count_by-le-length}
use Rattle.std.proofs.lemmas.Option.{none-some, same_Some, slice_get-get_or, slice_get_within, get_or_from_slice_get}
use Rattle.std.proofs.lemmas.Slice.Eq.{bytes_eq-Decides}
use Rattle.rv_base.specs.Sorted.{find_by, put_by, InOrder}
use Rattle.rv_base.specs.PositionLaws.{Above, equals, below_is, same_from, differs, differs_back, above_chain, not_same, sorted_more, in_order-sorted, map-put, found-sorted}
use Rattle.rv_base.specs.ArrangedLaws.{find-map, sorted-push}
use Rattle.rv_rows.specs.declared.call.Call.{Call}
use Rattle.rv_rows.specs.declared.call.Call.TheVariants.{CreateList, DeleteList, CreateShare, UpdateShare, DeleteShare, CreateTodo, UpdateTodo, DeleteTodo, SetExtent, Void}
use Rattle.rv_book.specs.declared.entry.Entry.{Entry}
use Rattle.rv_book.specs.declared.entry.Entry.TheVariants.{Act, Look, Retire}
use Rattle.rv_book.specs.Book.{Book, book_from, entry_at, opening, size, up_to, with_entry}
use Rattle.rv_book.specs.BookWordLaws.{count-push, entry_at-index, size-up_to}
use Rattle.rv_report.specs.declared.tally.Tally.{Tally}
use Rattle.rv_report.specs.Activity.{group_ids, in_order, named_group, page_groups, entry_user, users_of, is_act_by, is_void_by, is_look_by}
use Rattle.rv_report.specs.Tallies.{Tallied, tallied_key, no_entries, is_void, with_one, MayRise, tally_in, tallied_with, tally_of, tallies_of}

entry_follows : (book : Book) (before : ℕ) → book.page.at ≤ before → entry_at (before + 1) book ≡ slice_get book.entries (before - book.page.at)
entry_follows book before from =
    let same : (before + 1) - (book.page.at + 1) ≡ before - book.page.at = omega arith in
    entry_at-index (before + 1) book (omega (arith, from)) ∙ ap (slice_get book.entries) same

-- the entry that comes at the place after this one, where the page has ended
pub entry_next : (book : Book) (before : ℕ) (entry : Entry) → book.page.at ≤ before → Some entry ≡ entry_at (before + 1) book → (before - book.page.at < length book.entries) × (entry ≡ get_or book.entries (before - book.page.at) entry)
entry_next book before entry from there =
    let at = sym (entry_follows book before from) ∙ sym there in
    (slice_get_within book.entries (before - book.page.at) entry at, sym (get_or_from_slice_get book.entries (before - book.page.at) entry entry at))

-- there is one while the place is not the last
pub none_next : (book : Book) (before : ℕ) → book.page.at ≤ before → None ≡ entry_at (before + 1) book → before < size book → ⊥
none_next book before from there lt = none_within book.entries (before - book.page.at) (there ∙ entry_follows book before from) (omega (arith, from, lt))
  where
    none_within : (entries : List Entry) (index : ℕ) → None ≡ slice_get entries index → index < length entries → ⊥
    none_within [] index none lt = omega (arith, lt)
    none_within (first ∷ others) index none lt = none-some _ (none ∙ slice_get-get_or (first ∷ others) index first lt)

-- a user with the tally, of which the numbers are told
abbrev tallied : (List ℕ → Tally) → List ℕ → Tallied
tallied tally user = (user, tally user)

abbrev text_key : List ℕ → List ℕ
text_key text = text

-- One user's tally is put among those that are told of users in order, whatever was told of that user.
module _ (user : List ℕ) (new : Tally) (before after : List ℕ → Tally) (same : (other : List ℕ) → bytes_eq user other ≡ false → after other ≡ before other) where
  tallied_above : (users : List (List ℕ)) → Above text_key user users → map (tallied after) users ≡ map (tallied before) users
  tallied_above [] all = refl
  tallied_above (other ∷ users) all = (λ i. (other, same other (differs user other all.0) i) ∷ tallied_above users all.1 i)

  tallied_put : (users : List (List ℕ)) → InOrder text_key users → put_by tallied_key (user, new) (map (tallied after) users) ≡ put_by tallied_key (user, new) (map (tallied before) users)
  tallied_put [] order = refl
  tallied_put (other ∷ users) order =
      elim (slice_cmp nat_cmp user other) as (λ o. slice_cmp nat_cmp user other ≡ o → match_ordering o ((user, new) ∷ map (tallied after) (other ∷ users)) ((user, new) ∷ map (tallied after) users) (tallied after other ∷ put_by tallied_key (user, new) (map (tallied after) users)) ≡ match_ordering o ((user, new) ∷ map (tallied before) (other ∷ users)) ((user, new) ∷ map (tallied before) users) (tallied before other ∷ put_by tallied_key (user, new) (map (tallied before) users))) [
        | Less ↦ λ o. ap (λ (rest : List Tallied). (user, new) ∷ rest) (tallied_above (other ∷ users) (o, above_chain text_key user other users o order.0))
        | Equal ↦ λ o. ap (λ (rest : List Tallied). (user, new) ∷ rest) (tallied_above users (subst (λ (text : List ℕ). Above text_key text users) (sym (same_from user other o)) order.0))
        | Greater ↦ λ o. (λ i. (other, same other (differs_back other user (below_is user other o)) i) ∷ tallied_put users order.1 i)
      ] refl

-- the entry is an act or a look by the user
abbrev is_by : List ℕ → Entry → Bool
is_by user entry = option_map_or (λ other. bytes_eq other user) (entry_user entry) false

void_by : (user other group client : List ℕ) (id : ℕ) (call : Call) → is_void_by user (Act other group client id call) ≡ (is_void call && bytes_eq other user)
void_by user other group client id (CreateList list name owner) = refl
void_by user other group client id (DeleteList list) = refl
void_by user other group client id (CreateShare share list with role) = refl
void_by user other group client id (UpdateShare share role) = refl
void_by user other group client id (DeleteShare share) = refl
void_by user other group client id (CreateTodo todo list text complete) = refl
void_by user other group client id (UpdateTodo todo text complete sort) = refl
void_by user other group client id (DeleteTodo todo) = refl
void_by user other group client id (SetExtent lists) = refl
void_by user other group client id (Void reason) = refl

abbrev numbers : ℕ → ℕ → ℕ → Tally
numbers acts voids looks = record { acts = acts; voids = voids; looks = looks }

one_act : (by void : Bool) (acts voids looks : ℕ) → numbers (acts + cond by 1 0) (voids + cond (void && by) 1 0) (looks + 0) ≡ cond by (numbers (acts + 1) (cond void (voids + 1) voids) looks) (numbers acts voids looks)
one_act true true acts voids looks = (λ i. numbers (acts + 1) (voids + 1) (add-zero looks i))
one_act true false acts voids looks = (λ i. numbers (acts + 1) (add-zero voids i) (add-zero looks i))
one_act false true acts voids looks = (λ i. numbers (add-zero acts i) (add-zero voids i) (add-zero looks i))
one_act false false acts voids looks = (λ i. numbers (add-zero acts i) (add-zero voids i) (add-zero looks i))

one_look : (by : Bool) (acts voids looks : ℕ) → numbers (acts + 0) (voids + 0) (looks + cond by 1 0) ≡ cond by (numbers acts voids (looks + 1)) (numbers acts voids looks)
one_look true acts voids looks = (λ i. numbers (add-zero acts i) (add-zero voids i) (looks + 1))
one_look false acts voids looks = (λ i. numbers (add-zero acts i) (add-zero voids i) (add-zero looks i))

each_last : (user : List ℕ) (book : Book) (entry : Entry) → tally_of user (with_entry book entry) ≡ numbers (count_by (is_act_by user) book.entries + cond (is_act_by user entry) 1 0) (count_by (is_void_by user) book.entries + cond (is_void_by user entry) 1 0) (count_by (is_look_by user) book.entries + cond (is_look_by user entry) 1 0)
each_last user book entry = (λ i. numbers (count-push (is_act_by user) book.entries entry i) (count-push (is_void_by user) book.entries entry i) (count-push (is_look_by user) book.entries entry i))

-- a user's tally after one more entry
tally_last : (user : List ℕ) (book : Book) (entry : Entry) → tally_of user (with_entry book entry) ≡ cond (is_by user entry) (with_one entry (tally_of user book)) (tally_of user book)
tally_last user book (Act other group client id call) =
    each_last user book (Act other group client id call)
    ∙ (λ i. numbers (count_by (is_act_by user) book.entries + cond (bytes_eq other user) 1 0) (count_by (is_void_by user) book.entries + cond (void_by user other group client id call i) 1 0) (count_by (is_look_by user) book.entries + 0))
    ∙ one_act (bytes_eq other user) (is_void call) (count_by (is_act_by user) book.entries) (count_by (is_void_by user) book.entries) (count_by (is_look_by user) book.entries)
tally_last user book (Look other group order base) =
    each_last user book (Look other group order base)
    ∙ one_look (bytes_eq other user) (count_by (is_act_by user) book.entries) (count_by (is_void_by user) book.entries) (count_by (is_look_by user) book.entries)
tally_last user book (Retire group) =
    each_last user book (Retire group)
    ∙ one_look false (count_by (is_act_by user) book.entries) (count_by (is_void_by user) book.entries) (count_by (is_look_by user) book.entries)

-- a user of no entry has no entries
none_counted : (user : List ℕ) (p : Entry → Bool) (entries : List Entry) → ((entry : Entry) → is_by user entry ≡ false → p entry ≡ false) → list_any (bytes_eq user) (filter_map entry_user entries) ≡ false → count_by p entries ≡ 0
none_counted user p [] apart none = refl
none_counted user p (entry ∷ entries) apart none =
    let parts = later (entry_user entry) none in
    let here : p entry ≡ false = apart entry parts.0 in
    sum_by-cons (λ (e : Entry). cond (p e) 1 0) entry entries ∙ (λ i. cond (here i) 1 0 + none_counted user p entries apart parts.1 i)
  where
    later : (o : Option (List ℕ)) → list_any (bytes_eq user) (cons_option o (filter_map entry_user entries)) ≡ false → (option_map_or (λ other. bytes_eq other user) o false ≡ false) × (list_any (bytes_eq user) (filter_map entry_user entries) ≡ false)
    later None h = (refl, h)
    later (Some other) h =
        elim (bytes_eq user other) as (λ b. bytes_eq user other ≡ b → (b || list_any (bytes_eq user) (filter_map entry_user entries)) ≡ false → (bytes_eq other user ≡ false) × (list_any (bytes_eq user) (filter_map entry_user entries) ≡ false)) [
          | true ↦ λ e f. absurd (cc)
          | false ↦ λ e f. (not_same user other e, f)
        ] refl h

no_act : (user : List ℕ) (entry : Entry) → is_by user entry ≡ false → is_act_by user entry ≡ false
no_act user (Act other group client id call) none = none
no_act user (Look other group order base) none = refl
no_act user (Retire group) none = refl

no_void : (user : List ℕ) (entry : Entry) → is_by user entry ≡ false → is_void_by user entry ≡ false
no_void user (Act other group client id call) none = void_by user other group client id call ∙ ap (λ (b : Bool). is_void call && b) none ∙ never (is_void call)
  where
    never : (b : Bool) → (b && false) ≡ false
    never true = refl
    never false = refl
no_void user (Look other group order base) none = refl
no_void user (Retire group) none = refl

no_look : (user : List ℕ) (entry : Entry) → is_by user entry ≡ false → is_look_by user entry ≡ false
no_look user (Act other group client id call) none = refl
no_look user (Look other group order base) none = none
no_look user (Retire group) none = refl

no_tally : (user : List ℕ) (book : Book) → list_any (bytes_eq user) (filter_map entry_user book.entries) ≡ false → tally_of user book ≡ no_entries
no_tally user book none =
    (λ i. numbers (none_counted user (is_act_by user) book.entries (no_act user) none i) (none_counted user (is_void_by user) book.entries (no_void user) none i) (none_counted user (is_look_by user) book.entries (no_look user) none i))

found_text : (text found : List ℕ) (texts : List (List ℕ)) → find_by text_key text texts ≡ Some found → text ≡ found
found_text text found [] there = absurd (cc)
found_text text found (other ∷ texts) there =
    elim (bytes_eq text other) as (λ b. bytes_eq text other ≡ b → cond b (Some other) (find_by text_key text texts) ≡ Some found → text ≡ found) [
      | true ↦ λ e f. (bytes_eq-Decides text other).0 e ∙ same_Some other found f
      | false ↦ λ e f. found_text text found texts f
    ] refl there

-- what is found among the tallies of a book
pub tally_found : (user : List ℕ) (book : Book) → tally_in user (tallies_of book) ≡ tally_of user book
tally_found user book =
    ap (λ (o : Option Tallied). option_map_or (λ tallied. tallied.1) o no_entries) (sym (find-map tallied_key (tallied (λ u. tally_of u book)) user (users_of book)))
    ∙ elim (find_by text_key user (users_of book)) as (λ o. find_by text_key user (users_of book) ≡ o → option_map_or (λ tallied. tallied.1) (option_map (tallied (λ u. tally_of u book)) o) no_entries ≡ tally_of user book) [
      | None ↦ λ e. sym (no_tally user book (sym (found-sorted text_key user (filter_map entry_user book.entries)) ∙ ap is_some e))
      | Some found ↦ λ e. ap (λ (u : List ℕ). tally_of u book) (sym (found_text user found (users_of book) e))
    ] refl

-- each number of a tally may rise while the book may grow
pub tally_rises : (user : List ℕ) (book : Book) → size book < 2 ^ 32 - 1 → MayRise (tally_in user (tallies_of book))
tally_rises user book short =
    subst MayRise (sym (tally_found user book))
    (omega (arith, count_by-le-length (is_act_by user) book.entries), omega (arith, count_by-le-length (is_void_by user) book.entries), omega (arith, count_by-le-length (is_look_by user) book.entries))

-- the tallies after one more entry
counted_users : (book : Book) (entry : Entry) (o : Option (List ℕ)) (users : List (List ℕ)) → entry_user entry ≡ o → users ≡ option_map_or (λ user. put_by text_key user (users_of book)) o (users_of book)
    → option_map_or (λ user. put_by tallied_key (user, with_one entry (tally_in user (tallies_of book))) (tallies_of book)) o (tallies_of book) ≡ map (tallied (λ user. tally_of user (with_entry book entry))) users
counted_users book entry None users by are =
    ap (λ (f : List ℕ → Tally). map (tallied f) (users_of book)) (λ i user. same user i) ∙ ap (map (tallied (λ user. tally_of user (with_entry book entry)))) (sym are)
  where
    same : (user : List ℕ) → tally_of user book ≡ tally_of user (with_entry book entry)
    same user = sym (tally_last user book entry ∙ ap (λ (o : Option (List ℕ)). cond (option_map_or (λ other. bytes_eq other user) o false) (with_one entry (tally_of user book)) (tally_of user book)) by)
counted_users book entry (Some user) users by are =
    ap (λ (t : Tally). put_by tallied_key (user, with_one entry t) (tallies_of book)) (tally_found user book)
    ∙ ap (λ (t : Tally). put_by tallied_key (user, t) (tallies_of book)) (sym own)
    ∙ sym (tallied_put user (after user) (λ u. tally_of u book) after other (users_of book) (in_order-sorted text_key (filter_map entry_user book.entries)))
    ∙ sym (map-put tallied_key (tallied after) user (users_of book))
    ∙ ap (map (tallied after)) (sym are)
  where
    after : List ℕ → Tally
    after u = tally_of u (with_entry book entry)

    own : after user ≡ with_one entry (tally_of user book)
    own = tally_last user book entry ∙ ap (λ (o : Option (List ℕ)). cond (option_map_or (λ name. bytes_eq name user) o false) (with_one entry (tally_of user book)) (tally_of user book)) by ∙ ap (λ (b : Bool). cond b (with_one entry (tally_of user book)) (tally_of user book)) (equals user)

    other : (u : List ℕ) → bytes_eq user u ≡ false → after u ≡ tally_of u book
    other u apart = tally_last u book entry ∙ ap (λ (o : Option (List ℕ)). cond (option_map_or (λ name. bytes_eq name u) o false) (with_one entry (tally_of u book)) (tally_of u book)) by ∙ ap (λ (b : Bool). cond b (with_one entry (tally_of u book)) (tally_of u book)) apart

-- the book with the first entries, so many
abbrev first_of : ℕ → Book → Book
first_of count book = book_from book.page (take count book.entries)

last_taken : (book : Book) (index : ℕ) (entry : Entry) → index < length book.entries → entry ≡ get_or book.entries index entry → first_of (index + 1) book ≡ with_entry (first_of index book) entry
last_taken book index entry lt is = ap (book_from book.page) (take_more book.entries index entry lt ∙ ap (λ (e : Entry). take index book.entries ++ e ∷ []) (sym is))

one_further : (book : Book) (before : ℕ) → book.page.at ≤ before → first_of ((before - book.page.at) + 1) book ≡ up_to (before + 1) book
one_further book before from =
    let next : (before - book.page.at) + 1 ≡ (before + 1) - book.page.at = omega (arith, from) in
    ap (λ (count : ℕ). first_of count book) next

-- nothing stands up to the page's place
pub up_to_page : (book : Book) → up_to book.page.at book ≡ opening book
up_to_page book =
    let none : book.page.at - book.page.at ≡ 0 = omega arith in
    ap (λ (n : ℕ). book_from book.page (take n book.entries)) none

pub tallies_more : (book : Book) (before : ℕ) (entry : Entry) (tallies next : List Tallied) → book.page.at ≤ before → Some entry ≡ entry_at (before + 1) book → tallies ≡ tallies_of (up_to before book) → next ≡ tallied_with entry tallies → next ≡ tallies_of (up_to (before + 1) book)
tallies_more book before entry tallies next from there so_far counts =
    let at = entry_next book before entry from there in
    let index : ℕ = before - book.page.at in
    counts
    ∙ ap (tallied_with entry) so_far
    ∙ counted_users (up_to before book) entry (entry_user entry) (users_of (first_of (index + 1) book)) refl (sorted_more text_key entry_user book.entries index entry at.0 at.1)
    ∙ ap (λ (b : Book). map (tallied (λ user. tally_of user b)) (users_of (first_of (index + 1) book))) (sym (last_taken book index entry at.0 at.1))
    ∙ ap (λ (b : Book). tallies_of b) (one_further book before from)

-- the texts in order, behind others, when one more entry follows
texts_more : (first : List (List ℕ)) (entries : List Entry) (index : ℕ) (entry : Entry) → index < length entries → entry ≡ get_or entries index entry
    → in_order (first ++ filter_map named_group (take (index + 1) entries)) ≡ option_map_or (λ text. put_by text_key text (in_order (first ++ filter_map named_group (take index entries)))) (named_group entry) (in_order (first ++ filter_map named_group (take index entries)))
texts_more first entries index entry lt is =
    ap (λ (es : List Entry). in_order (first ++ filter_map named_group es)) (take_more entries index entry lt ∙ ap (λ (e : Entry). take index entries ++ e ∷ []) (sym is))
    ∙ ap (λ (texts : List (List ℕ)). in_order (first ++ texts)) (filter_map-append named_group (take index entries) (entry ∷ []))
    ∙ ap in_order (sym (append_assoc first (filter_map named_group (take index entries)) (cons_option (named_group entry) [])))
    ∙ one_more (named_group entry) (first ++ filter_map named_group (take index entries))
  where
    one_more : (o : Option (List ℕ)) (texts : List (List ℕ)) → in_order (texts ++ cons_option o []) ≡ option_map_or (λ text. put_by text_key text (in_order texts)) o (in_order texts)
    one_more None texts = ap in_order (append-nil texts)
    one_more (Some text) texts = sorted-push text_key text texts

pub groups_more : (book : Book) (before : ℕ) (entry : Entry) (groups next : List (List ℕ)) → book.page.at ≤ before → Some entry ≡ entry_at (before + 1) book → groups ≡ group_ids (up_to before book) → next ≡ option_map_or (λ group. put_by (λ text. text) group groups) (named_group entry) groups → next ≡ group_ids (up_to (before + 1) book)
groups_more book before entry groups next from there so_far adds =
    let at = entry_next book before entry from there in
    adds
    ∙ ap (λ (gs : List (List ℕ)). option_map_or (λ group. put_by text_key group gs) (named_group entry) gs) so_far
    ∙ sym (texts_more (page_groups book.page) book.entries (before - book.page.at) entry at.0 at.1)
    ∙ ap (λ (b : Book). group_ids b) (one_further book before from)

pub may_rise : (book : Book) (before : ℕ) (tallies : List Tallied) → book.page.at ≤ before → before < size book → size book < 2 ^ 32 → tallies ≡ tallies_of (up_to before book) → (user : List ℕ) → MayRise (tally_in user tallies)
may_rise book before tallies from lt short so_far user =
    let place = size-up_to before book from (omega (arith, lt)) in
    subst (λ (ts : List Tallied). MayRise (tally_in user ts)) (sym so_far) (tally_rises user (up_to before book) (omega (arith, place, lt, short)))
