-- The page that sums up a lawful book is sound, so the book may go on from it.
use Rattle.std.proofs.Common.{◌≡◌, ℕ, ◌+◌, ◌≤◌, ◌<◌, Bool, true, false, cond, List, [], ◌∷◌, ◌++◌, ◌&&◌, ◌⊎◌, length, map, Option, Some, None, refl, sym, ap, ◌∙◌, subst, arith, inl, inr}
use Rattle.std.specs.List.{fold, list_any, AllByRecursion}
use Rattle.std.specs.Option.{option_map, option_map_or, option_or, is_some, IsSome}
use Rattle.std.specs.Str.{bytes_eq}
use Rattle.std.specs.declared.cmp.Ordering.TheVariants.{Less}
use Rattle.std.specs.Ordering.{nat_cmp}
use Rattle.std.specs.Cmp.Lexicographic.{slice_cmp}
use Rattle.std.proofs.lemmas.Option.{same_Some}
use Rattle.std.proofs.lemmas.Slice.Eq.{bytes_eq-Decides}
use Rattle.rv_base.specs.Sorted.{find_by, sorted_by, Distinct, InOrder}
use Rattle.rv_base.specs.PositionLaws.{differs, equals, in_order-sorted}
use Rattle.rv_base.specs.ArrangedLaws.{find-sorted, list_any-sorted, sorted-in_order}
use Rattle.rv_rows.specs.declared.row.Row.{Row}
use Rattle.rv_rows.specs.declared.row.Row.TheVariants as variants
use Rattle.rv_rows.specs.Keys.{row_text, row_at, in_key_order}
use Rattle.rv_rows.specs.Held.{Stored, AreRows, find, rows_in, stored_key}
use Rattle.rv_rows.specs.Effects.{effect}
use Rattle.rv_rows.specs.EffectLaws.{distinct-effect}
use Rattle.rv_rows.specs.Sharing.{is_list, list_of, owns}
use Rattle.rv_book.specs.declared.entry.Entry.{Entry}
use Rattle.rv_book.specs.declared.entry.Entry.TheVariants.{Act, Look, Retire}
use Rattle.rv_book.specs.declared.page.Page.{Page}
use Rattle.rv_book.specs.Entries.{bound_in, group_of_in, last_in}
use Rattle.rv_book.specs.Book.{Book, bound, group_of, last, last_order, no_page, opening, page_client, page_group, retired, size, with_entries, with_entry}
use Rattle.rv_book.specs.BookWordLaws.{bytes_eq_back, with_entries-none, with_entry-more}
use Rattle.rv_book.specs.SoundPages.{share_alike, shared_with_owner, AreSharedOnce, IsOpening, IsSoundPage}
use Rattle.rv_book.specs.Registers.{client_named, clients_of, group_named, groups_of, RetiresBound}
use Rattle.rv_book.specs.RegisterLaws.{clients-in_order, found_client, found_group, groups-in_order, retires_bound-opening, retires_bound-with_entry, BoundIfRetired}
use Rattle.rv_history.specs.Lawful.{IsLawful, IsLawfulAfter}
use Rattle.rv_history.specs.LawfulBookLaws.{here, last_cons, onward}
use Rattle.rv_history.specs.Replay.{page_rows, rows_after, rows_of, IsLastWrite, IsPageVersion, IsReplay}
use Rattle.rv_history.specs.ReplayLaws.{all_found, distinct-rows_of, each_found, last_within, stored_in_order}
use Rattle.rv_history.specs.Closing.{ClosedBooksGoOn, SumsUp}
use Rattle.rv_history.specs.ClosingLaws.{closed_bound, closed_group_of, closed_ids, closed_last, closed_last_order, closed_replay, closed_retired, closed_rows}
use Rattle.rv_history.specs.WholeRowLaws.{effect_whole, AreWhole}

-- ---- The rows of a lawful book are whole.

whole_after : (rows : List Row) (entries : List Entry) → Distinct row_text rows → AreWhole rows → AreWhole (fold rows_after rows entries)
whole_after rows [] distinct whole = whole
whole_after rows (Act user group client id call ∷ entries) distinct whole = whole_after (effect rows user call) entries (distinct-effect rows user call distinct) (effect_whole rows user call distinct whole)
whole_after rows (Look user group order base ∷ entries) distinct whole = whole_after rows entries distinct whole
whole_after rows (Retire group ∷ entries) distinct whole = whole_after rows entries distinct whole

above_rows : (k : List ℕ) (stored : List Stored) → AllByRecursion (λ s. slice_cmp nat_cmp k (stored_key s) ≡ Less) stored → AllByRecursion (λ row. slice_cmp nat_cmp k (row_text row) ≡ Less) (rows_in stored)
above_rows k [] all = tt
above_rows k (s ∷ stored) all = (all.0, above_rows k stored all.1)

pub in_rows : (stored : List Stored) → AreRows stored → InOrder row_text (rows_in stored)
in_rows [] order = tt
in_rows (s ∷ stored) order = (above_rows (row_text s.0) stored order.0, in_rows stored order.1)

page_whole : (page : Page) → IsOpening page → AreWhole (page_rows page)
page_whole page (inl none) = subst (λ (p : Page). AreWhole (page_rows p)) (sym none) (record { listed = tt; once = tt; others = tt })
page_whole page (inr (above, sound)) =
    subst AreWhole (sym (sorted-in_order row_text (rows_in page.rows) (in_rows page.rows sound.rows))) (record { listed = sound.listed; once = sound.once; others = sound.others })

distinct_page : (page : Page) → Distinct row_text (page_rows page)
distinct_page page = distinct-rows_of (record { page = page; entries = [] })

pub rows_are_whole : (book : Book) → IsLawful book → AreWhole (rows_of book)
rows_are_whole book lawful = whole_after (page_rows book.page) book.entries (distinct_page book.page) (page_whole book.page lawful.opens)

-- ---- So are they in the order of their keys.

alike_back : (a b : Row) → share_alike a b ≡ share_alike b a
alike_back (variants.Share a) (variants.Share b) = λ i. bytes_eq_back a.list b.list i && bytes_eq_back a.user b.user i
alike_back (variants.Share a) (variants.Extent b) = refl
alike_back (variants.Share a) (variants.List b) = refl
alike_back (variants.Share a) (variants.Todo b) = refl
alike_back (variants.Extent a) (variants.Share b) = refl
alike_back (variants.Extent a) (variants.Extent b) = refl
alike_back (variants.Extent a) (variants.List b) = refl
alike_back (variants.Extent a) (variants.Todo b) = refl
alike_back (variants.List a) (variants.Share b) = refl
alike_back (variants.List a) (variants.Extent b) = refl
alike_back (variants.List a) (variants.List b) = refl
alike_back (variants.List a) (variants.Todo b) = refl
alike_back (variants.Todo a) (variants.Share b) = refl
alike_back (variants.Todo a) (variants.Extent b) = refl
alike_back (variants.Todo a) (variants.List b) = refl
alike_back (variants.Todo a) (variants.Todo b) = refl

-- rows of two keys are no two shares of one list with one user
apart_at : (rows : List Row) (k l : List ℕ) (a b : Row) → AreSharedOnce rows → bytes_eq k l ≡ false → row_at k rows ≡ Some a → row_at l rows ≡ Some b → share_alike a b ≡ false
apart_at [] k l a b once apart first second = absurd (cc)
apart_at (row ∷ rows) k l a b once apart first second = by (bytes_eq k (row_text row)) refl (bytes_eq l (row_text row)) refl first second (apart_at rows k l a b once.1 apart)
  where
    by : (p : Bool) → bytes_eq k (row_text row) ≡ p → (q : Bool) → bytes_eq l (row_text row) ≡ q → cond p (Some row) (row_at k rows) ≡ Some a → cond q (Some row) (row_at l rows) ≡ Some b → (row_at k rows ≡ Some a → row_at l rows ≡ Some b → share_alike a b ≡ false) → share_alike a b ≡ false
    by true here true there is_a is_b rest =
        absurd (let same : k ≡ l = (bytes_eq-Decides k (row_text row)).0 here ∙ sym ((bytes_eq-Decides l (row_text row)).0 there) in let both : true ≡ false = sym ((bytes_eq-Decides k l).1 same) ∙ apart in cc)
    by true here false there is_a is_b rest =
        ap (λ (x : Row). share_alike x b) (sym (same_Some row a is_a)) ∙ (all_found row_text (λ (later : Row). share_alike row later ≡ false) l rows b once.0 is_b).0
    by false here true there is_a is_b rest =
        ap (λ (x : Row). share_alike a x) (sym (same_Some row b is_b)) ∙ alike_back a row ∙ (all_found row_text (λ (later : Row). share_alike row later ≡ false) k rows a once.0 is_a).0
    by false here false there is_a is_b rest = rest is_a is_b

-- each row in order is found among the rows
each_there : (rows : List Row) → Distinct row_text rows → AllByRecursion (λ row. row_at (row_text row) rows ≡ Some row) (in_key_order rows)
each_there rows distinct = go (in_key_order rows) (each_found row_text (in_key_order rows) (in_order-sorted row_text rows))
  where
    go : (xs : List Row) → AllByRecursion (λ row. row_at (row_text row) (in_key_order rows) ≡ Some row) xs → AllByRecursion (λ row. row_at (row_text row) rows ≡ Some row) xs
    go [] all = tt
    go (row ∷ xs) all = (sym (find-sorted row_text (row_text row) rows distinct) ∙ all.0, go xs all.1)

-- what holds of each row holds of each in order
all_there : (P : Row → Type 0) (rows xs : List Row) → AllByRecursion P rows → AllByRecursion (λ row. row_at (row_text row) rows ≡ Some row) xs → AllByRecursion P xs
all_there P rows [] all there = tt
all_there P rows (row ∷ xs) all there = ((all_found row_text P (row_text row) rows row all there.0).0, all_there P rows xs all there.1)

all_weaker : {X : Type 0} (P Q : X → Type 0) (xs : List X) → ((x : X) → P x → Q x) → AllByRecursion P xs → AllByRecursion Q xs
all_weaker P Q [] weaker all = tt
all_weaker P Q (x ∷ xs) weaker all = (weaker x all.0, all_weaker P Q xs weaker all.1)

pub sorted_whole : (rows : List Row) → Distinct row_text rows → AreWhole rows → AreWhole (in_key_order rows)
sorted_whole rows distinct whole = record {
  listed = all_weaker _ _ sorted (λ row is. (λ i. option_map_or (λ list. list_any-sorted row_text (is_list list) rows distinct i) (list_of row) true) ∙ is) (all_there _ rows sorted whole.listed there);
  once = apart sorted (in_order-sorted row_text rows) there;
  others = all_weaker _ _ sorted (λ row is. other row ∙ is) (all_there _ rows sorted whole.others there);
}
  where
    sorted : List Row
    sorted = in_key_order rows

    there : AllByRecursion (λ row. row_at (row_text row) rows ≡ Some row) (in_key_order rows)
    there = each_there rows distinct

    other : (row : Row) → shared_with_owner (in_key_order rows) row ≡ shared_with_owner rows row
    other (variants.Extent row) = refl
    other (variants.List row) = refl
    other (variants.Share row) = list_any-sorted row_text (owns row.user row.list) rows distinct
    other (variants.Todo row) = refl

    each_apart : (row : Row) (xs : List Row) → row_at (row_text row) rows ≡ Some row → AllByRecursion (λ y. slice_cmp nat_cmp (row_text row) (row_text y) ≡ Less) xs → AllByRecursion (λ y. row_at (row_text y) rows ≡ Some y) xs → AllByRecursion (λ y. share_alike row y ≡ false) xs
    each_apart row [] own above found = tt
    each_apart row (y ∷ xs) own above found = (apart_at rows (row_text row) (row_text y) row y whole.once (differs (row_text row) (row_text y) above.0) own found.0, each_apart row xs own above.1 found.1)

    apart : (xs : List Row) → InOrder row_text xs → AllByRecursion (λ y. row_at (row_text y) rows ≡ Some y) xs → AreSharedOnce xs
    apart [] order found = tt
    apart (row ∷ xs) order found = (each_apart row xs found.0 order.0 found.1, apart xs order.1 found.1)

-- ---- The page is sound.

rows_there : (book : Book) (page : Page) → IsLawful book → SumsUp book page → AreWhole (rows_in page.rows)
rows_there book page lawful sums = subst AreWhole (sym sums.rows.rows) (sorted_whole (rows_of book) (distinct-rows_of book) (rows_are_whole book lawful))

-- versions are from 1 to the book's length
page_version : (page : Page) (key : List ℕ) (version : ℕ) → IsOpening page → IsPageVersion page key version → 1 ≤ version
page_version page key version (inl none) stands = absurd (let absent : option_map (λ (s : Stored). s.1) (find key page.rows) ≡ None = ap (λ (p : Page). option_map (λ (s : Stored). s.1) (find key p.rows)) none in let both : Some version ≡ None = sym stands.1 ∙ absent in cc)
page_version page key version (inr (above, sound)) stands = by (find key page.rows) refl stands.1
  where
    by : (o : Option Stored) → find key page.rows ≡ o → option_map (λ (s : Stored). s.1) o ≡ Some version → 1 ≤ version
    by None is told = absurd (cc)
    by (Some s) is told = let low = (all_found stored_key (λ (t : Stored). (1 ≤ t.1) × (t.1 ≤ page.at)) key page.rows s sound.versions is).0.0 in let same : s.1 ≡ version = same_Some s.1 version told in omega (arith, low, same)

write_from_1 : (book : Book) (key : List ℕ) (place : ℕ) → IsLawful book → IsLastWrite book key place → 1 ≤ place
write_from_1 book key place lawful write = elim write.wrote as (λ _. 1 ≤ place) [
  | inl wrote ↦ (let first = wrote.first in omega (arith, first))
  | inr version ↦ page_version book.page key place lawful.opens version
]

versions_fit : (book : Book) (page : Page) (rows : List Stored) → IsLawful book → page.at ≡ size book + 1 → AllByRecursion (λ s. IsLastWrite book (row_text s.0) s.1) rows → AllByRecursion (λ s. (1 ≤ s.1) × (s.1 ≤ page.at)) rows
versions_fit book page [] lawful at writes = tt
versions_fit book page (s ∷ rows) lawful at writes =
    ((write_from_1 book (row_text s.0) s.1 lawful writes.0, omega (arith, last_within book (row_text s.0) s.1 writes.0, at)), versions_fit book page rows lawful at writes.1)

-- a client that has a group has acts, and no more than the book's length
acts_in : (client : List ℕ) (entries : List Entry) (group : List ℕ) → group_of_in client entries ≡ Some group → 1 ≤ last_in client entries
acts_in client [] group is = absurd (cc)
acts_in client (Act user other actor id call ∷ entries) group is = by (bytes_eq actor client) refl is (acts_in client entries group)
  where
    by : (b : Bool) → bytes_eq actor client ≡ b → cond b (Some other) (group_of_in client entries) ≡ Some group → (group_of_in client entries ≡ Some group → 1 ≤ last_in client entries) → 1 ≤ last_in client (Act user other actor id call ∷ entries)
    by true own here rest = let count = last_cons client entries (Act user other actor id call) ∙ ap (λ (b : Bool). cond b 1 0 + last_in client entries) own in omega (arith, count)
    by false own here rest = let count = last_cons client entries (Act user other actor id call) ∙ ap (λ (b : Bool). cond b 1 0 + last_in client entries) own in omega (arith, count, rest here)
acts_in client (Look user other order base ∷ entries) group is = let count = last_cons client entries (Look user other order base) in omega (arith, count, acts_in client entries group is)
acts_in client (Retire other ∷ entries) group is = let count = last_cons client entries (Retire other) in omega (arith, count, acts_in client entries group is)

at_most_one : (b : Bool) → cond b 1 0 ≤ 1
at_most_one true = omega arith
at_most_one false = omega arith

few_acts : (client : List ℕ) (entries : List Entry) → last_in client entries ≤ length entries
few_acts client [] = omega arith
few_acts client (Act user other actor id call ∷ entries) = let count = last_cons client entries (Act user other actor id call) in omega (arith, count, at_most_one (bytes_eq actor client), few_acts client entries)
few_acts client (Look user other order base ∷ entries) = let count = last_cons client entries (Look user other order base) in omega (arith, count, few_acts client entries)
few_acts client (Retire other ∷ entries) = let count = last_cons client entries (Retire other) in omega (arith, count, few_acts client entries)

-- what the page that a book opens with has of a client
page_last : (page : Page) (client : List ℕ) → IsOpening page → option_map_or (λ (c : List ℕ × List ℕ × ℕ). c.2) (page_client client page) 0 ≤ page.at
page_last page client (inl none) = let same : option_map_or (λ (c : List ℕ × List ℕ × ℕ). c.2) (page_client client page) 0 ≡ 0 = ap (λ (p : Page). option_map_or (λ (c : List ℕ × List ℕ × ℕ). c.2) (page_client client p) 0) none in omega (arith, same)
page_last page client (inr (above, sound)) = by (page_client client page) refl
  where
    by : (o : Option (List ℕ × List ℕ × ℕ)) → page_client client page ≡ o → option_map_or (λ (c : List ℕ × List ℕ × ℕ). c.2) o 0 ≤ page.at
    by None is = omega arith
    by (Some c) is = (all_found (λ (d : List ℕ × List ℕ × ℕ). d.0) (λ (d : List ℕ × List ℕ × ℕ). (1 ≤ d.2) × (d.2 ≤ page.at)) client page.clients c sound.lasts is).0.1

pub page_act : (page : Page) (client group : List ℕ) → IsOpening page → option_map (λ (c : List ℕ × List ℕ × ℕ). c.1) (page_client client page) ≡ Some group → (1 ≤ option_map_or (λ (c : List ℕ × List ℕ × ℕ). c.2) (page_client client page) 0) × IsSome (page_group group page)
page_act page client group (inl none) told = absurd (let absent : option_map (λ (c : List ℕ × List ℕ × ℕ). c.1) (page_client client page) ≡ None = ap (λ (p : Page). option_map (λ (c : List ℕ × List ℕ × ℕ). c.1) (page_client client p)) none in let both : Some group ≡ None = sym told ∙ absent in cc)
page_act page client group (inr (above, sound)) told = by (page_client client page) refl told
  where
    by : (o : Option (List ℕ × List ℕ × ℕ)) → page_client client page ≡ o → option_map (λ (c : List ℕ × List ℕ × ℕ). c.1) o ≡ Some group → (1 ≤ option_map_or (λ (c : List ℕ × List ℕ × ℕ). c.2) o 0) × IsSome (page_group group page)
    by None is here = absurd (cc)
    by (Some c) is here = (
      (all_found (λ (d : List ℕ × List ℕ × ℕ). d.0) (λ (d : List ℕ × List ℕ × ℕ). (1 ≤ d.2) × (d.2 ≤ page.at)) client page.clients c sound.lasts is).0.0,
      subst (λ (g : List ℕ). IsSome (page_group g page)) (same_Some c.1 group here) (all_found (λ (d : List ℕ × List ℕ × ℕ). d.0) (λ (d : List ℕ × List ℕ × ℕ). IsSome (page_group d.1 page)) client page.clients c sound.homes is).0,
    )

-- an act binds its group
act_binds : (client : List ℕ) (entries : List Entry) (group : List ℕ) → group_of_in client entries ≡ Some group → IsSome (bound_in group entries)
act_binds client [] group is = absurd (cc)
act_binds client (Act user other actor id call ∷ entries) group is = by (bytes_eq actor client) is (bytes_eq other group) refl (act_binds client entries group)
  where
    by : (b : Bool) → cond b (Some other) (group_of_in client entries) ≡ Some group → (c : Bool) → bytes_eq other group ≡ c → (group_of_in client entries ≡ Some group → IsSome (bound_in group entries)) → IsSome (cond c (Some user) (bound_in group entries))
    by b here true same rest = refl
    by true here false same rest = absurd (let own : bytes_eq other group ≡ true = (bytes_eq-Decides other group).1 (same_Some other group here) in let both : true ≡ false = sym own ∙ same in cc)
    by false here false same rest = rest here
act_binds client (Look user other order base ∷ entries) group is = by (bytes_eq other group) (act_binds client entries group is)
  where
    by : (c : Bool) → IsSome (bound_in group entries) → IsSome (cond c (Some user) (bound_in group entries))
    by true rest = refl
    by false rest = rest
act_binds client (Retire other ∷ entries) group is = act_binds client entries group is

either_some : {A B : Type 0} (f : A → B) (o : Option A) (p : Option B) → IsSome o ⊎ IsSome p → IsSome (option_or (option_map f o) p)
either_some f None p (inl some) = absurd (cc)
either_some f None p (inr some) = some
either_some f (Some a) p some = refl

-- a client that has a group has at least one act and at most the book's length of them, and its group is bound
client_fits : (book : Book) (client group : List ℕ) → IsLawful book → group_of client book ≡ Some group → (1 ≤ last client book) × (last client book ≤ size book) × IsSome (bound group book)
client_fits book client group lawful is = by (option_map (λ (c : List ℕ × List ℕ × ℕ). c.1) (page_client client book.page)) refl is
  where
    most : last client book ≤ size book
    most = omega (arith, page_last book.page client lawful.opens, few_acts client book.entries)

    by : (o : Option (List ℕ)) → option_map (λ (c : List ℕ × List ℕ × ℕ). c.1) (page_client client book.page) ≡ o → option_or o (group_of_in client book.entries) ≡ Some group → (1 ≤ last client book) × (last client book ≤ size book) × IsSome (bound group book)
    by None here told = (
      omega (arith, acts_in client book.entries group told),
      most,
      either_some (λ (g : List ℕ × List ℕ × ℕ × Bool). g.1) (page_group group book.page) (bound_in group book.entries) (inr (act_binds client book.entries group told)),
    )
    by (Some other) here told =
        let facts = page_act book.page client group lawful.opens (here ∙ told) in (
          omega (arith, facts.0),
          most,
          either_some (λ (g : List ℕ × List ℕ × ℕ × Bool). g.1) (page_group group book.page) (bound_in group book.entries) (inl facts.1),
        )

-- each client of the register, as it is said of
client_said : (book : Book) (client : List ℕ) (c : List ℕ × List ℕ × ℕ) → client_named client book ≡ Some c → (group_of client book ≡ Some c.1) × (c.2 ≡ last client book)
client_said book client c is = by (group_of client book) refl is
  where
    by : (o : Option (List ℕ)) → group_of client book ≡ o → option_map {U = List ℕ × List ℕ × ℕ} (λ group. (client, group, last client book)) o ≡ Some c → (group_of client book ≡ Some c.1) × (c.2 ≡ last client book)
    by None none told = absurd (cc)
    by (Some group) some told = let same = same_Some (client, group, last client book) c told in (some ∙ ap (λ (d : List ℕ × List ℕ × ℕ). Some d.1) same, sym (ap (λ (d : List ℕ × List ℕ × ℕ). d.2) same))

group_is_there : (book : Book) (group : List ℕ) → IsSome (bound group book) → IsSome (group_named group book)
group_is_there book group some = by (bound group book) some
  where
    by : (o : Option (List ℕ)) → IsSome o → IsSome (option_map {U = List ℕ × List ℕ × ℕ × Bool} (λ user. (group, user, last_order group book, retired group book)) o)
    by None some = absurd (cc)
    by (Some user) some = refl

clients_fit : (book : Book) (page : Page) (clients : List (List ℕ × List ℕ × ℕ)) → IsLawful book → SumsUp book page → AllByRecursion (λ c. find_by (λ (d : List ℕ × List ℕ × ℕ). d.0) c.0 (clients_of book) ≡ Some c) clients
    → AllByRecursion (λ c. (1 ≤ c.2) × (c.2 ≤ page.at)) clients × AllByRecursion (λ c. IsSome (page_group c.1 page)) clients
clients_fit book page [] lawful sums found = (tt, tt)
clients_fit book page (c ∷ clients) lawful sums found =
    let said = client_said book c.0 c (sym (found_client c.0 book) ∙ found.0) in
    let fits = client_fits book c.0 c.1 lawful said.0 in
    let rest = clients_fit book page clients lawful sums found.1 in
    let home : page_group c.1 page ≡ group_named c.1 book = ap (λ (groups : List (List ℕ × List ℕ × ℕ × Bool)). find_by (λ g. g.0) c.1 groups) sums.groups ∙ found_group c.1 book in (
      ((omega (arith, fits.0, said.1), omega (arith, fits.1, said.1, sums.at)), rest.0),
      (ap (λ (o : Option (List ℕ × List ℕ × ℕ × Bool)). is_some o) home ∙ group_is_there book c.1 fits.2, rest.1),
    )

pub page_is_sound : (book : Book) (page : Page) → IsLawful book → SumsUp book page → IsSoundPage page
page_is_sound book page lawful sums =
    let whole = rows_there book page lawful sums in
    let order = clients-in_order book in
    let fits = clients_fit book page (clients_of book) lawful sums (each_found (λ (c : List ℕ × List ℕ × ℕ). c.0) (clients_of book) order) in
    record {
      rows = stored_in_order book page.rows sums.rows;
      clients = subst (λ (clients : List (List ℕ × List ℕ × ℕ)). InOrder (λ c. c.0) clients) (sym sums.clients) order;
      groups = subst (λ (groups : List (List ℕ × List ℕ × ℕ × Bool)). InOrder (λ g. g.0) groups) (sym sums.groups) (groups-in_order book);
      listed = whole.listed;
      once = whole.once;
      others = whole.others;
      versions = versions_fit book page page.rows lawful sums.at sums.rows.versions;
      lasts = subst (λ (clients : List (List ℕ × List ℕ × ℕ)). AllByRecursion (λ c. (1 ≤ c.2) × (c.2 ≤ page.at)) clients) (sym sums.clients) fits.0;
      homes = subst (λ (clients : List (List ℕ × List ℕ × ℕ)). AllByRecursion (λ c. IsSome (page_group c.1 page)) clients) (sym sums.clients) fits.1;
    }

-- so a book may open with it
pub closing_opens : (book : Book) (page : Page) → IsLawful book → SumsUp book page → IsOpening page
closing_opens book page lawful sums = let at = sums.at in inr (omega (arith, at), page_is_sound book page lawful sums)

-- ---- So a book that is closed goes on.

bound_if_retired : (book : Book) (entry : Entry) → IsLawfulAfter book entry → BoundIfRetired book entry
bound_if_retired book (Act user group client id call) after = tt
bound_if_retired book (Look user group order base) after = tt
bound_if_retired book (Retire group) after = after.0

retires_with : (before : Book) (rest : List Entry) → RetiresBound before → IsLawful (with_entries before rest) → RetiresBound (with_entries before rest)
retires_with before [] bounds lawful = subst RetiresBound (sym (with_entries-none before)) bounds
retires_with before (entry ∷ rest) bounds lawful =
    subst RetiresBound (with_entry-more before entry rest)
    (retires_with (with_entry before entry) rest (retires_bound-with_entry before entry bounds (bound_if_retired before entry (here before rest entry lawful))) (onward before rest entry lawful))

pub retires_bound : (book : Book) → IsLawful book → RetiresBound book
retires_bound book lawful = retires_with (opening book) book.entries (retires_bound-opening book.page) lawful

no_entry : (before after : List Entry) (entry : Entry) → [] ≡ before ++ entry ∷ after → ⊥
no_entry [] after entry is = cc
no_entry (other ∷ before) after entry is = cc

pub closed_books_go_on : ClosedBooksGoOn
closed_books_go_on book page lawful sums = record {
  lawful = record { opens = closing_opens book page lawful sums; each = λ before after entry is. absurd (no_entry before.entries after entry (ap (λ (b : Book). b.entries) is)) };
  size = let at = sums.at in omega (arith, at);
  last = closed_last book page sums;
  home = closed_group_of book page sums;
  ids = closed_ids book page sums;
  bound = closed_bound book page sums;
  order = closed_last_order book page sums;
  retired = closed_retired book page sums (retires_bound book lawful);
  rows = closed_rows book page sums;
  versions = closed_replay book page sums;
}
