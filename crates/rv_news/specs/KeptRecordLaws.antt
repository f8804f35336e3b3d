-- The records of the kept looks when the book goes on: those of looks that are not kept any more go, and a new look's comes.
use Rattle.std.proofs.Common.{◌≡◌, ℕ, ◌+◌, ◌≤◌, ◌<◌, ◌==◌, Bool, true, false, cond, not, ◌&&◌, ◌||◌, nat_lt, count_by, List, [], ◌∷◌, ◌++◌, find, Option, Some, None, refl, sym, ap, ◌∙◌, subst, arith, ◌⊎◌, inl, inr, append-nil}
use Rattle.std.specs.Prelude.{IsSome, option_map, option_and_then}
use Rattle.std.specs.List.{AllByRecursion, filter}
use Rattle.std.proofs.Math.Nat.{eq-or-lt_of_le}
use Rattle.std.proofs.lemmas.List.Elements.{filter-append}
use Rattle.std.proofs.lemmas.Bool.Decides.{Decides-eqb}
use Rattle.rv_rows.specs.declared.call.Call.{Call}
use Rattle.rv_views.specs.Viewed.{Viewed}
use Rattle.rv_book.specs.declared.entry.Entry.{Entry}
use Rattle.rv_book.specs.declared.entry.Entry.TheVariants.{Act, Look, Retire}
use Rattle.rv_book.specs.Book.{Book, retired, size, with_entry, empty_book}
use Rattle.rv_book.specs.Kept.{look_of, look_at, is_look_of, later_looks, kept, falls_out, is_place}
use Rattle.rv_book.specs.BookWordLaws.{retired-with_entry, since-end, size-with_entry}
use Rattle.rv_book.specs.LookLaws.{look_at-end, kept-look, kept-next_look, look_at-within, kept-none}
use Rattle.rv_news.specs.Records.{IsViewAt, IsRecord, Placed, Rise, record_at, AreRecords}
use Rattle.rv_news.specs.RecordLaws.{record_more, record_new, kept_act, kept_after}

-- lists of records, each with P
abbrev All : (Placed → Type 0) → List Placed → Type 0
All = AllByRecursion

all_append : (P : Placed → Type 0) (xs ys : List Placed) → All P xs → All P ys → All P (xs ++ ys)
all_append P [] ys before after = after
all_append P (x ∷ xs) ys before after = (before.0, all_append P xs ys before.1 after)

all_weaker : (P Q : Placed → Type 0) → ((r : Placed) → P r → Q r) → (xs : List Placed) → All P xs → All Q xs
all_weaker P Q then [] all = tt
all_weaker P Q then (x ∷ xs) all = (then x all.0, all_weaker P Q then xs all.1)

all_filter : (P : Placed → Type 0) (test : Placed → Bool) (xs : List Placed) → All (λ r. test r ≡ true → P r) xs → All P (filter test xs)
all_filter P test [] all = tt
all_filter P test (x ∷ xs) all =
    elim (test x) as (λ b. test x ≡ b → All P (cond b (x ∷ filter test xs) (filter test xs))) [
      | true ↦ λ e. (all.0 e, all_filter P test xs all.1)
      | false ↦ λ e. all_filter P test xs all.1
    ] refl

some_filter : (P : Placed → Type 0) (test : Placed → Bool) (xs : List Placed) → All P xs → All P (filter test xs)
some_filter P test xs all = all_filter P test xs (all_weaker P (λ r. test r ≡ true → P r) (λ r p is. p) xs all)

keeps_all : (test : Placed → Bool) (xs : List Placed) → All (λ r. test r ≡ true) xs → filter test xs ≡ xs
keeps_all test [] all = refl
keeps_all test (x ∷ xs) all = rw all.0 (ap (λ (rest : List Placed). x ∷ rest) (keeps_all test xs all.1))

-- places that rise
rise_filter : (test : Placed → Bool) (xs : List Placed) → Rise xs → Rise (filter test xs)
rise_filter test [] rise = tt
rise_filter test (x ∷ xs) rise =
    elim (test x) as (λ b. Rise (cond b (x ∷ filter test xs) (filter test xs))) [
      | true ↦ (some_filter (λ other. x.0 < other.0) test xs rise.0, rise_filter test xs rise.1)
      | false ↦ rise_filter test xs rise.1
    ]

rise_append : (low : ℕ) (xs ys : List Placed) → Rise xs → All (λ r. r.0 ≤ low) xs → Rise ys → All (λ r. low < r.0) ys → Rise (xs ++ ys)
rise_append low [] ys rise below next above = next
rise_append low (x ∷ xs) ys rise below next above =
    (all_append (λ other. x.0 < other.0) xs ys rise.0 (all_weaker (λ r. low < r.0) (λ other. x.0 < other.0) (λ r lt. let le : x.0 ≤ low = below.0 in omega (arith, lt, le)) ys above), rise_append low xs ys rise.1 below.1 next above)

-- what is found at a place
found_front : (place : ℕ) (xs ys : List Placed) → IsSome (record_at place xs) → IsSome (record_at place (xs ++ ys))
found_front place [] ys there = absurd (cc)
found_front place (x ∷ xs) ys there =
    elim (x.0 == place) as (λ b. IsSome (option_map (λ r. r.1) (cond b (Some x) (find (λ r. r.0 == place) xs))) → IsSome (option_map (λ r. r.1) (cond b (Some x) (find (λ r. r.0 == place) (xs ++ ys))))) [
      | true ↦ λ h. refl
      | false ↦ λ h. found_front place xs ys h
    ] there

found_back : (place : ℕ) (xs ys : List Placed) → IsSome (record_at place ys) → IsSome (record_at place (xs ++ ys))
found_back place [] ys there = there
found_back place (x ∷ xs) ys there =
    elim (x.0 == place) as (λ b. IsSome (option_map (λ r. r.1) (cond b (Some x) (find (λ r. r.0 == place) (xs ++ ys))))) [
      | true ↦ refl
      | false ↦ found_back place xs ys there
    ]

found_filter : (place : ℕ) (test : Placed → Bool) (xs : List Placed) → ((r : Placed) → r.0 ≡ place → test r ≡ true) → IsSome (record_at place xs) → IsSome (record_at place (filter test xs))
found_filter place test [] then there = there
found_filter place test (x ∷ xs) then there =
    elim (test x) as (λ b. test x ≡ b → IsSome (record_at place (cond b (x ∷ filter test xs) (filter test xs)))) [
      | true ↦ λ e. elim (x.0 == place) as (λ b. IsSome (option_map (λ r. r.1) (cond b (Some x) (find (λ r. r.0 == place) xs))) → IsSome (option_map (λ r. r.1) (cond b (Some x) (find (λ r. r.0 == place) (filter test xs))))) [ true ↦ λ h. refl | false ↦ λ h. found_filter place test xs then h ] there
      | false ↦ λ e. elim (x.0 == place) as (λ b. (x.0 == place) ≡ b → IsSome (option_map (λ r. r.1) (cond b (Some x) (find (λ r. r.0 == place) xs))) → IsSome (record_at place (filter test xs))) [
        | true ↦ λ f h. absurd (let both : true ≡ false = sym (then x ((Decides-eqb x.0 place).0 f)) ∙ e in cc)
        | false ↦ λ f h. found_filter place test xs then h
      ] refl there
    ] refl

-- what is found has P
found_all : (P : Placed → Type 0) (place : ℕ) (xs : List Placed) → All P xs → IsSome (record_at place xs) → (viewed : Viewed) × (record_at place xs ≡ Some viewed) × P (place, viewed)
found_all P place [] all there = absurd (cc)
found_all P place (x ∷ xs) all there =
    elim (x.0 == place) as (λ b. (x.0 == place) ≡ b → IsSome (option_map (λ r. r.1) (cond b (Some x) (find (λ r. r.0 == place) xs))) → (viewed : Viewed) × (option_map (λ r. r.1) (cond b (Some x) (find (λ r. r.0 == place) xs)) ≡ Some viewed) × P (place, viewed)) [
      | true ↦ λ e h. (x.1, refl, subst (λ (p : ℕ). P (p, x.1)) ((Decides-eqb x.0 place).0 e) all.0)
      | false ↦ λ e h. found_all P place xs all.1 h
    ] refl there

-- the empty book has no look
nowhere : (place : ℕ) → look_at place empty_book ≡ None
nowhere place = elim (nat_lt 0 place) as (λ b. option_and_then look_of (cond b None None) ≡ None) [ true ↦ refl | false ↦ refl ]

-- and so no record
pub records_none : AreRecords empty_book []
records_none = record {
  rise = tt;
  each = tt;
  all = λ place stays. absurd (let both : true ≡ false = sym stays ∙ kept-none place empty_book (nowhere place) in cc);
}

-- a look that is kept stands within the book
kept_within : (place : ℕ) (book : Book) → kept place book ≡ true → place ≤ size book
kept_within place book stays =
    elim (look_at place book) as (λ o. look_at place book ≡ o → place ≤ size book) [
      | None ↦ λ none. absurd (let both : true ≡ false = sym stays ∙ kept-none place book none in cc)
      | Some look ↦ λ there. (look_at-within place book look there).1
    ] refl

-- a look that is kept after one more entry was kept before, or is that entry
kept_more : (book : Book) (e : Entry) (place : ℕ) → kept place (with_entry book e) ≡ true → ((place ≤ size book) × (kept place book ≡ true)) ⊎ (place ≡ size book + 1)
kept_more book e place stays = go (eq-or-lt_of_le (omega (arith, kept_within place (with_entry book e) stays, size-with_entry book e)))
  where
    go : (place ≡ size book + 1) ⊎ (place < size book + 1) → ((place ≤ size book) × (kept place book ≡ true)) ⊎ (place ≡ size book + 1)
    go (inl last) = inr last
    go (inr lt) = let le : place ≤ size book = omega arith in inl (le, kept_after place book e le stays)

-- After one more entry with its records, which stand at its place, those records stay whose looks are kept.
module _ (book : Book) (e : Entry) (records : List Placed) (are : AreRecords book records) where
  abbrev RecordStays : Placed → Type 0
  RecordStays r = kept r.0 (with_entry book e) ≡ true → IsRecord (with_entry book e) r.0 r.1

  abbrev still : Placed → Bool
  still r = kept r.0 (with_entry book e)

  within : (r : Placed) → IsRecord book r.0 r.1 → r.0 ≤ size book
  within r is = (look_at-within r.0 book (is.user, is.group, is.order) is.looked).1

  records_next : (added : List Placed) → Rise added → All (λ r. size book < r.0) added → All RecordStays added
      → (kept (size book + 1) (with_entry book e) ≡ true → IsSome (record_at (size book + 1) added))
      → AreRecords (with_entry book e) (filter still (records ++ added))
  records_next added rise above new own = record {
    rise = rise_filter still (records ++ added) (rise_append (size book) records added are.rise (all_weaker (λ r. IsRecord book r.0 r.1) (λ r. r.0 ≤ size book) within records are.each) rise above);
    each = all_filter (λ r. IsRecord (with_entry book e) r.0 r.1) still (records ++ added)
        (all_append RecordStays records added (all_weaker (λ r. IsRecord book r.0 r.1) RecordStays (λ r is stays. record_more book e r.0 r.1 stays is) records are.each) new);
    all = λ place stays. found_filter place still (records ++ added) (λ r is. ap (λ (p : ℕ). kept p (with_entry book e)) is ∙ stays) (go place stays (kept_more book e place stays));
  }
    where
      go : (place : ℕ) → kept place (with_entry book e) ≡ true → ((place ≤ size book) × (kept place book ≡ true)) ⊎ (place ≡ size book + 1) → IsSome (record_at place (records ++ added))
      go place stays (inl (le, was)) = found_front place records added (are.all place was)
      go place stays (inr last) = found_back place records added (subst (λ (p : ℕ). IsSome (record_at p added)) (sym last) (own (subst (λ (p : ℕ). kept p (with_entry book e) ≡ true) last stays)))

  -- an entry that is no look has no record
  pub records_stay : look_of e ≡ None → AreRecords (with_entry book e) (filter still records)
  records_stay none =
      subst (λ (rs : List Placed). AreRecords (with_entry book e) (filter still rs)) (append-nil records)
      (records_next [] tt tt tt (λ stays. absurd (let both : true ≡ false = sym stays ∙ kept-none (size book + 1) (with_entry book e) (look_at-end book e ∙ none) in cc)))

-- an act leaves the records
pub records_act : (book : Book) (user group client : List ℕ) (id : ℕ) (call : Call) (records : List Placed) → AreRecords book records → AreRecords (with_entry book (Act user group client id call)) records
records_act book user group client id call records are =
    let e : Entry = Act user group client id call in
    subst (λ (rs : List Placed). AreRecords (with_entry book e) rs)
    (keeps_all (λ r. kept r.0 (with_entry book e)) records (all_weaker (λ r. IsRecord book r.0 r.1) (λ r. kept r.0 (with_entry book e) ≡ true) (λ r is. kept_act r.0 book user group client id call ((look_at-within r.0 book (is.user, is.group, is.order) is.looked).1) ∙ is.kept) records are.each))
    (records_stay book e records are refl)

-- a look adds its record, and those go that are not kept any more
pub records_look : (book : Book) (user group : List ℕ) (order : ℕ) (base : Option ℕ) (viewed : Viewed) (records : List Placed) → AreRecords book records → IsViewAt book user group viewed
    → AreRecords (with_entry book (Look user group order base)) (filter (λ r. kept r.0 (with_entry book (Look user group order base))) (records ++ (size book + 1, viewed) ∷ []))
records_look book user group order base viewed records are view =
    records_next book (Look user group order base) records are ((size book + 1, viewed) ∷ []) (tt, tt) (omega arith, tt) (record_new book user group order base viewed view, tt)
    (λ stays. rw ((Decides-eqb (size book + 1) (size book + 1)).1 refl) refl)

-- a retirement lets those of its group go
pub records_retire : (book : Book) (group : List ℕ) (records : List Placed) → AreRecords book records → AreRecords (with_entry book (Retire group)) (filter (λ r. kept r.0 (with_entry book (Retire group))) records)
records_retire book group records are = records_stay book (Retire group) records are refl

-- the record of a kept look is found
pub record_found : (book : Book) (records : List Placed) (place : ℕ) → AreRecords book records → kept place book ≡ true → (viewed : Viewed) × (record_at place records ≡ Some viewed) × IsRecord book place viewed
record_found book records place are stays = found_all (λ r. IsRecord book r.0 r.1) place records are.each (are.all place stays)

-- a look that is entered is kept
kept_new : (book : Book) (user group : List ℕ) (order : ℕ) (base : Option ℕ) → retired group book ≡ false → kept (size book + 1) (with_entry book (Look user group order base)) ≡ true
kept_new book user group order base stands =
    let e : Entry = Look user group order base in
    let new : Book = with_entry book e in
    let open_group : retired group new ≡ false = retired-with_entry group book e ∙ ap (λ b. b || false) stands in
    let none : later_looks group (size book + 1) new ≡ 0 = ap (count_by (is_look_of group)) (since-end book e) in
    kept-look (size book + 1) new (user, group, order) (look_at-end book e) ∙ (λ i. not (open_group i) && nat_lt (none i) 16)

-- of the records that there are, just that of the look that falls out goes
one_goes : (book : Book) (user group : List ℕ) (order : ℕ) (base : Option ℕ) (records : List Placed) → All (λ r. IsRecord book r.0 r.1) records
    → filter (λ r. kept r.0 (with_entry book (Look user group order base))) records ≡ filter (λ r. not (is_place r.0 (falls_out group book))) records
one_goes book user group order base [] all = refl
one_goes book user group order base (x ∷ xs) all =
    let same : kept x.0 (with_entry book (Look user group order base)) ≡ not (is_place x.0 (falls_out group book)) =
    kept-next_look x.0 book user group order base ((look_at-within x.0 book (all.0.user, all.0.group, all.0.order) all.0.looked).1) ∙ ap (λ b. b && not (is_place x.0 (falls_out group book))) all.0.kept in
    let rest = one_goes book user group order base xs all.1 in
    (λ i. cond (same i) (x ∷ rest i) (rest i))

-- where a look is entered the record of the look that falls out goes, and the new look's comes
pub records_look_in_place : (book : Book) (user group : List ℕ) (order : ℕ) (base : Option ℕ) (viewed : Viewed) (records : List Placed) → AreRecords book records → IsViewAt book user group viewed → retired group book ≡ false
    → AreRecords (with_entry book (Look user group order base)) (filter (λ r. not (is_place r.0 (falls_out group book))) records ++ (size book + 1, viewed) ∷ [])
records_look_in_place book user group order base viewed records are view stands =
    let new : Book = with_entry book (Look user group order base) in
    let own : filter (λ r. kept r.0 new) ((size book + 1, viewed) ∷ []) ≡ (size book + 1, viewed) ∷ [] = ap (λ b. cond b ((size book + 1, viewed) ∷ []) []) (kept_new book user group order base stands) in
    let parts = one_goes book user group order base records are.each in
    subst (λ (rs : List Placed). AreRecords new rs) (filter-append (λ r. kept r.0 new) records ((size book + 1, viewed) ∷ []) ∙ (λ i. parts i ++ own i)) (records_look book user group order base viewed records are view)
