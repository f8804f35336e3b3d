-- A book goes on by one entry: what becomes of the last writes and of the stored rows.
use Rattle.std.proofs.Common.{◌≡◌, ℕ, ◌+◌, ◌-◌, ◌<◌, ◌≤◌, true, false, cond, List, [], ◌∷◌, Option, Some, None, refl, sym, ap, ◌∙◌, subst, arith, map, ◌⊎◌, inl, inr}
use Rattle.std.specs.Option.{is_some, IsSome, option_map, option_map_or}
use Rattle.std.specs.declared.cmp.Ordering.TheVariants.{Less}
use Rattle.std.specs.Ordering.{nat_cmp}
use Rattle.std.specs.Cmp.Lexicographic.{slice_cmp}
use Rattle.std.proofs.lemmas.Option.{same_Some}
use Rattle.std.specs.List.{AllByRecursion, fold}
use Rattle.std.specs.Str.{bytes_eq}
use Rattle.std.proofs.lemmas.Bool.{cases_lt}
use Rattle.std.proofs.lemmas.List.Sums.{fold_push}
use Rattle.std.proofs.lemmas.Slice.Eq.{bytes_eq-Decides}
use Rattle.rv_base.specs.Sorted.{find_by, InOrder, Distinct}
use Rattle.rv_base.specs.PositionLaws.{in_order-sorted, equals, differs_back}
use Rattle.rv_rows.specs.declared.row.Row.{Row}
use Rattle.rv_rows.specs.declared.call.Call.{Call}
use Rattle.rv_rows.specs.Keys.{row_text, row_at, in_key_order}
use Rattle.rv_rows.specs.Effects.{effect}
use Rattle.rv_rows.specs.Held.{Stored, AreRows, stored_key, find, rows_in}
use Rattle.rv_rows.specs.Changes.{same_row, version_after, after}
use Rattle.rv_base.specs.ArrangedLaws.{distinct-sorted, find-map, find-sorted}
use Rattle.rv_rows.specs.EffectLaws.{distinct-effect, effect-sorted, same_row-Decides}
use Rattle.rv_book.specs.declared.entry.Entry.{Entry}
use Rattle.rv_book.specs.declared.entry.Entry.TheVariants.{Act, Look, Retire}
use Rattle.rv_book.specs.Book.{Book, size, with_entry, empty_book, with_entries}
use Rattle.rv_book.specs.BookWordLaws.{size-with_entries, size-with_entry, up_to-with_entries, up_to-before, up_to-end}
use Rattle.rv_history.specs.Replay.{page_rows, rows_after, rows_of, IsPageVersion, Wrote, IsLastWrite, IsReplay}

-- the row of a key at a book
abbrev pub At : List ℕ → Book → Option Row
At k book = row_at k (rows_of book)

-- the rows after one more entry are the entry's step from those before
pub rows_of-with_entry : (book : Book) (e : Entry) → rows_of (with_entry book e) ≡ rows_after (rows_of book) e
rows_of-with_entry book e = fold_push rows_after (page_rows book.page) book.entries e

-- more entries leave what was written in the front
pub wrote_more : (book : Book) (more : List Entry) (k : List ℕ) (p : ℕ) → Wrote book k p → Wrote (with_entries book more) k p
wrote_more book more k p w = record {
  first = w.first;
  within = omega (arith, w.within, size-with_entries book more);
  stands = subst (λ (b : Book). IsSome (At k b)) (sym (up_to-with_entries p book more w.within)) w.stands;
  differs = λ same. w.differs (ap (At k) (sym (up_to-with_entries p book more w.within)) ∙ same ∙ ap (At k) (up_to-with_entries (p - 1) book more (omega (arith, w.within))));
}

pub wrote_less : (book : Book) (more : List Entry) (k : List ℕ) (p : ℕ) → Wrote (with_entries book more) k p → p ≤ size book → Wrote book k p
wrote_less book more k p w le = record {
  first = w.first;
  within = le;
  stands = subst (λ (b : Book). IsSome (At k b)) (up_to-with_entries p book more le) w.stands;
  differs = λ same. w.differs (ap (At k) (up_to-with_entries p book more le) ∙ same ∙ ap (At k) (sym (up_to-with_entries (p - 1) book more (omega (arith, le)))));
}

at_end : (book : Book) (e : Entry) (k : List ℕ) → Wrote (with_entry book e) k (size book + 1) → At k (with_entry book e) ≡ At k book → ⊥
at_end book e k w same = w.differs (ap (At k) (up_to-end book e) ∙ same ∙ ap (At k) (sym (up_to-before book e)))

-- a key that the entry leaves alone keeps its last write
kept_write : (book : Book) (e : Entry) (k : List ℕ) (p : ℕ) → At k (with_entry book e) ≡ At k book → IsLastWrite book k p → IsLastWrite (with_entry book e) k p
kept_write book e k p same w = record {
  wrote = elim w.wrote as (λ _. Wrote (with_entry book e) k p ⊎ IsPageVersion book.page k p) [ inl wrote ↦ inl (wrote_more book (e ∷ []) k p wrote) | inr version ↦ inr version ];
  last = λ later lt h. elim (cases_lt (size book) later) as (λ _. ⊥) [
    | inl above ↦ (let is : later ≡ size book + 1 = omega (arith, above, h.within, size-with_entry book e) in at_end book e k (subst (λ (n : ℕ). Wrote (with_entry book e) k n) is h) same)
    | inr le ↦ w.last later lt (wrote_less book (e ∷ []) k later h le)
  ];
}

-- a key whose row is another afterwards has the entry as its last write
new_write : (book : Book) (e : Entry) (k : List ℕ) (row : Row) → At k (with_entry book e) ≡ Some row → ¬ (Some row ≡ At k book) → IsLastWrite (with_entry book e) k (size book + 1)
new_write book e k row is differs = record {
  wrote = inl (record {
    first = omega arith;
    within = omega (arith, size-with_entry book e);
    stands = ap is_some (ap (At k) (up_to-end book e) ∙ is);
    differs = λ same. differs (sym is ∙ ap (At k) (sym (up_to-end book e)) ∙ same ∙ ap (At k) (up_to-before book e));
  });
  last = λ later lt h. absurd (omega (arith, lt, h.within, size-with_entry book e));
}

-- a last write is no place above the book's end
pub last_within : (book : Book) (k : List ℕ) (p : ℕ) → IsLastWrite book k p → p ≤ size book
last_within book k p w = elim w.wrote as (λ _. p ≤ size book) [ inl wrote ↦ wrote.within | inr version ↦ omega (arith, version.0) ]

-- a key has one last write
pub last_write_unique : (book : Book) (k : List ℕ) (a b : ℕ) → IsLastWrite book k a → IsLastWrite book k b → a ≡ b
last_write_unique book k a b first second =
    elim (cases_lt a b) as (λ _. a ≡ b) [
      | inl lt ↦ absurd (not_before a b first second lt)
      | inr le ↦ elim (cases_lt b a) as (λ _. a ≡ b) [ inl lt ↦ absurd (not_before b a second first lt) | inr ge ↦ omega (arith, le, ge) ]
    ]
  where
    version_once : (p q : ℕ) → IsPageVersion book.page k p → IsPageVersion book.page k q → p < q → ⊥
    version_once p q one other lt = let same : p ≡ q = same_Some p q (sym one.1 ∙ other.1) in omega (arith, lt, same)

    not_before : (p q : ℕ) → IsLastWrite book k p → IsLastWrite book k q → p < q → ⊥
    not_before p q one other lt =
        elim other.wrote as (λ _. ⊥) [
          | inl wrote ↦ one.last q lt wrote
          | inr version ↦ elim one.wrote as (λ _. ⊥) [
            | inl wrote ↦ omega (arith, lt, wrote.first, version.0)
            | inr earlier ↦ version_once p q earlier version lt
          ]
        ]

all_same : (book new : Book) (xs : List Stored) → ((q : List ℕ) (p : ℕ) → IsLastWrite book q p → IsLastWrite new q p)
    → AllByRecursion (λ s. IsLastWrite book (row_text s.0) s.1) xs → AllByRecursion (λ s. IsLastWrite new (row_text s.0) s.1) xs
all_same book new [] keeps all = tt
all_same book new (x ∷ xs) keeps all = (keeps (row_text x.0) x.1 all.0, all_same book new xs keeps all.1)

-- an entry that leaves all rows as they are
pub replay_same : (book : Book) (e : Entry) (stored : List Stored) → rows_of (with_entry book e) ≡ rows_of book → IsReplay book stored → IsReplay (with_entry book e) stored
replay_same book e stored same r = record {
  rows = r.rows ∙ ap in_key_order (sym same);
  versions = all_same book (with_entry book e) stored (λ q p w. kept_write book e q p (ap (row_at q) same) w) r.versions;
}

-- no two rows of a book have one key
distinct_after : (rows : List Row) (entries : List Entry) → Distinct row_text rows → Distinct row_text (fold rows_after rows entries)
distinct_after rows [] h = h
distinct_after rows (Act user group client id call ∷ entries) h = distinct_after (effect rows user call) entries (distinct-effect rows user call h)
distinct_after rows (Look user group order base ∷ entries) h = distinct_after rows entries h
distinct_after rows (Retire group ∷ entries) h = distinct_after rows entries h

pub distinct-rows_of : (book : Book) → Distinct row_text (rows_of book)
distinct-rows_of book = distinct_after (page_rows book.page) book.entries (distinct-sorted row_text (rows_in book.page.rows))

-- what is stored under a key is the book's row
pub stored_is : (book : Book) (stored : List Stored) (k : List ℕ) → IsReplay book stored → option_map (λ (s : Stored). s.0) (find k stored) ≡ row_at k (rows_of book)
stored_is book stored k r =
    find-map row_text (λ (s : Stored). s.0) k stored ∙ ap (row_at k) r.rows ∙ find-sorted row_text k (rows_of book) (distinct-rows_of book)

-- stored rows are in the order of their keys
stored_above : (k : List ℕ) (stored : List Stored) → AllByRecursion (λ row. slice_cmp nat_cmp k (row_text row) ≡ Less) (rows_in stored) → AllByRecursion (λ s. slice_cmp nat_cmp k (stored_key s) ≡ Less) stored
stored_above k [] all = tt
stored_above k (s ∷ ss) all = (all.0, stored_above k ss all.1)

rows_in_order : (stored : List Stored) → InOrder row_text (rows_in stored) → AreRows stored
rows_in_order [] h = tt
rows_in_order (s ∷ ss) h = (stored_above (row_text s.0) ss h.0, rows_in_order ss h.1)

pub stored_in_order : (book : Book) (stored : List Stored) → IsReplay book stored → AreRows stored
stored_in_order book stored r = rows_in_order stored (subst (λ (rows : List Row). InOrder row_text rows) (sym r.rows) (in_order-sorted row_text (rows_of book)))

-- what holds of each item holds of the one that is found
pub all_found : {X : Type 0} (key : X → List ℕ) (P : X → Type 0) (k : List ℕ) (xs : List X) (x : X) → AllByRecursion P xs → find_by key k xs ≡ Some x → P x × (k ≡ key x)
all_found key P k [] x all e = absurd (cc)
all_found key P k (y ∷ ys) x all e =
    elim (bytes_eq k (key y)) as (λ b. bytes_eq k (key y) ≡ b → cond b (Some y) (find_by key k ys) ≡ Some x → P x × (k ≡ key x)) [
      | true ↦ λ f g. (let same : y ≡ x = cc in (subst P same all.0, (bytes_eq-Decides k (key y)).0 f ∙ ap key same))
      | false ↦ λ f g. all_found key P k ys x all.1 g
    ] refl e

-- of items in order each is found by its key
pub each_found : {X : Type 0} (key : X → List ℕ) (xs : List X) → InOrder key xs → AllByRecursion (λ x. find_by key (key x) xs ≡ Some x) xs
each_found key [] h = tt
each_found {X = X} key (x ∷ xs) h = (rw (equals (key x)) refl, behind xs h.0 (each_found key xs h.1))
  where
    behind : (ys : List X) → AllByRecursion (λ y. slice_cmp nat_cmp (key x) (key y) ≡ Less) ys → AllByRecursion (λ y. find_by key (key y) xs ≡ Some y) ys → AllByRecursion (λ y. find_by key (key y) (x ∷ xs) ≡ Some y) ys
    behind [] low all = tt
    behind (y ∷ ys) low all = (rw (differs_back (key x) (key y) low.0) all.0, behind ys low.1 all.1)

-- a row that stands after an act has the version of its last write
version_is : (book : Book) (e : Entry) (stored : List Stored) (row : Row) → IsReplay book stored → At (row_text row) (with_entry book e) ≡ Some row
    → IsLastWrite (with_entry book e) (row_text row) (version_after (size book + 1) stored row)
version_is book e stored row r is =
    elim (find (row_text row) stored) as (λ o. find (row_text row) stored ≡ o → IsLastWrite (with_entry book e) (row_text row) (option_map_or (λ s. cond (same_row s.0 row) s.1 (size book + 1)) o (size book + 1))) [
      | None ↦ λ f. new_write book e (row_text row) row is (λ same. let none : row_at (row_text row) (rows_of book) ≡ None = sym (stored_is book stored (row_text row) r) ∙ ap (option_map (λ (s : Stored). s.0)) f in let both : Some row ≡ None = same ∙ none in cc)
      | Some s ↦ λ f. stood s f (sym (stored_is book stored (row_text row) r) ∙ ap (option_map (λ (s : Stored). s.0)) f)
    ] refl
  where
    stood : (s : Stored) → find (row_text row) stored ≡ Some s → At (row_text row) book ≡ Some s.0 → IsLastWrite (with_entry book e) (row_text row) (cond (same_row s.0 row) s.1 (size book + 1))
    stood s f was =
        elim (same_row s.0 row) as (λ b. same_row s.0 row ≡ b → IsLastWrite (with_entry book e) (row_text row) (cond b s.1 (size book + 1))) [
          | true ↦ λ g. kept_write book e (row_text row) s.1 (is ∙ ap (λ (x : Row). Some x) (sym ((same_row-Decides s.0 row).0 g)) ∙ sym was)
              (let w = all_found stored_key (λ (t : Stored). IsLastWrite book (row_text t.0) t.1) (row_text row) stored s r.versions f in subst (λ (k : List ℕ). IsLastWrite book k s.1) (sym w.1) w.0)
          | false ↦ λ g. new_write book e (row_text row) row is (λ same. let t : row ≡ s.0 = same_Some row s.0 (same ∙ was) in let u : same_row s.0 row ≡ true = (same_row-Decides s.0 row).1 (sym t) in let both : true ≡ false = sym u ∙ g in cc)
        ] refl

all_versions : (book : Book) (e : Entry) (stored : List Stored) (rows : List Row) → IsReplay book stored → AllByRecursion (λ row. At (row_text row) (with_entry book e) ≡ Some row) rows
    → AllByRecursion (λ (s : Stored). IsLastWrite (with_entry book e) (row_text s.0) s.1) (map (λ row. (row, version_after (size book + 1) stored row)) rows)
all_versions book e stored [] r all = tt
all_versions book e stored (row ∷ rows) r all = (version_is book e stored row r all.0, all_versions book e stored rows r all.1)

pub rows_kept : (version : ℕ) (stored : List Stored) (rows : List Row) → rows_in (map (λ row. (row, version_after version stored row)) rows) ≡ rows
rows_kept version stored [] = refl
rows_kept version stored (row ∷ rows) = ap (λ (t : List Row). row ∷ t) (rows_kept version stored rows)

-- rows that are found among some rows are found among others with the same keys
all_at : (xs others rows : List Row) → ((k : List ℕ) → row_at k xs ≡ row_at k others) → AllByRecursion (λ row. row_at (row_text row) xs ≡ Some row) rows → AllByRecursion (λ row. row_at (row_text row) others ≡ Some row) rows
all_at xs others [] same all = tt
all_at xs others (row ∷ rows) same all = (sym (same (row_text row)) ∙ all.0, all_at xs others rows same all.1)

pub each_at : (book : Book) → AllByRecursion (λ row. At (row_text row) book ≡ Some row) (in_key_order (rows_of book))
each_at book = all_at (in_key_order (rows_of book)) (rows_of book) (in_key_order (rows_of book)) (λ k. find-sorted row_text k (rows_of book) (distinct-rows_of book))
    (each_found row_text (in_key_order (rows_of book)) (in_order-sorted row_text (rows_of book)))

-- the rows in key order after an act
rows_next : (book : Book) (stored : List Stored) (user group client : List ℕ) (id : ℕ) (call : Call) → IsReplay book stored
    → in_key_order (effect (rows_in stored) user call) ≡ in_key_order (rows_of (with_entry book (Act user group client id call)))
rows_next book stored user group client id call r =
    ap (λ (rows : List Row). in_key_order (effect rows user call)) r.rows ∙ effect-sorted (rows_of book) user call (distinct-rows_of book)
    ∙ ap in_key_order (sym (rows_of-with_entry book (Act user group client id call)))

-- an act
pub replay_act : (book : Book) (stored : List Stored) (user group client : List ℕ) (id : ℕ) (call : Call) → IsReplay book stored
    → IsReplay (with_entry book (Act user group client id call)) (after stored user call (size book + 1))
replay_act book stored user group client id call r =
    let e : Entry = Act user group client id call in
    let next = rows_next book stored user group client id call r in
    record {
      rows = rows_kept (size book + 1) stored (in_key_order (effect (rows_in stored) user call)) ∙ next;
      versions = all_versions book e stored (in_key_order (effect (rows_in stored) user call)) r
          (subst (λ (rows : List Row). AllByRecursion (λ row. At (row_text row) (with_entry book e) ≡ Some row) rows) (sym next) (each_at (with_entry book e)));
    }

pub replay_look : (book : Book) (stored : List Stored) (user group : List ℕ) (order : ℕ) (base : Option ℕ) → IsReplay book stored → IsReplay (with_entry book (Look user group order base)) stored
replay_look book stored user group order base r = replay_same book (Look user group order base) stored (rows_of-with_entry book _) r

pub replay_retire : (book : Book) (stored : List Stored) (group : List ℕ) → IsReplay book stored → IsReplay (with_entry book (Retire group)) stored
replay_retire book stored group r = replay_same book (Retire group) stored (rows_of-with_entry book _) r

pub replay_none : IsReplay empty_book []
replay_none = record { rows = refl; versions = tt }
