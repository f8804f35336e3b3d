-- The patch since a place is told by the keys that the user sees there and now, with the versions of their rows.
use Rattle.std.proofs.Common.{◌≡◌, ℕ, suc, length, Bool, true, false, cond, not, ◌&&◌, ◌||◌, ◌==◌, List, [], ◌∷◌, ◌++◌, map, Option, Some, None, refl, sym, ap, ◌∙◌, subst}
use Rattle.std.specs.List.{AllByRecursion, filter, filter_map, list_any}
use Rattle.std.specs.Option.{option_map, option_map_or}
use Rattle.std.specs.Str.{bytes_eq}
use Rattle.std.proofs.lemmas.Option.{same_Some}
use Rattle.std.proofs.lemmas.Slice.Eq.{bytes_eq-Decides}
use Rattle.rv_base.specs.Sorted.{Distinct}
use Rattle.rv_base.specs.ArrangedLaws.{distinct-in_order, distinct-filter, find-filter, find-map}
use Rattle.rv_rows.specs.declared.key.Key.{Key}
use Rattle.rv_rows.specs.declared.row.Row.{Row}
use Rattle.rv_rows.specs.Keys.{key_text, row_key, row_text, row_at, has_row, in_key_order}
use Rattle.rv_rows.specs.Held.{Stored, stored_key, find, rows_in}
use Rattle.rv_rows.specs.Sharing.{sees_row, seen}
use Rattle.rv_rows.specs.EffectLaws.{sees_row-sorted}
use Rattle.rv_turns.specs.declared.op.Op.{Op}
use Rattle.rv_turns.specs.declared.op.Op.TheVariants.{Clear, Del, Put}
use Rattle.rv_sharing.specs.Visible.{visible}
use Rattle.rv_book.specs.declared.entry.Entry.{Entry}
use Rattle.rv_book.specs.Book.{Book, since, up_to}
use Rattle.rv_history.specs.Replay.{rows_of, IsReplay}
use Rattle.rv_news.specs.Shows.{put_of}
use Rattle.rv_history.specs.History.{is_touched, is_absent, is_news, patch_since}
use Rattle.rv_history.specs.ReplayLaws.{distinct-rows_of, stored_in_order, stored_is, each_found, each_at}
use Rattle.rv_history.specs.PatchLaws.{bytes_eq-sym, passed, absent_is, news_absent, news_present}
use Rattle.rv_news.proofs.Versions.{versions_match}

-- the keys at the base that are not among those now
abbrev pub gone_keys : List (Key × ℕ) → List (Key × ℕ) → List Key
gone_keys base now = map (λ pair. pair.0) (filter (λ pair. not (list_any (λ other. bytes_eq (key_text other.0) (key_text pair.0)) now)) base)

-- the keys now that are not among those at the base with the same version
abbrev pub news_keys : List (Key × ℕ) → List (Key × ℕ) → List Key
news_keys base now = map (λ pair. pair.0) (filter (λ pair. not (list_any (λ other. bytes_eq (key_text other.0) (key_text pair.0) && (other.1 == pair.1)) base)) now)

abbrev pair : Stored → Key × ℕ
pair s = (row_key s.0, s.1)

-- the stored rows that the user sees
abbrev sighted : List ℕ → List Stored → List Stored
sighted user stored = filter (λ s. sees_row user (rows_in stored) s.0) stored

all_each : {X : Type 0} (P : X → Type 0) (xs : List X) → ((x : X) → P x) → AllByRecursion P xs
all_each P [] each = tt
all_each P (x ∷ xs) each = (each x, all_each P xs each)

all_to : {X : Type 0} (P Q : X → Type 0) (xs : List X) → ((x : X) → P x → Q x) → AllByRecursion P xs → AllByRecursion Q xs
all_to P Q [] to all = tt
all_to P Q (x ∷ xs) to all = (to x all.0, all_to P Q xs to all.1)

all_filter : {X : Type 0} (P : X → Type 0) (p : X → Bool) (xs : List X) → AllByRecursion P xs → AllByRecursion P (filter p xs)
all_filter P p [] all = tt
all_filter P p (x ∷ xs) all = elim (p x) as (λ b. AllByRecursion P (cond b (x ∷ filter p xs) (filter p xs))) [ true ↦ (all.0, all_filter P p xs all.1) | false ↦ all_filter P p xs all.1 ]

rows_filter : (p : Row → Bool) (xs : List Stored) → rows_in (filter (λ s. p s.0) xs) ≡ filter p (rows_in xs)
rows_filter p [] = refl
rows_filter p (x ∷ xs) =
    elim (p x.0) as (λ b. rows_in (cond b (x ∷ filter (λ s. p s.0) xs) (filter (λ s. p s.0) xs)) ≡ cond b (x.0 ∷ filter p (rows_in xs)) (filter p (rows_in xs))) [
      | true ↦ ap (λ (t : List Row). x.0 ∷ t) (rows_filter p xs)
      | false ↦ rows_filter p xs
    ]

-- their rows are those that the user sees at the book
sighted_rows : (user : List ℕ) (book : Book) (stored : List Stored) → IsReplay book stored → rows_in (sighted user stored) ≡ seen user (rows_of book)
sighted_rows user book stored r =
    rows_filter (sees_row user (rows_in stored)) stored
    ∙ ap (λ (rows : List Row). filter (sees_row user rows) rows) r.rows
    ∙ (λ i. filter (λ row. sees_row-sorted user (rows_of book) (distinct-rows_of book) row i) (in_key_order (rows_of book)))

-- as many as the keys that the user sees
pub visible_size : (user : List ℕ) (book : Book) (stored : List Stored) → IsReplay book stored → length (visible user stored) ≡ length (seen user (rows_of book))
visible_size user book stored r =
    pairs (sighted user stored) ∙ sym (rows (sighted user stored)) ∙ ap length (sighted_rows user book stored r)
  where
    pairs : (xs : List Stored) → length (map pair xs) ≡ length xs
    pairs [] = refl
    pairs (x ∷ xs) = ap suc (pairs xs)

    rows : (xs : List Stored) → length (rows_in xs) ≡ length xs
    rows [] = refl
    rows (x ∷ xs) = ap suc (rows xs)

-- the keys of stored rows that pass a test, told by their pairs or by their rows
keys_filter : (p : Key × ℕ → Bool) (q : Row → Bool) (xs : List Stored) → AllByRecursion (λ s. p (pair s) ≡ q s.0) xs → map (λ x. x.0) (filter p (map pair xs)) ≡ map row_key (filter q (rows_in xs))
keys_filter p q [] all = refl
keys_filter p q (x ∷ xs) all =
    ap (λ (b : Bool). map (λ (y : Key × ℕ). y.0) (cond b (pair x ∷ filter p (map pair xs)) (filter p (map pair xs)))) all.0
    ∙ elim (q x.0) as (λ b. map (λ (y : Key × ℕ). y.0) (cond b (pair x ∷ filter p (map pair xs)) (filter p (map pair xs))) ≡ map row_key (cond b (x.0 ∷ filter q (rows_in xs)) (filter q (rows_in xs)))) [
      | true ↦ ap (λ (t : List Key). row_key x.0 ∷ t) (keys_filter p q xs all.1)
      | false ↦ keys_filter p q xs all.1
    ]

any_key : (k : List ℕ) (xs : List Stored) → list_any (λ other. bytes_eq (key_text other.0) k) (map pair xs) ≡ has_row k (rows_in xs)
any_key k [] = refl
any_key k (x ∷ xs) = λ i. bytes_eq-sym (row_text x.0) k i || any_key k xs i

key_absent : (now : List Stored) (s : Stored) → not (list_any (λ other. bytes_eq (key_text other.0) (row_text s.0)) (map pair now)) ≡ is_absent (rows_in now) s.0
unfolding is_absent
key_absent now s = ap not (any_key (row_text s.0) now)

-- among rows of which no two have one key, one has a key and a version exactly where the one with the key has the version
or_false : (b : Bool) → (b || false) ≡ b
or_false true = refl
or_false false = refl

first_or : (f : Stored → Bool) (b : Bool) (x : Stored) (o : Option Stored) → (b ≡ true → o ≡ None) → ((b && f x) || option_map_or f o false) ≡ option_map_or f (cond b (Some x) o) false
first_or f true x o none = rw (none refl) (or_false (f x))
first_or f false x o none = refl

any_same : (k : List ℕ) (v : ℕ) (xs : List Stored) → Distinct stored_key xs → list_any (λ other. bytes_eq (key_text other.0) k && (other.1 == v)) (map pair xs) ≡ option_map_or (λ (s : Stored). s.1 == v) (find k xs) false
any_same k v [] h = refl
any_same k v (x ∷ xs) h =
    (λ i. (bytes_eq-sym (row_text x.0) k i && (x.1 == v)) || any_same k v xs h.1 i)
    ∙ first_or (λ (s : Stored). s.1 == v) (bytes_eq k (row_text x.0)) x (find k xs) (λ e. subst (λ (t : List ℕ). find t xs ≡ None) (sym ((bytes_eq-Decides k (row_text x.0)).0 e)) h.0)

-- a row is news exactly where its key does not stand at the base with its version
news_match : (rows : List Row) (since : List Entry) (base : List Stored) (s : Stored) → Distinct stored_key base
    → ((was : Stored) → find (row_text s.0) base ≡ Some was → is_touched (row_text s.0) rows since ≡ not (was.1 == s.1))
    → not (list_any (λ other. bytes_eq (key_text other.0) (row_text s.0) && (other.1 == s.1)) (map pair base)) ≡ is_news (rows_in base) rows since s.0
news_match rows since base s h told =
    let k : List ℕ = row_text s.0 in
    let at : row_at k (rows_in base) ≡ option_map (λ (t : Stored). t.0) (find k base) = sym (find-map row_text (λ (t : Stored). t.0) k base) in
    ap not (any_same k s.1 base h)
    ∙ elim (find k base) as (λ o. find k base ≡ o → not (option_map_or (λ (t : Stored). t.1 == s.1) o false) ≡ is_news (rows_in base) rows since s.0) [
      | None ↦ λ e. sym (news_absent (rows_in base) rows since s.0 (absent_is (rows_in base) s.0 k None (at ∙ ap (option_map (λ (t : Stored). t.0)) e) refl))
      | Some was ↦ λ e. sym (told was e) ∙ sym (news_present (rows_in base) rows since s.0 (absent_is (rows_in base) s.0 k (Some was.0) (at ∙ ap (option_map (λ (t : Stored). t.0)) e) refl))
    ] refl

-- the keys of the dels
pub dels_are : (user : List ℕ) (book : Book) (place : ℕ) (stored earlier : List Stored) → IsReplay book stored → IsReplay (up_to place book) earlier
    → gone_keys (visible user earlier) (visible user stored) ≡ map row_key (filter (is_absent (seen user (rows_of book))) (seen user (rows_of (up_to place book))))
dels_are user book place stored earlier r q =
    keys_filter (λ pair. not (list_any (λ other. bytes_eq (key_text other.0) (key_text pair.0)) (visible user stored))) (is_absent (rows_in (sighted user stored))) (sighted user earlier)
    (all_each _ (sighted user earlier) (λ s. key_absent (sighted user stored) s))
    ∙ (λ i. map row_key (filter (is_absent (sighted_rows user book stored r i)) (sighted_rows user (up_to place book) earlier q i)))

-- the keys of the puts
pub puts_are : (user : List ℕ) (book : Book) (place : ℕ) (stored earlier : List Stored) → IsReplay book stored → IsReplay (up_to place book) earlier
    → news_keys (visible user earlier) (visible user stored) ≡ map row_key (filter (is_news (seen user (rows_of (up_to place book))) (rows_of (up_to place book)) (since place book)) (seen user (rows_of book)))
puts_are user book place stored earlier r q =
    let rows : List Row = rows_of (up_to place book) in
    let since : List Entry = since place book in
    let base : List Stored = sighted user earlier in
    let apart : Distinct stored_key earlier = distinct-in_order stored_key earlier (stored_in_order (up_to place book) earlier q) in
    let sight : Stored → Bool = λ (s : Stored). sees_row user (rows_in earlier) s.0 in
    keys_filter (λ pair. not (list_any (λ other. bytes_eq (key_text other.0) (key_text pair.0) && (other.1 == pair.1)) (visible user earlier))) (is_news (rows_in base) rows since) (sighted user stored)
    (all_to (λ (s : Stored). find (stored_key s) stored ≡ Some s) _ (sighted user stored)
    (λ s found. news_match rows since base s (distinct-filter stored_key sight earlier apart)
    (λ was e. versions_match book place stored earlier (row_text s.0) s was r q found (passed sight (find (row_text s.0) earlier) was (sym (find-filter stored_key sight (row_text s.0) earlier apart) ∙ e))))
    (all_filter (λ (s : Stored). find (stored_key s) stored ≡ Some s) (λ (s : Stored). sees_row user (rows_in stored) s.0) stored (each_found stored_key stored (stored_in_order book stored r))))
    ∙ (λ i. map row_key (filter (is_news (sighted_rows user (up_to place book) earlier q i) rows since) (sighted_rows user book stored r i)))

-- the dels and the puts of keys are those of their rows
dels_of : (rows : List Row) → map (λ (row : Row). Del (row_key row)) rows ≡ map (λ (key : Key). Del key) (map row_key rows)
dels_of [] = refl
dels_of (row ∷ rows) = ap (λ (t : List Op). Del (row_key row) ∷ t) (dels_of rows)

put_is : (o : Option Stored) (row : Row) → option_map (λ (s : Stored). s.0) o ≡ Some row → option_map (λ (s : Stored). Put s.0) o ≡ Some (Put row)
put_is None row e = absurd (cc)
put_is (Some s) row e = ap (λ (r : Row). Some (Put r)) (same_Some s.0 row e)

puts_of : (stored : List Stored) (rows : List Row) → AllByRecursion (λ row. option_map (λ (s : Stored). s.0) (find (row_text row) stored) ≡ Some row) rows
    → filter_map (put_of stored) (map row_key rows) ≡ map (λ row. Put row) rows
puts_of stored [] all = refl
puts_of stored (row ∷ rows) all = rw (put_is (find (row_text row) stored) row all.0) (ap (λ (t : List Op). Put row ∷ t) (puts_of stored rows all.1))

-- each row that the user sees is stored under its key
seen_stored : (user : List ℕ) (book : Book) (stored : List Stored) → IsReplay book stored → AllByRecursion (λ row. option_map (λ (s : Stored). s.0) (find (row_text row) stored) ≡ Some row) (seen user (rows_of book))
seen_stored user book stored r =
    all_to (λ (row : Row). row_at (row_text row) (rows_of book) ≡ Some row) _ (seen user (rows_of book)) (λ row e. stored_is book stored (row_text row) r ∙ e)
    (all_filter (λ (row : Row). row_at (row_text row) (rows_of book) ≡ Some row) (sees_row user (rows_of book)) (in_key_order (rows_of book)) (each_at book))

-- the whole patch since a place, by the keys and versions there and now, and the rows that are stored now
pub patch_by_keys : (user : List ℕ) (book : Book) (place : ℕ) (stored earlier : List Stored) → IsReplay book stored → IsReplay (up_to place book) earlier
    → patch_since user book (Some place) ≡ map (λ key. Del key) (gone_keys (visible user earlier) (visible user stored)) ++ filter_map (put_of stored) (news_keys (visible user earlier) (visible user stored))
patch_by_keys user book place stored earlier r q =
    let base : List Row = seen user (rows_of (up_to place book)) in
    let now : List Row = seen user (rows_of book) in
    let news : Row → Bool = is_news base (rows_of (up_to place book)) (since place book) in
    let dels = dels_of (filter (is_absent now) base) ∙ ap (map (λ (key : Key). Del key)) (sym (dels_are user book place stored earlier r q)) in
    let puts = sym (puts_of stored (filter news now) (all_filter _ news now (seen_stored user book stored r))) ∙ ap (filter_map (put_of stored)) (sym (puts_are user book place stored earlier r q)) in
    (λ i. dels i ++ puts i)

pairs_keys : (xs : List Stored) → map (λ (x : Key × ℕ). x.0) (map pair xs) ≡ map row_key (rows_in xs)
pairs_keys [] = refl
pairs_keys (x ∷ xs) = ap (λ (t : List Key). row_key x.0 ∷ t) (pairs_keys xs)

-- and without a base
pub patch_anew_by_keys : (user : List ℕ) (book : Book) (stored : List Stored) → IsReplay book stored
    → patch_since user book None ≡ Clear ∷ filter_map (put_of stored) (map (λ pair. pair.0) (visible user stored))
patch_anew_by_keys user book stored r =
    ap (λ (t : List Op). Clear ∷ t) (sym (puts_of stored (seen user (rows_of book)) (seen_stored user book stored r))
    ∙ ap (filter_map (put_of stored)) (ap (map row_key) (sym (sighted_rows user book stored r)) ∙ sym (pairs_keys (sighted user stored))))
