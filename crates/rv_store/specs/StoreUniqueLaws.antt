-- A book has one replay, one view of a user and a group, one list of records, and so one list of cells.
use Rattle.std.proofs.Common.{◌≡◌, ℕ, ◌<◌, ◌≤◌, ◌==◌, true, false, cond, List, [], ◌∷◌, Option, Some, None, refl, sym, ap, ◌∙◌, subst, arith, inl, inr}
use Rattle.std.specs.List.{AllByRecursion, find}
use Rattle.std.specs.Option.{option_map}
use Rattle.std.proofs.lemmas.Bool.{cases_lt}
use Rattle.std.proofs.lemmas.Bool.Decides.{Decides-eqb}
use Rattle.std.proofs.lemmas.Option.{none-some, same_Some}
use Rattle.rv_rows.specs.declared.row.Row.{Row}
use Rattle.rv_rows.specs.Held.{Stored, rows_in}
use Rattle.rv_rows.specs.Keys.{row_text}
use Rattle.rv_views.specs.Viewed.{Viewed}
use Rattle.rv_book.specs.Book.{Book, up_to}
use Rattle.rv_book.specs.Kept.{kept}
use Rattle.rv_history.specs.Replay.{IsLastWrite, IsReplay}
use Rattle.rv_history.specs.OpeningLaws.{replay_unique}
use Rattle.rv_news.specs.Records.{AreRecords, IsRecord, IsViewAt, Placed, Rise, record_at}
use Rattle.rv_news.specs.KeptRecordLaws.{record_found}
use Rattle.rv_keeper.specs.declared.cell.Cell.{Cell}
use Rattle.rv_store.specs.StoreCells.{AreDerived, derived_cells}

both_ways : (a b : ℕ) → a ≤ b → b ≤ a → a ≡ b
both_ways a b le ge = omega arith

-- a user and a group see one view at a book
pub view_unique : (book : Book) (user group : List ℕ) (a b : Viewed) → IsViewAt book user group a → IsViewAt book user group b → a ≡ b
view_unique book user group a b one other =
    let stored = replay_unique book one.stored other.stored one.replay other.replay in
    let rows : a.rows ≡ b.rows = cc (stored, one.rows, other.rows) in
    let clients : a.clients ≡ b.clients = one.clients ∙ sym other.clients in
    (λ i. record { rows = rows i; clients = clients i })

-- there is one record at a place
pub record_unique : (book : Book) (place : ℕ) (a b : Viewed) → IsRecord book place a → IsRecord book place b → a ≡ b
record_unique book place a b one other =
    let looks : ◌≡◌ {A = Option (List ℕ × List ℕ × ℕ)} (Some (one.user, one.group, one.order)) (Some (other.user, other.group, other.order)) = sym one.looked ∙ other.looked in
    let look = same_Some (one.user, one.group, one.order) (other.user, other.group, other.order) looks in
    view_unique (up_to place book) other.user other.group a b
    (subst (λ (l : List ℕ × List ℕ × ℕ). IsViewAt (up_to place book) l.0 l.1 a) look one.shown) other.shown

-- no record stands at a place from which all of them are apart
none_there : (P : Placed → Type 0) (place : ℕ) (xs : List Placed) → ((r : Placed) → P r → ¬ (r.0 ≡ place)) → AllByRecursion P xs → record_at place xs ≡ None
none_there P place [] apart all = refl
none_there P place (x ∷ xs) apart all =
    elim (x.0 == place) as (λ b. (x.0 == place) ≡ b → option_map (λ r. r.1) (cond b (Some x) (find (λ r. r.0 == place) xs)) ≡ None) [
      | true ↦ λ e. absurd (apart x all.0 ((Decides-eqb x.0 place).0 e))
      | false ↦ λ e. none_there P place xs apart all.1
    ] refl

none_before : (place : ℕ) (y : Placed) (ys : List Placed) → place < y.0 → Rise (y ∷ ys) → record_at place (y ∷ ys) ≡ None
none_before place y ys lt rise =
    elim (y.0 == place) as (λ b. (y.0 == place) ≡ b → option_map (λ r. r.1) (cond b (Some y) (find (λ r. r.0 == place) ys)) ≡ None) [
      | true ↦ λ e. absurd (let is : y.0 ≡ place = (Decides-eqb y.0 place).0 e in omega arith)
      | false ↦ λ e. none_there (λ r. y.0 < r.0) place ys (λ r above is. omega arith) rise.0
    ] refl

none_below : (place : ℕ) (xs : List Placed) → AllByRecursion (λ r. place < r.0) xs → record_at place xs ≡ None
none_below place xs all = none_there (λ r. place < r.0) place xs (λ r lt is. omega arith) all

first_there : (x : Placed) (xs : List Placed) → record_at x.0 (x ∷ xs) ≡ Some x.1
first_there x xs = rw ((Decides-eqb x.0 x.0).1 refl) refl

-- after one record that both have, the others are the same too
later_same : (x : Placed) (xs ys : List Placed) → AllByRecursion (λ r. x.0 < r.0) xs → AllByRecursion (λ r. x.0 < r.0) ys → ((p : ℕ) → record_at p (x ∷ xs) ≡ record_at p (x ∷ ys)) → (p : ℕ) → record_at p xs ≡ record_at p ys
later_same x xs ys all also same p =
    elim (x.0 == p) as (λ b. (x.0 == p) ≡ b → option_map (λ r. r.1) (cond b (Some x) (find (λ r. r.0 == p) xs)) ≡ option_map (λ r. r.1) (cond b (Some x) (find (λ r. r.0 == p) ys)) → record_at p xs ≡ record_at p ys) [
      | true ↦ λ e h. subst (λ (q : ℕ). record_at q xs ≡ record_at q ys) ((Decides-eqb x.0 p).0 e) (none_below x.0 xs all ∙ sym (none_below x.0 ys also))
      | false ↦ λ e h. h
    ] refl (same p)

-- the first of one list does not stand before the first of the other
not_before : (x y : Placed) (xs ys : List Placed) → Rise (y ∷ ys) → record_at x.0 (x ∷ xs) ≡ record_at x.0 (y ∷ ys) → y.0 ≤ x.0
not_before x y xs ys rise same =
    elim (cases_lt x.0 y.0) as (λ _. y.0 ≤ x.0) [
      | inl lt ↦ absurd (none-some x.1 (sym (none_before x.0 y ys lt rise) ∙ sym same ∙ first_there x xs))
      | inr le ↦ le
    ]

-- lists that rise, with the same record at each place, are equal
rise_same : (xs ys : List Placed) → Rise xs → Rise ys → ((p : ℕ) → record_at p xs ≡ record_at p ys) → xs ≡ ys
rise_same [] [] rise also same = refl
rise_same [] (y ∷ ys) rise also same = absurd (none-some y.1 (same y.0 ∙ first_there y ys))
rise_same (x ∷ xs) [] rise also same = absurd (none-some x.1 (sym (same x.0) ∙ first_there x xs))
rise_same (x ∷ xs) (y ∷ ys) rise also same =
    let place : x.0 ≡ y.0 = both_ways x.0 y.0 (not_before y x ys xs rise (sym (same y.0))) (not_before x y xs ys also (same x.0)) in
    let viewed : x.1 ≡ y.1 = same_Some x.1 y.1 (sym (first_there x xs) ∙ same x.0 ∙ ap (λ (p : ℕ). record_at p (y ∷ ys)) place ∙ first_there y ys) in
    let is : x ≡ y = (λ i. (place i, viewed i)) in
    let above : AllByRecursion (λ r. x.0 < r.0) ys = subst (λ (p : ℕ). AllByRecursion (λ r. p < r.0) ys) (sym place) also.0 in
    let alike : (p : ℕ) → record_at p (x ∷ xs) ≡ record_at p (x ∷ ys) = subst (λ (z : Placed). (p : ℕ) → record_at p (x ∷ xs) ≡ record_at p (z ∷ ys)) (sym is) same in
    let rest = rise_same xs ys rise.1 also.1 (later_same x xs ys rise.0 above alike) in
    (λ i. is i ∷ rest i)

-- where no look is kept, no record stands
none_kept : (book : Book) (xs : List Placed) (place : ℕ) → kept place book ≡ false → AllByRecursion (λ r. IsRecord book r.0 r.1) xs → record_at place xs ≡ None
none_kept book xs place gone all =
    none_there (λ r. IsRecord book r.0 r.1) place xs (λ r is same. let both : true ≡ false = sym is.kept ∙ ap (λ (p : ℕ). kept p book) same ∙ gone in absurd (cc)) all

same_at : (book : Book) (a b : List Placed) → AreRecords book a → AreRecords book b → (place : ℕ) → record_at place a ≡ record_at place b
same_at book a b one other place =
    elim (kept place book) as (λ t. kept place book ≡ t → record_at place a ≡ record_at place b) [
      | true ↦ λ stays.
          let first = record_found book a place one stays in
          let second = record_found book b place other stays in
          first.1 ∙ ap (λ (v : Viewed). Some v) (record_unique book place first.0 second.0 first.2 second.2) ∙ sym second.1
      | false ↦ λ gone. none_kept book a place gone one.each ∙ sym (none_kept book b place gone other.each)
    ] refl

-- a book has one list of records
pub records_unique : (book : Book) (a b : List Placed) → AreRecords book a → AreRecords book b → a ≡ b
records_unique book a b one other = rise_same a b one.rise other.rise (same_at book a b one other)

-- and one list of those that follow from its entries
pub derived_unique : (book : Book) (a b : List Cell) → AreDerived book a → AreDerived book b → a ≡ b
derived_unique book a b one other =
    let rows = replay_unique book one.rows other.rows one.replay other.replay in
    let records = records_unique book one.records other.records one.kept other.kept in
    one.made ∙ (λ i. derived_cells book (rows i) (records i)) ∙ sym other.made
