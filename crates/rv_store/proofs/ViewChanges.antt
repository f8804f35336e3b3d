-- The changes of view records that a look and a retirement make: they leave the cells of the records afterwards.
use Rattle.std.proofs.Common.{◌≡◌, ℕ, zero, suc, ◌+◌, ◌^◌, ◌<◌, ◌≤◌, ◌==◌, Bool, true, false, cond, not, ◌&&◌, ◌||◌, nat_lt, List, [], ◌∷◌, ◌++◌, Option, Some, None, refl, sym, ap, ◌∙◌, arith, map}
use Rattle.std.specs.declared.cmp.Ordering.TheVariants.{Greater}
use Rattle.std.specs.Cmp.Lexicographic.{slice_cmp}
use Rattle.std.specs.List.{AllByRecursion, filter, fold, range_with_len, find}
use Rattle.std.specs.Option.{option_map_or}
use Rattle.std.specs.Ordering.{nat_cmp, ordering_reverse}
use Rattle.std.specs.Str.{bytes_eq}
use Rattle.std.proofs.lemmas.Bool.Decides.{Decides-eqb}
use Rattle.std.proofs.lemmas.Cmp.{nat_list_cmp_total}
use Rattle.std.proofs.lemmas.Option.{same_Some}
use Rattle.std.proofs.lemmas.List.Sums.{fold-append}
use Rattle.std.proofs.lemmas.Slice.Eq.{bytes_eq-Decides}
use Rattle.rv_base.specs.Sorted.{put_by, without, InOrder, Below}
use Rattle.rv_base.specs.PositionLaws.{differs_back, equals, not_same, without_above}
use Rattle.rv_views.specs.Viewed.{Viewed}
use Rattle.rv_book.specs.declared.entry.Entry.TheVariants.{Retire}
use Rattle.rv_book.specs.Book.{Book, size, with_entry, retired}
use Rattle.rv_book.specs.Kept.{kept, is_look_at, later_looks, falls_at, falls_out, is_place}
use Rattle.rv_book.specs.LookLaws.{kept-look, kept-with_entry}
use Rattle.rv_news.specs.Records.{Placed, IsRecord}
use Rattle.rv_keeper.specs.declared.cell.Cell.{Cell}
use Rattle.rv_keeper.specs.declared.change.Change.TheVariants.{Put, Remove}
use Rattle.rv_keeper.specs.Cells.{changed_by, changed}
use Rattle.rv_record.specs.CellTexts.{ten_digits, view_cell}
use Rattle.rv_record.specs.PlaceOrderLaws.{ten_digits-order, ten_digits-injective}
use Rattle.rv_store.specs.StoreCells.{view_cells}
use Rattle.rv_store.specs.StoreOrderLaws.{record_key}
use Rattle.rv_store.specs.ShelfLaws.{all-filter, put-cells, without-cells}
use Rattle.rv_store.specs.EntryChanges.{gone_view, gone_views}

module _ {X : Type 0} (key : X → List ℕ) where
  -- an item above all others is put at the end
  pub put-end : (x : X) (xs : List X) → AllByRecursion (λ y. Below (key y) (key x)) xs → put_by key x xs ≡ xs ++ x ∷ []
  put-end x [] below = refl
  put-end x (y ∷ ys) below =
      let above : slice_cmp nat_cmp (key x) (key y) ≡ Greater = nat_list_cmp_total.antisymm (key x) (key y) ∙ ap ordering_reverse below.0 in
      rw above (ap (λ (zs : List X). y ∷ zs) (put-end x ys below.1))

  -- the keys of some of the items are removed one by one: those items go
  removed-past : (x : X) (ys zs : List X) → AllByRecursion (λ y. bytes_eq (key y) (key x) ≡ false) ys → fold (λ t y. without key (key y) t) (x ∷ zs) ys ≡ x ∷ fold (λ t y. without key (key y) t) zs ys
  removed-past x [] zs apart = refl
  removed-past x (y ∷ ys) zs apart =
      ap (λ (b : Bool). fold (λ t y. without key (key y) t) (cond (not b) (x ∷ without key (key y) zs) (without key (key y) zs)) ys) apart.0 ∙ removed-past x ys (without key (key y) zs) apart.1

  above-apart : (x : X) (ys : List X) → AllByRecursion (λ y. Below (key x) (key y)) ys → AllByRecursion (λ y. bytes_eq (key y) (key x) ≡ false) ys
  above-apart x [] above = tt
  above-apart x (y ∷ ys) above = (differs_back (key x) (key y) above.0, above-apart x ys above.1)

  pub removed-passing : (p : X → Bool) (xs : List X) → InOrder key xs → fold (λ t y. without key (key y) t) xs (filter p xs) ≡ filter (λ x. not (p x)) xs
  removed-passing p [] order = refl
  removed-passing p (x ∷ xs) order =
      elim (p x) as (λ b. fold (λ t y. without key (key y) t) (x ∷ xs) (cond b (x ∷ filter p xs) (filter p xs)) ≡ cond (not b) (x ∷ filter (λ x. not (p x)) xs) (filter (λ x. not (p x)) xs)) [
        | true ↦
            ap (λ (b : Bool). fold (λ t y. without key (key y) t) (cond (not b) (x ∷ without key (key x) xs) (without key (key x) xs)) (filter p xs)) (equals (key x))
            ∙ ap (λ (zs : List X). fold (λ t y. without key (key y) t) zs (filter p xs)) (without_above key (key x) xs order.0)
            ∙ removed-passing p xs order.1
        | false ↦ removed-past x (filter p xs) xs (all-filter _ p xs (above-apart x xs order.0)) ∙ ap (λ (zs : List X). x ∷ zs) (removed-passing p xs order.1)
      ]

-- tests that agree at each item
pub filter-same : {X : Type 0} (p q : X → Bool) (xs : List X) → AllByRecursion (λ x. p x ≡ q x) xs → filter p xs ≡ filter q xs
filter-same p q [] same = refl
filter-same p q (x ∷ xs) same = (λ i. cond (same.0 i) (x ∷ filter-same p q xs same.1 i) (filter-same p q xs same.1 i))

all_stay : {X : Type 0} (xs : List X) → xs ≡ filter (λ _. true) xs
all_stay [] = refl
all_stay {X = X} (x ∷ xs) = ap (λ (ys : List X). x ∷ ys) (all_stay xs)

-- the records of some looks are removed
views-removed : (gone records : List Placed) → changed (view_cells records) (map (λ r. Remove 5 (ten_digits r.0)) gone) ≡ view_cells (fold (λ t r. without record_key (record_key r) t) records gone)
views-removed [] records = refl
views-removed (r ∷ gone) records =
    ap (λ (cells : List Cell). changed cells (map (λ r. Remove 5 (ten_digits r.0)) gone)) (without-cells record_key 5 (λ r. view_cell r.0 r.1) (λ r. refl) (record_key r) records)
    ∙ views-removed gone (without record_key (record_key r) records)

pub gone_views-leave : (group : List ℕ) (book : Book) (records : List Placed) → InOrder record_key records → changed (view_cells records) (gone_views group book records) ≡ view_cells (filter (λ r. not (is_look_at group book r.0)) records)
gone_views-leave group book records order =
    views-removed (filter (λ r. is_look_at group book r.0) records) records ∙ ap view_cells (removed-passing record_key (λ r. is_look_at group book r.0) records order)

-- after a retirement those records stay whose looks are of other groups
stays : (gone own low : Bool) → (not gone && low) ≡ true → (not (gone || own) && low) ≡ not own
stays true own low now = absurd (cc)
stays false true low now = refl
stays false false low now = now

same_either : (a b : List ℕ) → bytes_eq a b ≡ bytes_eq b a
same_either a b =
    elim (bytes_eq b a) as (λ c. bytes_eq b a ≡ c → bytes_eq a b ≡ c) [
      | true ↦ λ e. ap (bytes_eq a) ((bytes_eq-Decides b a).0 e) ∙ equals a
      | false ↦ λ e. not_same b a e
    ] refl

stays_unless : (book : Book) (group : List ℕ) (r : Placed) → IsRecord book r.0 r.1 → not (is_look_at group book r.0) ≡ kept r.0 (with_entry book (Retire group))
stays_unless book group r is =
    let look : List ℕ × List ℕ × ℕ = (is.user, is.group, is.order) in
    let n = later_looks is.group r.0 book in
    let none : n + 0 ≡ n = omega arith in
    let now : (not (retired is.group book) && nat_lt n 16) ≡ true = sym (kept-look r.0 book look is.looked) ∙ is.kept in
    ap (λ o. not (option_map_or (λ look. bytes_eq look.1 group) o false)) is.looked
    ∙ sym (kept-with_entry r.0 book (Retire group) look is.looked
    ∙ ap (λ (m : ℕ). not (retired is.group book || bytes_eq group is.group) && nat_lt m 16) none
    ∙ stays (retired is.group book) (bytes_eq group is.group) (nat_lt n 16) now
    ∙ ap not (same_either group is.group))

pub others_stay : (book : Book) (group : List ℕ) (records : List Placed) → AllByRecursion (λ r. IsRecord book r.0 r.1) records
    → filter (λ r. not (is_look_at group book r.0)) records ≡ filter (λ r. kept r.0 (with_entry book (Retire group))) records
others_stay book group records each = filter-same _ _ records (all records each)
  where
    all : (rs : List Placed) → AllByRecursion (λ r. IsRecord book r.0 r.1) rs → AllByRecursion (λ r. not (is_look_at group book r.0) ≡ kept r.0 (with_entry book (Retire group))) rs
    all [] each = tt
    all (r ∷ rs) each = (stays_unless book group r each.0, all rs each.1)

-- the look that falls out stands within the book
found_below : (p : ℕ → Bool) (a n k : ℕ) → find p (range_with_len a n) ≡ Some k → k < a + n
found_below p a zero k is = absurd (cc)
found_below p a (suc n) k is =
    elim (p a) as (λ b. cond b (Some a) (find p (range_with_len (a + 1) n)) ≡ Some k → k < a + suc n) [
      | true ↦ λ e. (let same : a ≡ k = same_Some a k e in omega arith)
      | false ↦ λ e. omega (arith, found_below p (a + 1) n k e)
    ] is

pub falls_out-within : (group : List ℕ) (book : Book) (place : ℕ) → falls_out group book ≡ Some place → place ≤ size book
unfolding falls_out
falls_out-within group book place is = omega (arith, found_below (falls_at group book) 1 (size book) place is)

-- its record is removed, and the new look's is written
same_place : (place other : ℕ) → place < 10 ^ 10 → other < 10 ^ 10 → bytes_eq (ten_digits place) (ten_digits other) ≡ (place == other)
same_place place other fits also =
    elim (place == other) as (λ b. (place == other) ≡ b → bytes_eq (ten_digits place) (ten_digits other) ≡ b) [
      | true ↦ λ e. ap (λ (n : ℕ). bytes_eq (ten_digits place) (ten_digits n)) (sym ((Decides-eqb place other).0 e)) ∙ equals (ten_digits place)
      | false ↦ λ e. elim (bytes_eq (ten_digits place) (ten_digits other)) as (λ b. bytes_eq (ten_digits place) (ten_digits other) ≡ b → b ≡ false) [
        | true ↦ λ f. (let same : place ≡ other = ten_digits-injective place other fits also ((bytes_eq-Decides (ten_digits place) (ten_digits other)).0 f) in let both : true ≡ false = sym ((Decides-eqb place other).1 same) ∙ e in cc)
        | false ↦ λ f. refl
      ] refl
    ] refl

gone_view-leaves : (o : Option ℕ) (records : List Placed) → ((place : ℕ) → o ≡ Some place → place < 10 ^ 10) → AllByRecursion (λ r. r.0 < 10 ^ 10) records → changed (view_cells records) (gone_view o) ≡ view_cells (filter (λ r. not (is_place r.0 o)) records)
gone_view-leaves None records within fits = ap view_cells (all_stay records)
gone_view-leaves (Some place) records within fits =
    without-cells record_key 5 (λ r. view_cell r.0 r.1) (λ r. refl) (ten_digits place) records ∙ ap view_cells (filter-same _ _ records (all records fits))
  where
    all : (rs : List Placed) → AllByRecursion (λ r. r.0 < 10 ^ 10) rs → AllByRecursion (λ r. not (bytes_eq (ten_digits place) (ten_digits r.0)) ≡ not (place == r.0)) rs
    all [] fits = tt
    all (r ∷ rs) fits = (ap not (same_place place r.0 (within place refl) fits.0), all rs fits.1)

below_new : (place : ℕ) (records : List Placed) → place < 10 ^ 10 → AllByRecursion (λ r. r.0 < place) records → AllByRecursion (λ r. Below (record_key r) (ten_digits place)) records
below_new place [] fits below = tt
below_new place (r ∷ records) fits below = (ten_digits-order r.0 place below.0 fits, below_new place records fits below.1)

pub look_views-leave : (o : Option ℕ) (records : List Placed) (place : ℕ) (viewed : Viewed) → place < 10 ^ 10 → ((other : ℕ) → o ≡ Some other → other < place) → AllByRecursion (λ r. r.0 < place) records
    → changed (view_cells records) (gone_view o ++ Put (view_cell place viewed) ∷ []) ≡ view_cells (filter (λ r. not (is_place r.0 o)) records ++ (place, viewed) ∷ [])
look_views-leave o records place viewed fits within below =
    let left : List Placed = filter (λ r. not (is_place r.0 o)) records in
    fold-append changed_by (view_cells records) (gone_view o) (Put (view_cell place viewed) ∷ [])
    ∙ ap (λ (cells : List Cell). changed cells (Put (view_cell place viewed) ∷ [])) (gone_view-leaves o records (λ other is. omega (arith, within other is)) (all records below))
    ∙ put-cells record_key 5 (λ r. view_cell r.0 r.1) (λ r. refl) (place, viewed) left
    ∙ ap view_cells (put-end record_key (place, viewed) left (below_new place left fits (all-filter _ _ records below)))
  where
    all : (rs : List Placed) → AllByRecursion (λ r. r.0 < place) rs → AllByRecursion (λ r. r.0 < 10 ^ 10) rs
    all [] each = tt
    all (r ∷ rs) each = (omega (arith, each.0, fits), all rs each.1)
