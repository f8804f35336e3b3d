-- Laws of cells and of changes that stand shelf after shelf: each change touches the cells of its own shelf alone.
use Rattle.std.proofs.Common.{◌≡◌, ℕ, ◌<◌, Bool, true, false, cond, not, List, [], ◌∷◌, ◌++◌, Some, None, refl, sym, ap, ◌∙◌, subst, arith, map}
use Rattle.std.specs.declared.cmp.Ordering.{Ordering}
use Rattle.std.specs.declared.cmp.Ordering.TheVariants.{Less, Equal, Greater}
use Rattle.std.specs.Cmp.{nat_cmp_is}
use Rattle.std.specs.Cmp.Lexicographic.{slice_cmp}
use Rattle.std.specs.List.{AllByRecursion, filter}
use Rattle.std.specs.Ordering.{nat_cmp, match_ordering, ordering_then, is_eq}
use Rattle.std.specs.Str.{bytes_eq}
use Rattle.std.proofs.lemmas.List.Elements.{filter-append}
use Rattle.std.proofs.lemmas.Map.Text.{is_eq-slice_cmp}
use Rattle.rv_base.specs.Sorted.{find_by, without, put_by, InOrder, Distinct, Below}
use Rattle.rv_base.specs.PositionLaws.{Above, all-put}
use Rattle.rv_keeper.specs.declared.cell.Cell.{Cell}
use Rattle.rv_keeper.specs.declared.change.Change.{Change}
use Rattle.rv_keeper.specs.declared.change.Change.TheVariants.{Put, Remove}
use Rattle.rv_keeper.specs.Cells.{cell_key, change_key, change_shelf, changed_by, changed}

-- all cells stand on the shelf, or on those after it
abbrev pub OnShelf : ℕ → List Cell → Type 0
OnShelf shelf cells = AllByRecursion (λ cell. cell.shelf ≡ shelf) cells

abbrev pub Behind : ℕ → List Cell → Type 0
Behind shelf cells = AllByRecursion (λ cell. shelf < cell.shelf) cells

-- all changes are of the shelf, or of those after it
abbrev pub AreOf : ℕ → List Change → Type 0
AreOf shelf changes = AllByRecursion (λ change. change_shelf change ≡ shelf) changes

abbrev pub AreAfter : ℕ → List Change → Type 0
AreAfter shelf changes = AllByRecursion (λ change. shelf < change_shelf change) changes

-- what holds of each item of two lists holds of each of both together
pub all-append : {A : Type 0} (P : A → Type 0) (xs ys : List A) → AllByRecursion P xs → AllByRecursion P ys → AllByRecursion P (xs ++ ys)
all-append P [] ys front back = back
all-append P (x ∷ xs) ys front back = (front.0, all-append P xs ys front.1 back)

pub all-filter : {A : Type 0} (P : A → Type 0) (test : A → Bool) (xs : List A) → AllByRecursion P xs → AllByRecursion P (filter test xs)
all-filter P test [] all = tt
all-filter P test (x ∷ xs) all = elim (test x) as (λ b. AllByRecursion P (cond b (x ∷ filter test xs) (filter test xs))) [ true ↦ (all.0, all-filter P test xs all.1) | false ↦ all-filter P test xs all.1 ]

-- cells of one shelf stand behind the shelves before it
pub behind-on : (s t : ℕ) (cells : List Cell) → s < t → OnShelf t cells → Behind s cells
behind-on s t [] low on = tt
behind-on s t (cell ∷ cells) low on = (omega (arith, low, on.0), behind-on s t cells low on.1)

-- places are compared by their shelves, and on one shelf by their keys
by_shelf : (s t : ℕ) (a b : List ℕ) (o : Ordering) → o ≡ nat_cmp s t → slice_cmp nat_cmp (s ∷ a) (t ∷ b) ≡ ordering_then o (slice_cmp nat_cmp a b)
by_shelf s t a b o is = ap (λ (p : Ordering). ordering_then p (slice_cmp nat_cmp a b)) (sym is)

pub lower_shelf : (s t : ℕ) (a b : List ℕ) → s < t → slice_cmp nat_cmp (s ∷ a) (t ∷ b) ≡ Less
lower_shelf s t a b low = by_shelf s t a b Less (nat_cmp_is s t Less low)

higher_shelf : (s t : ℕ) (a b : List ℕ) → t < s → slice_cmp nat_cmp (s ∷ a) (t ∷ b) ≡ Greater
higher_shelf s t a b high = by_shelf s t a b Greater (nat_cmp_is s t Greater high)

pub same_shelf : (s : ℕ) (a b : List ℕ) → slice_cmp nat_cmp (s ∷ a) (s ∷ b) ≡ slice_cmp nat_cmp a b
same_shelf s a b = by_shelf s s a b Equal (nat_cmp_is s s Equal refl)

other_shelf : (s t : ℕ) (a b : List ℕ) → s < t → bytes_eq (s ∷ a) (t ∷ b) ≡ false
other_shelf s t a b low = sym (is_eq-slice_cmp (s ∷ a) (t ∷ b)) ∙ ap is_eq (lower_shelf s t a b low)

back_shelf : (s t : ℕ) (a b : List ℕ) → t < s → bytes_eq (s ∷ a) (t ∷ b) ≡ false
back_shelf s t a b high = sym (is_eq-slice_cmp (s ∷ a) (t ∷ b)) ∙ ap is_eq (higher_shelf s t a b high)

own_shelf : (s : ℕ) (a b : List ℕ) → bytes_eq (s ∷ a) (s ∷ b) ≡ bytes_eq a b
own_shelf s a b = sym (is_eq-slice_cmp (s ∷ a) (s ∷ b)) ∙ ap is_eq (same_shelf s a b) ∙ is_eq-slice_cmp a b

-- cells of one shelf and of those after it are in order
pub in_order-parts : (s : ℕ) (xs ys : List Cell) → OnShelf s xs → Behind s ys → InOrder cell_key xs → InOrder cell_key ys → InOrder cell_key (xs ++ ys)
in_order-parts s [] ys own behind order more = more
in_order-parts s (x ∷ xs) ys own behind order more =
    (all-append (λ y. Below (cell_key x) (cell_key y)) xs ys order.0 (all_above ys behind), in_order-parts s xs ys own.1 behind order.1 more)
  where
    all_above : (ys : List Cell) → Behind s ys → Above cell_key (cell_key x) ys
    all_above [] all = tt
    all_above (y ∷ ys) all = (lower_shelf x.shelf y.shelf x.key y.key (omega (arith, own.0, all.0)), all_above ys all.1)

-- what is put and what is removed, among cells of which the later stand on shelves after it, or the earlier on shelves before it
put-front : (new : Cell) (xs ys : List Cell) → Behind new.shelf ys → put_by cell_key new (xs ++ ys) ≡ put_by cell_key new xs ++ ys
put-front new [] [] behind = refl
put-front new [] (y ∷ ys) behind = rw (lower_shelf new.shelf y.shelf new.key y.key behind.0) refl
put-front new (x ∷ xs) ys behind =
    elim (slice_cmp nat_cmp (cell_key new) (cell_key x)) as (λ o. match_ordering o (new ∷ x ∷ (xs ++ ys)) (new ∷ (xs ++ ys)) (x ∷ put_by cell_key new (xs ++ ys)) ≡ match_ordering o (new ∷ x ∷ xs) (new ∷ xs) (x ∷ put_by cell_key new xs) ++ ys) [
      | Less ↦ refl
      | Equal ↦ refl
      | Greater ↦ ap (λ (cells : List Cell). x ∷ cells) (put-front new xs ys behind)
    ]

put-back : (new : Cell) (xs ys : List Cell) → AllByRecursion (λ x. x.shelf < new.shelf) xs → put_by cell_key new (xs ++ ys) ≡ xs ++ put_by cell_key new ys
put-back new [] ys before = refl
put-back new (x ∷ xs) ys before = rw (higher_shelf new.shelf x.shelf new.key x.key before.0) (ap (λ (cells : List Cell). x ∷ cells) (put-back new xs ys before.1))

without-behind : (s : ℕ) (key : List ℕ) (xs : List Cell) → Behind s xs → without cell_key (s ∷ key) xs ≡ xs
without-behind s key [] behind = refl
without-behind s key (x ∷ xs) behind = rw (other_shelf s x.shelf key x.key behind.0) (ap (λ (cells : List Cell). x ∷ cells) (without-behind s key xs behind.1))

without-before : (s : ℕ) (key : List ℕ) (xs : List Cell) → AllByRecursion (λ x. x.shelf < s) xs → without cell_key (s ∷ key) xs ≡ xs
without-before s key [] before = refl
without-before s key (x ∷ xs) before = rw (back_shelf s x.shelf key x.key before.0) (ap (λ (cells : List Cell). x ∷ cells) (without-before s key xs before.1))

-- one change among such cells
change-front : (change : Change) (xs ys : List Cell) → Behind (change_shelf change) ys → changed_by (xs ++ ys) change ≡ changed_by xs change ++ ys
change-front (Put cell) xs ys behind = put-front cell xs ys behind
change-front (Remove shelf key) xs ys behind = filter-append _ xs ys ∙ ap (λ (cells : List Cell). without cell_key (shelf ∷ key) xs ++ cells) (without-behind shelf key ys behind)

change-back : (change : Change) (xs ys : List Cell) → AllByRecursion (λ x. x.shelf < change_shelf change) xs → changed_by (xs ++ ys) change ≡ xs ++ changed_by ys change
change-back (Put cell) xs ys before = put-back cell xs ys before
change-back (Remove shelf key) xs ys before = filter-append _ xs ys ∙ ap (λ (cells : List Cell). cells ++ without cell_key (shelf ∷ key) ys) (without-before shelf key xs before)

-- cells of a shelf stay on it
change-stays : (s : ℕ) (change : Change) (xs : List Cell) → change_shelf change ≡ s → OnShelf s xs → OnShelf s (changed_by xs change)
change-stays s (Put cell) xs own on = all-put cell_key (λ x. x.shelf ≡ s) cell xs own on
change-stays s (Remove shelf key) xs own on = all-filter (λ x. x.shelf ≡ s) _ xs on

before_change : (s t : ℕ) (xs : List Cell) → s < t → OnShelf s xs → AllByRecursion (λ x. x.shelf < t) xs
before_change s t [] low on = tt
before_change s t (x ∷ xs) low on = (omega (arith, on.0), before_change s t xs low on.1)

changes-back : (s : ℕ) (xs ys : List Cell) (changes : List Change) → OnShelf s xs → AreAfter s changes → changed (xs ++ ys) changes ≡ xs ++ changed ys changes
changes-back s xs ys [] on after = refl
changes-back s xs ys (change ∷ changes) on after =
    ap (λ (cells : List Cell). changed cells changes) (change-back change xs ys (before_change s (change_shelf change) xs after.0 on))
    ∙ changes-back s xs (changed_by ys change) changes on after.1

-- Changes of one shelf and then of those after it, among cells of that shelf and then of those after it: each touch their own.
pub changed-parts : (s : ℕ) (xs ys : List Cell) (changes others : List Change) → OnShelf s xs → Behind s ys → AreOf s changes → AreAfter s others
    → changed (xs ++ ys) (changes ++ others) ≡ changed xs changes ++ changed ys others
changed-parts s xs ys [] others on behind own after = changes-back s xs ys others on after
changed-parts s xs ys (change ∷ changes) others on behind own after =
    ap (λ (cells : List Cell). changed cells (changes ++ others)) (change-front change xs ys (subst (λ (t : ℕ). Behind t ys) (sym own.0) behind))
    ∙ changed-parts s (changed_by xs change) ys changes others (change-stays s change xs own.0 on) behind own.1 after

-- no place of one shelf is named by changes of those after it
pub find-after : (s : ℕ) (key : List ℕ) (changes : List Change) → AreAfter s changes → find_by change_key (s ∷ key) changes ≡ None
find-after s key [] after = refl
find-after s key (Put cell ∷ changes) after = rw (other_shelf s cell.shelf key cell.key after.0) (find-after s key changes after.1)
find-after s key (Remove shelf other ∷ changes) after = rw (other_shelf s shelf key other after.0) (find-after s key changes after.1)

pub find-append : {X : Type 0} (key : X → List ℕ) (k : List ℕ) (xs ys : List X) → find_by key k xs ≡ None → find_by key k ys ≡ None → find_by key k (xs ++ ys) ≡ None
find-append key k [] ys none also = also
find-append key k (x ∷ xs) ys none also =
    elim (bytes_eq k (key x)) as (λ b. cond b (Some x) (find_by key k xs) ≡ None → cond b (Some x) (find_by key k (xs ++ ys)) ≡ None) [
      | true ↦ λ h. absurd (cc)
      | false ↦ λ h. find-append key k xs ys h also
    ] none

key_after : (s : ℕ) (change : Change) (changes : List Change) → change_shelf change ≡ s → AreAfter s changes → find_by change_key (change_key change) changes ≡ None
key_after s (Put cell) changes own after = subst (λ (t : ℕ). find_by change_key (t ∷ cell.key) changes ≡ None) (sym own) (find-after s cell.key changes after)
key_after s (Remove shelf key) changes own after = subst (λ (t : ℕ). find_by change_key (t ∷ key) changes ≡ None) (sym own) (find-after s key changes after)

-- Changes of one shelf and then of those after it name each place once, where each of the two do.
pub distinct-parts : (s : ℕ) (changes others : List Change) → AreOf s changes → AreAfter s others → Distinct change_key changes → Distinct change_key others → Distinct change_key (changes ++ others)
distinct-parts s [] others own after once also = also
distinct-parts s (change ∷ changes) others own after once also =
    (find-append change_key (change_key change) changes others once.0 (key_after s change others own.0 after), distinct-parts s changes others own.1 after once.1 also)

-- Cells of items that have keys, all on one shelf under those keys.
module _ {X : Type 0} (key : X → List ℕ) (shelf : ℕ) (cell : X → Cell) (is : (x : X) → cell_key (cell x) ≡ shelf ∷ key x) where
  above-cells : (k : List ℕ) (xs : List X) → Above key k xs → Above cell_key (shelf ∷ k) (map cell xs)
  above-cells k [] all = tt
  above-cells k (x ∷ xs) all = (ap (slice_cmp nat_cmp (shelf ∷ k)) (is x) ∙ same_shelf shelf k (key x) ∙ all.0, above-cells k xs all.1)

  -- they stand in order where the items do
  pub in_order-cells : (xs : List X) → InOrder key xs → InOrder cell_key (map cell xs)
  in_order-cells [] order = tt
  in_order-cells (x ∷ xs) order = (subst (λ (k : List ℕ). Above cell_key k (map cell xs)) (sym (is x)) (above-cells (key x) xs order.0), in_order-cells xs order.1)

  compared : (x y : X) → slice_cmp nat_cmp (cell_key (cell x)) (cell_key (cell y)) ≡ slice_cmp nat_cmp (key x) (key y)
  compared x y = (λ i. slice_cmp nat_cmp (is x i) (is y i)) ∙ same_shelf shelf (key x) (key y)

  -- an item that is put, and one that is removed
  pub put-cells : (x : X) (ys : List X) → put_by cell_key (cell x) (map cell ys) ≡ map cell (put_by key x ys)
  put-cells x [] = refl
  put-cells x (y ∷ ys) =
      ap (λ (o : Ordering). match_ordering o (cell x ∷ cell y ∷ map cell ys) (cell x ∷ map cell ys) (cell y ∷ put_by cell_key (cell x) (map cell ys))) (compared x y)
      ∙ (elim (slice_cmp nat_cmp (key x) (key y)) as (λ o. match_ordering o (cell x ∷ cell y ∷ map cell ys) (cell x ∷ map cell ys) (cell y ∷ put_by cell_key (cell x) (map cell ys)) ≡ map cell (match_ordering o (x ∷ y ∷ ys) (x ∷ ys) (y ∷ put_by key x ys))) [
        | Less ↦ refl
        | Equal ↦ refl
        | Greater ↦ ap (λ (cells : List Cell). cell y ∷ cells) (put-cells x ys)
      ])

  pub without-cells : (k : List ℕ) (ys : List X) → without cell_key (shelf ∷ k) (map cell ys) ≡ map cell (without key k ys)
  without-cells k [] = refl
  without-cells k (y ∷ ys) =
      ap (λ (b : Bool). cond (not b) (cell y ∷ without cell_key (shelf ∷ k) (map cell ys)) (without cell_key (shelf ∷ k) (map cell ys))) (ap (bytes_eq (shelf ∷ k)) (is y) ∙ own_shelf shelf k (key y))
      ∙ (elim (bytes_eq k (key y)) as (λ b. cond (not b) (cell y ∷ without cell_key (shelf ∷ k) (map cell ys)) (without cell_key (shelf ∷ k) (map cell ys)) ≡ map cell (cond (not b) (y ∷ without key k ys) (without key k ys))) [
        | true ↦ without-cells k ys
        | false ↦ ap (λ (cells : List Cell). cell y ∷ cells) (without-cells k ys)
      ])

-- Items of which each makes a change on one shelf, under its key.
module _ {X : Type 0} (key : X → List ℕ) (shelf : ℕ) (change : X → Change) (is : (x : X) → change_key (change x) ≡ shelf ∷ key x) where
  -- a key that none has is named by none of the changes
  pub absent-changes : (k : List ℕ) (xs : List X) → find_by key k xs ≡ None → find_by change_key (shelf ∷ k) (map change xs) ≡ None
  absent-changes k [] none = refl
  absent-changes k (x ∷ xs) none =
      ap (λ (b : Bool). cond b (Some (change x)) (find_by change_key (shelf ∷ k) (map change xs))) (ap (bytes_eq (shelf ∷ k)) (is x) ∙ own_shelf shelf k (key x))
      ∙ (elim (bytes_eq k (key x)) as (λ b. cond b (Some x) (find_by key k xs) ≡ None → cond b (Some (change x)) (find_by change_key (shelf ∷ k) (map change xs)) ≡ None) [
        | true ↦ λ h. absurd (cc)
        | false ↦ λ h. absent-changes k xs h
      ] none)

  -- they name each place once where each key is had once
  pub distinct-changes : (xs : List X) → Distinct key xs → Distinct change_key (map change xs)
  distinct-changes [] once = tt
  distinct-changes (x ∷ xs) once = (ap (λ (k : List ℕ). find_by change_key k (map change xs)) (is x) ∙ absent-changes (key x) xs once.0, distinct-changes xs once.1)
