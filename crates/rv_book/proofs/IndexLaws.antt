-- Laws of indexes: the rows when one more entry follows, whose keys are read in the longer book.
use Rattle.std.proofs.Common.{◌≡◌, ℕ, zero, suc, ◌<◌, ◌≤◌, true, false, cond, List, [], ◌∷◌, ◌++◌, length, get_or, set, take, drop, Option, Some, None, Result, Ok, Err, refl, sym, ap, ◌∙◌, subst, arith}
use Rattle.std.specs.declared.cmp.Ordering.TheVariants.{Less, Equal, Greater}
use Rattle.std.specs.Ordering.{nat_cmp, ordering_index}
use Rattle.std.specs.Cmp.Lexicographic.{slice_cmp}
use Rattle.std.specs.Str.{bytes_eq}
use Rattle.std.specs.List.{AllByRecursion}
use Rattle.std.specs.List.Sorted.{IsBinarySearchResult, IsSearchInRange}
use Rattle.std.proofs.lemmas.Cmp.{nat_list_cmp_total, tied_itself}
use Rattle.std.proofs.lemmas.Slice.Eq.{bytes_eq-Decides}
use Rattle.std.proofs.lemmas.Option.{none-some, same_Some}
use Rattle.rv_base.specs.Sorted.{find_by, put_by, InOrder, IsPositionOf, Below}
use Rattle.rv_base.specs.PositionLaws.{Above, in_order-put, find_put, all-put, settles}
use Rattle.rv_book.specs.Indexes.{IsIndex, StandsAt}

module _ {X : Type 0} (key other : X → List ℕ) where
  -- two ways to read the keys of the rows give the same
  abbrev pub Alike : List X → Type 0
  Alike xs = AllByRecursion (λ x. key x ≡ other x) xs

  above-alike : (k : List ℕ) (xs : List X) → Alike xs → Above key k xs → Above other k xs
  above-alike k [] same all = tt
  above-alike k (x ∷ xs) same all = (subst (Below k) same.0 all.0, above-alike k xs same.1 all.1)

  pub in_order-alike : (xs : List X) → Alike xs → InOrder key xs → InOrder other xs
  in_order-alike [] same h = tt
  in_order-alike (x ∷ xs) same h = (subst (λ (k : List ℕ). Above other k xs) same.0 (above-alike (key x) xs same.1 h.0), in_order-alike xs same.1 h.1)

  pub find-alike : (k : List ℕ) (xs : List X) → Alike xs → find_by key k xs ≡ find_by other k xs
  find-alike k [] same = refl
  find-alike k (x ∷ xs) same = (λ i. cond (bytes_eq k (same.0 i)) (Some x) (find-alike k xs same.1 i))

  alike_at : (xs : List X) (j : ℕ) (d : X) → j < length xs → Alike xs → key (get_or xs j d) ≡ other (get_or xs j d)
  alike_at [] j d lt same = absurd (omega arith)
  alike_at (x ∷ xs) zero d lt same = same.0
  alike_at (x ∷ xs) (suc j) d lt same = alike_at xs j d (omega arith) same.1

  -- what a search by one of the two found, by the other
  pub settles-alike : (k : List ℕ) (xs : List X) (r : Result ℕ ℕ) → Alike xs → InOrder key xs → IsSearchInRange r (length xs) → IsBinarySearchResult (λ y. slice_cmp nat_cmp (key y) k) xs r → IsPositionOf other k xs r
  settles-alike k xs (Ok i) same sorted lt at =
      settles other k xs (Ok i) (in_order-alike xs same sorted) lt (λ d. subst (λ (t : List ℕ). slice_cmp nat_cmp t k ≡ Equal) (alike_at xs i d lt same) (at d))
  settles-alike k xs (Err i) same sorted le parted =
      settles other k xs (Err i) (in_order-alike xs same sorted) le
      (λ rises.
      let parts = parted (λ i j d below lt. rising i j d below lt (rises i j d below lt)) in (
        λ j d ge lt. subst (λ (t : List ℕ). slice_cmp nat_cmp t k ≡ Less) (alike_at xs j d (omega (arith, lt, le)) same) (parts.0 j d ge lt),
        λ j d ge lt. subst (λ (t : List ℕ). slice_cmp nat_cmp t k ≡ Greater) (alike_at xs j d lt same) (parts.1 j d ge lt),
      ))
    where
      rising : (i j : ℕ) (d : X) → i ≤ j → j < length xs
          → ordering_index (slice_cmp nat_cmp (other (get_or xs i d)) k) ≤ ordering_index (slice_cmp nat_cmp (other (get_or xs j d)) k)
          → ordering_index (slice_cmp nat_cmp (key (get_or xs i d)) k) ≤ ordering_index (slice_cmp nat_cmp (key (get_or xs j d)) k)
      rising i j d below lt h = rw (alike_at xs i d (omega (arith, below, lt)) same, alike_at xs j d lt same) h

module _ {X : Type 0} (key : X → List ℕ) where
  -- what is found has the key
  pub found_key : (k : List ℕ) (x : X) (xs : List X) → find_by key k xs ≡ Some x → key x ≡ k
  found_key k x [] h = absurd (none-some x h)
  found_key k x (y ∷ ys) h =
      elim (bytes_eq k (key y)) as (λ b. bytes_eq k (key y) ≡ b → cond b (Some y) (find_by key k ys) ≡ Some x → key x ≡ k) [
        | true ↦ λ e f. ap key (sym (same_Some y x f)) ∙ sym ((bytes_eq-Decides k (key y)).0 e)
        | false ↦ λ e f. found_key k x ys f
      ] refl h

  -- what holds of each holds of what is found
  pub found_all : (P : X → Type 0) (k : List ℕ) (x : X) (xs : List X) → AllByRecursion P xs → find_by key k xs ≡ Some x → P x
  found_all P k x [] all h = absurd (none-some x h)
  found_all P k x (y ∷ ys) all h =
      elim (bytes_eq k (key y)) as (λ b. cond b (Some y) (find_by key k ys) ≡ Some x → P x) [
        | true ↦ λ f. subst P (same_Some y x f) all.0
        | false ↦ λ f. found_all P k x ys all.1 f
      ] h

within_more : {X : Type 0} (named : X → ℕ) (count more : ℕ) (xs : List X) → count ≤ more → AllByRecursion (λ x. named x < count) xs → AllByRecursion (λ x. named x < more) xs
within_more named count more [] le h = tt
within_more named count more (x ∷ xs) le h = (omega (arith, h.0, le), within_more named count more xs le h.1)

-- what is found at an index, without a search
module _ {X : Type 0} (key other : X → List ℕ) (k : List ℕ) (xs : List X) (i : ℕ) where
  equal_at : StandsAt key k xs i → (d : X) → slice_cmp nat_cmp (key (get_or xs i d)) k ≡ Equal
  equal_at at d = subst (λ (t : List ℕ). slice_cmp nat_cmp t k ≡ Equal) (sym (at.is d)) (tied_itself nat_list_cmp_total k)

  pub stands : InOrder key xs → StandsAt key k xs i → IsPositionOf key k xs (Ok i)
  stands sorted at = settles key k xs (Ok i) sorted at.within (equal_at at)

  pub stands-alike : Alike key other xs → InOrder key xs → StandsAt key k xs i → IsPositionOf other k xs (Ok i)
  stands-alike same sorted at = settles-alike key other k xs (Ok i) same sorted at.within (equal_at at)

pub all_alike : {X : Type 0} (key other : X → List ℕ) (named : X → ℕ) (count : ℕ) (xs : List X) → ((x : X) → named x < count → key x ≡ other x) → AllByRecursion (λ x. named x < count) xs → Alike key other xs
all_alike key other named count [] same h = tt
all_alike key other named count (x ∷ xs) same h = (same x h.0, all_alike key other named count xs same h.1)

module _ {X : Type 0} (key other : X → List ℕ) (named : X → ℕ) (count more : ℕ) (row_of next_of : List ℕ → Option X) where
  -- an entry that changes no row
  pub index-same : (rows : List X) → ((x : X) → named x < count → key x ≡ other x) → count ≤ more → ((k : List ℕ) → next_of k ≡ row_of k) → IsIndex key named count row_of rows → IsIndex other named more next_of rows
  index-same rows same le next h =
      let alike = all_alike key other named count rows same h.within in
      record {
        order = in_order-alike key other rows alike h.order;
        within = within_more named count more rows le h.within;
        found = λ k. sym (find-alike key other k rows alike) ∙ h.found k ∙ sym (next k);
      }

  index-put : (rows : List X) (k : List ℕ) (new : X) → ((x : X) → named x < count → key x ≡ other x) → count ≤ more → other new ≡ k → named new < more
      → ((q : List ℕ) → next_of q ≡ cond (bytes_eq q k) (Some new) (row_of q)) → IsIndex key named count row_of rows → IsIndex other named more next_of (put_by other new rows)
  index-put rows k new same le is lt next h =
      let alike = all_alike key other named count rows same h.within in
      record {
        order = in_order-put other new rows (in_order-alike key other rows alike h.order);
        within = all-put other (λ x. named x < more) new rows lt (within_more named count more rows le h.within);
        found = λ q. find_put other q new rows
            ∙ (λ i. cond (bytes_eq q (is i)) (Some new) (sym (find-alike key other q rows alike) i))
            ∙ ap (cond (bytes_eq q k) (Some new)) (h.found q)
            ∙ sym (next q);
      }

  found_before : (k : List ℕ) (rows : List X) → ((x : X) → named x < count → key x ≡ other x) → IsIndex key named count row_of rows → find_by other k rows ≡ row_of k
  found_before k rows same h = sym (find-alike key other k rows (all_alike key other named count rows same h.within)) ∙ h.found k

  -- An entry that changes the row of one key: the row that it leaves is told by the row before, if there was one, and names the
  -- same entry.
  pub record Changes (k : List ℕ) (left : Option X → X) : Type 0 where
    pub same : (x : X) → named x < count → key x ≡ other x
    pub grows : count ≤ more
    pub by_name : (x y : X) → named x ≡ named y → other x ≡ other y
    pub keeps : (x : X) → named (left (Some x)) ≡ named x
    pub fresh : row_of k ≡ None → other (left None) ≡ k
    pub fresh_within : named (left None) < more
    pub next : (q : List ℕ) → next_of q ≡ cond (bytes_eq q k) (Some (left (row_of q))) (row_of q)

  changed : (k : List ℕ) (left : Option X → X) (o : Option X) (rows : List X) → Changes k left → row_of k ≡ o → other (left o) ≡ k → named (left o) < more → IsIndex key named count row_of rows
      → IsIndex other named more next_of (put_by other (left o) rows)
  changed k left o rows w row is lt h = index-put rows k (left o) w.same w.grows is lt (λ q. w.next q ∙ at_key q) h
    where
      at_key : (q : List ℕ) → cond (bytes_eq q k) (Some (left (row_of q))) (row_of q) ≡ cond (bytes_eq q k) (Some (left o)) (row_of q)
      at_key q =
          elim (bytes_eq q k) as (λ b. bytes_eq q k ≡ b → cond b (Some (left (row_of q))) (row_of q) ≡ cond b (Some (left o)) (row_of q)) [
            | true ↦ λ f. ap (λ (t : List ℕ). Some (left (row_of t))) ((bytes_eq-Decides q k).0 f) ∙ ap (λ (p : Option X). Some (left p)) row
            | false ↦ λ f. refl
          ] refl

  -- the key has a row
  pub index-again : (k : List ℕ) (left : Option X → X) (rows seen : List X) (at : ℕ) (row : X) → Changes k left → IsIndex key named count row_of rows → seen ≡ rows → IsPositionOf other k seen (Ok at) → row ≡ get_or rows at row
      → IsIndex other named more next_of (set rows at (left (Some row)))
  index-again k left rows seen at row w h same there read =
      let settled = subst (λ (xs : List X). IsPositionOf other k xs (Ok at)) same there in
      let found : find_by other k rows ≡ Some row = settled.found row ∙ ap Some (sym read) in
      let was : row_of k ≡ Some row = sym (found_before k rows w.same h) ∙ found in
      let is : other (left (Some row)) ≡ k = w.by_name (left (Some row)) row (w.keeps row) ∙ found_key other k row rows found in
      let lt : named row < more = found_all other (λ x. named x < more) k row rows (within_more named count more rows w.grows h.within) found in
      subst (IsIndex other named more next_of) (settled.written (left (Some row)) is) (changed k left (Some row) rows w was is (omega (arith, w.keeps row, lt)) h)

  -- the key has no row yet
  pub index-first : (k : List ℕ) (left : Option X → X) (rows seen : List X) (at : ℕ) → Changes k left → IsIndex key named count row_of rows → seen ≡ rows → IsPositionOf other k seen (Err at)
      → IsIndex other named more next_of (take at rows ++ left None ∷ drop at rows)
  index-first k left rows seen at w h same there =
      let settled = subst (λ (xs : List X). IsPositionOf other k xs (Err at)) same there in
      let was : row_of k ≡ None = sym (found_before k rows w.same h) ∙ settled.absent in
      let is : other (left None) ≡ k = w.fresh was in
      subst (IsIndex other named more next_of) (settled.inserted (left None) is) (changed k left None rows w was is w.fresh_within h)
