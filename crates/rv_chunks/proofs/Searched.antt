-- What searches among chunks say of all their items.
use Rattle.std.proofs.Common.{◌≡◌, ℕ, zero, suc, ◌+◌, ◌-◌, ◌<◌, ◌≤◌, Bool, true, false, cond, List, [], ◌∷◌, ◌++◌, length, map, get_or, slice_get, take, drop, Option, Some, None, refl, sym, ap, ◌∙◌, subst, arith, append_assoc, length-append}
use Rattle.std.specs.declared.cmp.Ordering.{Ordering}
use Rattle.std.specs.declared.cmp.Ordering.TheVariants.{Less, Equal, Greater}
use Rattle.std.specs.Ordering.{ordering_index, is_lt, is_le, is_eq, is_gt}
use Rattle.std.specs.List.{filter, AllByRecursion}
use Rattle.std.specs.List.Sorted.{IsPartitionedBy, IsPartitionPoint}
use Rattle.std.proofs.lemmas.Bool.{false≢true, true≢false}
use Rattle.std.proofs.lemmas.List.{take_at, drop_at, take_all, take-append-drop, length-take-le, append-nil, get_or-map, get_or-drop, length-map, length-drop, take-map, drop-map, nil_from_length}
use Rattle.std.proofs.lemmas.List.Elements.{filter-append}
use Rattle.rv_chunks.specs.Chunking.{items, Rises, GoesBetween}
use Rattle.rv_chunks.specs.Vectors.{HaveItems, ends, PartsChunks}
use Rattle.rv_chunks.specs.IndexLaws.{index_within, item_in_range}
use Rattle.rv_chunks.proofs.Edited.{items_at, items-append, get_one}
use Rattle.rv_chunks.proofs.Rising.{all-append, all_at, all-right, all-left, all-to, all-both, to_take, to_drop, from_take, from_drop, NotAfter, Rise, rise_of, rises_of, rise-left, rise-right, last_fails, partitioned, chunks_pass}

-- the last item of a chunk
pub ends_at : {A : Type 0} (test : A → Bool) (chunk : List A) (x : A) → 0 < length chunk → x ≡ get_or chunk (length chunk - 1) x → test x ≡ ends test chunk
ends_at test [] x some is = absurd (omega arith)
ends_at test (y ∷ []) x some is = ap test is
ends_at test (y ∷ z ∷ zs) x some is =
    let step : suc (suc (length zs)) - 1 ≡ suc (suc (length zs) - 1) = omega arith in
    ends_at test (z ∷ zs) x (omega arith) (is ∙ ap (λ (k : ℕ). get_or (y ∷ z ∷ zs) k x) step)

less : (a : Ordering) → is_lt a ≡ true → a ≡ Less
less Less e = refl
less Equal e = absurd (false≢true e)
less Greater e = absurd (false≢true e)

lt_down : (a b : Ordering) → ordering_index a ≤ ordering_index b → is_lt b ≡ true → is_lt a ≡ true
lt_down Less b le e = refl
lt_down Equal Less le e = absurd (omega arith)
lt_down Equal Equal le e = e
lt_down Equal Greater le e = e
lt_down Greater Less le e = absurd (omega arith)
lt_down Greater Equal le e = absurd (omega arith)
lt_down Greater Greater le e = e

le_down : (a b : Ordering) → ordering_index a ≤ ordering_index b → is_le b ≡ true → is_le a ≡ true
le_down Less b le e = refl
le_down Equal b le e = refl
le_down Greater Less le e = absurd (omega arith)
le_down Greater Equal le e = absurd (omega arith)
le_down Greater Greater le e = e

least : (a b : Ordering) → ordering_index a ≤ ordering_index b → b ≡ Less → a ≡ Less
least Less b le e = refl
least Equal b le e = let n : ordering_index b ≡ 0 = ap ordering_index e in absurd (omega arith)
least Greater b le e = let n : ordering_index b ≡ 0 = ap ordering_index e in absurd (omega arith)

greatest : (a b : Ordering) → ordering_index a ≤ ordering_index b → a ≡ Greater → b ≡ Greater
greatest a Less le e = let n : ordering_index a ≡ 2 = ap ordering_index e in absurd (omega arith)
greatest a Equal le e = let n : ordering_index a ≡ 2 = ap ordering_index e in absurd (omega arith)
greatest a Greater le e = refl

not_lower : (a : Ordering) → is_lt a ≡ true → is_eq a ≡ false
not_lower Less e = refl
not_lower Equal e = absurd (false≢true e)
not_lower Greater e = refl

not_higher : (a : Ordering) → is_le a ≡ false → is_eq a ≡ false
not_higher Less e = refl
not_higher Equal e = absurd (true≢false e)
not_higher Greater e = refl

not_le : (a : Ordering) → is_gt a ≡ true → is_le a ≡ false
not_le Less e = absurd (false≢true e)
not_le Equal e = absurd (false≢true e)
not_le Greater e = refl

above_up : (a b : Ordering) → ordering_index a ≤ ordering_index b → is_le a ≡ false → is_le b ≡ false
above_up Less b le e = absurd (true≢false e)
above_up Equal b le e = absurd (true≢false e)
above_up Greater Less le e = absurd (omega arith)
above_up Greater Equal le e = absurd (omega arith)
above_up Greater Greater le e = refl

tied : (a : Ordering) → is_lt a ≡ false → is_le a ≡ true → is_eq a ≡ true
tied Less e f = absurd (true≢false e)
tied Equal e f = refl
tied Greater e f = absurd (false≢true f)

not_tied : (a : Ordering) → is_lt a ≡ false → is_eq a ≡ false → is_le a ≡ false
not_tied Less e f = absurd (true≢false e)
not_tied Equal e f = absurd (true≢false f)
not_tied Greater e f = refl

-- nothing stands first only where nothing stands
pub none_first : {X : Type 0} (xs : List X) → None ≡ slice_get xs 0 → length xs ≡ 0
none_first [] e = refl
none_first (x ∷ xs) e = absurd (cc)

-- a search among things that are seen through a function
module _ {X Y : Type 0} (f : X → Y) (test : Y → Bool) where
  pub parts_through : (vs : List X) (n : ℕ) → n ≤ length vs → (IsPartitionedBy (λ v. test (f v)) vs → IsPartitionPoint (λ v. test (f v) ≡ true) (λ v. test (f v) ≡ false) vs n) → IsPartitionedBy test (map f vs) → IsPartitionPoint (λ y. test y ≡ true) (λ y. test y ≡ false) (map f vs) n
  parts_through [] n le parts h = (λ k d low lt. absurd (omega arith), λ k d low lt. absurd (omega arith))
  parts_through (v ∷ vs) n le parts h =
      let point = parts (λ i j d le lt e. before i j d le lt e) in (
        λ k d low lt. ap test (get_or-map f (v ∷ vs) k v d (omega arith)) ∙ point.0 k v low lt,
        λ k d low lt. let in_range : k < length (v ∷ vs) = rw (length-map vs f) at lt in ap test (get_or-map f (v ∷ vs) k v d in_range) ∙ point.1 k v low in_range,
      )
    where
      before : (i j : ℕ) (d : X) → i ≤ j → j < length (v ∷ vs) → test (f (get_or (v ∷ vs) j d)) ≡ true → test (f (get_or (v ∷ vs) i d)) ≡ true
      before i j d le lt e =
          sym (ap test (get_or-map f (v ∷ vs) i d (f d) (omega arith)))
          ∙ h i j (f d) le (omega (arith, length-map (v ∷ vs) f)) (ap test (get_or-map f (v ∷ vs) j d (f d) lt) ∙ e)

-- where the first fails, all do
not_true : (b : Bool) → (b ≡ true → false ≡ true) → b ≡ false
not_true true h = sym (h refl)
not_true false h = refl

pub none_pass : {Y : Type 0} (test : Y → Bool) (ys : List Y) (y e : Y) → 0 < length ys → y ≡ get_or ys 0 e → test y ≡ false → IsPartitionedBy test ys → IsPartitionPoint (λ y. test y ≡ true) (λ y. test y ≡ false) ys 0
none_pass test [] y e some is fails h = absurd (omega arith)
none_pass test (z ∷ zs) y e some is fails h = (
  λ k d low lt. absurd (omega arith),
  λ k d low lt. not_true (test (get_or (z ∷ zs) k d)) (λ t. sym (ap test (sym is) ∙ fails) ∙ h 0 k d low lt t),
)

-- three parts of a list, cut within the middle one
cut_mid : {A : Type 0} (xs ys zs : List A) (n : ℕ) → xs ++ (ys ++ zs) ≡ (xs ++ take n ys) ++ (drop n ys ++ zs)
cut_mid {A = A} xs ys zs n =
    ap (λ (t : List A). xs ++ (t ++ zs)) (sym (take-append-drop n ys))
    ∙ ap (λ (t : List A). xs ++ t) (append_assoc (take n ys) (drop n ys) zs)
    ∙ sym (append_assoc xs (take n ys) (drop n ys ++ zs))

long_mid : {A : Type 0} (xs ys : List A) (n : ℕ) → n ≤ length ys → length (xs ++ take n ys) ≡ length xs + n
long_mid xs ys n le = length-append xs (take n ys) ∙ ap (λ (k : ℕ). length xs + k) (length-take-le n ys le)

take_mid : {A : Type 0} (xs ys zs : List A) (n : ℕ) → n ≤ length ys → take (length xs + n) (xs ++ (ys ++ zs)) ≡ xs ++ take n ys
take_mid xs ys zs n le = ap (take (length xs + n)) (cut_mid xs ys zs n) ∙ take_at (xs ++ take n ys) (drop n ys ++ zs) (length xs + n) (long_mid xs ys n le)

drop_mid : {A : Type 0} (xs ys zs : List A) (n : ℕ) → n ≤ length ys → drop (length xs + n) (xs ++ (ys ++ zs)) ≡ drop n ys ++ zs
drop_mid xs ys zs n le = ap (drop (length xs + n)) (cut_mid xs ys zs n) ∙ drop_at (xs ++ take n ys) (drop n ys ++ zs) (length xs + n) (long_mid xs ys n le)

have-drop : {A : Type 0} (chunks : List (List A)) (n : ℕ) → HaveItems chunks → HaveItems (drop n chunks)
have-drop chunks zero some = some
have-drop [] (suc n) some = tt
have-drop (chunk ∷ chunks) (suc n) some = have-drop chunks n some.1

-- the chunk from which on the others stand
first_dropped : {A : Type 0} (chunks : List (List A)) (n : ℕ) (chunk : List A) (others : List (List A)) → drop n chunks ≡ chunk ∷ others → (n < length chunks) × (get_or chunks n [] ≡ chunk)
first_dropped [] zero chunk others e = absurd (cc)
first_dropped [] (suc n) chunk others e = absurd (cc)
first_dropped (p ∷ ps) zero chunk others e = (omega arith, cc)
first_dropped (p ∷ ps) (suc n) chunk others e =
    let rest = first_dropped ps n chunk others e in
    (omega (arith, rest.0), rest.1)

module _ {A : Type 0} (o : A → Ordering) where
  abbrev Below : A → Bool
  Below i = is_lt (o i)

  abbrev NotAbove : A → Bool
  NotAbove i = is_le (o i)

  abbrev Tie : A → Bool
  Tie i = is_eq (o i)

  -- a search for a position
  above_after : (chunk back : List A) (n : ℕ) → 1 ≤ length chunk → ends Below chunk ≡ false → AllByRecursion (λ x. o x ≡ Less) (take n chunk) → AllByRecursion (λ x. o x ≡ Greater) (drop n chunk) → Rise o (chunk ++ back) → AllByRecursion (λ x. o x ≡ Greater) back
  above_after [] back n some e low high h = absurd (omega arith)
  above_after (x ∷ chunk) back zero some e low high h = all-to (NotAfter o x) (λ y. o y ≡ Greater) back (λ y le. greatest (o x) (o y) le high.0) (all-right (NotAfter o x) chunk back h.0)
  above_after (x ∷ []) back (suc n) some e low high h = absurd (true≢false (sym (ap is_lt low.0) ∙ e))
  above_after (x ∷ y ∷ chunk) back (suc n) some e low high h = above_after (y ∷ chunk) back n (omega arith) e low.1 high h.1

  -- where the items of a chunk part, all items do
  pub point_in : (chunks : List (List A)) (n m : ℕ) (chunk : List A) → HaveItems chunks → n < length chunks → chunk ≡ get_or chunks n [] → m ≤ length chunk → PartsChunks Below chunks n
      → (Rises o chunk → IsPartitionPoint (λ x. o x ≡ Less) (λ x. o x ≡ Greater) chunk m) → Rises o (items chunks) → IsPartitionPoint (λ x. o x ≡ Less) (λ x. o x ≡ Greater) (items chunks) (length (items (take n chunks)) + m)
  point_in chunks n m chunk some lt is le parted inner rises =
      let h : Rise o (items chunks) = rise_of o (items chunks) rises in
      let point = parted (partitioned o is_lt lt_down chunks some h) in
      let front : List A = items (take n chunks) in
      let back : List A = items (drop (suc n) chunks) in
      let whole : items chunks ≡ front ++ (chunk ++ back) = items_at chunks n lt ∙ ap (λ (t : List A). front ++ (t ++ back)) (sym is) in
      let from_chunk : Rise o (chunk ++ back) = rise-right o front (chunk ++ back) (subst (λ (t : List A). Rise o t) whole h) in
      let parts = inner (rises_of o chunk (rise-left o chunk back from_chunk)) in
      let low : AllByRecursion (λ x. o x ≡ Less) (take m chunk) = to_take (λ x. o x ≡ Less) chunk m le parts.0 in
      let high : AllByRecursion (λ x. o x ≡ Greater) (drop m chunk) = to_drop (λ x. o x ≡ Greater) chunk m le parts.1 in
      let lowest : AllByRecursion (λ x. o x ≡ Less) front = all-to (λ x. is_lt (o x) ≡ true) (λ x. o x ≡ Less) front (λ x e. less (o x) e) (chunks_pass o is_lt lt_down chunks n (omega arith) h point.0) in
      let last : ends Below chunk ≡ false = ap (ends Below) is ∙ point.1 n [] (omega arith) lt in
      let highest : AllByRecursion (λ x. o x ≡ Greater) back = above_after chunk back m (omega (arith, ap length is, all_at (λ p. 1 ≤ length p) chunks n [] some lt)) last low high from_chunk in
      let i : ℕ = length front + m in
      let below : AllByRecursion (λ x. o x ≡ Less) (take i (items chunks)) = subst (λ (t : List A). AllByRecursion (λ x. o x ≡ Less) t) (sym (ap (take i) whole ∙ take_mid front chunk back m le)) (all-append (λ x. o x ≡ Less) front (take m chunk) lowest low) in
      let above : AllByRecursion (λ x. o x ≡ Greater) (drop i (items chunks)) = subst (λ (t : List A). AllByRecursion (λ x. o x ≡ Greater) t) (sym (ap (drop i) whole ∙ drop_mid front chunk back m le)) (all-append (λ x. o x ≡ Greater) (drop m chunk) back high highest) in
      (from_take (λ x. o x ≡ Less) (items chunks) i (index_within chunks n m lt (omega (arith, ap length is))) below, from_drop (λ x. o x ≡ Greater) (items chunks) i above)

  -- where the items around a gap of a chunk stand around what is looked for, all items do
  pub point_between : (chunks : List (List A)) (n m : ℕ) → n < length chunks → GoesBetween o (get_or chunks n []) m → Rises o (items chunks) → IsPartitionPoint (λ x. o x ≡ Less) (λ x. o x ≡ Greater) (items chunks) (length (items (take n chunks)) + m)
  point_between chunks n m lt goes rises =
      let front : ℕ = length (items (take n chunks)) in
      let within : front + m < length (items chunks) = item_in_range chunks (record { chunk = n; offset = m }) (lt, goes.1) in (
        λ j d low below. least (o (get_or (items chunks) j d)) (o (get_or (items chunks) (front + (m - 1)) d)) (rises j (front + (m - 1)) d (omega (arith, goes.0)) (omega (arith, within))) (ap o (get_one chunks n (m - 1) d lt (omega (arith, goes.1))) ∙ goes.2 d),
        λ j d high below. greatest (o (get_or (items chunks) (front + m) d)) (o (get_or (items chunks) j d)) (rises (front + m) j d high below) (ap o (get_one chunks n m d lt goes.1) ∙ goes.3 d),
      )

  -- where all chunks end below, all items are
  pub point_at_end : (chunks : List (List A)) (n i : ℕ) → HaveItems chunks → n ≡ length chunks → i ≡ length (items chunks) → PartsChunks Below chunks n → Rises o (items chunks) → IsPartitionPoint (λ x. o x ≡ Less) (λ x. o x ≡ Greater) (items chunks) i
  point_at_end chunks n i some all is parted rises =
      let h : Rise o (items chunks) = rise_of o (items chunks) rises in
      let point = parted (partitioned o is_lt lt_down chunks some h) in
      let passed = chunks_pass o is_lt lt_down chunks n (omega arith) h point.0 in
      let low : AllByRecursion (λ x. o x ≡ Less) (items chunks) = all-to (λ x. is_lt (o x) ≡ true) (λ x. o x ≡ Less) (items chunks) (λ x e. less (o x) e) (subst (λ (ps : List (List A)). AllByRecursion (λ x. is_lt (o x) ≡ true) (items ps)) (take_all n chunks (omega arith)) passed) in (
        from_take (λ x. o x ≡ Less) (items chunks) i (omega arith) (subst (λ (t : List A). AllByRecursion (λ x. o x ≡ Less) t) (sym (take_all i (items chunks) (omega arith))) low),
        λ k d ge lt. absurd (omega arith),
      )

  -- a search for those that tie
  filter_none : (xs : List A) → AllByRecursion (λ x. is_eq (o x) ≡ false) xs → filter Tie xs ≡ []
  filter_none [] all = refl
  filter_none (x ∷ xs) all = rw all.0 (filter_none xs all.1)

  filter_all : (xs : List A) → AllByRecursion (λ x. is_eq (o x) ≡ true) xs → filter Tie xs ≡ xs
  filter_all [] all = refl
  filter_all (x ∷ xs) all = rw all.0 (ap (λ (t : List A). x ∷ t) (filter_all xs all.1))

  lower_none : (xs : List A) → AllByRecursion (λ x. is_lt (o x) ≡ true) xs → filter Tie xs ≡ []
  lower_none xs all = filter_none xs (all-to (λ x. is_lt (o x) ≡ true) (λ x. is_eq (o x) ≡ false) xs (λ x e. not_lower (o x) e) all)

  higher_none : (xs : List A) → AllByRecursion (λ x. is_le (o x) ≡ false) xs → filter Tie xs ≡ []
  higher_none xs all = filter_none xs (all-to (λ x. is_le (o x) ≡ false) (λ x. is_eq (o x) ≡ false) xs (λ x e. not_higher (o x) e) all)

  -- where the first of a chunk is above, none of its items ties
  pub first_above : (chunk : List A) (x : A) → 0 < length chunk → x ≡ get_or chunk 0 x → is_gt (o x) ≡ true → Rises o chunk → filter Tie chunk ≡ []
  first_above [] x some is above rises = refl
  first_above (y ∷ chunk) x some is above rises =
      let first : is_le (o y) ≡ false = ap (λ (t : A). is_le (o t)) (sym is) ∙ not_le (o x) above in
      higher_none (y ∷ chunk) (first, all-to (NotAfter o y) (λ z. is_le (o z) ≡ false) chunk (λ z le. above_up (o y) (o z) le first) (rise_of o (y ∷ chunk) rises).0)

  between_all : (xs : List A) → AllByRecursion (λ x. is_lt (o x) ≡ false) xs → AllByRecursion (λ x. is_le (o x) ≡ true) xs → filter Tie xs ≡ xs
  between_all xs low high = filter_all xs (all-both (λ x. is_lt (o x) ≡ false) (λ x. is_le (o x) ≡ true) (λ x. is_eq (o x) ≡ true) xs (λ x e f. tied (o x) e f) low high)

  -- those of a chunk
  pub chunk_ties : (chunk rest : List A) (b e : ℕ) → rest ≡ drop b chunk → b ≤ length chunk → e ≤ length rest → (IsPartitionedBy Below chunk → IsPartitionPoint (λ x. is_lt (o x) ≡ true) (λ x. is_lt (o x) ≡ false) chunk b) → (IsPartitionedBy NotAbove rest → IsPartitionPoint (λ x. is_le (o x) ≡ true) (λ x. is_le (o x) ≡ false) rest e)
      → Rises o chunk → take e rest ≡ filter Tie chunk
  chunk_ties chunk rest b e is b_in e_in first second rises =
      let h : Rise o (take b chunk ++ drop b chunk) = subst (λ (t : List A). Rise o t) (sym (take-append-drop b chunk)) (rise_of o chunk rises) in
      let rest_rises : Rises o rest = rises_of o rest (subst (λ (t : List A). Rise o t) (sym is) (rise-right o (take b chunk) (drop b chunk) h)) in
      let below = first (λ i j d le lt e. lt_down (o (get_or chunk i d)) (o (get_or chunk j d)) (rises i j d le lt) e) in
      let own = second (λ i j d le lt e. le_down (o (get_or rest i d)) (o (get_or rest j d)) (rest_rises i j d le lt) e) in
      let low : filter Tie (take b chunk) ≡ [] = lower_none (take b chunk) (to_take (λ x. is_lt (o x) ≡ true) chunk b b_in below.0) in
      let not_low : AllByRecursion (λ x. is_lt (o x) ≡ false) rest = subst (λ (t : List A). AllByRecursion (λ x. is_lt (o x) ≡ false) t) (sym is) (to_drop (λ x. is_lt (o x) ≡ false) chunk b b_in below.1) in
      let middle : filter Tie (take e rest) ≡ take e rest = between_all (take e rest) (all-left (λ x. is_lt (o x) ≡ false) (take e rest) (drop e rest) (subst (λ (t : List A). AllByRecursion (λ x. is_lt (o x) ≡ false) t) (sym (take-append-drop e rest)) not_low)) (to_take (λ x. is_le (o x) ≡ true) rest e e_in own.0) in
      let high : filter Tie (drop e rest) ≡ [] = higher_none (drop e rest) (to_drop (λ x. is_le (o x) ≡ false) rest e e_in own.1) in
      sym (
      ap (filter Tie) (sym (take-append-drop b chunk))
      ∙ filter-append Tie (take b chunk) (drop b chunk)
      ∙ ap (λ (t : List A). t ++ filter Tie (drop b chunk)) low
      ∙ ap (filter Tie) (sym is)
      ∙ ap (filter Tie) (sym (take-append-drop e rest))
      ∙ filter-append Tie (take e rest) (drop e rest)
      ∙ (λ i. middle i ++ high i)
      ∙ append-nil (take e rest))

  -- the first of those of a chunk
  first_of : (rest : List A) (x : A) → 0 < length rest → x ≡ get_or rest 0 x → AllByRecursion (λ x. is_lt (o x) ≡ false) rest → Rise o rest → cond (is_eq (o x)) (Some x) None ≡ slice_get (filter Tie rest) 0
  first_of [] x some is all h = absurd (omega arith)
  first_of (y ∷ ys) x some is all h =
      elim (is_eq (o y)) as (λ b. is_eq (o y) ≡ b → cond (is_eq (o x)) (Some x) None ≡ slice_get (cond b (y ∷ filter Tie ys) (filter Tie ys)) 0) [
        | true ↦ λ e. (λ i. cond (is_eq (o (is i))) (Some (is i)) None) ∙ ap (λ (b : Bool). cond b (Some y) None) e
        | false ↦ λ e.
            let first : is_le (o y) ≡ false = not_tied (o y) all.0 e in
            (λ i. cond (is_eq (o (is i))) (Some (is i)) None)
            ∙ ap (λ (b : Bool). cond b (Some y) None) e
            ∙ ap (λ (t : List A). slice_get t 0) (sym (higher_none ys (all-to (NotAfter o y) (λ z. is_le (o z) ≡ false) ys (λ z le. above_up (o y) (o z) le first) h.0)))
      ] refl

  upper_ties : (chunk rest : List A) (b : ℕ) → rest ≡ drop b chunk → b ≤ length chunk → (IsPartitionedBy Below chunk → IsPartitionPoint (λ x. is_lt (o x) ≡ true) (λ x. is_lt (o x) ≡ false) chunk b) → Rises o chunk
      → (filter Tie chunk ≡ filter Tie rest) × AllByRecursion (λ x. is_lt (o x) ≡ false) rest × Rise o rest
  upper_ties chunk rest b is b_in parts rises =
      let h : Rise o (take b chunk ++ drop b chunk) = subst (λ (t : List A). Rise o t) (sym (take-append-drop b chunk)) (rise_of o chunk rises) in
      let below = parts (λ i j d le lt e. lt_down (o (get_or chunk i d)) (o (get_or chunk j d)) (rises i j d le lt) e) in
      let low : filter Tie (take b chunk) ≡ [] = lower_none (take b chunk) (to_take (λ x. is_lt (o x) ≡ true) chunk b b_in below.0) in (
        ap (filter Tie) (sym (take-append-drop b chunk)) ∙ filter-append Tie (take b chunk) (drop b chunk) ∙ ap (λ (t : List A). t ++ filter Tie (drop b chunk)) low ∙ ap (filter Tie) (sym is),
        subst (λ (t : List A). AllByRecursion (λ x. is_lt (o x) ≡ false) t) (sym is) (to_drop (λ x. is_lt (o x) ≡ false) chunk b b_in below.1),
        subst (λ (t : List A). Rise o t) (sym is) (rise-right o (take b chunk) (drop b chunk) h),
      )

  pub chunk_first : (chunk rest : List A) (x : A) (b : ℕ) → rest ≡ drop b chunk → b ≤ length chunk → (IsPartitionedBy Below chunk → IsPartitionPoint (λ x. is_lt (o x) ≡ true) (λ x. is_lt (o x) ≡ false) chunk b) → 0 < length rest → x ≡ get_or rest 0 x
      → Rises o chunk → cond (is_eq (o x)) (Some x) None ≡ slice_get (filter Tie chunk) 0
  chunk_first chunk rest x b is b_in parts some first rises =
      let upper = upper_ties chunk rest b is b_in parts rises in
      first_of rest x some first upper.1 upper.2 ∙ ap (λ (t : List A). slice_get t 0) (sym upper.0)

  pub chunk_none : (chunk rest : List A) (b : ℕ) → rest ≡ drop b chunk → b ≤ length chunk → (IsPartitionedBy Below chunk → IsPartitionPoint (λ x. is_lt (o x) ≡ true) (λ x. is_lt (o x) ≡ false) chunk b) → None ≡ slice_get rest 0
      → Rises o chunk → None ≡ slice_get (filter Tie chunk) 0
  chunk_none chunk rest b is b_in parts none rises =
      let upper = upper_ties chunk rest b is b_in parts rises in
      ap (λ (t : List A). slice_get t 0) (sym (upper.0 ∙ nothing rest none))
    where
      nothing : (rest : List A) → None ≡ slice_get rest 0 → filter Tie rest ≡ []
      nothing [] e = refl
      nothing (x ∷ rest) e = absurd (cc)

  -- those of all chunks
  pub no_ties : (chunks : List (List A)) (n : ℕ) → HaveItems chunks → n ≤ length chunks → PartsChunks Below chunks n → Rises o (items chunks) → drop n chunks ≡ [] → filter Tie (items chunks) ≡ []
  no_ties chunks n some le parted rises none =
      let h : Rise o (items chunks) = rise_of o (items chunks) rises in
      let point = parted (partitioned o is_lt lt_down chunks some h) in
      let passed = chunks_pass o is_lt lt_down chunks n le h point.0 in
      let all : take n chunks ≡ chunks = take_all n chunks (omega (arith, length-drop n chunks, ap length none)) in
      lower_none (items chunks) (subst (λ (ps : List (List A)). AllByRecursion (λ x. is_lt (o x) ≡ true) (items ps)) all passed)

  rest_ties : (rest : List (List A)) → HaveItems rest → Rise o (items rest) → ((k : ℕ) (d : List A) → k < length rest → ends NotAbove (get_or rest k d) ≡ false) → filter Tie (items rest) ≡ filter Tie (get_or rest 0 [])
  rest_ties [] some h high = refl
  rest_ties (chunk ∷ chunks) some h high =
      filter-append Tie chunk (items chunks)
      ∙ ap (λ (t : List A). filter Tie chunk ++ t) (higher_none (items chunks) (last_fails o is_le le_down chunk (items chunks) some.0 h (high 0 chunk (omega arith))))
      ∙ append-nil (filter Tie chunk)

  others_tie : (others : List (List A)) (e : ℕ) → HaveItems others → e ≤ length others → PartsChunks NotAbove others e → Rise o (items others) → AllByRecursion (λ x. is_lt (o x) ≡ false) (items others) → filter Tie (items others) ≡ items (take e others) ++ filter Tie (get_or (drop e others) 0 [])
  others_tie others e some e_in parted h not_low =
      let point = parted (partitioned o is_le le_down others some h) in
      let middle : List A = items (take e others) in
      let whole : items others ≡ middle ++ items (drop e others) = ap items (sym (take-append-drop e others)) ∙ items-append (take e others) (drop e others) in
      let all : filter Tie middle ≡ middle = between_all middle (all-left (λ x. is_lt (o x) ≡ false) middle (items (drop e others)) (subst (λ (t : List A). AllByRecursion (λ x. is_lt (o x) ≡ false) t) whole not_low)) (chunks_pass o is_le le_down others e e_in h point.0) in
      let from_rest : Rise o (items (drop e others)) = rise-right o middle (items (drop e others)) (subst (λ (t : List A). Rise o t) whole h) in
      let last = rest_ties (drop e others) (have-drop others e some) from_rest (λ k d lt. ap (ends NotAbove) (get_or-drop e others k d) ∙ point.1 (e + k) d (omega arith) (omega (arith, length-drop e others))) in
      ap (filter Tie) whole
      ∙ filter-append Tie middle (items (drop e others))
      ∙ (λ i. all i ++ last i)

  -- the first of the chunks where they may stand, and the last
  pub first_rises : (chunks : List (List A)) (n : ℕ) (chunk : List A) (others : List (List A)) → drop n chunks ≡ chunk ∷ others → Rises o (items chunks) → Rises o chunk
  first_rises chunks n chunk others is rises =
      let whole : items chunks ≡ items (take n chunks) ++ (chunk ++ items others) = ap items (sym (take-append-drop n chunks)) ∙ items-append (take n chunks) (drop n chunks) ∙ ap (λ (ps : List (List A)). items (take n chunks) ++ items ps) is in
      rises_of o chunk (rise-left o chunk (items others) (rise-right o (items (take n chunks)) (chunk ++ items others) (subst (λ (t : List A). Rise o t) whole (rise_of o (items chunks) rises))))

  pub last_rises : (chunks : List (List A)) (n e : ℕ) (chunk : List A) (others : List (List A)) → drop n chunks ≡ chunk ∷ others → Rises o (items chunks) → Rises o (get_or (drop e others) 0 [])
  last_rises chunks n e chunk others is rises =
      let whole : items chunks ≡ items (take n chunks) ++ (chunk ++ items others) = ap items (sym (take-append-drop n chunks)) ∙ items-append (take n chunks) (drop n chunks) ∙ ap (λ (ps : List (List A)). items (take n chunks) ++ items ps) is in
      let from_others : Rise o (items others) = rise-right o chunk (items others) (rise-right o (items (take n chunks)) (chunk ++ items others) (subst (λ (t : List A). Rise o t) whole (rise_of o (items chunks) rises))) in
      let parts : items others ≡ items (take e others) ++ items (drop e others) = ap items (sym (take-append-drop e others)) ∙ items-append (take e others) (drop e others) in
      of_first (drop e others) (rise-right o (items (take e others)) (items (drop e others)) (subst (λ (t : List A). Rise o t) parts from_others))
    where
      of_first : (ps : List (List A)) → Rise o (items ps) → Rises o (get_or ps 0 [])
      of_first [] h = rises_of o [] tt
      of_first (p ∷ ps) h = rises_of o p (rise-left o p (items ps) h)

  pub all_ties : (chunks : List (List A)) (n e : ℕ) (chunk : List A) (others : List (List A)) → HaveItems chunks → n ≤ length chunks → PartsChunks Below chunks n → drop n chunks ≡ chunk ∷ others → e ≤ length others → PartsChunks NotAbove others e → Rises o (items chunks)
      → filter Tie (items chunks) ≡ filter Tie chunk ++ (items (take e others) ++ filter Tie (get_or (drop e others) 0 []))
  all_ties chunks n e chunk others some le parted is e_in parted_too rises =
      let h : Rise o (items chunks) = rise_of o (items chunks) rises in
      let point = parted (partitioned o is_lt lt_down chunks some h) in
      let at = first_dropped chunks n chunk others is in
      let front : List A = items (take n chunks) in
      let whole : items chunks ≡ front ++ (chunk ++ items others) = ap items (sym (take-append-drop n chunks)) ∙ items-append (take n chunks) (drop n chunks) ∙ ap (λ (ps : List (List A)). front ++ items ps) is in
      let from_chunk : Rise o (chunk ++ items others) = rise-right o front (chunk ++ items others) (subst (λ (t : List A). Rise o t) whole h) in
      let from_others : Rise o (items others) = rise-right o chunk (items others) from_chunk in
      let have : HaveItems (chunk ∷ others) = subst HaveItems is (have-drop chunks n some) in
      let low : filter Tie front ≡ [] = lower_none front (chunks_pass o is_lt lt_down chunks n le h point.0) in
      let last : ends Below chunk ≡ false = ap (ends Below) (sym at.1) ∙ point.1 n [] (omega arith) at.0 in
      let not_low : AllByRecursion (λ x. is_lt (o x) ≡ false) (items others) = last_fails o is_lt lt_down chunk (items others) have.0 from_chunk last in
      let rest = others_tie others e have.1 e_in parted_too from_others not_low in
      ap (filter Tie) whole
      ∙ filter-append Tie front (chunk ++ items others)
      ∙ ap (λ (t : List A). t ++ filter Tie (chunk ++ items others)) low
      ∙ filter-append Tie chunk (items others)
      ∙ ap (λ (t : List A). filter Tie chunk ++ t) rest

  -- a chunk that does not end below and has no item that ties ends above
  ends_high : (chunk : List A) → 1 ≤ length chunk → ends Below chunk ≡ false → filter Tie chunk ≡ [] → ends NotAbove chunk ≡ false
  ends_high [] some e none = absurd (omega arith)
  ends_high (x ∷ []) some e none =
      elim (is_eq (o x)) as (λ b. is_eq (o x) ≡ b → cond b (x ∷ []) [] ≡ [] → is_le (o x) ≡ false) [
        | true ↦ λ _ n. absurd (cc)
        | false ↦ λ f _. not_tied (o x) e f
      ] refl none
  ends_high (x ∷ y ∷ ys) some e none =
      ends_high (y ∷ ys) (omega arith) e (elim (is_eq (o x)) as (λ b. cond b (x ∷ filter Tie (y ∷ ys)) (filter Tie (y ∷ ys)) ≡ [] → filter Tie (y ∷ ys) ≡ []) [
        | true ↦ λ n. absurd (cc)
        | false ↦ λ n. n
      ] none)

  -- so the first of those of all chunks stands in the first chunk that does not end below
  first_tie : (chunks : List (List A)) (n : ℕ) (chunk : List A) (others : List (List A)) → HaveItems chunks → n ≤ length chunks → PartsChunks Below chunks n → drop n chunks ≡ chunk ∷ others → Rises o (items chunks)
      → slice_get (filter Tie chunk) 0 ≡ slice_get (filter Tie (items chunks)) 0
  first_tie chunks n chunk others some le parted is rises =
      let h : Rise o (items chunks) = rise_of o (items chunks) rises in
      let point = parted (partitioned o is_lt lt_down chunks some h) in
      let at = first_dropped chunks n chunk others is in
      let front : List A = items (take n chunks) in
      let whole : items chunks ≡ front ++ (chunk ++ items others) = ap items (sym (take-append-drop n chunks)) ∙ items-append (take n chunks) (drop n chunks) ∙ ap (λ (ps : List (List A)). front ++ items ps) is in
      let from_chunk : Rise o (chunk ++ items others) = rise-right o front (chunk ++ items others) (subst (λ (t : List A). Rise o t) whole h) in
      let have : HaveItems (chunk ∷ others) = subst HaveItems is (have-drop chunks n some) in
      let low : filter Tie front ≡ [] = lower_none front (chunks_pass o is_lt lt_down chunks n le h point.0) in
      let last : ends Below chunk ≡ false = ap (ends Below) (sym at.1) ∙ point.1 n [] (omega arith) at.0 in
      let all : filter Tie (items chunks) ≡ filter Tie chunk ++ filter Tie (items others) =
      ap (filter Tie) whole ∙ filter-append Tie front (chunk ++ items others) ∙ ap (λ (t : List A). t ++ filter Tie (chunk ++ items others)) low ∙ filter-append Tie chunk (items others) in
      heads (filter Tie chunk) refl have.0 last from_chunk ∙ ap (λ (t : List A). slice_get t 0) (sym all)
    where
      heads : (found : List A) → filter Tie chunk ≡ found → 1 ≤ length chunk → ends Below chunk ≡ false → Rise o (chunk ++ items others) → slice_get (filter Tie chunk) 0 ≡ slice_get (filter Tie chunk ++ filter Tie (items others)) 0
      heads [] e have last h =
          let rest : filter Tie (items others) ≡ [] = higher_none (items others) (last_fails o is_le le_down chunk (items others) have h (ends_high chunk have last e)) in
          ap (λ (t : List A). slice_get t 0) e ∙ (λ i. slice_get (sym e i ++ sym rest i) 0)
      heads (x ∷ found) e have last h = ap (λ (t : List A). slice_get t 0) e ∙ ap (λ (t : List A). slice_get (t ++ filter Tie (items others)) 0) (sym e)

  pub first_found : {X : Type 0} (f : X → List A) (vs rest : List X) (v : X) (n : ℕ) (found : Option A) → HaveItems (map f vs) → n ≤ length vs → PartsChunks Below (map f vs) n → rest ≡ drop n vs → 0 < length rest → v ≡ get_or rest 0 v
      → (Rises o (f v) → found ≡ slice_get (filter Tie (f v)) 0) → Rises o (items (map f vs)) → found ≡ slice_get (filter Tie (items (map f vs))) 0
  first_found {X} f vs rest v n found some le parted is rest_some first told rises = parts rest is rest_some first
    where
      parts : (rest : List X) → rest ≡ drop n vs → 0 < length rest → v ≡ get_or rest 0 v → found ≡ slice_get (filter Tie (items (map f vs))) 0
      parts [] is rest_some first = absurd (omega arith)
      parts (w ∷ ws) is rest_some first =
          let cut : drop n (map f vs) ≡ f v ∷ map f ws = drop-map f n vs ∙ ap (map f) (sym is) ∙ ap (λ (u : X). f u ∷ map f ws) (sym first) in
          told (first_rises (map f vs) n (f v) (map f ws) cut rises) ∙ first_tie (map f vs) n (f v) (map f ws) some (omega (arith, length-map vs f)) parted cut rises

  -- those of all chunks, as they are found
  pub ties_found : {X : Type 0} (f : X → List A) (vs ws middle after : List X) (v : X) (n e : ℕ) (chunk first last result : List A) → HaveItems (map f vs) → n ≤ length vs → PartsChunks Below (map f vs) n → drop n vs ≡ v ∷ ws → e ≤ length ws → PartsChunks NotAbove (map f ws) e
      → middle ≡ take e ws → after ≡ drop e ws → chunk ≡ f v → (Rises o chunk → first ≡ filter Tie chunk) → (Rises o (get_or (map f after) 0 []) → last ≡ filter Tie (get_or (map f after) 0 [])) → result ≡ first ++ (items (map f middle) ++ last)
      → Rises o (items (map f vs)) → result ≡ filter Tie (items (map f vs))
  ties_found {X} f vs ws middle after v n e chunk first last result some le parted rest e_in parted_too middle_is after_is chunk_is first_is last_is is rises =
      let cut : drop n (map f vs) ≡ f v ∷ map f ws = drop-map f n vs ∙ ap (map f) rest in
      let front : first ≡ filter Tie (f v) = first_is (subst (λ (t : List A). Rises o t) (sym chunk_is) (first_rises (map f vs) n (f v) (map f ws) cut rises)) ∙ ap (filter Tie) chunk_is in
      let inner : items (map f middle) ≡ items (take e (map f ws)) = ap (λ (t : List X). items (map f t)) middle_is ∙ ap items (sym (take-map f e ws)) in
      let end_is : get_or (map f after) 0 [] ≡ get_or (drop e (map f ws)) 0 [] = ap (λ (t : List X). get_or (map f t) 0 []) after_is ∙ ap (λ (t : List (List A)). get_or t 0 []) (sym (drop-map f e ws)) in
      let back : last ≡ filter Tie (get_or (drop e (map f ws)) 0 []) = last_is (subst (λ (t : List A). Rises o t) (sym end_is) (last_rises (map f vs) n e (f v) (map f ws) cut rises)) ∙ ap (filter Tie) end_is in
      is
      ∙ (λ i. front i ++ (inner i ++ back i))
      ∙ sym (all_ties (map f vs) n e (f v) (map f ws) some (omega (arith, length-map vs f)) parted cut (omega (arith, length-map ws f)) parted_too rises)

  pub none_found : {X : Type 0} (f : X → List A) (vs : List X) (n : ℕ) → HaveItems (map f vs) → n ≤ length vs → PartsChunks Below (map f vs) n → length (drop n vs) ≡ 0 → Rises o (items (map f vs)) → [] ≡ filter Tie (items (map f vs))
  none_found f vs n some le parted none rises =
      sym (no_ties (map f vs) n some (omega (arith, length-map vs f)) parted rises (nil_from_length (drop n (map f vs)) (ap length (drop-map f n vs) ∙ length-map (drop n vs) f ∙ none)))

-- chunks from among others
have-take : {A : Type 0} (chunks : List (List A)) (n : ℕ) → HaveItems chunks → HaveItems (take n chunks)
have-take chunks zero some = tt
have-take [] (suc n) some = tt
have-take (chunk ∷ chunks) (suc n) some = (some.0, have-take chunks n some.1)

pub have_middle : {A X : Type 0} (f : X → List A) (vs ws middle : List X) (v : X) (n e : ℕ) → HaveItems (map f vs) → drop n vs ≡ v ∷ ws → middle ≡ take e ws → HaveItems (map f middle)
have_middle {A} {X} f vs ws middle v n e some rest is =
    let after : HaveItems (f v ∷ map f ws) = subst HaveItems (drop-map f n vs ∙ ap (map f) rest) (have-drop (map f vs) n some) in
    subst HaveItems (take-map f e ws ∙ ap (map f) (sym is)) (have-take (map f ws) e after.1)
