-- Items in an order that never falls, in parts.
use Rattle.std.proofs.Common.{◌≡◌, ℕ, zero, suc, ◌<◌, ◌≤◌, Bool, true, false, List, [], ◌∷◌, ◌++◌, length, get_or, take, drop, refl, sym, ◌∙◌, arith}
use Rattle.std.specs.declared.cmp.Ordering.{Ordering}
use Rattle.std.specs.Ordering.{ordering_index}
use Rattle.std.specs.List.{AllByRecursion, AllWithin}
use Rattle.std.specs.List.Sorted.{IsPartitionedBy}
use Rattle.std.proofs.lemmas.Bool.{false≢true}
use Rattle.rv_chunks.specs.Chunking.{items, Rises}
use Rattle.rv_chunks.specs.Vectors.{HaveItems, ends}

-- what holds of each item, by parts
module _ {X : Type 0} (P : X → Type 0) where
  pub all-append : (xs ys : List X) → AllByRecursion P xs → AllByRecursion P ys → AllByRecursion P (xs ++ ys)
  all-append [] ys a b = b
  all-append (x ∷ xs) ys a b = (a.0, all-append xs ys a.1 b)

  pub all-right : (xs ys : List X) → AllByRecursion P (xs ++ ys) → AllByRecursion P ys
  all-right [] ys a = a
  all-right (x ∷ xs) ys a = all-right xs ys a.1

  pub all-left : (xs ys : List X) → AllByRecursion P (xs ++ ys) → AllByRecursion P xs
  all-left [] ys a = tt
  all-left (x ∷ xs) ys a = (a.0, all-left xs ys a.1)

  pub all_at : (xs : List X) (k : ℕ) (d : X) → AllByRecursion P xs → k < length xs → P (get_or xs k d)
  all_at [] k d a lt = absurd (omega arith)
  all_at (x ∷ xs) zero d a lt = a.0
  all_at (x ∷ xs) (suc k) d a lt = all_at xs k d a.1 (omega arith)

  pub to_take : (xs : List X) (i : ℕ) → i ≤ length xs → AllWithin P xs 0 i → AllByRecursion P (take i xs)
  to_take xs zero le all = tt
  to_take [] (suc i) le all = tt
  to_take (x ∷ xs) (suc i) le all = (all 0 x (omega arith) (omega arith), to_take xs i (omega arith) (λ k d low lt. all (suc k) d (omega arith) (omega arith)))

  pub to_drop : (xs : List X) (i : ℕ) → i ≤ length xs → AllWithin P xs i (length xs) → AllByRecursion P (drop i xs)
  to_drop [] zero le all = tt
  to_drop (x ∷ xs) zero le all = (all 0 x (omega arith) (omega arith), to_drop xs zero (omega arith) (λ k d low lt. all (suc k) d (omega arith) (omega arith)))
  to_drop [] (suc i) le all = tt
  to_drop (x ∷ xs) (suc i) le all = to_drop xs i (omega arith) (λ k d low lt. all (suc k) d (omega arith) (omega arith))

  pub from_take : (xs : List X) (i : ℕ) → i ≤ length xs → AllByRecursion P (take i xs) → AllWithin P xs 0 i
  from_take xs zero le all k d low lt = absurd (omega arith)
  from_take [] (suc i) le all k d low lt = absurd (omega arith)
  from_take (x ∷ xs) (suc i) le all zero d low lt = all.0
  from_take (x ∷ xs) (suc i) le all (suc k) d low lt = from_take xs i (omega arith) all.1 k d (omega arith) (omega arith)

  pub from_drop : (xs : List X) (i : ℕ) → AllByRecursion P (drop i xs) → AllWithin P xs i (length xs)
  from_drop xs zero all k d low lt = all_at xs k d all lt
  from_drop [] (suc i) all k d low lt = absurd (omega arith)
  from_drop (x ∷ xs) (suc i) all zero d low lt = absurd (omega arith)
  from_drop (x ∷ xs) (suc i) all (suc k) d low lt = from_drop xs i all k d (omega arith) (omega arith)

pub all-both : {X : Type 0} (P Q R : X → Type 0) (xs : List X) → ((x : X) → P x → Q x → R x) → AllByRecursion P xs → AllByRecursion Q xs → AllByRecursion R xs
all-both P Q R [] so all also = tt
all-both P Q R (x ∷ xs) so all also = (so x all.0 also.0, all-both P Q R xs so all.1 also.1)

pub all-to : {X : Type 0} (P Q : X → Type 0) (xs : List X) → ((x : X) → P x → Q x) → AllByRecursion P xs → AllByRecursion Q xs
all-to P Q [] so all = tt
all-to P Q (x ∷ xs) so all = (so x all.0, all-to P Q xs so all.1)

module _ {A : Type 0} (o : A → Ordering) where
  -- the one item does not stand after the other
  abbrev pub NotAfter : A → A → Type 0
  NotAfter x y = ordering_index (o x) ≤ ordering_index (o y)

  abbrev pub Rise : List A → Type 0
  Rise [] = Unit {0}
  Rise (x ∷ xs) = AllByRecursion (NotAfter x) xs × Rise xs

  not_after_all : (x : A) (ys : List A) → ((j : ℕ) (d : A) → j < length ys → NotAfter x (get_or ys j d)) → AllByRecursion (NotAfter x) ys
  not_after_all x [] each = tt
  not_after_all x (y ∷ ys) each = (each 0 y (omega arith), not_after_all x ys (λ j d lt. each (suc j) d (omega arith)))

  pub rise_of : (xs : List A) → Rises o xs → Rise xs
  rise_of [] h = tt
  rise_of (x ∷ xs) h = (not_after_all x xs (λ j d lt. h 0 (suc j) d (omega arith) (omega arith)), rise_of xs (λ i j d le lt. h (suc i) (suc j) d (omega arith) (omega arith)))

  pub rises_of : (xs : List A) → Rise xs → Rises o xs
  rises_of [] h i j d le lt = absurd (omega arith)
  rises_of (x ∷ xs) h zero zero d le lt = omega arith
  rises_of (x ∷ xs) h zero (suc j) d le lt = all_at (NotAfter x) xs j d h.0 (omega arith)
  rises_of (x ∷ xs) h (suc i) zero d le lt = absurd (omega arith)
  rises_of (x ∷ xs) h (suc i) (suc j) d le lt = rises_of xs h.1 i j d (omega arith) (omega arith)

  pub rise-left : (xs ys : List A) → Rise (xs ++ ys) → Rise xs
  rise-left [] ys h = tt
  rise-left (x ∷ xs) ys h = (all-left (NotAfter x) xs ys h.0, rise-left xs ys h.1)

  pub rise-right : (xs ys : List A) → Rise (xs ++ ys) → Rise ys
  rise-right [] ys h = h
  rise-right (x ∷ xs) ys h = rise-right xs ys h.1

  -- a test that passes what stands before what it passes
  module _ (p : Ordering → Bool) (down : (a b : Ordering) → ordering_index a ≤ ordering_index b → p b ≡ true → p a ≡ true) where
    abbrev Passes : A → Type 0
    Passes x = p (o x) ≡ true

    abbrev Fails : A → Type 0
    Fails x = p (o x) ≡ false

    up : (a b : Ordering) → ordering_index a ≤ ordering_index b → p a ≡ false → p b ≡ false
    up a b le fails = elim (p b) as (λ v. p b ≡ v → v ≡ false) [ true ↦ λ e. absurd (false≢true (sym fails ∙ down a b le e)) | false ↦ λ e. refl ] refl

    pub last_passes : (chunk : List A) → Rise chunk → ends (λ i. p (o i)) chunk ≡ true → AllByRecursion Passes chunk
    last_passes [] h e = tt
    last_passes (x ∷ []) h e = (e, tt)
    last_passes (x ∷ y ∷ ys) h e =
        let rest = last_passes (y ∷ ys) h.1 e in
        (down (o x) (o y) h.0.0 rest.0, rest)

    pub all_end : (chunk : List A) → 1 ≤ length chunk → AllByRecursion Passes chunk → ends (λ i. p (o i)) chunk ≡ true
    all_end [] some all = absurd (omega arith)
    all_end (x ∷ []) some all = all.0
    all_end (x ∷ y ∷ ys) some all = all_end (y ∷ ys) (omega arith) all.1

    fail_too : (x : A) (ys : List A) → Fails x → AllByRecursion (NotAfter x) ys → AllByRecursion Fails ys
    fail_too x [] e all = tt
    fail_too x (y ∷ ys) e all = (up (o x) (o y) all.0 e, fail_too x ys e all.1)

    pub last_fails : (chunk ys : List A) → 1 ≤ length chunk → Rise (chunk ++ ys) → ends (λ i. p (o i)) chunk ≡ false → AllByRecursion Fails ys
    last_fails [] ys some h e = absurd (omega arith)
    last_fails (x ∷ []) ys some h e = fail_too x ys e h.0
    last_fails (x ∷ y ∷ chunk) ys some h e = last_fails (y ∷ chunk) ys (omega arith) h.1 e

    pass_before : (xs : List A) (y : A) (ys : List A) → Rise (xs ++ y ∷ ys) → Passes y → AllByRecursion Passes xs
    pass_before [] y ys h e = tt
    pass_before (x ∷ xs) y ys h e = (down (o x) (o y) (all-right (NotAfter x) xs (y ∷ ys) h.0).0 e, pass_before xs y ys h.1 e)

    chunk_before : (chunk next ys : List A) → 1 ≤ length chunk → 1 ≤ length next → Rise (chunk ++ (next ++ ys)) → ends (λ i. p (o i)) next ≡ true → ends (λ i. p (o i)) chunk ≡ true
    chunk_before chunk [] ys some more h e = absurd (omega arith)
    chunk_before chunk (y ∷ next) ys some more h e =
        let first = last_passes (y ∷ next) (rise-left (y ∷ next) ys (rise-right chunk ((y ∷ next) ++ ys) h)) e in
        all_end chunk some (pass_before chunk y (next ++ ys) h first.0)

    pub partitioned : (chunks : List (List A)) → HaveItems chunks → Rise (items chunks) → IsPartitionedBy (ends (λ i. p (o i))) chunks
    partitioned [] some h i j d le lt e = absurd (omega arith)
    partitioned (chunk ∷ chunks) some h zero zero d le lt e = e
    partitioned (chunk ∷ []) some h zero (suc j) d le lt e = absurd (omega arith)
    partitioned (chunk ∷ next ∷ chunks) some h zero (suc j) d le lt e =
        chunk_before chunk next (items chunks) some.0 some.1.0 h (partitioned (next ∷ chunks) some.1 (rise-right chunk (items (next ∷ chunks)) h) zero j d (omega arith) (omega arith) e)
    partitioned (chunk ∷ chunks) some h (suc i) zero d le lt e = absurd (omega arith)
    partitioned (chunk ∷ chunks) some h (suc i) (suc j) d le lt e = partitioned chunks some.1 (rise-right chunk (items chunks) h) i j d (omega arith) (omega arith) e

    -- the items of the first chunks pass, where each of those ends with one that does
    pub chunks_pass : (chunks : List (List A)) (n : ℕ) → n ≤ length chunks → Rise (items chunks) → AllWithin (λ chunk. ends (λ i. p (o i)) chunk ≡ true) chunks 0 n → AllByRecursion Passes (items (take n chunks))
    chunks_pass chunks zero le h all = tt
    chunks_pass [] (suc n) le h all = absurd (omega arith)
    chunks_pass (chunk ∷ chunks) (suc n) le h all =
        all-append Passes chunk (items (take n chunks))
        (last_passes chunk (rise-left chunk (items chunks) h) (all 0 chunk (omega arith) (omega arith)))
        (chunks_pass chunks n (omega arith) (rise-right chunk (items chunks) h) (λ k d low lt. all (suc k) d (omega arith) (omega arith)))
