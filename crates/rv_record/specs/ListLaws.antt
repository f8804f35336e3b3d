-- Laws of lists: an item more at the end, the first items, what is joined and mapped, and what a test leaves of items that all pass it, or none
-- of them.
use Rattle.std.proofs.Common.{◌≡◌, ℕ, zero, suc, ◌-◌, Bool, true, false, cond, List, [], ◌∷◌, ◌++◌, length, take, drop, map, refl, sym, ap, ◌∙◌, subst, arith}
use Rattle.std.specs.declared.cmp.Ordering.TheVariants.{Greater}
use Rattle.std.specs.Cmp.Lexicographic.{slice_cmp}
use Rattle.std.specs.List.{filter, AllByRecursion}
use Rattle.std.specs.Ordering.{nat_cmp, ordering_reverse}
use Rattle.std.proofs.lemmas.Cmp.{nat_list_cmp_total}
use Rattle.std.proofs.lemmas.List.{take-append-drop}
use Rattle.rv_base.specs.Sorted.{put_by, InOrder, Below}

module _ {X : Type 0} (P : X → Type 0) where
  pub all-push : (xs : List X) (x : X) → AllByRecursion P xs → P x → AllByRecursion P (xs ++ x ∷ [])
  all-push [] x all last = (last, tt)
  all-push (y ∷ xs) x all last = (all.0, all-push xs x all.1 last)

  pub all-left : (xs ys : List X) → AllByRecursion P (xs ++ ys) → AllByRecursion P xs
  all-left [] ys all = tt
  all-left (x ∷ xs) ys all = (all.0, all-left xs ys all.1)

  pub all-right : (xs ys : List X) → AllByRecursion P (xs ++ ys) → AllByRecursion P ys
  all-right [] ys all = all
  all-right (x ∷ xs) ys all = all-right xs ys all.1

  pub all-last : (xs : List X) (x : X) → AllByRecursion P (xs ++ x ∷ []) → P x
  all-last xs x all = (all-right xs (x ∷ []) all).0

  pub all-append : (xs ys : List X) → AllByRecursion P xs → AllByRecursion P ys → AllByRecursion P (xs ++ ys)
  all-append [] ys all also = also
  all-append (x ∷ xs) ys all also = (all.0, all-append xs ys all.1 also)

  pub all-take : (n : ℕ) (xs : List X) → AllByRecursion P xs → AllByRecursion P (take n xs)
  all-take n xs all = all-left (take n xs) (drop n xs) (subst (AllByRecursion P) (sym (take-append-drop n xs)) all)

pub all-weaker : {X : Type 0} (P Q : X → Type 0) (xs : List X) → ((x : X) → P x → Q x) → AllByRecursion P xs → AllByRecursion Q xs
all-weaker P Q [] weaker all = tt
all-weaker P Q (x ∷ xs) weaker all = (weaker x all.0, all-weaker P Q xs weaker all.1)

pub all-map : {X Y : Type 0} (P : Y → Type 0) (f : X → Y) (xs : List X) → ((x : X) → P (f x)) → AllByRecursion P (map f xs)
all-map P f [] each = tt
all-map P f (x ∷ xs) each = (each x, all-map P f xs each)

pub cons_parts : {X : Type 0} (x y : X) (xs ys : List X) → x ∷ xs ≡ y ∷ ys → (x ≡ y) × (xs ≡ ys)
cons_parts x y xs ys same = (cc, cc)

-- a list is not itself with an item more
pub not_longer : {X : Type 0} (xs : List X) (x : X) → xs ≡ xs ++ x ∷ [] → ⊥
not_longer [] x same = cc
not_longer (y ∷ xs) x same = not_longer xs x (cons_parts y y xs (xs ++ x ∷ []) same).1

-- items whose images end so
pub record EndsIn {X Y : Type 0} (f : X → Y) (zs : List X) (ys : List Y) (y : Y) : Type 0 where
  pub front : List X
  pub last : X
  pub is : zs ≡ front ++ last ∷ []
  pub images : map f front ≡ ys
  pub image : f last ≡ y

pub map-last : {X Y : Type 0} (f : X → Y) (zs : List X) (ys : List Y) (y : Y) → map f zs ≡ ys ++ y ∷ [] → EndsIn f zs ys y
map-last f [] [] y same = absurd (cc)
map-last f [] (x ∷ ys) y same = absurd (cc)
map-last f (z ∷ []) [] y same = record { front = []; last = z; is = refl; images = refl; image = (cons_parts (f z) y [] [] same).0 }
map-last f (z ∷ w ∷ zs) [] y same = absurd (let rest = (cons_parts (f z) y (f w ∷ map f zs) [] same).1 in cc)
map-last f (z ∷ zs) (x ∷ ys) y same =
    let parts = cons_parts (f z) x (map f zs) (ys ++ y ∷ []) same in
    let rest = map-last f zs ys y parts.1 in
    record { front = z ∷ rest.front; last = rest.last; is = ap (λ (l : List _). z ∷ l) rest.is; images = (λ i. parts.0 i ∷ rest.images i); image = rest.image }

-- the first items up to one of them
pub take-to : {X : Type 0} (xs : List X) (y : X) (ys : List X) → take (suc (length xs)) (xs ++ y ∷ ys) ≡ xs ++ y ∷ []
take-to [] y ys = refl
take-to (x ∷ xs) y ys = ap (λ (zs : List _). x ∷ zs) (take-to xs y ys)

-- the first of images and of what stands behind them
pub take-images : {X Y : Type 0} (f : X → Y) (n : ℕ) (xs : List X) (ys : List Y) → take n (map f xs ++ ys) ≡ map f (take n xs) ++ take (n - length xs) ys
take-images f zero [] ys = refl
take-images f zero (x ∷ xs) ys = let nothing : 0 ≡ 0 - length (x ∷ xs) = omega arith in ap (λ (k : ℕ). take k ys) nothing
take-images f (suc n) [] ys = let all : suc n ≡ suc n - 0 = omega arith in ap (λ (k : ℕ). take k ys) all
take-images f (suc n) (x ∷ xs) ys =
    let left : n - length xs ≡ suc n - length (x ∷ xs) = omega arith in
    ap (λ (zs : List _). f x ∷ zs) (take-images f n xs ys ∙ ap (λ (k : ℕ). map f (take n xs) ++ take k ys) left)

-- a test that all images pass, and one that none does
pub filter-all : {X Y : Type 0} (test : Y → Bool) (f : X → Y) (xs : List X) → ((x : X) → test (f x) ≡ true) → filter test (map f xs) ≡ map f xs
filter-all test f [] pass = refl
filter-all test f (x ∷ xs) pass = ap (λ (b : Bool). cond b (f x ∷ filter test (map f xs)) (filter test (map f xs))) (pass x) ∙ ap (λ ys. f x ∷ ys) (filter-all test f xs pass)

pub filter-none : {X Y : Type 0} (test : Y → Bool) (f : X → Y) (xs : List X) → ((x : X) → test (f x) ≡ false) → filter test (map f xs) ≡ []
filter-none test f [] fail = refl
filter-none test f (x ∷ xs) fail = ap (λ (b : Bool). cond b (f x ∷ filter test (map f xs)) (filter test (map f xs))) (fail x) ∙ filter-none test f xs fail

module _ {X : Type 0} (key : X → List ℕ) where
  -- an item above all others stands at the end, and is put there
  pub in_order-push : (xs : List X) (x : X) → InOrder key xs → AllByRecursion (λ y. Below (key y) (key x)) xs → InOrder key (xs ++ x ∷ [])
  in_order-push [] x order below = (tt, tt)
  in_order-push (y ∷ xs) x order below = (all-push (λ z. Below (key y) (key z)) xs x order.0 below.0, in_order-push xs x order.1 below.1)

  pub put-end : (x : X) (xs : List X) → AllByRecursion (λ y. Below (key y) (key x)) xs → put_by key x xs ≡ xs ++ x ∷ []
  put-end x [] below = refl
  put-end x (y ∷ ys) below =
      let above : slice_cmp nat_cmp (key x) (key y) ≡ Greater = nat_list_cmp_total.antisymm (key x) (key y) ∙ ap ordering_reverse below.0 in
      rw above (ap (λ (zs : List X). y ∷ zs) (put-end x ys below.1))

  -- of items in order the last is above the others
  pub below-last : (xs : List X) (x : X) → InOrder key (xs ++ x ∷ []) → AllByRecursion (λ y. Below (key y) (key x)) xs
  below-last [] x order = tt
  below-last (y ∷ xs) x order = (all-last (λ z. Below (key y) (key z)) xs x order.0, below-last xs x order.1)

  -- the first of items in order are in order, and below all behind them
  pub in_order-left : (xs ys : List X) → InOrder key (xs ++ ys) → InOrder key xs
  in_order-left [] ys order = tt
  in_order-left (x ∷ xs) ys order = (all-left (λ z. Below (key x) (key z)) xs ys order.0, in_order-left xs ys order.1)

  pub in_order-take : (n : ℕ) (xs : List X) → InOrder key xs → InOrder key (take n xs)
  in_order-take n xs order = in_order-left (take n xs) (drop n xs) (subst (InOrder key) (sym (take-append-drop n xs)) order)

  pub in_order-below : (xs ys : List X) → InOrder key (xs ++ ys) → AllByRecursion (λ x. AllByRecursion (λ y. Below (key x) (key y)) ys) xs
  in_order-below [] ys order = tt
  in_order-below (x ∷ xs) ys order = (all-right (λ z. Below (key x) (key z)) xs ys order.0, in_order-below xs ys order.1)

  -- items in order behind others, which are below all of them
  pub in_order-append : (xs ys : List X) → InOrder key xs → InOrder key ys → AllByRecursion (λ x. AllByRecursion (λ y. Below (key x) (key y)) ys) xs → InOrder key (xs ++ ys)
  in_order-append [] ys order also below = also
  in_order-append (x ∷ xs) ys order also below = (all-append (λ z. Below (key x) (key z)) xs ys order.0 below.0, in_order-append xs ys order.1 also below.1)

-- images that stand as their items do
module _ {X Y : Type 0} (key : X → List ℕ) (image_key : Y → List ℕ) (f : X → Y) (below : (a b : X) → Below (key a) (key b) → Below (image_key (f a)) (image_key (f b))) where
  images_above : (x : X) (xs : List X) → AllByRecursion (λ y. Below (key x) (key y)) xs → AllByRecursion (λ y. Below (image_key (f x)) (image_key y)) (map f xs)
  images_above x [] all = tt
  images_above x (y ∷ ys) all = (below x y all.0, images_above x ys all.1)

  pub in_order-images : (xs : List X) → InOrder key xs → InOrder image_key (map f xs)
  in_order-images [] order = tt
  in_order-images (x ∷ xs) order = (images_above x xs order.0, in_order-images xs order.1)
