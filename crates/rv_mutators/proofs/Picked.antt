-- What a test keeps of items in the order of their keys.
use Rattle.std.proofs.Common.{◌≡◌, ℕ, Bool, true, false, cond, ◌&&◌, ◌||◌, List, [], ◌∷◌, map, Option, Some, None, refl, sym, ap, ◌∙◌, subst}
use Rattle.std.specs.Str.{bytes_eq}
use Rattle.std.specs.List.{filter, list_any}
use Rattle.std.specs.Option.{option_map_or}
use Rattle.std.proofs.lemmas.Slice.Eq.{bytes_eq-Decides}
use Rattle.std.proofs.lemmas.Option.{same_Some}
use Rattle.std.proofs.lemmas.Map.Entries.{option_filter}
use Rattle.rv_base.specs.Sorted.{find_by, InOrder}
use Rattle.rv_base.specs.PositionLaws.{find_above, in_order-filter}
use Rattle.rv_base.specs.ArrangedLaws.{distinct-in_order, in_order-same, find-filter}

-- by cases on a test, with what it says
pub by_flag : (P : Bool → Type 0) (b : Bool) → (b ≡ true → P true) → (b ≡ false → P false) → P b
by_flag P true t f = t refl
by_flag P false t f = f refl

-- by cases on what is found
pub by_found : {X : Type 0} (P : Option X → Type 0) (o : Option X) → (o ≡ None → P None) → ((x : X) → o ≡ Some x → P (Some x)) → P o
by_found P None n s = n refl
by_found P (Some x) n s = s x refl

pub filter-none : {X : Type 0} (xs : List X) → filter (λ _. false) xs ≡ []
filter-none [] = refl
filter-none (x ∷ xs) = filter-none xs

pub filter-map : {X Y : Type 0} (p : Y → Bool) (f : X → Y) (xs : List X) → filter p (map f xs) ≡ map f (filter (λ x. p (f x)) xs)
filter-map p f [] = refl
filter-map p f (x ∷ xs) = elim (p (f x)) as (λ b. cond b (f x ∷ filter p (map f xs)) (filter p (map f xs)) ≡ map f (cond b (x ∷ filter (λ x. p (f x)) xs) (filter (λ x. p (f x)) xs))) [ true ↦ ap (λ t. f x ∷ t) (filter-map p f xs) | false ↦ filter-map p f xs ]

module _ {X : Type 0} (key : X → List ℕ) where
  -- what is found has the key
  pub find-key : (k : List ℕ) (xs : List X) (x : X) → find_by key k xs ≡ Some x → k ≡ key x
  find-key k [] x h = absurd (cc)
  find-key k (y ∷ ys) x h =
      by_flag (λ b. cond b (Some y) (find_by key k ys) ≡ Some x → k ≡ key x) (bytes_eq k (key y))
      (λ e f. (bytes_eq-Decides k (key y)).0 e ∙ ap key (same_Some y x f))
      (λ e f. find-key k ys x f) h

  -- nothing after an item has its key
  pub none_after : (k : List ℕ) (x : X) (xs : List X) → InOrder key (x ∷ xs) → bytes_eq k (key x) ≡ true → find_by key k xs ≡ None
  none_after k x xs h e = subst (λ (t : List ℕ). find_by key t xs ≡ None) (sym ((bytes_eq-Decides k (key x)).0 e)) (find_above key (key x) xs h.0)

  -- tests that agree on the items keep the same
  pub filter-same : (p q : X → Bool) (xs : List X) → InOrder key xs → ((x : X) → find_by key (key x) xs ≡ Some x → p x ≡ q x) → filter p xs ≡ filter q xs
  filter-same p q xs h same =
      in_order-same key (filter p xs) (filter q xs) (in_order-filter key p xs h) (in_order-filter key q xs h)
      (λ k. find-filter key p k xs (distinct-in_order key xs h) ∙ each k ∙ sym (find-filter key q k xs (distinct-in_order key xs h)))
    where
      each : (k : List ℕ) → option_filter p (find_by key k xs) ≡ option_filter q (find_by key k xs)
      each k =
          by_found (λ o. option_filter p o ≡ option_filter q o) (find_by key k xs) (λ e. refl)
          (λ x e. rw (same x (subst (λ (t : List ℕ). find_by key t xs ≡ Some x) (find-key k xs x e) e)) refl)

  -- of the items with one key there is one at most
  pub filter-at : (k : List ℕ) (q : X → Bool) (xs : List X) → InOrder key xs → filter (λ x. bytes_eq k (key x) && q x) xs ≡ option_map_or (λ x. cond (q x) (x ∷ []) []) (find_by key k xs) []
  filter-at k q [] h = refl
  filter-at k q (x ∷ xs) h =
      by_flag (λ b. cond (b && q x) (x ∷ filter (λ x. bytes_eq k (key x) && q x) xs) (filter (λ x. bytes_eq k (key x) && q x) xs) ≡ option_map_or (λ x. cond (q x) (x ∷ []) []) (cond b (Some x) (find_by key k xs)) []) (bytes_eq k (key x))
      (λ e. rw (filter-at k q xs h.1, none_after k x xs h e) refl)
      (λ e. filter-at k q xs h.1)

  pub any-at : (k : List ℕ) (q : X → Bool) (xs : List X) → InOrder key xs → list_any (λ x. bytes_eq k (key x) && q x) xs ≡ option_map_or q (find_by key k xs) false
  any-at k q [] h = refl
  any-at k q (x ∷ xs) h =
      by_flag (λ b. ((b && q x) || list_any (λ x. bytes_eq k (key x) && q x) xs) ≡ option_map_or q (cond b (Some x) (find_by key k xs)) false) (bytes_eq k (key x))
      (λ e. rw (any-at k q xs h.1, none_after k x xs h e) (or_false (q x)))
      (λ e. any-at k q xs h.1)
    where
      or_false : (b : Bool) → (b || false) ≡ b
      or_false true = refl
      or_false false = refl
