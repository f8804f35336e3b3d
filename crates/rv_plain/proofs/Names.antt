-- What is told of names, in the names' order: the same as what is told of them one after another, put in order.
use Rattle.std.proofs.Common.{◌≡◌, ℕ, ◌+◌, ◌<◌, ◌++◌, Bool, true, false, List, [], ◌∷◌, Option, Some, None, Result, Ok, Err, refl, sym, ap, ◌∙◌, subst, cond, length, get_or, take, append_assoc, append-nil}
use Rattle.std.proofs.lemmas.List.{take_more}
use Rattle.std.proofs.lemmas.List.Elements.{filter_map-append}
use Rattle.std.specs.declared.cmp.Ordering.TheVariants.{Less}
use Rattle.std.specs.List.{filter_map, cons_option, list_any, AllByRecursion}
use Rattle.std.specs.Option.{option_map, IfSome}
use Rattle.std.specs.Result.{IfOk}
use Rattle.std.proofs.lemmas.Option.{same_Some}
use Rattle.std.specs.Ordering.{nat_cmp}
use Rattle.std.specs.Cmp.Lexicographic.{slice_cmp}
use Rattle.std.specs.Str.{bytes_eq}
use Rattle.rv_base.specs.Sorted.{find_by, put_by, sorted_by, InOrder}
use Rattle.rv_base.specs.PositionLaws.{found-any, found-sorted, in_order-sorted}
use Rattle.rv_base.specs.ArrangedLaws.{in_order-same, sorted-in_order, sorted-push}
use Rattle.rv_book.specs.Book.{Book, belongs, bound, client_in, group_of, last, last_order, retired}
use Rattle.rv_book.specs.Registers.{client_named, group_named}
use Rattle.rv_book.specs.BookWordLaws.{bytes_eq_back}
use Rattle.rv_book.specs.RegisterLaws.{find-info}

abbrev pub name : List ℕ → List ℕ
name n = n

-- a name stands among names put in order where it stands among them
among : (k : List ℕ) (names : List (List ℕ)) → list_any (λ n. bytes_eq n k) (sorted_by name names) ≡ list_any (λ n. bytes_eq n k) names
among k names =
    back (sorted_by name names) ∙ sym (found-any name k (sorted_by name names)) ∙ found-sorted name k names ∙ sym (back names)
  where
    back : (ns : List (List ℕ)) → list_any (λ n. bytes_eq n k) ns ≡ list_any (λ n. bytes_eq k n) ns
    back ns = λ i. list_any (λ n. bytes_eq_back n k i) ns

module _ {X : Type 0} (key : X → List ℕ) (of : List ℕ → Option X) (keyed : (n : List ℕ) (x : X) → of n ≡ Some x → key x ≡ n) where
  above : (n : List ℕ) (names : List (List ℕ)) → AllByRecursion (λ m. slice_cmp nat_cmp n m ≡ Less) names → AllByRecursion (λ x. slice_cmp nat_cmp n (key x) ≡ Less) (filter_map of names)
  above n [] all = tt
  above n (m ∷ names) all =
      elim (of m) as (λ o. of m ≡ o → AllByRecursion (λ x. slice_cmp nat_cmp n (key x) ≡ Less) (cons_option o (filter_map of names))) [
        | None ↦ λ e. above n names all.1
        | Some x ↦ λ e. (subst (λ (t : List ℕ). slice_cmp nat_cmp n t ≡ Less) (sym (keyed m x e)) all.0, above n names all.1)
      ] refl

  pub in_order-told : (names : List (List ℕ)) → InOrder name names → InOrder key (filter_map of names)
  in_order-told [] sorted = tt
  in_order-told (n ∷ names) sorted =
      elim (of n) as (λ o. of n ≡ o → InOrder key (cons_option o (filter_map of names))) [
        | None ↦ λ e. in_order-told names sorted.1
        | Some x ↦ λ e. (subst (λ (t : List ℕ). AllByRecursion (λ y. slice_cmp nat_cmp t (key y) ≡ Less) (filter_map of names)) (sym (keyed n x e)) (above n names sorted.0), in_order-told names sorted.1)
      ] refl

  pub told-sorted : (names : List (List ℕ)) → filter_map of (sorted_by name names) ≡ sorted_by key (filter_map of names)
  told-sorted names =
      let order = in_order-told (sorted_by name names) (in_order-sorted name names) in
      in_order-same key (filter_map of (sorted_by name names)) (sorted_by key (filter_map of names)) order (in_order-sorted key (filter_map of names))
      (λ k. ap (find_by key k) (sym (sorted-in_order key (filter_map of (sorted_by name names)) order))
      ∙ find-info key of k (sorted_by name names) keyed
      ∙ ap (λ (b : Bool). cond b (of k) None) (among k names)
      ∙ sym (find-info key of k names keyed))

-- what is told of the names up to one more
pub told_more : {X Y : Type 0} (h : X → Option Y) (xs : List X) (i : ℕ) (x : X) → i < length xs → x ≡ get_or xs i x → filter_map h (take (i + 1) xs) ≡ filter_map h (take i xs) ++ cons_option (h x) []
told_more h xs i x lt is =
    ap (filter_map h) (take_more xs i x lt ∙ ap (λ (y : _). take i xs ++ y ∷ []) (sym is)) ∙ filter_map-append h (take i xs) (x ∷ [])

-- what is told of the names up to one more, after these
pub told_next : {X Y : Type 0} (h : X → Option Y) (front : List Y) (xs : List X) (i : ℕ) (x : X) {list new : List Y} {told : Option Y} → i < length xs → x ≡ get_or xs i x
    → list ≡ front ++ filter_map h (take i xs) → told ≡ h x → new ≡ list ++ cons_option told [] → new ≡ front ++ filter_map h (take (i + 1) xs)
told_next {Y = Y} h front xs i x lt is before told after =
    after ∙ (λ j. before j ++ cons_option (told j) []) ∙ append_assoc front (filter_map h (take i xs)) (cons_option (h x) []) ∙ ap (λ (ys : List Y). front ++ ys) (sym (told_more h xs i x lt is))

-- what holds of each item holds of each with one more of which it holds
pub all_next : {Y : Type 0} (P : Y → Type 0) (list : List Y) (told : Option Y) {new : List Y} → AllByRecursion P list → IfSome told P → new ≡ list ++ cons_option told [] → AllByRecursion P new
all_next P list None all one after = subst (AllByRecursion P) (sym (after ∙ append-nil list)) all
all_next P list (Some y) all one after = subst (AllByRecursion P) (sym after) (pushed list all)
  where
    pushed : (ys : List _) → AllByRecursion P ys → AllByRecursion P (ys ++ y ∷ [])
    pushed [] all = (one, tt)
    pushed (z ∷ zs) all = (all.0, pushed zs all.1)

-- the names up to one more, in order
pub sorted_next : (names : List (List ℕ)) (i : ℕ) (x : List ℕ) {y : List ℕ} {list new : List (List ℕ)} → i < length names → x ≡ get_or names i x → list ≡ sorted_by name (take i names) → y ≡ x → new ≡ put_by name y list
    → new ≡ sorted_by name (take (i + 1) names)
sorted_next names i x lt is before same after =
    after ∙ (λ j. put_by name (same j) (before j)) ∙ sym (ap (sorted_by name) (take_more names i x lt ∙ ap (λ (n : List ℕ). take i names ++ n ∷ []) (sym is)) ∙ sorted-push name x (take i names))

-- what is told of a name has it
pub id_keyed : (group : List ℕ) (book : Book) (client : List ℕ) (told : List ℕ × ℕ) → client_in group book client ≡ Some told → told.0 ≡ client
id_keyed group book client told is =
    elim (belongs client group book) as (λ b. cond b (Some (client, last client book)) None ≡ Some told → told.0 ≡ client) [
      | true ↦ λ h. sym (ap (λ (t : List ℕ × ℕ). t.0) (same_Some (client, last client book) told h))
      | false ↦ λ h. absurd (cc)
    ] is

pub client_keyed : (book : Book) (client : List ℕ) (told : List ℕ × List ℕ × ℕ) → client_named client book ≡ Some told → told.0 ≡ client
client_keyed book client told is =
    elim (group_of client book) as (λ o. option_map {U = List ℕ × List ℕ × ℕ} (λ group. (client, group, last client book)) o ≡ Some told → told.0 ≡ client) [
      | None ↦ λ h. absurd (cc)
      | Some group ↦ λ h. sym (ap (λ (t : List ℕ × List ℕ × ℕ). t.0) (same_Some _ told h))
    ] is

pub group_keyed : (book : Book) (group : List ℕ) (told : List ℕ × List ℕ × ℕ × Bool) → group_named group book ≡ Some told → told.0 ≡ group
group_keyed book group told is =
    elim (bound group book) as (λ o. option_map {U = List ℕ × List ℕ × ℕ × Bool} (λ user. (group, user, last_order group book, retired group book)) o ≡ Some told → told.0 ≡ group) [
      | None ↦ λ h. absurd (cc)
      | Some user ↦ λ h. sym (ap (λ (t : List ℕ × List ℕ × ℕ × Bool). t.0) (same_Some _ told h))
    ] is

-- what a call gives where it gives something, by another name
pub if_ok_is : {T E : Type 0} (r : Result T E) (P : T → Type 0) (given : T) → IfOk r (λ v. v ≡ given) → P given → IfOk r P
if_ok_is (Ok v) P given is holds = subst P (sym is) holds
if_ok_is (Err e) P given is holds = tt
