-- What a binary search by place finds among records whose places rise.
use Rattle.std.proofs.Common.{◌≡◌, ◌≢◌, ℕ, zero, suc, ◌<◌, ◌≤◌, ◌==◌, true, false, List, [], ◌∷◌, length, get_or, Some, None, Result, Ok, Err, refl, sym, ap, ◌∙◌, inl, inr, arith}
use Rattle.std.specs.declared.cmp.Ordering.TheVariants.{Less, Equal, Greater}
use Rattle.std.specs.List.{AllByRecursion}
use Rattle.std.specs.List.Sorted.{IsBinarySearchResult, IsSearchInRange}
use Rattle.std.specs.Ordering.{nat_cmp, ordering_index}
use Rattle.std.proofs.lemmas.Bool.{cases_lt}
use Rattle.std.proofs.lemmas.Bool.Decides.{Decides-eqb, nat_tests}
use Rattle.std.proofs.lemmas.Cmp.{ranked}
use Rattle.rv_news.specs.Records.{Placed, Rise, record_at, Locates}

other_place : (a place : ℕ) → a ≢ place → (a == place) ≡ false
other_place a place differs =
    elim (a == place) as (λ b. (a == place) ≡ b → b ≡ false) [
      | true ↦ λ e. absurd (differs ((Decides-eqb a place).0 e))
      | false ↦ λ e. refl
    ] refl

all_at : (P : Placed → Type 0) (rs : List Placed) (i : ℕ) (d : Placed) → AllByRecursion P rs → i < length rs → P (get_or rs i d)
all_at P [] i d all lt = absurd (omega arith)
all_at P (r ∷ rs) zero d all lt = all.0
all_at P (r ∷ rs) (suc i) d all lt = all_at P rs i d all.1 (omega arith)

-- an item of this place is found
find_at : (place : ℕ) (rs : List Placed) (i : ℕ) (d : Placed) → Rise rs → i < length rs → (get_or rs i d).0 ≡ place → record_at place rs ≡ Some (get_or rs i d).1
find_at place [] i d rise lt is = absurd (omega arith)
find_at place (r ∷ rs) zero d rise lt is = rw ((Decides-eqb r.0 place).1 is) refl
find_at place (r ∷ rs) (suc i) d rise lt is =
    let low : r.0 < (get_or rs i d).0 = all_at (λ other. r.0 < other.0) rs i d rise.0 (omega arith) in
    rw (other_place r.0 place (λ same. omega (arith, low, is, same))) (find_at place rs i d rise.1 (omega arith) is)

-- and none where no item is of it
find_none : (place : ℕ) (rs : List Placed) → ((j : ℕ) (d : Placed) → j < length rs → (get_or rs j d).0 ≢ place) → record_at place rs ≡ None
find_none place [] none = refl
find_none place (r ∷ rs) none = rw (other_place r.0 place (none 0 r (omega arith))) (find_none place rs (λ j d lt. none (suc j) d (omega arith)))

-- answers rise with the places
index_rises : (a b place : ℕ) → a ≤ b → ordering_index (nat_cmp a place) ≤ ordering_index (nat_cmp b place)
index_rises a b place le = grind (arith, nat_tests)

places_rise : (rs : List Placed) → Rise rs → (i j : ℕ) (d : Placed) → i ≤ j → j < length rs → (get_or rs i d).0 ≤ (get_or rs j d).0
places_rise [] rise i j d le lt = absurd (omega arith)
places_rise (r ∷ rs) rise zero zero d le lt = omega arith
places_rise (r ∷ rs) rise zero (suc j) d le lt = let low : r.0 < (get_or rs j d).0 = all_at (λ other. r.0 < other.0) rs j d rise.0 (omega arith) in omega (arith, low)
places_rise (r ∷ rs) rise (suc i) zero d le lt = absurd (omega arith)
places_rise (r ∷ rs) rise (suc i) (suc j) d le lt = places_rise rs rise.1 i j d (omega arith) (omega arith)

less_is : (a place : ℕ) → nat_cmp a place ≡ Less → a ≢ place
less_is a place e same = let low : a < place = ranked a place Less (sym e) in omega arith

greater_is : (a place : ℕ) → nat_cmp a place ≡ Greater → a ≢ place
greater_is a place e same = let high : place < a = ranked a place Greater (sym e) in omega arith

pub located : (place : ℕ) (rs : List Placed) (r : Result ℕ ℕ) → Rise rs → IsSearchInRange r (length rs) → IsBinarySearchResult (λ y. nat_cmp y.0 place) rs r → Locates place rs r
located place rs (Ok i) rise within here = (
  within,
  λ x found.
      let same : (get_or rs i x).0 ≡ place = ranked (get_or rs i x).0 place Equal (sym (here x)) in
      find_at place rs i x rise within same ∙ ap (λ (y : Placed). Some y.1) (sym found),
)
located place rs (Err i) rise within parted =
    let parts = parted (λ j k d le lt. index_rises (get_or rs j d).0 (get_or rs k d).0 place (places_rise rs rise j k d le lt)) in
    find_none place rs (λ j d lt. elim (cases_lt j i) as (λ _. (get_or rs j d).0 ≢ place) [
      | inl low ↦ less_is (get_or rs j d).0 place (parts.0 j d (omega arith) low)
      | inr high ↦ greater_is (get_or rs j d).0 place (parts.1 j d high lt)
    ])
