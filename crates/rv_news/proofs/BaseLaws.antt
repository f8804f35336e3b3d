-- A text spells at most one place, so the search for a base comes down to that place.
use Rattle.std.proofs.Common.{◌≡◌, ℕ, zero, suc, ◌+◌, ◌≤◌, ◌<◌, ◌^◌, ◌==◌, ◌&&◌, ◌≢◌, List, Bool, true, false, cond, Some, None, refl, sym, ap, ◌∙◌, arith}
use Rattle.std.specs.Prelude.{find, decimal, Result, Ok, Err}
use Rattle.std.specs.List.{range_with_len}
use Rattle.std.specs.Str.{bytes_eq}
use Rattle.std.specs.Str.Parse.{ParsesUnsigned}
use Rattle.std.proofs.lemmas.Fmt.{decimal_injective, parse-decimal}
use Rattle.std.proofs.lemmas.Slice.Eq.{bytes_eq-Decides}
use Rattle.rv_book.specs.Book.{Book, size}
use Rattle.rv_book.specs.Kept.{kept, look_at}
use Rattle.rv_book.specs.LookLaws.{look_at-within}
use Rattle.rv_history.specs.Bases.{names_base}
use Rattle.rv_history.specs.BasedLaws.{first_and, last_and, by_look, some_look}

-- where no number of the range does
find_nowhere : (p : ℕ → Bool) (a n : ℕ) → ((k : ℕ) → a ≤ k → k < a + n → p k ≡ false) → find p (range_with_len a n) ≡ None
find_nowhere p a zero none = refl
find_nowhere p a (suc n) none =
    let first : p a ≡ false = none a (omega arith) (omega arith) in
    rw first (find_nowhere p (a + 1) n (λ k least most. none k (omega arith) (omega arith)))

-- where one number of the range does, and no other
find_alone : (p : ℕ → Bool) (a n at : ℕ) → ((k : ℕ) → a ≤ k → k < a + n → p k ≡ true → k ≡ at) → p at ≡ true → a ≤ at → at < a + n → find p (range_with_len a n) ≡ Some at
find_alone p a zero at alone is least most = absurd (omega arith)
find_alone p a (suc n) at alone is least most =
    elim (p a) as (λ b. p a ≡ b → cond b (Some a) (find p (range_with_len (a + 1) n)) ≡ Some at) [
      | true ↦ λ e. ap Some (alone a (omega arith) (omega arith) e)
      | false ↦ λ e.
          let other : a ≢ at = (λ same. let both : true ≡ false = sym is ∙ ap p (sym same) ∙ e in cc) in
          find_alone p (a + 1) n at (λ k low high. alone k (omega arith) (omega arith)) is (omega arith) (omega arith)
    ] refl

-- what a text spells
spelled : (user text : List ℕ) (order : ℕ) (book : Book) (place : ℕ) → names_base user text order book place ≡ true → text ≡ decimal place
unfolding names_base
spelled user text order book place is =
    let both : (bytes_eq (decimal place) text && kept place book) ≡ true = first_and (bytes_eq (decimal place) text && kept place book) (by_look user order book place) is in
    sym ((bytes_eq-Decides (decimal place) text).0 (first_and (bytes_eq (decimal place) text) (kept place book) both))

-- a look is within the book
look_within : (place : ℕ) (book : Book) (look : List ℕ × List ℕ × ℕ) → look_at place book ≡ Some look → (1 ≤ place) × (place < 1 + size book)
look_within place book look there = let is = look_at-within place book look there in (omega (arith, is.0), omega (arith, is.1))

-- a base is within the book
within : (user text : List ℕ) (order : ℕ) (book : Book) (place : ℕ) → names_base user text order book place ≡ true → (1 ≤ place) × (place < 1 + size book)
unfolding names_base
within user text order book place is =
    let look = some_look (λ look. bytes_eq look.0 user && (look.2 == order)) (look_at place book) (last_and (bytes_eq (decimal place) text && kept place book) (by_look user order book place) is) in
    look_within place book look.0 look.1

one_place : (user text : List ℕ) (order place : ℕ) (book : Book) → size book < 2 ^ 32 → place < 2 ^ 32 → text ≡ decimal place → (k : ℕ) → 1 ≤ k → k < 1 + size book → names_base user text order book k ≡ true → k ≡ place
one_place user text order place book short fits spells k least most is = decimal_injective k place (omega arith) (omega arith) (sym (spelled user text order book k is) ∙ spells)

no_base : (p : ℕ → Bool) (k at : ℕ) → (p k ≡ true → k ≡ at) → p at ≡ false → p k ≡ false
no_base p k at alone not =
    elim (p k) as (λ b. p k ≡ b → b ≡ false) [
      | true ↦ λ e. sym e ∙ ap p (alone e) ∙ not
      | false ↦ λ e. refl
    ] refl

-- the other conditions of a base
abbrev kept_by : List ℕ → ℕ → Book → ℕ → Bool
kept_by user order book place = kept place book && by_look user order book place

base_is : (user text : List ℕ) (order place : ℕ) (book : Book) → text ≡ decimal place → names_base user text order book place ≡ kept_by user order book place
unfolding names_base
base_is user text order place book spells = rw ((bytes_eq-Decides (decimal place) text).1 (sym spells)) refl

pub base_found : (user text : List ℕ) (order place : ℕ) (book : Book) → size book < 2 ^ 32 → place < 2 ^ 32 → text ≡ decimal place → kept_by user order book place ≡ true
    → find (names_base user text order book) (range_with_len 1 (size book)) ≡ Some place
base_found user text order place book short fits spells by =
    let is : names_base user text order book place ≡ true = base_is user text order place book spells ∙ by in
    let range = within user text order book place is in
    find_alone (names_base user text order book) 1 (size book) place (one_place user text order place book short fits spells) is range.0 range.1

pub base_refused : (user text : List ℕ) (order place : ℕ) (book : Book) → size book < 2 ^ 32 → place < 2 ^ 32 → text ≡ decimal place → kept_by user order book place ≡ false
    → find (names_base user text order book) (range_with_len 1 (size book)) ≡ None
base_refused user text order place book short fits spells by =
    find_nowhere (names_base user text order book) 1 (size book) (λ k least most.
    no_base (names_base user text order book) k place (one_place user text order place book short fits spells k least most) (base_is user text order place book spells ∙ by))

pub base_unspelled : (user text : List ℕ) (order : ℕ) (book : Book) → size book < 2 ^ 32 → ((k : ℕ) → k < 2 ^ 32 → text ≡ decimal k → ⊥)
    → find (names_base user text order book) (range_with_len 1 (size book)) ≡ None
base_unspelled user text order book short none =
    find_nowhere (names_base user text order book) 1 (size book) (λ k least most.
    elim (names_base user text order book k) as (λ b. names_base user text order book k ≡ b → b ≡ false) [
      | true ↦ λ e. absurd (none k (omega arith) (spelled user text order book k e))
      | false ↦ λ e. refl
    ] refl)

-- of a text that is read as another place
pub read_otherwise : {E : Type 0} (text : List ℕ) (read place : ℕ) (r : Result ℕ E) → r ≡ Ok read → ParsesUnsigned 32 10 text r → bytes_eq (decimal read) text ≡ false → place < 2 ^ 32 → text ≡ decimal place → ⊥
read_otherwise text read place r is parses other fits spells =
    let same : r ≡ Ok place = parse-decimal 32 place text r fits (omega arith) spells parses in
    let one : read ≡ place = cc in
    let both : true ≡ false = sym ((bytes_eq-Decides (decimal read) text).1 (ap decimal one ∙ sym spells)) ∙ other in
    cc

-- of a text that is not read
pub read_never : {E : Type 0} (text : List ℕ) (place : ℕ) (e : E) (r : Result ℕ E) → r ≡ Err e → ParsesUnsigned 32 10 text r → place < 2 ^ 32 → text ≡ decimal place → ⊥
read_never text place e r is parses fits spells =
    let same : r ≡ Ok place = parse-decimal 32 place text r fits (omega arith) spells parses in
    cc
