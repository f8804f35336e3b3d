-- The base that a cookie names is a kept look by the user, of the cookie's order.
use Rattle.std.proofs.Common.{◌≡◌, ℕ, ◌+◌, ◌<◌, ◌^◌, ◌==◌, ◌&&◌, max, Bool, true, false, cond, List, [], ◌∷◌, Option, Some, None, refl, sym, ap, ◌∙◌, arith}
use Rattle.std.specs.Prelude.{find, decimal}
use Rattle.std.specs.List.{range_with_len}
use Rattle.std.specs.Option.{option_map_or}
use Rattle.std.specs.Str.{bytes_eq}
use Rattle.std.proofs.lemmas.Bool.Decides.{Decides-eqb}
use Rattle.std.proofs.lemmas.Option.{same_Some}
use Rattle.std.proofs.lemmas.Slice.Eq.{bytes_eq-Decides}
use Rattle.rv_views.specs.declared.cookie.Cookie.{Cookie}
use Rattle.rv_views.specs.declared.cookie.Cookie.TheVariants.{Null, Bare, Named}
use Rattle.rv_turns.specs.declared.pull.PullRequest.{PullRequest}
use Rattle.rv_book.specs.Book.{Book, last_order, size}
use Rattle.rv_book.specs.Kept.{look_at, kept}
use Rattle.rv_history.specs.Bases.{names_base, base_of}
use Rattle.rv_book.specs.declared.entry.Entry.TheVariants.{Look}
use Rattle.rv_history.specs.Groups.{Admits}
use Rattle.rv_history.specs.Lawful.{IsBase, IsLawfulAfter}
use Rattle.rv_history.specs.Machine.{cookie_order, next_order}

pub first_and : (a b : Bool) → (a && b) ≡ true → a ≡ true
first_and true b is = refl
first_and false b is = is

pub last_and : (a b : Bool) → (a && b) ≡ true → b ≡ true
last_and true b is = is
last_and false b is = absurd (cc)

-- the look at a place is by this user and of this order
abbrev pub by_look : List ℕ → ℕ → Book → ℕ → Bool
by_look user order book place = option_map_or (λ look. bytes_eq look.0 user && (look.2 == order)) (look_at place book) false

pub some_look : (f : (List ℕ × List ℕ × ℕ) → Bool) (o : Option (List ℕ × List ℕ × ℕ)) → option_map_or f o false ≡ true → (look : List ℕ × List ℕ × ℕ) × (o ≡ Some look)
some_look f None is = absurd (cc)
some_look f (Some look) is = (look, refl)

-- what is found passes the test
found_passes : {X : Type 0} (p : X → Bool) (xs : List X) (x : X) → find p xs ≡ Some x → p x ≡ true
found_passes p [] x e = absurd (cc)
found_passes p (y ∷ ys) x e =
    elim (p y) as (λ b. p y ≡ b → cond b (Some y) (find p ys) ≡ Some x → p x ≡ true) [
      | true ↦ λ f g. ap p (sym (same_Some y x g)) ∙ f
      | false ↦ λ f g. found_passes p ys x g
    ] refl e

-- a look by this user and of this order
same_look : (user : List ℕ) (order : ℕ) (look : List ℕ × List ℕ × ℕ) → (bytes_eq look.0 user && (look.2 == order)) ≡ true → look ≡ (user, look.1, order)
same_look user order look is =
    let by : look.0 ≡ user = (bytes_eq-Decides look.0 user).0 (first_and (bytes_eq look.0 user) (look.2 == order) is) in
    let of : look.2 ≡ order = (Decides-eqb look.2 order).0 (last_and (bytes_eq look.0 user) (look.2 == order) is) in
    λ i. (by i, look.1, of i)

named_look : (user : List ℕ) (order : ℕ) (found : Option (List ℕ × List ℕ × ℕ)) → option_map_or (λ look. bytes_eq look.0 user && (look.2 == order)) found false ≡ true → (group : List ℕ) × (found ≡ Some (user, group, order))
named_look user order found is =
    let test : (List ℕ × List ℕ × ℕ) → Bool = λ (look : List ℕ × List ℕ × ℕ). bytes_eq look.0 user && (look.2 == order) in
    let look = some_look test found is in
    (look.0.1, look.1 ∙ ap Some (same_look user order look.0 (sym (ap (λ (o : Option (List ℕ × List ℕ × ℕ)). option_map_or test o false) look.1) ∙ is)))

base_is_look : (user text : List ℕ) (order : ℕ) (book : Book) (place : ℕ) → names_base user text order book place ≡ true → (group : List ℕ) × (look_at place book ≡ Some (user, group, order)) × (kept place book ≡ true)
unfolding names_base
base_is_look user text order book place is =
    let spelled : Bool = bytes_eq (decimal place) text in
    let look = named_look user order (look_at place book) (last_and (spelled && kept place book) (by_look user order book place) is) in
    (look.0, look.1, last_and spelled (kept place book) (first_and (spelled && kept place book) (by_look user order book place) is))

-- the base of a cookie is a look by the user, of the cookie's order, and is kept
pub base_look : (user : List ℕ) (cookie : Cookie) (book : Book) (place : ℕ) → base_of user cookie book ≡ Some place → (group : List ℕ) × (look_at place book ≡ Some (user, group, cookie_order cookie)) × (kept place book ≡ true)
base_look user Null book place e = absurd (cc)
base_look user (Bare order) book place e = absurd (cc)
base_look user (Named text order) book place e = base_is_look user text order book place (found_passes (names_base user text order book) (range_with_len 1 (size book)) place e)

-- and its place is spelled by the cookie
pub base_spelled : (user text : List ℕ) (order : ℕ) (book : Book) (place : ℕ) → base_of user (Named text order) book ≡ Some place → decimal place ≡ text
unfolding names_base
base_spelled user text order book place e =
    let spelled : Bool = bytes_eq (decimal place) text in
    let passes : names_base user text order book place ≡ true = found_passes (names_base user text order book) (range_with_len 1 (size book)) place e in
    (bytes_eq-Decides (decimal place) text).0 (first_and spelled (kept place book) (first_and (spelled && kept place book) (by_look user order book place) passes))

-- the next order is above the cookie's and above the group's last
pub next_above : (cookie last next : ℕ) → next ≡ max cookie last + 1 → (cookie < next) × (last < next)
next_above cookie last next is = (omega arith, omega arith)

-- the base of a cookie may be the base of the look that a pull with it enters
pub base_lawful : (user : List ℕ) (request : PullRequest) (book : Book) → IsBase book user (next_order request book) (base_of user request.cookie book)
base_lawful user request book =
    elim (base_of user request.cookie book) as (λ base. base_of user request.cookie book ≡ base → IsBase book user (next_order request book) base) [
      | None ↦ λ e. tt
      | Some place ↦ λ e.
          let look = base_look user request.cookie book place e in
          (look.0, cookie_order request.cookie, look.2, look.1, (next_above (cookie_order request.cookie) (last_order request.group book) (next_order request book) refl).0)
    ] refl

-- so the look of a pull may stand next
pub may_look : (user : List ℕ) (request : PullRequest) (book : Book) (order : ℕ) (base : Option ℕ) → Admits user request.group book → order ≡ next_order request book → order < 2 ^ 53 → base ≡ base_of user request.cookie book
    → IsLawfulAfter book (Look user request.group order base)
may_look user request book order base admits is fits named =
    (admits, (next_above (cookie_order request.cookie) (last_order request.group book) order is).1, fits, rw (is, named) (base_lawful user request book))
