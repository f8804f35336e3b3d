-- What stands the other way round.
use Rattle.std.proofs.Common.{◌≡◌, ℕ, zero, suc, List, [], ◌∷◌, ◌++◌, length, take, map, refl, sym, ap, ◌∙◌, append_assoc, length-append, arith}
use mathlib.Core.List.{map-append}
use Rattle.std.specs.List.{AllByRecursion}
use Rattle.rv_workers.specs.Jobs.{EachWorked}
use Rattle.rv_workers.specs.Hiring.{reversed}
use Rattle.rv_workers.specs.Serving.{EachServes}

-- the last one comes first
pub reversed-snoc : {X Y : Type 0} (f : X → Y) (xs : List X) (x : X) → reversed f (xs ++ x ∷ []) ≡ f x ∷ reversed f xs
reversed-snoc f [] x = refl
reversed-snoc f (y ∷ xs) x = ap (λ l. l ++ f y ∷ []) (reversed-snoc f xs x)

-- one is taken off the end of these, and one put at the end of those
pub reversed-moves : {X Y : Type 0} (f : X → Y) (all given rest : List Y) (y : Y) (xs : List X) (x : X) → given ++ reversed f xs ≡ all → given ≡ rest ++ y ∷ [] → f x ≡ y → rest ++ reversed f (xs ++ x ∷ []) ≡ all
reversed-moves f all given rest y xs x is taken same =
    ap (λ l. rest ++ l) (reversed-snoc f xs x ∙ ap (λ z. z ∷ reversed f xs) same) ∙ (sym (append_assoc rest (y ∷ []) (reversed f xs)) ∙ (ap (λ l. l ++ reversed f xs) (sym taken) ∙ is))

-- one is taken off the end of those, and what f gives of it put at the end of these
pub reversed-back : {X Y : Type 0} (f : X → Y) (all back : List Y) (xs rest : List X) (x : X) (y : Y) → back ++ reversed f xs ≡ all → xs ≡ rest ++ x ∷ [] → y ≡ f x → (back ++ y ∷ []) ++ reversed f rest ≡ all
reversed-back f all back xs rest x y is taken same =
    ap (λ z. (back ++ z ∷ []) ++ reversed f rest) same ∙ (append_assoc back (f x ∷ []) (reversed f rest) ∙ (ap (λ l. back ++ l) (sym (reversed-snoc f rest x) ∙ ap (reversed f) (sym taken)) ∙ is))

pub all_snoc : {X : Type 0} (P : X → Type 0) (xs : List X) (x : X) → AllByRecursion P xs → P x → AllByRecursion P (xs ++ x ∷ [])
all_snoc P [] x e p = (p, tt)
all_snoc P (y ∷ xs) x e p = (e.0, all_snoc P xs x e.1 p)

pub all_last : {X : Type 0} (P : X → Type 0) (xs : List X) (x : X) → AllByRecursion P (xs ++ x ∷ []) → AllByRecursion P xs × P x
all_last P [] x e = (tt, e.0)
all_last P (y ∷ xs) x e = let r = all_last P xs x e.1 in ((e.0, r.0), r.1)

-- what holds of f of each holds of each of these
pub all_reversed : {X Y : Type 0} (P : Y → Type 0) (f : X → Y) (xs : List X) → AllByRecursion (λ x. P (f x)) xs → AllByRecursion P (reversed f xs)
all_reversed P f [] all = tt
all_reversed P f (x ∷ xs) (one, rest) = all_snoc P (reversed f xs) (f x) (all_reversed P f xs rest) one

pub reversed-length : {X Y : Type 0} (f : X → Y) (xs : List X) → length (reversed f xs) ≡ length xs
reversed-length f [] = refl
reversed-length f (x ∷ xs) = let a = length-append (reversed f xs) (f x ∷ []) in let r = reversed-length f xs in omega arith

pub map-reversed : {X Y Z : Type 0} (g : Y → Z) (f : X → Y) (xs : List X) → map g (reversed f xs) ≡ reversed (λ x. g (f x)) xs
map-reversed g f [] = refl
map-reversed g f (x ∷ xs) = map-append g (reversed f xs) (f x ∷ []) ∙ ap (λ l. l ++ g (f x) ∷ []) (map-reversed g f xs)

-- the front of a list that was cut where it ends
pub front : {X : Type 0} (ys zs : List X) (n : ℕ) → n ≡ length ys → take n (ys ++ zs) ≡ ys
front [] zs zero e = refl
front [] zs (suc n) e = absurd (omega arith)
front (y ∷ ys) zs zero e = absurd (omega arith)
front (y ∷ ys) zs (suc n) e = ap (λ l. y ∷ l) (front ys zs n (omega arith))

-- ---- Jobs that were worked on.

pub worked-length : {J : Type 0} (worked : J → J → Type 0) (xs ys : List J) → EachWorked worked xs ys → length ys ≡ length xs
worked-length worked [] [] e = refl
worked-length worked (x ∷ xs) (y ∷ ys) e = let r = worked-length worked xs ys e.1 in omega arith
worked-length worked [] (y ∷ ys) e = absurd e
worked-length worked (x ∷ xs) [] e = absurd e

-- what holds of each before tells what holds of each after
pub all-worked : {J : Type 0} (worked : J → J → Type 0) (P Q : J → Type 0) → ((x y : J) → P x → worked x y → Q y) → (xs ys : List J) → AllByRecursion P xs → EachWorked worked xs ys → AllByRecursion Q ys
all-worked worked P Q go [] [] all e = tt
all-worked worked P Q go (x ∷ xs) (y ∷ ys) all e = (go x y all.0 e.0, all-worked worked P Q go xs ys all.1 e.1)
all-worked worked P Q go [] (y ∷ ys) all e = absurd e
all-worked worked P Q go (x ∷ xs) [] all e = absurd e

-- ---- Listeners that were served.

serves-snoc : {V L : Type 0} (Serves : V → L → V → L → Type 0) (first : V) (givens : List L) (lasts : List V) (backs : List L) (given : L) (last : V) (back : L)
    → EachServes Serves first givens lasts backs → Serves first given last back → EachServes Serves first (givens ++ given ∷ []) (lasts ++ last ∷ []) (backs ++ back ∷ [])
serves-snoc Serves first [] [] [] given last back each one = (one, tt)
serves-snoc Serves first (g ∷ gs) (l ∷ ls) (b ∷ bs) given last back each one = (each.0, serves-snoc Serves first gs ls bs given last back each.1 one)
serves-snoc Serves first [] [] (b ∷ bs) given last back each one = absurd each
serves-snoc Serves first [] (l ∷ ls) bs given last back each one = absurd each
serves-snoc Serves first (g ∷ gs) [] bs given last back each one = absurd each
serves-snoc Serves first (g ∷ gs) (l ∷ ls) [] given last back each one = absurd each

-- the listeners of workers that were worked on
pub each-serves : {W V L : Type 0} (worked : W → W → Type 0) (Serves : V → L → V → L → Type 0) (first : V) (listener : W → L) (view : W → V) (Hired : W → Type 0)
    → ((w w' : W) → Hired w → worked w w' → Serves first (listener w) (view w') (listener w')) → (ws ws' : List W) → AllByRecursion Hired ws → EachWorked worked ws ws'
    → EachServes Serves first (reversed listener ws) (reversed view ws') (reversed listener ws')
each-serves worked Serves first listener view Hired go [] [] all e = tt
each-serves worked Serves first listener view Hired go (w ∷ ws) (w' ∷ ws') all e = serves-snoc Serves first (reversed listener ws) (reversed view ws') (reversed listener ws') (listener w) (view w') (listener w') (each-serves worked Serves first listener view Hired go ws ws' all.1 e.1) (go w w' all.0 e.0)
each-serves worked Serves first listener view Hired go [] (w' ∷ ws') all e = absurd e
each-serves worked Serves first listener view Hired go (w ∷ ws) [] all e = absurd e
