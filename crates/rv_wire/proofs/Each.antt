-- Reading a list item by item, as a loop does.
use Rattle.std.proofs.Common.{◌≡◌, ℕ, zero, suc, ◌+◌, ◌<◌, List, [], ◌∷◌, ◌++◌, length, get_or, take, drop, map, Result, Ok, Err, Global, refl, sym, ap, ◌∙◌, arith}
use Rattle.std.proofs.lemmas.List.{take_more, take-append-drop, drop_more}
use Rattle.rv_wire.specs.declared.fault.WireFault.{WireFault}
use Rattle.rv_base.specs.Chains.{◌>>=◌, each}
use Rattle.rv_wire.specs.Bodies.{Fails, datas}
use Rattle.rv_wire.specs.declared.fault.WireFault.TheVariants.{NotJson, Field, Version, Memory}
use Rattle.serde_json.specs.Data.{Data}
use Rattle.json.specs.declared.value.Value.{Value}
use Rattle.rv_json.specs.ValueData.{value_data, items_data}

add_front : {B : Type 0} (y : B) (r : Result (List B) WireFault) (ys : List B) → (r >>= λ ys. Ok (y ∷ ys)) ≡ Ok ys → (zs : List B) × (r ≡ Ok zs) × (y ∷ zs ≡ ys)
add_front y (Ok zs) ys e = (zs, refl, cc)
add_front y (Err f) ys e = absurd cc

first_ok : {A B : Type 0} (r : Result A WireFault) (f : A → Result B WireFault) (y : B) → (r >>= f) ≡ Ok y → (x : A) × (r ≡ Ok x) × (f x ≡ Ok y)
first_ok (Ok x) f y e = (x, refl, e)
first_ok (Err g) f y e = absurd cc

each_push : {A B : Type 0} (f : A → Result B WireFault) (xs : List A) (x : A) (ys : List B) (y : B) → each f xs ≡ Ok ys → f x ≡ Ok y → each f (xs ++ x ∷ []) ≡ Ok (ys ++ y ∷ [])
each_push f [] x ys y e h = rw h (ap (λ (zs : List _). Ok (zs ++ y ∷ [])) (let g : [] ≡ ys = cc in g))
each_push f (w ∷ ws) x ys y e h =
    let a = first_ok (f w) _ ys e in
    let b = add_front a.0 (each f ws) ys a.2 in
    rw (a.1, each_push f ws x b.0 y b.1 h) (ap (λ (zs : List _). Ok (zs ++ y ∷ [])) b.2)

each_stops : {A B : Type 0} (f : A → Result B WireFault) (xs more : List A) (x : A) (ys : List B) (e : WireFault) → each f xs ≡ Ok ys → f x ≡ Err e → each f (xs ++ x ∷ more) ≡ Err e
each_stops f [] more x ys e h g = rw g refl
each_stops f (w ∷ ws) more x ys e h g =
    let a = first_ok (f w) _ ys h in
    let b = add_front a.0 (each f ws) ys a.2 in
    rw (a.1, each_stops f ws more x b.0 e b.1 g) refl

pub each_more : {A B : Type 0} (f : A → Result B WireFault) (xs : List A) (i : ℕ) (x : A) (ys : List B) (y : B) → i < length xs → x ≡ get_or xs i x → each f (take i xs) ≡ Ok ys → f x ≡ Ok y → each f (take (i + 1) xs) ≡ Ok (ys ++ y ∷ [])
each_more f xs i x ys y lt is e h = rw (take_more xs i x lt, ← is) (each_push f (take i xs) x ys y e h)

each_ends_at : {A B : Type 0} (f : A → Result B WireFault) (xs : List A) (i : ℕ) (x : A) (ys : List B) (e : WireFault) → i < length xs → x ≡ get_or xs i x → each f (take i xs) ≡ Ok ys → f x ≡ Err e → each f xs ≡ Err e
each_ends_at f xs i x ys e lt is so_far fails =
    let split : xs ≡ take i xs ++ x ∷ drop (i + 1) xs = sym (take-append-drop i xs) ∙ ap (λ (t : List _). take i xs ++ t) (drop_more xs i x lt ∙ ap (λ (y : _). y ∷ drop (i + 1) xs) (sym is)) in
    ap (each f) split ∙ each_stops f (take i xs) (drop (i + 1) xs) x ys e so_far fails

pub each_ends : {A B : Type 0} (f : A → Result B WireFault) (xs : List A) (i : ℕ) (x : A) (ys : List B) (e : WireFault) → i < length xs → x ≡ get_or xs i x → each f (take i xs) ≡ Ok ys → Fails e (f x) → Fails e (each f xs)
each_ends f xs i x ys Memory lt is so_far fails = tt
each_ends f xs i x ys NotJson lt is so_far fails = each_ends_at f xs i x ys NotJson lt is so_far fails
each_ends f xs i x ys (Field n) lt is so_far fails = each_ends_at f xs i x ys (Field n) lt is so_far fails
each_ends f xs i x ys (Version k) lt is so_far fails = each_ends_at f xs i x ys (Version k) lt is so_far fails

-- the items of a value, as a list
pub datas_values : (vs : List (Value Global)) → datas (items_data vs) ≡ map value_data vs
datas_values [] = refl
datas_values (v ∷ vs) = ap (λ (ds : List Data). value_data v ∷ ds) (datas_values vs)

-- an item of a list, and of the list of its values
pub read_mapped : (vs : List (Value Global)) (i : ℕ) (x : Value Global) → i < length vs → x ≡ get_or vs i x → value_data x ≡ get_or (map value_data vs) i (value_data x)
read_mapped [] i x lt is = absurd (omega arith)
read_mapped (v ∷ vs) zero x lt is = ap value_data is
read_mapped (v ∷ vs) (suc i) x lt is = read_mapped vs i x (omega arith) is
