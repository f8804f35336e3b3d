-- A body that is made of bytes that were read ahead and bytes that were read then.
use Rattle.std.proofs.Common.{◌≡◌, ℕ, ◌≤◌, ◌<◌, ◌+◌, List, [], ◌∷◌, ◌++◌, length, take, Option, Result, Ok, Err, sym, ap, refl, ◌∙◌, arith, length-append, append-nil}
use Rattle.std.specs.Prelude.{min}
use Rattle.std.specs.Result.{IsErr, IsErrAnd}
use Rattle.std.proofs.lemmas.List.{length-take-le}
use Rattle.rv_http.specs.declared.body.BodyStop.{BodyStop}
use Rattle.rv_http.specs.declared.body.BodyStop.TheVariants.{Ended, Fault, Memory}
use Rattle.rv_http.specs.Numbers.{head_limit}
use Rattle.rv_http.specs.Steps.{Filled, BodyOf}

-- a body of n bytes: those that were read ahead, of which the rest stays, and those that were read then
pub body_taken : (pending rest capacity body read : List ℕ) (count n : ℕ) → pending ≡ take count capacity ++ rest → body ≡ take count capacity ++ read → count + length read ≡ n → length pending ≤ head_limit → count ≡ min (length pending) (length capacity) → length capacity ≡ min n head_limit
    → (length body ≡ n) × (pending ++ read ≡ body ++ rest)
body_taken pending rest capacity body read count n split is all few least long =
    let front = take count capacity in
    let size : length front ≡ count = length-take-le count capacity (omega (arith, least)) in
    (omega (arith, ap length is, length-append front read, size, all), ap (λ l. l ++ read) split ∙ go read refl rest (omega (arith, ap length split, length-append front rest, size)) ∙ ap (λ l. l ++ rest) (sym is))
  where
    front : List ℕ
    front = take count capacity

    none : (l : List ℕ) → length l ≡ 0 → (front ++ l) ≡ front
    none [] e = append-nil front
    none (x ∷ l) e = absurd (omega (arith, e))

    go : (r : List ℕ) → r ≡ read → (t : List ℕ) → length pending ≡ count + length t → (front ++ t) ++ r ≡ (front ++ r) ++ t
    go [] e t size = append-nil (front ++ t) ∙ ap (λ l. l ++ t) (sym (append-nil front))
    go (x ∷ r) e t size =
        let gone : length t ≡ 0 = omega (arith, size, few, least, long, all, ap length e) in
        ap (λ l. l ++ (x ∷ r)) (none t gone) ∙ sym (same t gone)
      where
        same : (l : List ℕ) → length l ≡ 0 → (front ++ (x ∷ r)) ++ l ≡ front ++ (x ∷ r)
        same [] e = append-nil (front ++ (x ∷ r))
        same (y ∷ l) e = absurd (omega (arith, e))

-- too few bytes
pub body_lacks : (pending capacity read : List ℕ) (count n : ℕ) → count + length read < n → length pending ≤ head_limit → count ≡ min (length pending) (length capacity) → length capacity ≡ min n head_limit → length (pending ++ read) < n
body_lacks pending capacity read count n lt few least long = omega (arith, length-append pending read, lt, few, least, long)

pub body_stops : (pending rest capacity new read : List ℕ) (left : Option (List ℕ)) (count n : ℕ) (stop : BodyStop) → Filled count n capacity new left read (Err stop) → length pending ≤ head_limit → count ≡ min (length pending) (length capacity) → length capacity ≡ min n head_limit
    → BodyOf n (pending ++ read) rest left (Err stop)
body_stops pending rest capacity new read left count n Ended (lt, end) few least long = (body_lacks pending capacity read count n lt few least long, end)
body_stops pending rest capacity new read left count n Fault lt few least long = body_lacks pending capacity read count n lt few least long
body_stops pending rest capacity new read left count n Memory lt few least long = tt

-- an error that is handed on
pub same_error : {T E : Type 0} (result : Result T E) (error : E) → IsErr result → IsErrAnd result (λ e. e ≡ error) → result ≡ Err error
same_error (Ok x) error is same = absurd (cc)
same_error (Err e) error is same = ap Err same
