-- Spaces that are added one by one.
use Rattle.std.proofs.Common.{◌≡◌, ℕ, ◌+◌, ◌-◌, ◌<◌, ◌≤◌, ◌^◌, List, [], ◌∷◌, ◌++◌, length, replicate, sym, ap, ◌∙◌, append_assoc, subst, arith}
use Rattle.std.specs.Prelude.{decimal}
use Rattle.std.proofs.lemmas.Fmt.{length-decimal-le}
use Rattle.std.proofs.lemmas.List.{replicate-append-replicate}
use Rattle.rv_report.specs.Texts.{in_ten}

pub space_more : (before out added : List ℕ) (from at : ℕ) → from ≤ at → out ≡ before ++ replicate (at - from) 32 → added ≡ out ++ 32 ∷ [] → added ≡ before ++ replicate (at + 1 - from) 32
space_more before out added from at le so_far adds =
    let next : at - from + 1 ≡ at + 1 - from = omega arith in
    adds
    ∙ ap (λ (text : List ℕ). text ++ 32 ∷ []) so_far
    ∙ append_assoc before (replicate (at - from) 32) (32 ∷ [])
    ∙ ap (λ (text : List ℕ). before ++ text) (replicate-append-replicate (at - from) 1 32)
    ∙ ap (λ (n : ℕ). before ++ replicate n 32) next

-- the number after the spaces
pub ten_ends : (number at : ℕ) (before out added text : List ℕ) → number < 2 ^ 32 → text ≡ decimal number → 10 ≤ at → (length text ≤ 10 → at ≤ 10) → out ≡ before ++ replicate (at - length text) 32 → added ≡ out ++ text → added ≡ before ++ in_ten number
ten_ends number at before out added text small is past most so_far adds =
    let short : length (decimal number) ≤ 10 = length-decimal-le 10 number (omega arith) (omega arith) (omega arith) in
    let fits : length text ≤ 10 = subst (λ (t : List ℕ). length t ≤ 10) (sym is) short in
    let end : at ≡ 10 = omega (arith, most fits) in
    adds
    ∙ ap (λ (t : List ℕ). t ++ text) so_far
    ∙ append_assoc before (replicate (at - length text) 32) text
    ∙ (λ i. before ++ (replicate (end i - length (is i)) 32 ++ is i))
