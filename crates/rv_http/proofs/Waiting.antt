-- What is waited for when something is read.
use Rattle.std.proofs.Common.{◌≡◌, ℕ, ◌<◌, ◌⊎◌, inl, inr, List, length, Ok, ◌∙◌, subst}
use Rattle.rv_http.specs.declared.parts.Parts.{Parts}
use Rattle.rv_http.specs.Requests.{BeginsWithHead, IsPartial, Waits}
use Rattle.rv_http.specs.Steps.{TakesFirstHead}

-- a head is waited for now, and so it was at first
pub waited : {X : Type 0} (first now : List ℕ) (start mid : X) → IsPartial first ⊎ ((mid ≡ start) × (now ≡ first)) → IsPartial now → IsPartial first
waited first now start mid (inl p) q = p
waited first now start mid (inr (same, is)) q = subst IsPartial is q

-- a head was waited for, or its body, or nothing was read
pub waits_for : {X : Type 0} (first found rest : List ℕ) (start mid end : X) (parts : Parts) (n : ℕ) → IsPartial first ⊎ ((mid ≡ start) × (found ≡ first)) → TakesFirstHead found rest (Ok (parts, n)) → (length rest < n) ⊎ (end ≡ mid) → Waits first ⊎ (end ≡ start)
waits_for first found rest start mid end parts n (inl p) takes body = inl (inl p)
waits_for first found rest start mid end parts n (inr (same, is)) (head, more, begins, (told, judged, left)) (inl lt) =
    inl (inr (head, more, n, subst (λ l. BeginsWithHead l head more) is begins, judged, subst (λ l. length l < n) left lt))
waits_for first found rest start mid end parts n (inr (same, is)) takes (inr still) = inr (still ∙ same)
