-- Reads of known bytes.
use Rattle.std.proofs.Common.{◌≡◌, ℕ, ◌+◌, ◌-◌, ◌<◌, min, List, [], ◌++◌, length, take, drop, sym, ap, ◌∙◌, arith, append_assoc}
use Rattle.std.specs.declared.option.Option.{Option}
use Rattle.std.proofs.lemmas.List.{drop_min, drop-drop, take-append-drop, nil_from_length, length-drop, take_rest}
use Rattle.std.specs.Io.KnownBytes.{Appends}
use Rattle.std.proofs.KnownBytes.{Appends-trans}
use Rattle.rv_base.specs.Outside.{OutputState}

-- what a read of n bytes at a position gives, and what it leaves
pub read_front : (items piece : List ℕ) (old at n : ℕ) → at ≡ min old (length items) → take n piece ≡ take n (take (length items - at) (drop at items)) → drop old items ≡ take n piece ++ drop (at + n) items
read_front items piece old at n e f =
    sym (drop_min old items) ∙ ap (λ k. drop k items) (sym e) ∙ sym (take-append-drop n (drop at items)) ∙ ap (λ l. l ++ drop n (drop at items)) (sym (f ∙ ap (take n) (take_rest items at))) ∙ ap (λ l. take n piece ++ l) (drop-drop n at items)

pub read_none : (items : List ℕ) (at n : ℕ) → n ≡ 0 → (0 < length (take (length items - at) (drop at items)) → 0 < n) → drop (at + n) items ≡ []
read_none items at n e some =
    let h : 0 < length (drop at items) → 0 < n = λ p. some (omega (arith, ap length (take_rest items at), p)) in
    nil_from_length _ (grind (arith, length-drop (at + n) items, length-drop at items, h))
