-- Where positions are among the items.
use Rattle.std.proofs.Common.{◌≡◌, ℕ, zero, suc, ◌+◌, ◌<◌, ◌≤◌, List, [], ◌∷◌, length, get_or, take, refl, arith, length-append}
use Rattle.rv_chunks.specs.declared.at.At.{At}
use Rattle.rv_chunks.specs.Chunking.{items, index_of, IsItem, IsGap}

pub index_within : {A : Type 0} (chunks : List (List A)) (n o : ℕ) → n < length chunks → o ≤ length (get_or chunks n []) → length (items (take n chunks)) + o ≤ length (items chunks)
index_within [] n o lt le = absurd (omega arith)
index_within (chunk ∷ chunks) zero o lt le = omega (arith, length-append chunk (items chunks))
index_within (chunk ∷ chunks) (suc n) o lt le = omega (arith, length-append chunk (items (take n chunks)), length-append chunk (items chunks), index_within chunks n o (omega arith) le)

index_below : {A : Type 0} (chunks : List (List A)) (n o : ℕ) → n < length chunks → o < length (get_or chunks n []) → length (items (take n chunks)) + o < length (items chunks)
index_below [] n o lt le = absurd (omega arith)
index_below (chunk ∷ chunks) zero o lt le = omega (arith, length-append chunk (items chunks))
index_below (chunk ∷ chunks) (suc n) o lt le = omega (arith, length-append chunk (items (take n chunks)), length-append chunk (items chunks), index_below chunks n o (omega arith) le)

-- an item stands at the index of its position
pub item_in_range : {A : Type 0} (chunks : List (List A)) (at : At) → IsItem chunks at → index_of chunks at < length (items chunks)
item_in_range chunks at h = index_below chunks at.chunk at.offset h.0 h.1

none_before : (A : Type 0) (n : ℕ) → length (items {A = A} (take n [])) ≡ 0
none_before A zero = refl
none_before A (suc n) = refl

-- and one may be put before one of them or after all
pub gap_in_range : {A : Type 0} (chunks : List (List A)) (at : At) → IsGap chunks at → index_of chunks at ≤ length (items chunks)
gap_in_range {A = A} [] at h = omega (arith, none_before A at.chunk, h.1)
gap_in_range (chunk ∷ chunks) at h = index_within (chunk ∷ chunks) at.chunk at.offset (omega arith) h.1
