-- Items in chunks: which stand there, and where each stands or may go.
use Rattle.std.specs.Prelude.{◌≡◌, ℕ, ◌+◌, ◌-◌, ◌<◌, ◌≤◌, List, [], ◌∷◌, ◌++◌, length, take, slice_index_or, Result, Ok, Err}
use Rattle.std.specs.declared.cmp.Ordering.{Ordering}
use Rattle.std.specs.declared.cmp.Ordering.TheVariants.{Less, Greater}
use Rattle.std.specs.Ordering.{ordering_index}
use Rattle.std.specs.List.Sorted.{IsNonDecreasingBy}
use Rattle.rv_chunks.specs.declared.at.At.{At}

-- chunks of items, and how many more items can be inserted without memory
pub record Chunked (A : Type 0) : Type 0 where
  pub chunks : List (List A)
  pub spare : ℕ

-- the items of the chunks, one after another
abbrev pub items : {A : Type 0} → List (List A) → List A
items [] = []
items (chunk ∷ chunks) = chunk ++ items chunks

-- the items of a chunk, and none where there is no such chunk
abbrev pub chunk_at : {A : Type 0} → List (List A) → ℕ → List A
chunk_at chunks n = slice_index_or chunks n []

-- how many items stand before the position
abbrev pub index_of : {A : Type 0} → List (List A) → At → ℕ
index_of chunks at = length (items (take at.chunk chunks)) + at.offset

-- an item stands there
abbrev pub IsItem : {A : Type 0} → List (List A) → At → Type 0
IsItem chunks at = (at.chunk < length chunks) × (at.offset < length (chunk_at chunks at.chunk))

-- one may be put there: into a chunk that is there, or at the start where there is no chunk
abbrev pub IsGap : {A : Type 0} → List (List A) → At → Type 0
IsGap chunks at = (at.chunk ≤ length chunks - 1) × (at.offset ≤ length (chunk_at chunks at.chunk))

-- the index among all items of what a search answers
abbrev pub index_found : {A : Type 0} → List (List A) → Result At At → Result ℕ ℕ
index_found chunks (Ok at) = Ok (index_of chunks at)
index_found chunks (Err at) = Err (index_of chunks at)

-- the items stand in an order that never falls
abbrev pub Rises : {A : Type 0} → (A → Ordering) → List A → Type 0
Rises order xs = IsNonDecreasingBy (λ x. ordering_index (order x)) xs

-- what is looked for goes between two items: the one before the offset stands before it, the one at the offset after it
abbrev pub GoesBetween : {A : Type 0} → (A → Ordering) → List A → ℕ → Type 0
GoesBetween {A = A} order xs n = (1 ≤ n) × (n < length xs) × ((d : A) → order (slice_index_or xs (n - 1) d) ≡ Less) × ((d : A) → order (slice_index_or xs n d) ≡ Greater)
