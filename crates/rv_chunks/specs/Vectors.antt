-- Chunks as vectors, and searches among them.
use Rattle.std.specs.Prelude.{◌≡◌, ℕ, ◌≤◌, Bool, true, false, List, [], ◌∷◌, map, length, Vec, vec_capacity}
use Rattle.std.specs.List.{All, AllByRecursion}
use Rattle.std.specs.List.Sorted.{IsPartitionedBy, IsPartitionPoint}

-- the items of each chunk
abbrev pub lists : {A Z : Type 0} → List (Vec A Z) → List (List A)
lists chunks = map (λ chunk. chunk.items) chunks

-- a chunk that stands: it has an item, no more than a chunk may have, and space for so many
pub record IsChunk {A Z : Type 0} (most : ℕ) (chunk : Vec A Z) : Type 0 where
  pub some : 1 ≤ length chunk.items
  pub within : length chunk.items ≤ most
  pub space : most ≤ vec_capacity chunk

abbrev pub AreChunks : {A Z : Type 0} → ℕ → List (Vec A Z) → Type 0
AreChunks most chunks = All (IsChunk most) chunks

-- a chunk that stands by: it has no item, and space for as many as a chunk may have
pub record IsFresh {A Z : Type 0} (most : ℕ) (chunk : Vec A Z) : Type 0 where
  pub none : chunk.items ≡ []
  pub space : most ≤ vec_capacity chunk

abbrev pub AreFresh : {A Z : Type 0} → ℕ → List (Vec A Z) → Type 0
AreFresh most chunks = All (IsFresh most) chunks

-- each chunk has an item
abbrev pub HaveItems : {A : Type 0} → List (List A) → Type 0
HaveItems chunks = AllByRecursion (λ chunk. 1 ≤ length chunk) chunks

-- the chunk's last item passes the test
abbrev pub ends : {A : Type 0} → (A → Bool) → List A → Bool
ends test [] = false
ends test (x ∷ []) = test x
ends test (x ∷ y ∷ ys) = ends test (y ∷ ys)

-- n of the chunks end with an item that passes the test, where those stand before the others
abbrev pub PartsChunks : {A : Type 0} → (A → Bool) → List (List A) → ℕ → Type 0
PartsChunks test chunks n = IsPartitionedBy (ends test) chunks → IsPartitionPoint (λ chunk. ends test chunk ≡ true) (λ chunk. ends test chunk ≡ false) chunks n
