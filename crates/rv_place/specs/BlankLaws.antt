-- Files in which no database was made yet hold none, whatever their pages are taken for.
use Rattle.std.proofs.Common.{◌<◌, ◌≡◌, ℕ, ◌+◌, ◌-◌, ◌*◌, ◌≤◌, List, [], length, take, slice_index, Option, Some, codes, ◌++◌, ◌∷◌, ◌≢◌, min, unwrap_or, sym, refl, ◌∙◌, ap, inl, inr, arith, get_or-take}
use Rattle.std.proofs.lemmas.Bool.{cases_eq}
use Rattle.std.proofs.lemmas.List.{get_or_past, length-take}
use Rattle.std.proofs.Math.Logic.{∥∥₁_elim}
use Rattle.std.proofs.Math.Nat.{min-le_left}
use Rattle.sqlite_wal.specs.Recovery.{Image, pages_after}
use Rattle.sqlite_wal.proofs.AppendLemmas.{page_from_pages, some_value}
use Rattle.sqlite_wal.proofs.PartLemmas.{part_within, slice_index-part}
use Rattle.sqlite_wal.proofs.RecoveryLemmas.{replays_once}
use Rattle.sqlite_wal.specs.Format.{part}
use Rattle.sqlite_pages.specs.PageMap.{PageMap}
use Rattle.sqlite_pool.specs.File.{IsSoundFile, header_in}
use Rattle.sqlite_pool.specs.Opening.{IsBlankFile}
use Rattle.sqlite_pool.specs.Stored.{Adopts, stored_size}
use Rattle.sqlite_pool.specs.StoredLaws.{trimmed_some}
use Rattle.sqlite_pool.proofs.ProbeLemmas.{first_byte}
use Rattle.sqlite.specs.Files.{IsNothing}

module _ (size : ℕ) (image : Image) (pages : PageMap) (found : Adopts size image pages) (sound : IsSoundFile size pages) where
  -- page 1, as it is stored and as it is used
  page_of : (page : List ℕ) × (found.stored 1 ≡ Some page)
  page_of = some_value (found.stored 1) found.whole.first

  used : header_in pages ≡ take 100 (take size page_of.0)
  used = ap (λ (o : Option (List ℕ)). take 100 (unwrap_or o [])) (ap (λ (p : PageMap). p 1) (sym found.shows) ∙ trimmed_some size _ 1 page_of.0 page_of.1)

  -- it begins with the letters of SQLite
  letter : (k : ℕ) → k < 16 → slice_index (header_in pages) k ≡ slice_index (codes "SQLite format 3" ++ 0 ∷ []) k
  letter k low = sym (get_or-take 16 (header_in pages) k 0 low) ∙ ap (λ (b : List ℕ). slice_index b k) sound.header.0.magic

  first_letter : slice_index (header_in pages) 0 ≡ 83
  first_letter = letter 0 (omega arith)

  -- so it is longer than one byte
  past_one : size ≤ 1 → slice_index (header_in pages) 1 ≡ 0
  past_one low =
      ap (λ (b : List ℕ). slice_index b 1) used ∙ get_or-take 100 (take size page_of.0) 1 0 (omega arith)
      ∙ get_or_past (take size page_of.0) 1 0 (short (length-take size page_of.0))
    where
      short : length (take size page_of.0) ≡ min size (length page_of.0) → length (take size page_of.0) ≤ 1
      short is = omega (arith, is, min-le_left size (length page_of.0), low)

  small : size ≤ 1 → ⊥
  small low = let second : slice_index (header_in pages) 1 ≡ 81 = letter 1 (omega arith) in let none = past_one low in omega (arith, sym none ∙ second)

  large : 1 < size
  large = elim (cases_eq size 0) [
    | inl none ↦ absurd (small (omega (arith, none)))
    | inr some ↦ elim (cases_eq size 1) [
      | inl one ↦ absurd (small (omega (arith, one)))
      | inr more ↦ let a : size ≢ 0 = some in let b : size ≢ 1 = more in omega (arith, a, b)
    ]
  ]

  -- with no frame to replay, its first byte is that of the database file, which is longer than one byte
  from_file : found.found.frames ≡ 0 → (1 < length image.db) × (slice_index image.db 0 ≡ 83)
  from_file none =
      let whole = stored_size size in
      let raw = found.found in
      let page = page_of.0 in
      let alone : pages_after whole image.log image.db 0 1 ≡ Some page = ap (λ (p : PageMap). p 1) (ap (pages_after whole image.log image.db) (sym none) ∙ raw.gives) ∙ page_of.1 in
      let start : (1 - 1) * whole ≡ 0 = omega arith in
      let front : part image.db 0 whole ≡ page = ap (λ (at : ℕ). part image.db at whole) (sym start) ∙ (page_from_pages whole image.log image.db 0 1 page alone).0 in
      let big = large in
      let long = part_within image.db 0 whole (omega arith) (ap length front ∙ found.whole.sized 1 page page_of.1) in
      let byte : slice_index image.db 0 ≡ slice_index page 0 = sym (slice_index-part image.db 0 whole 0 (omega arith)) ∙ ap (λ (b : List ℕ). slice_index b 0) front in
      let first : slice_index (header_in pages) 0 ≡ slice_index page 0 = ap (λ (b : List ℕ). slice_index b 0) used ∙ get_or-take 100 (take size page) 0 0 (omega arith) ∙ get_or-take size page 0 0 (omega arith) in
      (omega arith, byte ∙ sym first ∙ first_letter)

  -- so files that `create` takes for no database hold none
  not_blank : (other : ℕ) → 0 < other → ¬ IsBlankFile other image
  not_blank other some (inl none) = omega (arith, found.found.present, none)
  not_blank other some (inr blank) =
      let raw = found.found in
      let none : raw.frames ≡ 0 = elim blank.0 [
        | inl ignored ↦ replays_once (stored_size size) image.log raw.frames 0 raw.replays (inl (ignored.0, refl))
        | inr taken ↦ elim raw.replays [
          | inl ignored ↦ ignored.1
          | inr ours ↦ replays_once (stored_size size) image.log raw.frames 0 raw.replays (rw (sym ours.0.head.size ∙ taken.0.head.size) blank.0)
        ]
      ] in
      let (long, byte) = from_file none in
      elim blank.1.0 [
        | inl short ↦ omega (arith, short, long)
        | inr more ↦ elim more [ inl zero' ↦ omega (arith, zero'.1, byte) | inr rest ↦ rest.1 (byte ∙ sym (first_byte other some)) ]
      ]

-- what is taken for no database is not found to be one
pub nothing_adopts : (size : ℕ) (image : Image) (pages : PageMap) → Adopts size image pages → IsSoundFile size pages → IsNothing image → ⊥
nothing_adopts size image pages found sound (inl plain) = not_blank size image pages found sound _ (omega arith) plain
nothing_adopts size image pages found sound (inr summed) = not_blank size image pages found sound _ (omega arith) summed
