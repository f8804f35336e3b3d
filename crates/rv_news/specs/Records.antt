-- The view records of kept looks: what each was shown, in the order of the looks' places.
use Rattle.std.specs.Prelude.{◌≡◌, ℕ, ◌==◌, ◌<◌, List, [], ◌∷◌, true, find, length, slice_index_or, Option, Some, None, IsSome, option_map, Result, Ok, Err}
use Rattle.std.specs.List.{AllByRecursion}
use Rattle.rv_rows.specs.Held.{Stored}
use Rattle.rv_book.specs.Book.{Book, ids, up_to}
use Rattle.rv_book.specs.Kept.{look_at, kept}
use Rattle.rv_sharing.specs.Visible.{visible}
use Rattle.rv_views.specs.Viewed.{Viewed}
use Rattle.rv_history.specs.Replay.{IsReplay}

-- What a user and a group see at a book: the keys of the rows that the user sees, with the places of their last writes, and
-- the last mutation ids of the group's clients.
pub record IsViewAt (book : Book) (user group : List ℕ) (viewed : Viewed) : Type 0 where
  pub stored : List Stored
  pub replay : IsReplay book stored
  pub rows : viewed.rows ≡ visible user stored
  pub clients : viewed.clients ≡ ids group book

-- the look at the place is kept, and this is what its user and its group saw there
pub record IsRecord (book : Book) (place : ℕ) (viewed : Viewed) : Type 0 where
  pub user : List ℕ
  pub group : List ℕ
  pub order : ℕ
  pub looked : look_at place book ≡ Some (user, group, order)
  pub kept : kept place book ≡ true
  pub shown : IsViewAt (up_to place book) user group viewed

-- a record with the place of its look
abbrev pub Placed : Type 0
Placed = ℕ × Viewed

-- each place is below those after it
abbrev pub Rise : List Placed → Type 0
Rise [] = Unit {0}
Rise (r ∷ rs) = AllByRecursion (λ other. r.0 < other.0) rs × Rise rs

-- the record at a place
abbrev pub record_at : ℕ → List Placed → Option Viewed
record_at place records = option_map (λ r. r.1) (find (λ r. r.0 == place) records)

-- what a search by place answers: where the record at the place stands, or that there is none
abbrev pub Locates : ℕ → List Placed → Result ℕ ℕ → Type 0
Locates place records (Ok at) = (at < length records) × ((r : Placed) → r ≡ slice_index_or records at r → record_at place records ≡ Some r.1)
Locates place records (Err at) = record_at place records ≡ None

-- These are the records of the book's kept looks: each kept look has exactly one, and there is no other.
pub record AreRecords (book : Book) (records : List Placed) : Type 0 where
  pub rise : Rise records
  pub each : AllByRecursion (λ r. IsRecord book r.0 r.1) records
  pub all : (place : ℕ) → kept place book ≡ true → IsSome (record_at place records)

-- records, and the space that there is beside them, as contracts see them
pub record Collected : Type 0 where
  pub records : List Placed
  pub spare : ℕ
