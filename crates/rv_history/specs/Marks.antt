-- The mark of a user: the place of the last entry that concerns the user.
use Rattle.std.specs.Prelude.{◌≡◌, ◌⊎◌, ◌↔◌, ℕ, ◌+◌, ◌-◌, ◌<◌, ◌≤◌, Bool, true, false, List}
use Rattle.std.specs.List.{list_any}
use Rattle.std.specs.Option.{option_map_or}
use Rattle.std.specs.Str.{bytes_eq}
use Rattle.rv_rows.specs.Sharing.{seen}
use Rattle.rv_book.specs.declared.entry.Entry.{Entry}
use Rattle.rv_book.specs.declared.entry.Entry.TheVariants.{Act, Look, Retire}
use Rattle.rv_book.specs.Book.{Book, entry_at, size, up_to, with_entry}
use Rattle.rv_history.specs.Replay.{rows_of}

-- the entry is an act by the user
abbrev pub is_act_by : List ℕ → Entry → Bool
is_act_by user (Act by group client id call) = bytes_eq by user
is_act_by user (Look by group order base) = false
is_act_by user (Retire group) = false

-- the user sees the same at both books
abbrev pub SeesSame : List ℕ → Book → Book → Type 0
SeesSame user book other = seen user (rows_of book) ≡ seen user (rows_of other)

-- The entry at the place concerns the user: it is an act by the user, or what the user sees is another after it than before it. A row that it
-- writes and that the user sees is another row, so it concerns the user too.
pub record Concerns (user : List ℕ) (book : Book) (place : ℕ) : Type 0 where
  pub first : book.page.at < place
  pub within : place ≤ size book
  pub concerns : (option_map_or (is_act_by user) (entry_at place book) false ≡ true) ⊎ ¬ SeesSame user (up_to place book) (up_to (place - 1) book)

-- It is the greatest place of an entry that concerns the user; where there is none it is the page's, and 0 without one.
pub record IsMark (user : List ℕ) (book : Book) (mark : ℕ) : Type 0 where
  pub concerns : book.page.at < mark → Concerns user book mark
  pub least : book.page.at ≤ mark
  pub last : (later : ℕ) → mark < later → ¬ Concerns user book later

-- these are the users whom the entry concerns, where it stands next
abbrev pub AreConcerned : Book → Entry → List (List ℕ) → Type 0
AreConcerned book entry users = (user : List ℕ) → (list_any (bytes_eq user) users ≡ true) ↔ Concerns user (with_entry book entry) (size book + 1)
