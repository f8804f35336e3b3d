-- The rows of a book: those of its page, and its acts replayed on them, one after another.
use Rattle.std.specs.Prelude.{◌≡◌, ◌⊎◌, ℕ, ◌-◌, ◌<◌, ◌≤◌, List, Some, IsSome, fold, map, option_map}
use Rattle.std.specs.List.{AllByRecursion}
use Rattle.rv_rows.specs.declared.row.Row.{Row}
use Rattle.rv_rows.specs.Effects.{effect}
use Rattle.rv_rows.specs.Keys.{row_text, row_at, in_key_order}
use Rattle.rv_rows.specs.Held.{Stored, find, rows_in}
use Rattle.rv_book.specs.declared.entry.Entry.{Entry}
use Rattle.rv_book.specs.declared.entry.Entry.TheVariants.{Act, Look, Retire}
use Rattle.rv_book.specs.declared.page.Page.{Page}
use Rattle.rv_book.specs.Book.{Book, size, up_to}

-- the rows after one more entry
abbrev pub rows_after : List Row → Entry → List Row
rows_after rows (Act user group client id call) = effect rows user call
rows_after rows (Look user group order base) = rows
rows_after rows (Retire group) = rows

-- the rows of a page, in the order of their keys, as they stand on every sound one
abbrev pub page_rows : Page → List Row
page_rows page = in_key_order (rows_in page.rows)

abbrev pub rows_of : Book → List Row
rows_of book = fold rows_after (page_rows book.page) book.entries

-- The entry at the place wrote the key: the row stands after it, and was absent or another before it.
pub record Wrote (book : Book) (key : List ℕ) (place : ℕ) : Type 0 where
  pub first : book.page.at < place
  pub within : place ≤ size book
  pub stands : IsSome (row_at key (rows_of (up_to place book)))
  pub differs : ¬ (row_at key (rows_of (up_to place book)) ≡ row_at key (rows_of (up_to (place - 1) book)))

-- the page has the key with this version, which is no place above the page's
abbrev pub IsPageVersion : Page → List ℕ → ℕ → Type 0
IsPageVersion page key version = (version ≤ page.at) × (option_map (λ s. s.1) (find key page.rows) ≡ Some version)

-- the place is the greatest that wrote the key, or where no entry did the key's version on the page
pub record IsLastWrite (book : Book) (key : List ℕ) (place : ℕ) : Type 0 where
  pub wrote : Wrote book key place ⊎ IsPageVersion book.page key place
  pub last : (later : ℕ) → place < later → ¬ Wrote book key later

-- the stored rows are the book's, in key order, each with the place of its last write
pub record IsReplay (book : Book) (stored : List Stored) : Type 0 where
  pub rows : map (λ s. s.0) stored ≡ in_key_order (rows_of book)
  pub versions : AllByRecursion (λ s. IsLastWrite book (row_text s.0) s.1) stored
