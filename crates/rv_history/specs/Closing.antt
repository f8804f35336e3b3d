-- Closing a book: the page that sums it up, with which it goes on, and that nothing that is asked of a book is another afterwards.
use Rattle.std.specs.Prelude.{◌≡◌, ℕ, ◌+◌, List, [], ◌∷◌}
use Rattle.rv_rows.specs.Keys.{in_key_order}
use Rattle.rv_book.specs.declared.page.Page.{Page}
use Rattle.rv_book.specs.Book.{Book, book_from, bound, group_of, ids, last, last_order, retired, size, Extends}
use Rattle.rv_book.specs.Registers.{clients_of, groups_of}
use Rattle.rv_history.specs.Lawful.{IsLawful}
use Rattle.rv_history.specs.Replay.{rows_of, IsReplay}

-- The page sums up the book, at the place after its last: it has the book's rows, each with the place of its last write; its clients, each with
-- its group and its last mutation id; and its groups, each with its user, the order of its last look, and whether it is retired.
pub record SumsUp (book : Book) (page : Page) : Type 0 where
  pub at : page.at ≡ size book + 1
  pub rows : IsReplay book page.rows
  pub clients : page.clients ≡ clients_of book
  pub groups : page.groups ≡ groups_of book

-- The book that a closing leaves: it opens with a page that sums up the one that was closed, and has no entries.
pub record Closes (book new : Book) : Type 0 where
  pub page : Page
  pub sums : SumsUp book page
  pub is : new ≡ book_from page []

-- The one book goes on from the other by entries and by these closings, each of a book to the one that it left.
abbrev pub GoesOnBy : Book → List (Book × Book) → Book → Type 0
GoesOnBy old [] new = Extends new old
GoesOnBy old (closing ∷ closings) new = Extends closing.0 old × Closes closing.0 closing.1 × GoesOnBy closing.1 closings new

-- it does so by some closings, or by none
abbrev pub GoesOnFrom : Book → Book → Type 0
GoesOnFrom old new = (closings : List (Book × Book)) × GoesOnBy old closings new

-- The new book goes on from the old one with a page alone: it is lawful and one place longer; clients and groups are what they were, their last
-- mutation ids and orders too; and so are the rows, in the order of their keys, each with its version.
pub record GoesOn (book new : Book) : Type 0 where
  pub lawful : IsLawful new
  pub size : size new ≡ size book + 1
  pub last : (client : List ℕ) → last client new ≡ last client book
  pub home : (client : List ℕ) → group_of client new ≡ group_of client book
  pub ids : (group : List ℕ) → ids group new ≡ ids group book
  pub bound : (group : List ℕ) → bound group new ≡ bound group book
  pub order : (group : List ℕ) → last_order group new ≡ last_order group book
  pub retired : (group : List ℕ) → retired group new ≡ retired group book
  pub rows : rows_of new ≡ in_key_order (rows_of book)
  pub versions : IsReplay new new.page.rows

-- So does each lawful book that is closed.
abbrev pub ClosedBooksGoOn : Type 0
ClosedBooksGoOn = (book : Book) (page : Page) → IsLawful book → SumsUp book page → GoesOn book (book_from page [])
