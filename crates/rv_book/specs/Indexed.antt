-- What holds of a book's own parts: the invariant of `Book`.
use Rattle.std.specs.Prelude.{ℕ, ◌<◌, ◌≤◌, ◌^◌, List}
use Rattle.rv_book.specs.declared.clients.ClientRow.{ClientRow}
use Rattle.rv_book.specs.declared.groups.GroupRow.{GroupRow}
use Rattle.rv_book.specs.declared.look.LookRow.{LookRow}
use Rattle.rv_book.specs.Book.{Book, size}
use Rattle.rv_book.specs.Indexes.{AreLookRows, AreGroupRows, AreClientRows, LastsFit}
use Rattle.rv_book.specs.Members.{AreMemberRows}

-- the book is within its limit, no last mutation id of its page is above the page's place, and its indexes are those of page and entries
pub record IsIndexed (book : Book) (limit : ℕ) (look_rows : List LookRow) (group_rows : List GroupRow) (client_rows member_rows : List ClientRow) : Type 0 where
  pub within : size book ≤ limit
  pub small : limit < 2 ^ 32
  pub lasts : LastsFit book.page
  pub looks : AreLookRows book look_rows
  pub groups : AreGroupRows book group_rows
  pub clients : AreClientRows book client_rows
  pub members : AreMemberRows book member_rows
