-- What closing a state's book changes, as it is listed: it makes of the cells of the book those of the closed one.
use Rattle.std.proofs.Common.{◌≡◌, ◌^◌, ◌<◌, List, [], sym, ap, ◌∙◌, subst}
use Rattle.rv_rows.specs.Held.{Stored}
use Rattle.rv_book.specs.declared.page.Page.{Page}
use Rattle.rv_book.specs.Book.{Book, book_from, size}
use Rattle.rv_history.specs.Closing.{Closes, SumsUp}
use Rattle.rv_history.specs.Lawful.{IsLawful}
use Rattle.rv_history.specs.OpeningLaws.{replay_unique}
use Rattle.rv_history.specs.Replay.{IsReplay}
use Rattle.rv_news.specs.Records.{AreRecords, Placed}
use Rattle.rv_keeper.specs.declared.cell.Cell.{Cell}
use Rattle.rv_keeper.specs.declared.change.Change.{Change}
use Rattle.rv_keeper.specs.Cells.{AreChanges, changed}
use Rattle.rv_store.specs.ClosingChanges.{closing_changes}
use Rattle.rv_store.specs.StoreCells.{AreCellsOf}
use Rattle.rv_store.proofs.ClosingCells.{closing_are, closing_next}

module _ (book new : Book) (closes : Closes book new) where
  page_is : new.page ≡ closes.page
  page_is = ap (λ (b : Book). b.page) closes.is

  sums : SumsUp book new.page
  sums = subst (SumsUp book) (sym page_is) closes.sums

  new_is : book_from new.page [] ≡ new
  new_is = ap (λ (page : Page). book_from page []) page_is ∙ sym closes.is

  -- the rows that stand are those of the new page
  pub rows_of_page : (rows : List Stored) → IsReplay book rows → rows ≡ new.page.rows
  rows_of_page rows replay = replay_unique book rows new.page.rows replay sums.rows

  module _ (records : List Placed) (changes : List Change) (lawful : IsLawful book) (small : size book < 2 ^ 32) (kept : AreRecords book records) (listed : changes ≡ closing_changes book new.page records) where
    pub closing-are : AreChanges changes
    closing-are = subst AreChanges (sym listed) (closing_are book new.page lawful sums new.page.rows records small sums.rows kept)

    pub closing-next : (cells : List Cell) → AreCellsOf book cells → AreCellsOf new (changed cells changes)
    closing-next cells are =
        subst (λ (b : Book). AreCellsOf b (changed cells changes)) new_is
        (subst (λ (cs : List Change). AreCellsOf (book_from new.page []) (changed cells cs)) (sym listed) (closing_next book new.page lawful sums records small kept cells are))
