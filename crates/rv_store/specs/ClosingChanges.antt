-- The changes of cells that closing a book makes: those of its entries and of its kept looks go, and those of the page that sums the book up
-- come in the place of those of the page that it opened with.
use Rattle.std.specs.Prelude.{ℕ, ◌+◌, List, ◌∷◌, ◌++◌, length, Bool, not, is_some, map}
use Rattle.std.specs.List.{filter, range_with_len}
use Rattle.rv_rows.specs.declared.row.Row.{Row}
use Rattle.rv_rows.specs.Held.{Stored, find}
use Rattle.rv_rows.specs.Keys.{row_text}
use Rattle.rv_book.specs.declared.page.Page.{Page}
use Rattle.rv_book.specs.Book.{Book}
use Rattle.rv_news.specs.Records.{Placed}
use Rattle.rv_keeper.specs.declared.change.Change.{Change}
use Rattle.rv_keeper.specs.declared.change.Change.TheVariants.{Put, Remove}
use Rattle.rv_record.specs.PageCells.{PageClient, PageGroup}
use Rattle.rv_record.specs.CellTexts.{ten_digits, page_cell, page_row_cell, page_client_cell, page_group_cell}

-- so many entries are removed, of which the first stands at this place
abbrev pub gone_entries : ℕ → ℕ → List Change
gone_entries place count = map (λ place. Remove 1 (ten_digits place)) (range_with_len place count)

-- the view records are removed
abbrev pub gone_records : List Placed → List Change
gone_records records = map (λ r. Remove 5 (ten_digits r.0)) records

-- none of the rows has the key of this one
abbrev pub is_left_out : List Stored → Row → Bool
is_left_out rows row = not (is_some (find (row_text row) rows))

-- of a page's rows those are removed whose keys none of the new rows has
abbrev pub gone_rows : List Stored → List Stored → List Change
gone_rows old new = map (λ s. Remove 7 (row_text s.0)) (filter (λ s. is_left_out new s.0) old)

-- a page's rows, clients and groups are written
abbrev pub put_rows : List Stored → List Change
put_rows rows = map (λ s. Put (page_row_cell s.0 s.1)) rows

abbrev pub put_clients : List PageClient → List Change
put_clients clients = map (λ c. Put (page_client_cell c.0 c.1 c.2)) clients

abbrev pub put_groups : List PageGroup → List Change
put_groups groups = map (λ g. Put (page_group_cell g.0 g.1 g.2 g.3)) groups

-- The entries are removed, and the view records; the new page is written at its place, with its rows, its clients and its groups, and the rows
-- of the old page that the new one has not are removed.
abbrev pub closing_changes : Book → Page → List Placed → List Change
closing_changes book page records =
    gone_entries (book.page.at + 1) (length book.entries)
    ++ (gone_records records
    ++ Put (page_cell page.at)
    ∷ ((gone_rows book.page.rows page.rows ++ put_rows page.rows) ++ (put_clients page.clients ++ put_groups page.groups)))
