-- The cells of a book. A cell's body is the compact text of a JSON value; another spelling of the same value is no cell.
--   shelf 1, key PLACE: an entry
--   shelf 2, key `extent/USER`, `list/ID`, `share/ID` or `todo/ID`: [VERSION,ROW]
--   shelf 3, key CLIENT: [GROUP,LAST], of a client with an act
--   shelf 4, key GROUP: [USER,LASTORDER,RETIRED], of a group that an act or a look names; LASTORDER is 0 before the first look
--   shelf 5, key PLACE: [[[KEY,VERSION],..],[[CLIENT,LAST],..]], of a kept look: what the user saw and the group's clients
--   shelf 6, empty key: PLACE, where the book opens with a page
--   shelves 7, 8 and 9: as 2, 3 and 4, what the page that the book opens with has
use Rattle.std.specs.Prelude.{ℕ, ◌-◌, List, [], ◌∷◌, ◌++◌, Bool, length, map, replicate, decimal}
use Rattle.std.specs.Str.{IsUtf8}
use Rattle.serde_json.specs.Data.{Data, boolean, number, unsigned, string}
use Rattle.serde_json.specs.Written.{compact_text}
use Rattle.rv_rows.specs.declared.key.Key.{Key}
use Rattle.rv_rows.specs.declared.row.Row.{Row}
use Rattle.rv_rows.specs.Keys.{key_text, row_text}
use Rattle.rv_rows.specs.RowTexts.{row_data}
use Rattle.rv_views.specs.Viewed.{Viewed}
use Rattle.rv_book.specs.declared.entry.Entry.{Entry}
use Rattle.rv_keeper.specs.declared.cell.Cell.{Cell}
use Rattle.rv_record.specs.CallTexts.{array_of}
use Rattle.rv_record.specs.EntryTexts.{entry_data}

-- a place in ten decimal digits, with leading zeros
abbrev pub ten_digits : ℕ → List ℕ
ten_digits place = replicate (10 - length (decimal place)) 48 ++ decimal place

-- the key and the body of a cell are UTF-8
abbrev pub AreTexts : Cell → Type 0
AreTexts cell = IsUtf8 cell.key × IsUtf8 cell.body

-- a cell whose body is the text of a value
abbrev pub cell_at : ℕ → List ℕ → Data → Cell
cell_at shelf key body = record { shelf = shelf; key = key; body = compact_text body }

abbrev pub row_body : Row → ℕ → Data
row_body row version = array_of (number (unsigned version) ∷ row_data row ∷ [])

abbrev pub client_body : List ℕ → ℕ → Data
client_body group last = array_of (string group ∷ number (unsigned last) ∷ [])

abbrev pub group_body : List ℕ → ℕ → Bool → Data
group_body user order retired = array_of (string user ∷ number (unsigned order) ∷ boolean retired ∷ [])

-- a key that was seen, with the version of its row
abbrev pub seen_data : Key × ℕ → Data
seen_data pair = array_of (string (key_text pair.0) ∷ number (unsigned pair.1) ∷ [])

-- a client with its last mutation id
abbrev pub client_data : List ℕ × ℕ → Data
client_data pair = array_of (string pair.0 ∷ number (unsigned pair.1) ∷ [])

abbrev pub view_body : Viewed → Data
view_body view = array_of (array_of (map seen_data view.rows) ∷ array_of (map client_data view.clients) ∷ [])

abbrev pub entry_cell : ℕ → Entry → Cell
entry_cell place entry = cell_at 1 (ten_digits place) (entry_data entry)

-- the cells of a row, a client and a group: on the shelves of the book as it ends, and on those of its page
abbrev pub row_cell_on : ℕ → Row → ℕ → Cell
row_cell_on shelf row version = cell_at shelf (row_text row) (row_body row version)

abbrev pub row_cell : Row → ℕ → Cell
row_cell row version = row_cell_on 2 row version

abbrev pub page_row_cell : Row → ℕ → Cell
page_row_cell row version = row_cell_on 7 row version

abbrev pub client_cell_on : ℕ → List ℕ → List ℕ → ℕ → Cell
client_cell_on shelf client group last = cell_at shelf client (client_body group last)

abbrev pub client_cell : List ℕ → List ℕ → ℕ → Cell
client_cell client group last = client_cell_on 3 client group last

abbrev pub page_client_cell : List ℕ → List ℕ → ℕ → Cell
page_client_cell client group last = client_cell_on 8 client group last

abbrev pub group_cell_on : ℕ → List ℕ → List ℕ → ℕ → Bool → Cell
group_cell_on shelf group user order retired = cell_at shelf group (group_body user order retired)

abbrev pub group_cell : List ℕ → List ℕ → ℕ → Bool → Cell
group_cell group user order retired = group_cell_on 4 group user order retired

abbrev pub page_group_cell : List ℕ → List ℕ → ℕ → Bool → Cell
page_group_cell group user order retired = group_cell_on 9 group user order retired

-- the cell of the page that a book opens with: its place
abbrev pub page_cell : ℕ → Cell
page_cell place = cell_at 6 [] (number (unsigned place))

abbrev pub view_cell : ℕ → Viewed → Cell
view_cell place view = cell_at 5 (ten_digits place) (view_body view)
