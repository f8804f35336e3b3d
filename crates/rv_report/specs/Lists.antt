-- The report of the lists: a line for each list in the order of their keys, and a line of totals.
use Rattle.std.specs.Prelude.{List, [], ◌++◌, ℕ, Bool, true, false, not, codes, decimal, count_by}
use Rattle.std.specs.List.{filter, flat_map}
use Rattle.rv_rows.specs.declared.row.Row.TheVariants as variants
use Rattle.rv_rows.specs.declared.row.ListRow.{ListRow}
use Rattle.rv_rows.specs.Held.{Stored}
use Rattle.rv_rows.specs.Sharing.{belongs}
use Rattle.rv_report.specs.Texts.{quoted}

abbrev pub is_list_row : Stored → Bool
is_list_row (variants.Extent row, version) = false
is_list_row (variants.List row, version) = true
is_list_row (variants.Share row, version) = false
is_list_row (variants.Todo row, version) = false

abbrev pub is_share : Stored → Bool
is_share (variants.Extent row, version) = false
is_share (variants.List row, version) = false
is_share (variants.Share row, version) = true
is_share (variants.Todo row, version) = false

abbrev pub is_todo : Stored → Bool
is_todo (variants.Extent row, version) = false
is_todo (variants.List row, version) = false
is_todo (variants.Share row, version) = false
is_todo (variants.Todo row, version) = true

-- a todo that isn't complete
abbrev pub is_open : Stored → Bool
is_open (variants.Extent row, version) = false
is_open (variants.List row, version) = false
is_open (variants.Share row, version) = false
is_open (variants.Todo row, version) = not row.complete

-- the list itself, its shares and its todos
abbrev pub list_rows : List ℕ → List Stored → List Stored
list_rows list rows = filter (λ s. belongs list s.0) rows

-- three numbers with one space between, and LF
abbrev pub counts_text : ℕ → ℕ → ℕ → List ℕ
counts_text first second third = decimal first ++ (codes " " ++ (decimal second ++ (codes " " ++ (decimal third ++ codes "\n"))))

-- ID OWNER NAME TODOS OPEN SHARES, with the list's own rows
abbrev pub list_text : ListRow → List Stored → List ℕ
list_text list own =
    quoted list.id ++ (codes " " ++ (quoted list.owner ++ (codes " " ++ (quoted list.name ++ (codes " " ++ counts_text (count_by is_todo own) (count_by is_open own) (count_by is_share own))))))

-- the line of a row, which only a list has
abbrev pub line_of_list : List Stored → Stored → List ℕ
line_of_list rows (variants.Extent extent, version) = []
line_of_list rows (variants.List list, version) = list_text list (list_rows list.id rows)
line_of_list rows (variants.Share share, version) = []
line_of_list rows (variants.Todo todo, version) = []

-- how many lists, todos and shares there are
abbrev pub totals_text : List Stored → List ℕ
totals_text rows =
    codes "lists " ++ (decimal (count_by is_list_row rows) ++ (codes " todos " ++ (decimal (count_by is_todo rows) ++ (codes " shares " ++ (decimal (count_by is_share rows) ++ codes "\n")))))

abbrev pub lists_text : List Stored → List ℕ
lists_text rows = flat_map (line_of_list rows) rows ++ totals_text rows
