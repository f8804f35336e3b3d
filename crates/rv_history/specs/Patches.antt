-- What a user sees at a book, and a patch applied to a client's view.
use Rattle.std.specs.Prelude.{ℕ, List, [], map, fold}
use Rattle.serde_json.specs.Data.{Data}
use Rattle.rv_base.specs.Sorted.{put_by, without}
use Rattle.rv_rows.specs.declared.row.Row.{Row}
use Rattle.rv_rows.specs.Keys.{key_text, row_text}
use Rattle.rv_rows.specs.RowTexts.{row_data}
use Rattle.rv_rows.specs.Sharing.{seen}
use Rattle.rv_turns.specs.declared.op.Op.{Op}
use Rattle.rv_turns.specs.declared.op.Op.TheVariants.{Clear, Del, Put}
use Rattle.rv_book.specs.Book.{Book}
use Rattle.rv_history.specs.Replay.{rows_of}

-- a key and a JSON value
abbrev pub KeyValue : Type 0
KeyValue = List ℕ × Data

abbrev pub key_value : Row → KeyValue
key_value row = (row_text row, row_data row)

-- a client's view is a map from key to value, as a list in the order of the keys
abbrev pub ClientView : Type 0
ClientView = List KeyValue

-- what the user sees at the book
abbrev pub client_view : List ℕ → Book → ClientView
client_view user book = map key_value (seen user (rows_of book))

-- the view after one operation
abbrev pub applied : ClientView → Op → ClientView
applied view Clear = []
applied view (Del key) = without (λ item. item.0) (key_text key) view
applied view (Put row) = put_by (λ item. item.0) (key_value row) view

-- the view after a patch, its operations done in order
abbrev pub apply : List Op → ClientView → ClientView
apply ops view = fold applied view ops
