-- The key of a row, and the text of a key. Keys are ordered by the bytes of their texts.
use Rattle.std.specs.Prelude.{ℕ, Bool, List, ◌++◌, codes, Option}
use Rattle.std.specs.List.{list_any}
use Rattle.std.specs.Str.{bytes_eq}
use Rattle.rv_base.specs.Sorted.{find_by, sorted_by}
use Rattle.rv_rows.specs.declared.key.Kind.{Kind}
use Rattle.rv_rows.specs.declared.key.Kind.TheVariants as kinds
use Rattle.rv_rows.specs.declared.key.Key.{Key}
use Rattle.rv_rows.specs.declared.row.Row.{Row}
use Rattle.rv_rows.specs.declared.row.Row.TheVariants as variants

-- the kind's text, with the slash
abbrev pub prefix : Kind → List ℕ
prefix kinds.Extent = codes "extent/"
prefix kinds.List = codes "list/"
prefix kinds.Share = codes "share/"
prefix kinds.Todo = codes "todo/"

abbrev pub key_text : Key → List ℕ
key_text key = prefix key.kind ++ key.id

-- of an extent its user names it
abbrev pub row_key : Row → Key
row_key (variants.Extent row) = record { kind = kinds.Extent; id = row.user }
row_key (variants.List row) = record { kind = kinds.List; id = row.id }
row_key (variants.Share row) = record { kind = kinds.Share; id = row.id }
row_key (variants.Todo row) = record { kind = kinds.Todo; id = row.id }

abbrev pub row_text : Row → List ℕ
row_text row = key_text (row_key row)

-- the row of a key among rows
abbrev pub row_at : List ℕ → List Row → Option Row
row_at = find_by row_text

-- some row has the key
abbrev pub has_row : List ℕ → List Row → Bool
has_row key = list_any (λ row. bytes_eq key (row_text row))

-- the rows in the order of their keys
abbrev pub in_key_order : List Row → List Row
in_key_order = sorted_by row_text
