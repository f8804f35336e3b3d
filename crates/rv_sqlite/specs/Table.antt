-- The table as a schema has it, and the texts of the statements that write into it.
use Rattle.std.specs.Prelude.{◌≡◌, ◌⊎◌, ◌^◌, ◌==◌, ◌&&◌, ◌||◌, Bool, not, nat_lt, bytes_eq, is_some, is_none, true, false, [], ◌∷◌, None, Some, codes, slice_get, List, Option, IsSomeAnd, ℕ}
use Rattle.std.specs.List.{list_all, list_any, position_from}
use Rattle.sqlite_value.specs.declared.value.Value.TheVariants.{Null}
use Rattle.sqlite_value.specs.declared.keys.Collation.TheVariants.{Binary}
use Rattle.sqlite_value.specs.Keys.{plain}
use Rattle.sqlite_schema.specs.declared.schema.Column.{Column}
use Rattle.sqlite_schema.specs.declared.schema.Kind.{Kind}
use Rattle.sqlite_schema.specs.declared.schema.Table.{Table}
use Rattle.sqlite_schema.specs.declared.schema.Index.{Index}
use Rattle.sqlite_schema.specs.declared.schema.Reference.{Reference}
use Rattle.sqlite_schema.specs.declared.schema.Schema.{Schema}
use Rattle.sqlite_schema.specs.declared.schema.Kind.TheVariants.{Integer, Blob}
use Rattle.sqlite_schema.specs.Names.{index_named, is_key, same_name, table_named, view_named}
use Rattle.sqlite_schema.specs.Rules.{guards}
use Rattle.sqlite_catalog.specs.Change.{created}

-- a column that takes values of its kind alone, and no null
abbrev pub strict_column : List ℕ → Kind → Column
strict_column name kind = record { name = name; kind = kind; is_strict = true; not_null = true; default = Null; collation = Binary }

-- the table `cell`: its one key is the shelf and then the key
abbrev pub cell_table : Table
cell_table = record {
  name = codes "cell";
  tree = 0;
  columns = strict_column (codes "shelf") Integer ∷ strict_column (codes "k") Blob ∷ strict_column (codes "body") Blob ∷ [];
  key = None;
  primary = 1 ∷ 2 ∷ [];
  uniques = (1 ∷ 2 ∷ []) ∷ [];
  orders = plain ∷ [];
  checks = [];
  references = [];
  computed = [];
  stamps = record { places = []; terms = []; formats = [] };
  is_counted = false;
}

-- the table `cell`, with its rows in this tree
abbrev pub cell_in : ℕ → Table
cell_in tree = record cell_table { tree = tree }

-- the table is of the form in which `cell` is made, wherever its rows stand
abbrev pub HasCellForm : Table → Type 0
HasCellForm table = table ≡ cell_in table.tree

-- the schema has a table of the name, and it is of the form
abbrev pub FindsForm : Schema → Type 0
FindsForm schema = (at : ℕ) × (table : Table) × (table_named schema (codes "cell") ≡ Some at) × (slice_get schema.tables at ≡ Some table) × HasCellForm table

-- the schema of a new database
abbrev pub no_schema : Schema
no_schema = record { tables = []; indexes = []; views = [] }

-- no index and no view has the name
abbrev pub is_alone : Schema → Bool
is_alone schema = is_none (index_named schema (codes "cell")) && is_none (view_named schema (codes "cell"))

-- ---- a schema that has no such table, and may be given one

-- the foreign key names the table
abbrev pub names_cell : Reference → Bool
names_cell reference = same_name (codes "cell") reference.parent

-- the index is of a table of the schema
abbrev pub is_of_table : Schema → Index → Bool
is_of_table schema index = list_any (λ table. table.tree == index.table) schema.tables

-- where a table counts its rows, the schema has the table for such counts
abbrev pub has_counts : Schema → Bool
has_counts schema = is_some (table_named schema (codes "sqlite_sequence")) || list_all (λ table. not table.is_counted) schema.tables

-- nothing of the schema has the name, no foreign key names it, and each index and each count has its table
abbrev pub is_unused : Schema → Bool
is_unused schema =
    is_none (table_named schema (codes "cell")) && is_alone schema && has_counts schema && list_all (is_of_table schema) schema.indexes
    && list_all (λ table. list_all (λ reference. not (names_cell reference)) table.references) schema.tables

-- ---- a schema that has it

-- the index has the columns and the order of the table's key
abbrev pub is_of_key : Index → Bool
is_of_key index = bytes_eq index.columns (1 ∷ 2 ∷ []) && (index.order.digits == 0)

-- the foreign key leads to no table with its rows in this tree
abbrev pub leads_elsewhere : Schema → ℕ → Reference → Bool
leads_elsewhere schema tree reference = list_all (λ table. not (same_name table.name reference.parent && (table.tree == tree))) schema.tables

-- the first table with its rows in this tree stands at this place
abbrev pub is_first : Schema → ℕ → ℕ → Bool
is_first schema at tree = is_key (position_from (λ table. table.tree == tree) 0 schema.tables) at

-- the table's unique indexes are of its key, and there is one
abbrev pub is_guarded : Schema → ℕ → Bool
is_guarded schema tree = list_any (λ index. guards index (cell_in tree)) schema.indexes && list_all (λ index. not (guards index (cell_in tree)) || is_of_key index) schema.indexes

-- nothing else of the schema has a part in what is written into the table's tree
abbrev pub is_apart : Schema → ℕ → ℕ → Bool
is_apart schema at tree =
    is_first schema at tree && nat_lt tree (2 ^ 31) && is_guarded schema tree && list_all (λ table. list_all (leads_elsewhere schema tree) table.references) schema.tables
    && is_alone schema

-- the table `cell` stands at this place of the schema and apart, with its rows in this tree
pub record IsCellAt (schema : Schema) (at tree : ℕ) : Type 0 where
  pub named : table_named schema (codes "cell") ≡ Some at
  pub there : slice_get schema.tables at ≡ Some (cell_in tree)
  pub apart : is_apart schema at tree ≡ true

-- by where a table of the name stands: nowhere, and nothing else has the name; or at a place, and it is the table `cell`, apart
abbrev pub KnownAt : Schema → Option ℕ → Type 0
KnownAt schema None = is_unused schema ≡ true
KnownAt schema (Some at) = IsSomeAnd (slice_get schema.tables at) (λ table. HasCellForm table × (is_apart schema at table.tree ≡ true))

-- The schema has nothing of the name, or the table `cell`, whatever stands beside it.
pub record IsKnown (schema : Schema) : Type 0 where
  pub by : KnownAt schema (table_named schema (codes "cell"))

-- the schema is what it was, or it had nothing of the name and has the table besides
abbrev pub Grows : Schema → Schema → Type 0
Grows old new = (new ≡ old) ⊎ ((is_unused old ≡ true) × (new ≡ created old cell_table))

-- a known schema stays known, and has the table besides at most
pub record Stays (old new : Schema) : Type 0 where
  pub known : IsKnown old → IsKnown new
  pub grows : IsKnown old → Grows old new

-- the statement that writes a row, over one at its place
abbrev pub put_text : List ℕ
put_text = codes "INSERT INTO cell (shelf, k, body) VALUES (?1, ?2, ?3) ON CONFLICT (shelf, k) DO UPDATE SET body = excluded.body"

-- the statement that takes the row at a place away
abbrev pub remove_text : List ℕ
remove_text = codes "DELETE FROM cell WHERE shelf = ?1 AND k = ?2"
