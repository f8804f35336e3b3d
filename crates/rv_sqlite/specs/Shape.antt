-- The parts of the table and of its index, each of them whole.
use Rattle.std.specs.Prelude.{◌≡◌, false, [], ◌∷◌, codes, None, List}
use Rattle.sqlite_value.specs.Keys.{plain}
use Rattle.sqlite_schema.specs.declared.schema.Column.{Column}
use Rattle.sqlite_schema.specs.declared.schema.Kind.TheVariants.{Integer, Blob}
use Rattle.sqlite_schema.specs.declared.schema.Table.{Table}
use Rattle.rv_sqlite.specs.Table.{strict_column}

-- the columns `shelf`, `k` and `body`
abbrev pub cell_columns : List Column
cell_columns = strict_column (codes "shelf") Integer ∷ strict_column (codes "k") Blob ∷ strict_column (codes "body") Blob ∷ []

-- the three columns and the key, which is of the first two
abbrev pub HasCellColumns : Table → Type 0
HasCellColumns table = (table.columns ≡ cell_columns) × (table.key ≡ None) × (table.primary ≡ 1 ∷ 2 ∷ []) × (table.uniques ≡ (1 ∷ 2 ∷ []) ∷ []) × (table.orders ≡ plain ∷ [])

-- no rule but the columns and the key, no default that is computed, and no counter
abbrev pub HasNoRules : Table → Type 0
HasNoRules table =
    (table.checks ≡ []) × (table.references ≡ []) × (table.computed ≡ []) × (table.stamps ≡ record { places = []; terms = []; formats = [] }) × (table.is_counted ≡ false)
