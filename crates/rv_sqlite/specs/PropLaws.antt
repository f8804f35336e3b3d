-- That a schema is known has one proof.
use Rattle.std.proofs.Common.{◌≡◌, Bool, ℕ, IsTrue, Option, Some, None, codes, slice_get}
use Rattle.std.specs.Coded.{Coded-set, coded_bool, ×_prop}
use Rattle.std.specs.Option.{IsSomeAnd-prop}
use Rattle.sqlite_schema.specs.declared.schema.Schema.{Schema}
use Rattle.sqlite_schema.specs.contracts.schema.Table.{the_row}
use Rattle.sqlite_schema.specs.Names.{table_named}
use Rattle.sqlite.specs.State.{State}
use Rattle.rv_sqlite.specs.Table.{IsKnown, KnownAt}
use Rattle.rv_sqlite.specs.Telling.{Tells}

KnownAt-prop : (schema : Schema) (at : Option ℕ) → IsProp (KnownAt schema at)
KnownAt-prop schema None = Coded-set coded_bool _ _
KnownAt-prop schema (Some at) = IsSomeAnd-prop (slice_get schema.tables at) _ (λ table. ×_prop (Coded-set the_row.coded _ _) (Coded-set coded_bool _ _))

IsKnown-prop : (schema : Schema) (p q : IsKnown schema) → p ≡ q
IsKnown-prop schema p q = λ t. record { by = KnownAt-prop schema (table_named schema (codes "cell")) p.by q.by t }

-- where the two hold, the schema is known
pub KnownWhereTells-prop : (is_known : Bool) (s : State) → IsProp (IsTrue is_known → Tells s → IsKnown s.committed.schema)
KnownWhereTells-prop is_known s f g = λ t yes tells. IsKnown-prop s.committed.schema (f yes tells) (g yes tells) t
