-- The cases of a known schema.
use Rattle.std.proofs.Common.{◌≡◌, ◌⊎◌, ℕ, true, not, is_some, slice_get, codes, Option, Some, None, inl, inr, refl, ap, ◌∙◌}
use Rattle.std.proofs.lemmas.Bool.{and_parts}
use Rattle.sqlite_schema.specs.declared.schema.Schema.{Schema}
use Rattle.sqlite_schema.specs.declared.schema.Table.{Table}
use Rattle.sqlite_schema.specs.Names.{index_named, table_named, view_named}
use Rattle.rv_sqlite.specs.Table.{IsCellAt, IsKnown, KnownAt, cell_table, is_unused, no_schema}
use Rattle.sqlite_catalog.specs.Change.{created}
use Rattle.sqlite_tied.specs.Compute.{everything}

-- a known schema has the table at a place, or nothing of its name
pub known_cases : (schema : Schema) → IsKnown schema → ((at : ℕ) × (tree : ℕ) × IsCellAt schema at tree) ⊎ (is_unused schema ≡ true)
known_cases schema known = go (table_named schema (codes "cell")) refl known.by
  where
    at_place : (at : ℕ) (o : Option Table) → table_named schema (codes "cell") ≡ Some at → slice_get schema.tables at ≡ o
        → KnownAt schema (Some at) → ((at : ℕ) × (tree : ℕ) × IsCellAt schema at tree) ⊎ (is_unused schema ≡ true)
    at_place at None named there known = absurd (rw there at known)
    at_place at (Some table) named there known =
        let it = rw there at known in
        inl (at, table.tree, record { named = named; there = there ∙ ap Some it.0; apart = it.1 })

    go : (o : Option ℕ) → table_named schema (codes "cell") ≡ o → KnownAt schema o → ((at : ℕ) × (tree : ℕ) × IsCellAt schema at tree) ⊎ (is_unused schema ≡ true)
    go None named known = inr known
    go (Some at) named known = at_place at (slice_get schema.tables at) named refl known

pub known_at : (schema : Schema) (at tree : ℕ) → IsCellAt schema at tree → IsKnown schema
known_at schema at tree is = record { by = rw is.named (rw is.there (refl, is.apart)) }

pub none_at : (o : Option ℕ) → not (is_some o) ≡ true → o ≡ None
none_at None h = refl
none_at (Some n) h = absurd (cc)

-- nothing has the name
pub unused_names : (schema : Schema) → is_unused schema ≡ true → (table_named schema (codes "cell") ≡ None) × (index_named schema (codes "cell") ≡ None) × (view_named schema (codes "cell") ≡ None)
unused_names schema h =
    let two = (and_parts _ _ (and_parts _ _ (and_parts _ _ h).0).0).0 in
    let others = (and_parts _ _ (and_parts _ _ two).1) in
    (none_at _ (and_parts _ _ two).0, none_at _ others.0, none_at _ others.1)

pub known_unused : (schema : Schema) → is_unused schema ≡ true → IsKnown schema
known_unused schema h = record { by = rw (unused_names schema h).0 h }

-- ---- what is always known: a new database, and one that has the table alone

pub new_known : IsKnown no_schema
new_known = record { by = refl }

pub alone_known : IsKnown (created no_schema cell_table)
unfolding everything
alone_known = record { by = (refl, refl) }
