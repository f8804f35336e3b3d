-- What is loaded is what is held, and by a known schema it is held.
use Rattle.std.proofs.Common.{◌≡◌, ◌<◌, ◌^◌, ℕ, true, List, [], codes, Some, None, inl, inr, refl, sym, ap, subst, ◌∙◌, arith}
use Rattle.sqlite_value.specs.Order.{Row}
use Rattle.sqlite_trees.specs.View.{IsShaped}
use Rattle.sqlite_trees.specs.declared.store.Shape.TheVariants as shape
use Rattle.sqlite_schema.specs.declared.schema.Schema.{Schema}
use Rattle.sqlite_schema.specs.Names.{table_named}
use Rattle.sqlite_catalog.specs.Listing.{IsSound}
use Rattle.sqlite.specs.Effect.{Database, IsDatabase}
use Rattle.sqlite.specs.Listing.{understood}
use Rattle.sqlite.specs.State.{State, Shown}
use Rattle.rv_keeper.specs.declared.loaded.Loaded.{Loaded}
use Rattle.rv_keeper.specs.Cells.{AreCells}
use Rattle.rv_keeper.specs.Keeping.{holding}
use Rattle.rv_sqlite.specs.Loads.{ReadsTable, all_text}
use Rattle.rv_sqlite.specs.Table.{IsCellAt, IsKnown, is_unused}
use Rattle.rv_sqlite.specs.Stands.{Stands}
use Rattle.rv_sqlite.specs.Telling.{Holds, IsAll, StandFor}
use Rattle.rv_sqlite.specs.KnownLaws.{known_cases}
use Rattle.rv_sqlite.proofs.Found.{found_held}
use Rattle.rv_sqlite.proofs.Loaded.{loaded_stands}
use Rattle.rv_sqlite.proofs.Meaning.{all_nowhere}
use Rattle.rv_sqlite.proofs.Stepping.{is_no_error}
use Rattle.rv_sqlite.specs.HeldLaws.{loaded_same}

-- A database without the table answers no query of it.
none_shown : (old new : State) (rows : List Row) → is_unused old.now.schema ≡ true → ¬ Shown all_text [] old new rows
unfolding Shown
none_shown old new rows none h = is_no_error (understood old.now.schema all_text) h.0 h.1.is (all_nowhere old.now.schema none)

module _ (old new : State) (loaded : Loaded) (settled : old.now ≡ old.committed) (reads : ReadsTable old new loaded) (are : AreCells loaded.cells) (low : loaded.generation < 2 ^ 64) where
  by_schema : (P : Schema → Type 0) → P old.committed.schema → P old.now.schema
  by_schema P = subst (λ (d : Database). P d.schema) (sym settled)

  -- What was read is what is held.
  pub read_only : (held : Loaded) → Holds old held → held ≡ loaded
  read_only held h = elim h.has.are [
    | inl there ↦
        let stands = subst (λ (d : Database). Stands (d.trees there.1) h.all) (sym settled) there.3 in
        found_held old new there.0 there.1 reads.0 held loaded h.all (by_schema (λ s. IsCellAt s there.0 there.1) there.2) reads.1 h.whole stands reads.2 are low
    | inr none ↦ absurd (none_shown old new reads.0 (by_schema (λ s. is_unused s ≡ true) none.0) reads.1)
  ]

  -- It is held, by a known schema.
  pub read_holds : IsSound old.now.schema old.now.trees → ((at tree : ℕ) → IsCellAt old.now.schema at tree → IsShaped shape.Table (old.now.trees tree)) → IsKnown old.committed.schema → Holds old loaded
  read_holds sound shaped known = elim (known_cases old.now.schema (by_schema IsKnown known)) [
    | inl there ↦
        let (at, tree, is) = there in
        let all = loaded_stands old new at tree reads.0 loaded is sound (shaped at tree is) reads.1 reads.2 are low in
        let holds : StandFor old.now loaded = record { all = all.0; whole = all.1; has = record { sound = sound; are = inl (at, tree, is, all.2) } } in
        subst (λ (d : Database). StandFor d loaded) settled holds
    | inr none ↦ absurd (none_shown old new reads.0 none reads.1)
  ]

-- ---- no table

not_named : (schema : Schema) (at tree : ℕ) → table_named schema (codes "cell") ≡ None → ¬ IsCellAt schema at tree
not_named schema at tree none is = absurd (let e : Some at ≡ None = sym is.named ∙ none in cc)

no_cells : (held : Loaded) → IsAll held [] → held ≡ holding [] 0
no_cells held whole = elim whole.are [ inl some ↦ absurd (let e = some in cc) | inr none ↦ loaded_same held (holding [] 0) (sym none.1) none.0 ]

module _ (old : State) (settled : old.now ≡ old.committed) (none : table_named old.now.schema (codes "cell") ≡ None) where
  schema_same : old.committed.schema ≡ old.now.schema
  schema_same = ap (λ (d : Database). d.schema) (sym settled)

  -- Nothing is held.
  pub nothing_only : (held : Loaded) → Holds old held → held ≡ holding [] 0
  nothing_only held h = elim h.has.are [
    | inl there ↦ absurd (not_named old.now.schema there.0 there.1 none (subst (λ s. IsCellAt s there.0 there.1) schema_same there.2))
    | inr new ↦ no_cells held (subst (IsAll held) new.1 h.whole)
  ]

  -- It is held, by a known schema.
  pub nothing_holds : IsDatabase old.committed → IsKnown old.committed.schema → Holds old (holding [] 0)
  nothing_holds sound known = elim (known_cases old.committed.schema known) [
    | inl there ↦ absurd (not_named old.now.schema there.0 there.1 none (subst (λ s. IsCellAt s there.0 there.1) schema_same there.2))
    | inr new ↦ record { all = []; whole = record { small = omega arith; shelves = tt; are = inr (refl, refl) }; has = record { sound = sound; are = inr (new, refl) } }
  ]
