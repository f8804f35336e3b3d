-- The first statement makes the table where nothing has its name.
use Rattle.std.proofs.Common.{◌≡◌, ◌<◌, ℕ, suc, ◌+◌, ◌^◌, ◌==◌, Bool, true, false, not, ◌||◌, ◌&&◌, List, [], ◌∷◌, ◌++◌, length, codes, nat_lt, is_some, is_none, option_and_then, slice_get, None, Some, Ok, Option, inl, inr, refl, sym, ap, subst, ◌∙◌, arith}
use Rattle.std.specs.List.{list_all, list_any, position_from}
use Rattle.std.proofs.lemmas.Bool.{and_from, and_left, and_parts, and_right, cases_Bool, or_cases, or_from, or_right}
use Rattle.std.proofs.lemmas.Bool.Decides.{nat_tests}
use Rattle.sqlite_value.specs.Order.{Row}
use Rattle.sqlite_schema.specs.declared.schema.Index.{Index}
use Rattle.sqlite_schema.specs.declared.schema.Reference.{Reference}
use Rattle.sqlite_schema.specs.declared.schema.Schema.{Schema}
use Rattle.sqlite_schema.specs.declared.schema.Table.{Table}
use Rattle.sqlite_schema.specs.Names.{same_name, table_named}
use Rattle.sqlite_schema.specs.Rules.{guards}
use Rattle.sqlite_rules.specs.Lists.{Has}
use Rattle.sqlite_rules.proofs.ListLemmas.{has_right, some_from, some_has, test_from, test_has, test_push}
use Rattle.sqlite_catalog.specs.Change.{created, next_tree}
use Rattle.sqlite_catalog.specs.Listing.{IsTableRow, automatic}
use Rattle.sqlite_catalog.proofs.LayoutLemmas.{zipped_left}
use Rattle.sqlite_catalog.proofs.StepLemmas.{same_itself, table_below}
use Rattle.sqlite_tied.specs.Compute.{everything}
use Rattle.sqlite.specs.Command.TheVariants.{CreateTable, Nothing}
use Rattle.sqlite.specs.Does.{Tally, lacks_sequence}
use Rattle.sqlite.specs.Rows.{sequence}
use Rattle.sqlite.specs.Effect.{Database, IsDatabase}
use Rattle.sqlite.specs.State.{State, Executes, IsUnchanged, Writes}
use Rattle.sqlite.proofs.Callers.{runs_as}
use Rattle.rv_sqlite.specs.Loads.{make_text}
use Rattle.rv_sqlite.specs.Table.{IsCellAt, cell_in, cell_table, has_counts, is_alone, is_first, is_guarded, is_of_key, is_of_table, is_unused, leads_elsewhere, names_cell}
use Rattle.rv_sqlite.specs.Stands.{Stands}
use Rattle.rv_sqlite.specs.KnownLaws.{unused_names}
use Rattle.rv_sqlite.proofs.Meaning.{again_means, make_means, make_statement, makes_cell}
use Rattle.rv_sqlite.proofs.Members.{not_true}
use Rattle.rv_sqlite.proofs.Parts.{went, same_value}

empty_stands : Stands [] []
empty_stands = record { order = tt; read = λ r none. absurd none; kept = λ c none. absurd none; once = λ i j c none. absurd none; numbered = λ i c d none. absurd none }

-- ---- one more at the end of a list

module _ {X : Type 0} (p : X → Bool) where
  placed_last : (xs : List X) (from : ℕ) (x : X) → position_from p from xs ≡ None → p x ≡ true → position_from p from (xs ++ x ∷ []) ≡ Some (from + length xs)
  placed_last [] from x none passes = rw passes (ap Some (let e : from ≡ from + 0 = omega arith in e))
  placed_last (y ∷ xs) from x none passes = elim (cases_Bool (p y)) [
    | inl here ↦ absurd (let e = rw here at none in cc)
    | inr other ↦ rw other (placed_last xs (from + 1) x (rw other at none) passes ∙ ap Some (let e : from + 1 + length xs ≡ from + suc (length xs) = omega arith in e))
  ]

  none_passes : (xs : List X) (from : ℕ) → ((x : X) → Has xs x → p x ≡ false) → position_from p from xs ≡ None
  none_passes [] from each = refl
  none_passes (y ∷ xs) from each = rw (each y (inl refl)) (none_passes xs (from + 1) (λ x h. each x (inr h)))

  not_placed : (xs : List X) (from : ℕ) (x : X) → position_from p from xs ≡ None → p x ≡ false → position_from p from (xs ++ x ∷ []) ≡ None
  not_placed [] from x none fails = rw fails refl
  not_placed (y ∷ xs) from x none fails = elim (cases_Bool (p y)) [
    | inl here ↦ absurd (let e = rw here at none in cc)
    | inr other ↦ rw other (not_placed xs (from + 1) x (rw other at none) fails)
  ]

  placed_front : (xs ys : List X) (from n : ℕ) → position_from p from xs ≡ Some n
      → (position_from p from (xs ++ ys) ≡ Some n) × ((k : ℕ) × (n ≡ from + k) × (x : X) × (slice_get (xs ++ ys) k ≡ Some x))
  placed_front [] ys from n is = absurd (cc)
  placed_front (y ∷ xs) ys from n is = elim (cases_Bool (p y)) [
    | inl here ↦
        let at : Some from ≡ Some n = rw here at is in
        let same : from ≡ n = cc in
        (rw here at, (0, omega (arith, same), y, refl))
    | inr other ↦
        let later = placed_front xs ys (from + 1) n (rw other at is) in
        (rw other later.0, (suc later.1.0, omega (arith, later.1.1), later.1.2, later.1.3))
  ]

from_none : (n : ℕ) → Some (0 + n) ≡ Some n
from_none n = ap Some (let e : 0 + n ≡ n = omega arith in e)

got_last : {X : Type 0} (xs : List X) (x : X) → slice_get (xs ++ x ∷ []) (length xs) ≡ Some x
got_last [] x = refl
got_last (y ∷ xs) x = got_last xs x

none_counted : (tree : ℕ) (tables : List Table) → list_all (λ (t : Table). not t.is_counted) tables ≡ true → list_any (λ (t : Table). t.is_counted) (tables ++ cell_in tree ∷ []) ≡ false
none_counted tree [] h = refl
none_counted tree (t ∷ tables) h = let parts = and_parts (not t.is_counted) _ h in or_from _ _ (not_true _ parts.0) (none_counted tree tables parts.1)

-- ---- a schema with the table made

-- the index that is made with the table, for its key
abbrev own_index : ℕ → Index
own_index tree = automatic (cell_in tree) 0 (1 ∷ 2 ∷ []) (tree + 1)

other_name : (tree : ℕ) → same_name (own_index tree).name (codes "cell") ≡ false
unfolding everything
other_name tree = refl

module _ (schema : Schema) (unused : is_unused schema ≡ true) where
  abbrev tree : ℕ
  tree = next_tree schema

  abbrev after : Schema
  after = created schema cell_table

  counts : has_counts schema ≡ true
  counts = (and_parts _ _ (and_parts _ _ (and_parts _ _ unused).0).0).1

  of_tables : list_all (is_of_table schema) schema.indexes ≡ true
  of_tables = (and_parts _ _ (and_parts _ _ unused).0).1

  unnamed : list_all (λ (t : Table). list_all (λ reference. not (names_cell reference)) t.references) schema.tables ≡ true
  unnamed = (and_parts _ _ unused).1

  other_tree : (t : Table) → Has schema.tables t → (t.tree == tree) ≡ false
  other_tree t h = let low = table_below schema t h in grind (arith, nat_tests, low)

  itself : (n : ℕ) → (n == n) ≡ true
  itself n = grind (arith, nat_tests)

  stands_first : is_first after (length schema.tables) tree ≡ true
  stands_first =
      let place = placed_last (λ (t : Table). t.tree == tree) schema.tables 0 (cell_in tree) (none_passes (λ (t : Table). t.tree == tree) schema.tables 0 other_tree) (itself tree) ∙ from_none (length schema.tables) in
      rw place (itself (length schema.tables))

  not_guarding : (i : Index) → Has schema.indexes i → guards i (cell_in tree) ≡ false
  not_guarding i h =
      let of = some_has (λ (t : Table). t.tree == i.table) schema.tables (test_has (is_of_table schema) schema.indexes i of_tables h) in
      let low = table_below schema of.0 of.1 in
      let apart : (i.table == tree) ≡ false = grind (arith, nat_tests, low, of.2) in
      no_guard i.is_unique (i.table == tree) apart
    where
      no_guard : (a b : Bool) → b ≡ false → (a && b) ≡ false
      no_guard true b h = h
      no_guard false b h = refl

  -- the index of the table made is that of its key
  own_guards : guards (own_index tree) (cell_in tree) ≡ true
  own_guards = itself tree

  guarding : is_guarded after tree ≡ true
  guarding =
      and_from _ _
      (some_from (λ i. guards i (cell_in tree)) after.indexes (own_index tree) (has_right schema.indexes (own_index tree ∷ []) (own_index tree) (inl refl)) own_guards)
      (test_push (λ i. not (guards i (cell_in tree)) || is_of_key i) schema.indexes (own_index tree)
      (test_from (λ i. not (guards i (cell_in tree)) || is_of_key i) schema.indexes (λ i h. rw (not_guarding i h) refl)) (or_right _ _ refl))

  -- a foreign key that does not name the table does not lead to it
  away : (reference : Reference) → not (names_cell reference) ≡ true → leads_elsewhere after tree reference ≡ true
  away reference other =
      test_push (λ (t : Table). not (same_name t.name reference.parent && (t.tree == tree))) schema.tables (cell_in tree)
      (test_from (λ (t : Table). not (same_name t.name reference.parent && (t.tree == tree))) schema.tables (λ t h. no_right (same_name t.name reference.parent) (t.tree == tree) (other_tree t h)))
      (no_left (names_cell reference) (tree == tree) (not_true _ other))
    where
      no_right : (a b : Bool) → b ≡ false → not (a && b) ≡ true
      no_right true b h = rw h refl
      no_right false b h = refl

      no_left : (a b : Bool) → a ≡ false → not (a && b) ≡ true
      no_left a b h = rw h refl

  leading : list_all (λ (t : Table). list_all (leads_elsewhere after tree) t.references) after.tables ≡ true
  leading =
      test_push (λ (t : Table). list_all (leads_elsewhere after tree) t.references) schema.tables (cell_in tree)
      (test_from (λ (t : Table). list_all (leads_elsewhere after tree) t.references) schema.tables
      (λ t h. test_from (leads_elsewhere after tree) t.references (λ r there. away r (test_has (λ r. not (names_cell r)) t.references r (test_has (λ (t : Table). list_all (λ r. not (names_cell r)) t.references) schema.tables t unnamed h) there))))
      refl

  pub named : table_named after (codes "cell") ≡ Some (length schema.tables)
  named = placed_last (λ (t : Table). same_name t.name (codes "cell")) schema.tables 0 (cell_in tree) (unused_names schema unused).0 (same_itself (codes "cell")) ∙ from_none (length schema.tables)

  -- neither an index nor a view of the name came
  alone : is_alone after ≡ true
  alone = and_from _ _ (ap is_none (not_placed (λ (i : Index). same_name i.name (codes "cell")) schema.indexes 0 (own_index tree) (unused_names schema unused).1 (other_name tree))) (ap is_none (unused_names schema unused).2)

  pub made_at : tree < 65536 → IsCellAt after (length schema.tables) tree
  made_at low = record {
    named = named;
    there = got_last schema.tables (cell_in tree);
    apart =
        let below : nat_lt tree (2 ^ 31) ≡ true = grind (arith, nat_tests, low) in
        and_from _ _ (and_from _ _ (and_from _ _ (and_from _ _ stands_first below) guarding) leading) alone;
  }

  -- no table counts its rows without the table for that
  pub nothing_lacks : lacks_sequence after ≡ false
  nothing_lacks = elim (or_cases _ _ counts) [
    | inl there ↦ with_counts (table_named schema (codes "sqlite_sequence")) refl there
    | inr none ↦ and_left _ _ (none_counted tree schema.tables none)
  ]
    where
      with_counts : (o : Option ℕ) → table_named schema (codes "sqlite_sequence") ≡ o → is_some o ≡ true → lacks_sequence after ≡ false
      with_counts None is there = absurd (cc)
      with_counts (Some n) is there =
          let front = placed_front (λ (t : Table). same_name t.name (codes "sqlite_sequence")) schema.tables (cell_in tree ∷ []) 0 n is in
          let at : slice_get after.tables n ≡ Some front.1.2 = subst (λ (k : ℕ). slice_get after.tables k ≡ Some front.1.2) (let e : front.1.0 ≡ n = omega (arith, front.1.1) in e) front.1.3 in
          let there : sequence after ≡ Some front.1.2 = ap (option_and_then (slice_get after.tables)) front.0 ∙ at in
          and_right _ _ (ap (λ o. not (is_some o)) there)

-- ---- the statement

module _ (old new : State) (unused : is_unused old.now.schema ≡ true) (count : ℕ) (h : Executes make_text [] old new (Ok count)) where
  ran : Writes old new None CreateTable make_text [] count
  ran =
      let it = make_means old.now.schema unused in
      subst (λ t. Writes old new None CreateTable t [] count) (make_statement old.now.schema unused) (runs_as make_text [] old new old.now.schema refl CreateTable it.is it.plain count h)

  -- It makes the table, and there is no row.
  made_now : (new.now.schema ≡ created old.now.schema cell_table) × (new.now.trees (next_tree old.now.schema) ≡ [])
  made_now =
      let all = went ran.changed in
      let first = went all.1 in
      let made = first.1 in
      let both : Ok made.table ≡ Ok cell_table = sym made.defined ∙ makes_cell in
      let same : made.table ≡ cell_table = cc in
      let schema : first.0.schema ≡ created old.now.schema cell_table = made.is ∙ ap (created old.now.schema) same in
      let plain : lacks_sequence first.0.schema ≡ false = ap lacks_sequence schema ∙ nothing_lacks old.now.schema unused in
      let now : new.now ≡ first.0 = ap (λ (p : Tally × Database). p.1) (same_value all.2) ∙ same_value (rw plain at first.2) in
      (ap (λ (d : Database). d.schema) now ∙ schema, ap (λ (d : Database). d.trees (next_tree old.now.schema)) now ∙ made.empty)

  low : next_tree old.now.schema < 65536
  low =
      let schema = made_now.0 in
      let there : Has new.now.schema.tables (cell_in (next_tree old.now.schema)) =
      subst (λ (s : Schema). Has s.tables (cell_in (next_tree old.now.schema))) (sym schema) (has_right old.now.schema.tables (cell_in (next_tree old.now.schema) ∷ []) (cell_in (next_tree old.now.schema)) (inl refl)) in
      (zipped_left IsTableRow _ new.now.schema.tables (cell_in (next_tree old.now.schema)) ran.sound.lists.listed.tables there).2.described.low

  pub creates_schema : new.now.schema ≡ created old.now.schema cell_table
  creates_schema = made_now.0

  pub creates_at : IsCellAt new.now.schema (length old.now.schema.tables) (next_tree old.now.schema)
  creates_at = subst (λ s. IsCellAt s (length old.now.schema.tables) (next_tree old.now.schema)) (sym made_now.0) (made_at old.now.schema unused low)

  pub creates_sound : IsDatabase new.now
  creates_sound = ran.sound

  pub creates : Stands (new.now.trees (next_tree old.now.schema)) []
  creates = subst (λ (rows : List Row). Stands rows []) (sym made_now.1) empty_stands

-- Where the table is there, it does nothing.
pub leaves_alone : (old new : State) (at tree : ℕ) (count : ℕ) → IsCellAt old.now.schema at tree → Executes make_text [] old new (Ok count) → IsUnchanged old new
leaves_alone old new at tree count is h = let it = again_means old.now.schema at tree is in (runs_as make_text [] old new old.now.schema refl Nothing it.is it.plain count h).0
