-- What a schema in which the table stands apart says of the table, its tree and its indexes.
use Rattle.std.proofs.Common.{◌≡◌, ℕ, zero, suc, ◌+◌, ◌^◌, ◌==◌, Bool, true, false, not, ◌&&◌, ◌||◌, List, [], ◌∷◌, find, length, nat_le, nat_lt, codes, option_map, option_and_then, Option, Some, None, slice_get, eqb-true, refl, ap, subst, ◌∙◌, arith, inl, inr}
use Rattle.std.specs.List.{list_all, list_any, position_from, filter_map, flat_map}
use Rattle.std.proofs.lemmas.Bool.{and_parts, cases_Bool}
use Rattle.std.proofs.lemmas.Bool.Decides.{nat_tests}
use Rattle.std.proofs.lemmas.Slice.Eq.{bytes_eq-Decides}
use Rattle.sqlite_value.specs.declared.keys.Order.{Order}
use Rattle.sqlite_value.specs.Order.{Row}
use Rattle.sqlite_value.specs.Keys.{plain}
use Rattle.sqlite_schema.specs.declared.schema.Index.{Index}
use Rattle.sqlite_schema.specs.declared.schema.Keys.{Keys}
use Rattle.sqlite_schema.specs.declared.schema.Reference.{Reference}
use Rattle.sqlite_schema.specs.declared.schema.Schema.{Schema}
use Rattle.sqlite_schema.specs.declared.schema.Table.{Table}
use Rattle.sqlite_schema.specs.Names.{index_named, is_key, same_name, view_named}
use Rattle.sqlite_schema.specs.Rules.{declared_order, guards, key_in, key_places}
use Rattle.sqlite_rules.specs.declared.action.Deed.{Deed}
use Rattle.sqlite_rules.specs.Action.{deed_for, pairs, work_by, work_for, works}
use Rattle.sqlite_rules.specs.Lists.{Has}
use Rattle.sqlite_rules.proofs.ListLemmas.{has_found, has_got, some_has, test_has}
use Rattle.sqlite_resolve.specs.Given.{are_among, is_key_at}
use Rattle.rv_sqlite.specs.KnownLaws.{none_at}
use Rattle.rv_sqlite.specs.Table.{IsCellAt, cell_in, is_alone, is_first, is_guarded, is_of_key, leads_elsewhere}
use Rattle.rv_sqlite.proofs.Members.{not_true}

-- ---- lists

first_found : {X : Type 0} (p : X → Bool) (xs : List X) (from k : ℕ) (x : X) → is_key (position_from p from xs) (from + k) ≡ true → slice_get xs k ≡ Some x → p x ≡ true → find p xs ≡ Some x
first_found p [] from k x first there passes = absurd (cc)
first_found p (y ∷ xs) from zero x first there passes =
    let same : y ≡ x = cc in
    rw (ap p same ∙ passes) (ap Some same)
first_found p (y ∷ xs) from (suc k) x first there passes = elim (cases_Bool (p y)) [
  | inl here ↦ let at = eqb-true from (from + suc k) (rw here at first) in absurd (omega (arith, at))
  | inr other ↦
      let shift : from + suc k ≡ from + 1 + k = omega arith in
      rw other (first_found p xs (from + 1) k x (subst (λ (n : ℕ). is_key (position_from p (from + 1) xs) n ≡ true) shift (rw other at first)) there passes)
]

-- ---- foreign keys that lead elsewhere set nothing off

module _ (schema : Schema) (keys : Keys) (tree : ℕ) (olds news : List Row) (child : Table) (ref : Reference) where
  by_key : (deed : Deed) (t : Table) → (t.tree == tree) ≡ false → (places : Option (List ℕ)) → work_by 0 tree (pairs olds news) child ref (Some deed) (option_and_then (key_in t) places) ≡ None
  by_key deed t other None = refl
  by_key deed t other (Some places) = go (declared_order t places)
    where
      go : (o : Option Order) → work_by 0 tree (pairs olds news) child ref (Some deed) (option_map (λ o. (t.tree, places, o)) o) ≡ None
      go None = refl
      go (Some o) = rw other refl

  by_parent : (deed : Option Deed) (o : Option Table) → ((t : Table) → o ≡ Some t → (t.tree == tree) ≡ false)
      → work_by 0 tree (pairs olds news) child ref deed (option_and_then (λ (t : Table). option_and_then (key_in t) (key_places t ref.parent_columns)) o) ≡ None
  by_parent None o h = refl
  by_parent (Some deed) None h = refl
  by_parent (Some deed) (Some t) h = by_key deed t (h t refl) (key_places t ref.parent_columns)

  other : leads_elsewhere schema tree ref ≡ true → (t : Table) → find (λ (t : Table). same_name t.name ref.parent) schema.tables ≡ Some t → (t.tree == tree) ≡ false
  other h t found =
      let it = has_found (λ (t : Table). same_name t.name ref.parent) schema.tables t found in
      let apart = not_true _ (test_has (λ (t : Table). not (same_name t.name ref.parent && (t.tree == tree))) schema.tables t h it.0) in
      rw it.1 at apart

  no_work : leads_elsewhere schema tree ref ≡ true → work_for schema keys 0 tree olds news child ref ≡ None
  no_work h = by_parent (deed_for keys (length news == 0) ref) (find (λ (t : Table). same_name t.name ref.parent) schema.tables) (other h)

module _ (schema : Schema) (keys : Keys) (tree : ℕ) (olds news : List Row) where
  none_each : (child : Table) (refs : List Reference) → list_all (leads_elsewhere schema tree) refs ≡ true → filter_map (work_for schema keys 0 tree olds news child) refs ≡ []
  none_each child [] h = refl
  none_each child (ref ∷ refs) h = let parts = and_parts _ _ h in rw (no_work schema keys tree olds news child ref parts.0) (none_each child refs parts.1)

  none_of : (tables : List Table) → list_all (λ (t : Table). list_all (leads_elsewhere schema tree) t.references) tables ≡ true
      → flat_map (λ (child : Table). filter_map (work_for schema keys 0 tree olds news child) child.references) tables ≡ []
  none_of [] h = refl
  none_of (t ∷ tables) h = let parts = and_parts _ _ h in rw (none_each t t.references parts.0) (none_of tables parts.1)

-- ---- indexes of the key

key_is : (index : Index) → is_of_key index ≡ true → (index.columns ≡ 1 ∷ 2 ∷ []) × (index.order ≡ plain)
key_is index h =
    let parts = and_parts _ _ h in
    let digits = eqb-true index.order.digits 0 parts.1 in
    ((bytes_eq-Decides index.columns (1 ∷ 2 ∷ [])).0 parts.0, λ t. record { digits = digits t })

or_yes : (a b : Bool) → (not a || b) ≡ true → a ≡ true → b ≡ true
or_yes a b h is = let e = rw is at h in e

module _ (tree : ℕ) where
  guard_keys : (index : Index) → guards index (cell_in tree) ≡ true → index.columns ≡ 1 ∷ 2 ∷ [] → is_key_at (cell_in tree) (1 ∷ 2 ∷ []) index ≡ true
  unfolding is_key_at
  guard_keys index guard columns = let parts = and_parts index.is_unique (index.table == tree) guard in rw (parts.0, parts.1, columns) refl

  others_not : (index : Index) → guards index (cell_in tree) ≡ false → is_key_at (cell_in tree) (1 ∷ 2 ∷ []) index ≡ false
  unfolding is_key_at
  others_not index none = go index.is_unique (index.table == tree) none
    where
      go : (a b : Bool) → (a && b) ≡ false → (a && b && (length index.columns == 2) && are_among (1 ∷ 2 ∷ []) index.columns && are_among index.columns (1 ∷ 2 ∷ [])) ≡ false
      go true true h = absurd (cc)
      go true false h = refl
      go false b h = refl

  key_in_list : (indexes : List Index) → list_any (λ i. guards i (cell_in tree)) indexes ≡ true → list_all (λ i. not (guards i (cell_in tree)) || is_of_key i) indexes ≡ true
      → (key : Index) × (find (is_key_at (cell_in tree) (1 ∷ 2 ∷ [])) indexes ≡ Some key) × (key.columns ≡ 1 ∷ 2 ∷ [])
  key_in_list [] one each = absurd (cc)
  key_in_list (i ∷ indexes) one each = go (guards i (cell_in tree)) refl (key_in_list indexes)
    where
      rest : list_all (λ i. not (guards i (cell_in tree)) || is_of_key i) indexes ≡ true
      rest = (and_parts (not (guards i (cell_in tree)) || is_of_key i) (list_all (λ i. not (guards i (cell_in tree)) || is_of_key i) indexes) each).1

      head : (not (guards i (cell_in tree)) || is_of_key i) ≡ true
      head = (and_parts (not (guards i (cell_in tree)) || is_of_key i) (list_all (λ i. not (guards i (cell_in tree)) || is_of_key i) indexes) each).0

      Found : List Index → Type 0
      Found all = (key : Index) × (find (is_key_at (cell_in tree) (1 ∷ 2 ∷ [])) all ≡ Some key) × (key.columns ≡ 1 ∷ 2 ∷ [])

      go : (b : Bool) → guards i (cell_in tree) ≡ b
          → (list_any (λ i. guards i (cell_in tree)) indexes ≡ true → list_all (λ i. not (guards i (cell_in tree)) || is_of_key i) indexes ≡ true → Found indexes) → Found (i ∷ indexes)
      go true guarding later =
          let is : is_of_key i ≡ true = or_yes (guards i (cell_in tree)) (is_of_key i) head guarding in
          let columns = (key_is i is).0 in
          let first : is_key_at (cell_in tree) (1 ∷ 2 ∷ []) i ≡ true = guard_keys i guarding columns in
          (i, rw first refl, columns)
      go false passing later =
          let found = later (rw passing at one) rest in
          let skipped : is_key_at (cell_in tree) (1 ∷ 2 ∷ []) i ≡ false = others_not i passing in
          (found.0, rw skipped found.1, found.2)

-- ---- the table, where it stands apart

module _ (schema : Schema) (at tree : ℕ) (is : IsCellAt schema at tree) where
  first_is : is_first schema at tree ≡ true
  first_is = (and_parts _ _ (and_parts _ _ (and_parts _ _ (and_parts _ _ is.apart).0).0).0).0

  guarded : is_guarded schema tree ≡ true
  guarded = (and_parts _ _ (and_parts _ _ (and_parts _ _ is.apart).0).0).1

  free : list_all (λ (t : Table). list_all (leads_elsewhere schema tree) t.references) schema.tables ≡ true
  free = (and_parts _ _ (and_parts _ _ is.apart).0).1

  alone : is_alone schema ≡ true
  alone = (and_parts _ _ is.apart).1

  pub indexless : index_named schema (codes "cell") ≡ None
  indexless = none_at _ (and_parts _ _ alone).0

  pub viewless : view_named schema (codes "cell") ≡ None
  viewless = none_at _ (and_parts _ _ alone).1

  pub low : nat_le (2 ^ 31) tree ≡ false
  low = let below : nat_lt tree (2 ^ 31) ≡ true = (and_parts _ _ (and_parts _ _ (and_parts _ _ (and_parts _ _ is.apart).0).0).0).1 in grind (arith, nat_tests, below)

  pub found : find (λ (t : Table). t.tree == tree) schema.tables ≡ Some (cell_in tree)
  found = first_found (λ (t : Table). t.tree == tree) schema.tables 0 at (cell_in tree) (subst (λ (n : ℕ). is_key (position_from (λ (t : Table). t.tree == tree) 0 schema.tables) n ≡ true) (let e : at ≡ 0 + at = omega arith in e) first_is) is.there (same tree)
    where
      same : (n : ℕ) → (n == n) ≡ true
      same n = grind (arith, nat_tests)

  pub key : (key : Index) × (find (is_key_at (cell_in tree) (1 ∷ 2 ∷ [])) schema.indexes ≡ Some key) × (key.columns ≡ 1 ∷ 2 ∷ [])
  key = key_in_list tree schema.indexes (and_parts _ _ guarded).0 (and_parts _ _ guarded).1

  pub guard : (i : Index) × Has schema.indexes i × (guards i (cell_in tree) ≡ true)
  guard = some_has _ schema.indexes (and_parts _ _ guarded).0

  pub of_key : (i : Index) → Has schema.indexes i → guards i (cell_in tree) ≡ true → (i.columns ≡ 1 ∷ 2 ∷ []) × (i.order ≡ plain)
  of_key i there guards = key_is i (or_yes _ _ (test_has _ schema.indexes i (and_parts _ _ guarded).1 there) guards)

  pub listed : Has schema.tables (cell_in tree)
  listed = has_got schema.tables at (cell_in tree) is.there

  pub sets_nothing_off : (keys : Keys) (olds news : List Row) → works schema keys 0 tree olds news ≡ []
  sets_nothing_off keys olds news = none_of schema keys tree olds news schema.tables free
