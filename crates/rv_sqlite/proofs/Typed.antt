-- What the rules of the schema say of the rows of the table.
use Rattle.std.proofs.Common.{◌≡◌, ℕ, ℤ, pos, Bool, true, false, not, ◌&&◌, IsTrue, List, [], ◌∷◌, drop, Some, inl, inr, refl, sym, ap, ◌∙◌}
use Rattle.std.proofs.lemmas.Bool.{and_parts, cases_Bool}
use Rattle.std.proofs.lemmas.Map.Lookups.{exact_signed}
use Rattle.std.proofs.lemmas.Cmp.{tied_itself, int_cmp_total, nat_list_cmp_total}
use Rattle.std.specs.Ordering.{is_eq, is_ne, int_cmp}
use Rattle.std.specs.declared.cmp.Ordering.{Ordering}
use Rattle.std.specs.declared.cmp.Ordering.TheVariants.{Less, Equal, Greater}
use Rattle.sqlite_value.specs.declared.value.Value.{Value}
use Rattle.sqlite_value.specs.declared.value.Value.TheVariants.{Null, Int, Real, Text, Blob}
use Rattle.sqlite_value.specs.declared.keys.Collation.TheVariants.{Binary}
use Rattle.sqlite_value.specs.Order.{Row, column, value_cmp}
use Rattle.sqlite_value.specs.Keys.{plain, first_key}
use Rattle.sqlite_value.proofs.OrderLemmas.{value_cmp_total, value_cmp-Int}
use Rattle.sqlite_trees.specs.declared.store.Shape.TheVariants as shape
use Rattle.sqlite_trees.specs.Tree.{Trees, IsTable, rowid}
use Rattle.sqlite_trees.specs.View.{IsShaped, is_int}
use Rattle.sqlite_sql.specs.declared.ops.BinaryOp.TheVariants.{Compare}
use Rattle.sqlite_sql.specs.declared.ops.CompareOp.TheVariants.{Eq}
use Rattle.sqlite_sql.specs.Ops.{binary, is_true, is_null, from_truth}
use Rattle.sqlite_schema.specs.declared.schema.Constraint.TheVariants.{Datatype, NotNull, Unique}
use Rattle.sqlite_schema.specs.declared.schema.Kind.TheVariants as kind
use Rattle.sqlite_schema.specs.Rules.{is_of, are_typed, are_present, agree, differ, clashes, guards, passes}
use Rattle.sqlite_schema.specs.declared.schema.Constraint.{Constraint}
use Rattle.sqlite_schema.specs.declared.schema.Schema.{Schema}
use Rattle.sqlite_schema.specs.declared.schema.Table.{Table}
use Rattle.std.specs.List.{AllByRecursion}
use Rattle.rv_sqlite.proofs.CellAt.{guard, listed, of_key}
use Rattle.sqlite_rules.specs.Lists.{Has}
use Rattle.sqlite_rules.proofs.ListLemmas.{all_has, some_from, test_has}
use Rattle.sqlite_catalog.specs.Listing.{IsSound}
use Rattle.rv_keeper.specs.declared.cell.Cell.{Cell}
use Rattle.rv_sqlite.specs.Table.{IsCellAt, cell_in, cell_table}
use Rattle.rv_sqlite.specs.Shape.{cell_columns}
use Rattle.rv_sqlite.specs.Stands.{cell_row}
use Rattle.rv_sqlite.proofs.Compare.{same_int, same_blob}
use Rattle.rv_sqlite.proofs.Members.{not_true}

-- ---- the form of a row

-- a row's number, and then a whole number, a key and a body
abbrev pub HasForm : Row → Type 0
HasForm row = (number : ℤ) × (shelf : ℤ) × (key : List ℕ) × (body : List ℕ) × (row ≡ Int number ∷ Int shelf ∷ Blob key ∷ Blob body ∷ [])

int_of : (v : Value) → IsTrue (is_int v) → (n : ℤ) × (v ≡ Int n)
int_of Null h = absurd (cc)
int_of (Int n) h = (n, refl)
int_of (Real x) h = absurd (cc)
int_of (Text t) h = absurd (cc)
int_of (Blob b) h = absurd (cc)

int_in : (v : Value) → is_of kind.Integer v ≡ true → not (is_null v) ≡ true → (n : ℤ) × (v ≡ Int n)
int_in Null typed there = absurd (cc)
int_in (Int n) typed there = (n, refl)
int_in (Real x) typed there = absurd (cc)
int_in (Text t) typed there = absurd (cc)
int_in (Blob b) typed there = absurd (cc)

blob_in : (v : Value) → is_of kind.Blob v ≡ true → not (is_null v) ≡ true → (b : List ℕ) × (v ≡ Blob b)
blob_in Null typed there = absurd (cc)
blob_in (Int n) typed there = absurd (cc)
blob_in (Real x) typed there = absurd (cc)
blob_in (Text t) typed there = absurd (cc)
blob_in (Blob b) typed there = (b, refl)

row_of_four : (a b c d p q r s : Value) → a ≡ p → b ≡ q → c ≡ r → d ≡ s → ◌≡◌ {A = Row} (a ∷ b ∷ c ∷ d ∷ []) (p ∷ q ∷ r ∷ s ∷ [])
row_of_four a b c d p q r s i j k l = cc

all_four : (a b c d : Bool) → (a && (b && (c && d))) ≡ true → (a ≡ true) × (b ≡ true) × (c ≡ true) × (d ≡ true)
all_four true true true d h = (refl, refl, refl, h)
all_four true true false d h = absurd (cc)
all_four true false c d h = absurd (cc)
all_four false b c d h = absurd (cc)

there : (row : Row) → are_present cell_table.key 0 cell_columns row ≡ true
    → (not (is_null (column row 1)) ≡ true) × (not (is_null (column row 2)) ≡ true) × (not (is_null (column row 3)) ≡ true) × (true ≡ true)
there row h = all_four (not (is_null (column row 1))) (not (is_null (column row 2))) (not (is_null (column row 3))) true h

kinds : (b c d : Value) (more : Row) → are_typed cell_table.key 0 cell_columns (b ∷ c ∷ d ∷ more) ≡ true
    → (is_of kind.Integer b ≡ true) × (is_of kind.Blob c ≡ true) × (is_of kind.Blob d ≡ true) × (are_typed cell_table.key 3 [] more ≡ true)
kinds b c d more h = all_four (is_of kind.Integer b) (is_of kind.Blob c) (is_of kind.Blob d) (are_typed cell_table.key 3 [] more) h

no_more : (more : Row) → are_typed cell_table.key 3 [] more ≡ true → more ≡ []
no_more [] h = refl
no_more (v ∷ more) h = absurd (cc)

form : (row : Row) → IsTrue (is_int (rowid row)) → are_typed cell_table.key 0 cell_columns (drop 1 row) ≡ true → are_present cell_table.key 0 cell_columns row ≡ true → HasForm row
form [] numbered typed present = absurd (cc)
form (a ∷ []) numbered typed present = absurd (let e : false ≡ true = (there (a ∷ []) present).0 in cc)
form (a ∷ b ∷ []) numbered typed present = absurd (let e : false ≡ true = (there (a ∷ b ∷ []) present).1 in cc)
form (a ∷ b ∷ c ∷ []) numbered typed present = absurd (let e : false ≡ true = (there (a ∷ b ∷ c ∷ []) present).2 in cc)
form (a ∷ b ∷ c ∷ d ∷ more) numbered typed present =
    let is = there (a ∷ b ∷ c ∷ d ∷ more) present in
    let of = kinds b c d more typed in
    let n = int_of a numbered in
    let s = int_in b of.0 is.0 in
    let k = blob_in c of.1 is.1 in
    let o = blob_in d of.2 is.2 in
    (n.0, s.0, k.0, o.0, ap (λ l. a ∷ b ∷ c ∷ d ∷ l) (no_more more of.3) ∙ row_of_four a b c d (Int n.0) (Int s.0) (Blob k.0) (Blob o.0) n.1 s.1 k.1 o.1)

-- ---- each number once

one_numbered : (rows : List Row) (a b : Row) → IsTable rows → Has rows a → Has rows b → rowid a ≡ rowid b → a ≡ b
one_numbered [] a b up p q same = absurd p
one_numbered (r ∷ rows) a b up (inl p) (inl q) same = p ∙ sym q
one_numbered (r ∷ rows) a b up (inl p) (inr q) same =
    absurd (let e : Less ≡ Equal = sym (all_has (λ z. value_cmp (rowid r) (rowid z) ≡ Less) rows b up.0 q) ∙ ap (λ z. value_cmp (rowid r) z) (sym same ∙ ap rowid p) ∙ tied_itself value_cmp_total (rowid r) in cc)
one_numbered (r ∷ rows) a b up (inr p) (inl q) same =
    absurd (let e : Less ≡ Equal = sym (all_has (λ z. value_cmp (rowid r) (rowid z) ≡ Less) rows a up.0 p) ∙ ap (λ z. value_cmp (rowid r) z) (same ∙ ap rowid q) ∙ tied_itself value_cmp_total (rowid r) in cc)
one_numbered (r ∷ rows) a b up (inr p) (inr q) same = one_numbered rows a b up.1 p q same

-- ---- each place once

told : (b : Bool) → is_true (from_truth (Some b)) ≡ b
told true = refl
told false = refl

differ_int : (m n : ℤ) → differ (Int m) (Int n) ≡ is_ne (int_cmp m n)
unfolding binary
differ_int m n = told _ ∙ ap is_ne (value_cmp-Int m n)

tied : (o : Ordering) → is_ne o ≡ false → o ≡ Equal
tied Less h = absurd (cc)
tied Equal h = refl
tied Greater h = absurd (cc)

equal_itself : (i j : ℤ) (c : Cell) → agree plain (1 ∷ 2 ∷ []) (cell_row i c) (1 ∷ 2 ∷ []) (cell_row j c) ≡ true
unfolding first_key
equal_itself i j c =
    ap (λ b. b && (is_true (binary (Compare Eq Binary) (Blob c.key) (Blob c.key)) && true)) (same_int (pos c.shelf) (pos c.shelf) ∙ ap is_eq (tied_itself int_cmp_total (pos c.shelf)))
    ∙ ap (λ b. true && (b && true)) (same_blob c.key c.key ∙ ap is_eq (tied_itself nat_list_cmp_total c.key))

no_clash : (rows : List Row) (i j : ℤ) (c : Cell) → Has rows (cell_row i c) → clashes plain (1 ∷ 2 ∷ []) rows (cell_row j c) ≡ false → i ≡ j
no_clash rows i j c there none = elim (cases_Bool (differ (Int i) (Int j))) [
  | inl apart ↦
      let test = λ (other : Row). agree plain (1 ∷ 2 ∷ []) other (1 ∷ 2 ∷ []) (cell_row j c) && differ (rowid other) (rowid (cell_row j c)) in
      let found = some_from test rows (cell_row i c) there (ap (λ b. b && differ (Int i) (Int j)) (equal_itself i j c) ∙ apart) in
      absurd (let e : true ≡ false = sym found ∙ none in cc)
  | inr same ↦ exact_signed i j (tied _ (sym (differ_int i j) ∙ same))
]

-- ---- the rows of the table

module _ (schema : Schema) (at tree : ℕ) (is : IsCellAt schema at tree) (trees : Trees) (sound : IsSound schema trees) (shaped : IsShaped shape.Table (trees tree)) where
  obeys : (rule : Constraint) (row : Row) → Has (trees tree) row → passes rule schema trees (cell_in tree) row ≡ true
  obeys rule row h =
      all_has (λ r. passes rule schema trees (cell_in tree) r ≡ true) (trees tree) row
      (all_has (λ (t : Table). AllByRecursion (λ r. passes rule schema trees t r ≡ true) (trees t.tree)) schema.tables (cell_in tree) (sound.obeys.rules rule) (listed schema at tree is)) h

  pub forms : (row : Row) → Has (trees tree) row → HasForm row
  forms row h = form row (all_has (λ r. IsTrue (is_int (rowid r))) (trees tree) row shaped.1 h) (and_parts _ _ (obeys Datatype row h)).0 (obeys NotNull row h)

  pub once : (i j : ℤ) (c : Cell) → Has (trees tree) (cell_row i c) → Has (trees tree) (cell_row j c) → i ≡ j
  once i j c p q =
      let g = guard schema at tree is in
      let own = of_key schema at tree is g.0 g.1 g.2 in
      let unique = test_has (λ x. not (guards x (cell_in tree) && clashes x.order x.columns (trees tree) (cell_row j c))) schema.indexes g.0 (obeys Unique (cell_row j c) q) g.1 in
      no_clash (trees tree) i j c p (not_true _ (rw (g.2, own.0, own.1) at unique))

  pub numbered : (i : ℤ) (row other : Row) → Has (trees tree) row → Has (trees tree) other → rowid row ≡ Int i → rowid other ≡ Int i → row ≡ other
  numbered i row other p q a b = one_numbered (trees tree) row other shaped.0 p q (a ∙ sym b)
