-- A database holds one thing, and so do its trees.
use Rattle.std.proofs.Common.{◌≡◌, ◌≢◌, ◌<◌, ℕ, ℤ, true, unwrap_or, option_map, slice_get, Option, None, Some, List, [], ◌∷◌, inl, inr, refl, sym, ap, subst, ◌∙◌, arith}
use Rattle.std.proofs.lemmas.Cmp.{tied_itself, nat_list_cmp_total}
use Rattle.std.proofs.lemmas.Fmt.{decimal_injective}
use Rattle.std.specs.Ordering.{nat_cmp}
use Rattle.std.specs.Cmp.Lexicographic.{slice_cmp}
use Rattle.std.specs.List.{AllByRecursion}
use Rattle.std.specs.declared.cmp.Ordering.TheVariants.{Less, Equal}
use Rattle.sqlite_value.specs.Order.{Row}
use Rattle.sqlite_trees.specs.Tree.{Trees}
use Rattle.sqlite_trees.specs.Objects.{catalog_tree}
use Rattle.sqlite_schema.specs.declared.schema.Table.{Table}
use Rattle.sqlite_schema.specs.declared.schema.Schema.{Schema}
use Rattle.sqlite_catalog.specs.Listing.{IsSound, Lists}
use Rattle.sqlite_catalog.proofs.ReadLemmas.{lists_once}
use Rattle.sqlite_rules.specs.Lists.{Has}
use Rattle.sqlite_rules.proofs.ListLemmas.{all_has}
use Rattle.sqlite.specs.Effect.{Database}
use Rattle.rv_base.specs.Sorted.{InOrder, Below}
use Rattle.rv_base.specs.PositionLaws.{Above}
use Rattle.rv_keeper.specs.declared.cell.Cell.{Cell}
use Rattle.rv_keeper.specs.declared.loaded.Loaded.{Loaded}
use Rattle.rv_keeper.specs.Cells.{cell_key}
use Rattle.rv_sqlite.specs.KnownLaws.{unused_names}
use Rattle.rv_sqlite.specs.Table.{IsCellAt, cell_in, is_unused}
use Rattle.rv_sqlite.specs.Stands.{HasCells, Stands, cell_row}
use Rattle.rv_sqlite.specs.Steps.{generation_cell}
use Rattle.rv_sqlite.specs.Telling.{IsAll, StandFor}

-- ---- cells in order

-- places in order are not the same
pub places_apart : (a b : List ℕ) → Below a b → ¬ (b ≡ a)
places_apart a b h is = let e : Less ≡ Equal = sym h ∙ subst (λ (t : List ℕ). slice_cmp nat_cmp a t ≡ Equal) (sym is) (tied_itself nat_list_cmp_total a) in cc

-- the cells after one in order are above it
pub later_above : (d c : Cell) (ds : List Cell) → AllByRecursion (λ y. Below (cell_key d) (cell_key y)) ds → Has ds c → Below (cell_key d) (cell_key c)
later_above d c ds all h = all_has (λ y. Below (cell_key d) (cell_key y)) ds c all h

abbrev pub Within : List Cell → List Cell → Type 0
Within xs ys = (c : Cell) → Has xs c → Has ys c

later_in : (x : Cell) (xs ys : List Cell) → Above cell_key (cell_key x) xs → Within (x ∷ xs) (x ∷ ys) → Within xs ys
later_in x xs ys low all c h = elim (all c (inr h)) [
  | inl same ↦ absurd (places_apart (cell_key x) (cell_key c) (later_above x c xs low h) (ap cell_key same))
  | inr there ↦ there
]

first_same : (x y : Cell) (xs ys : List Cell) → InOrder cell_key (x ∷ xs) → InOrder cell_key (y ∷ ys) → Within (x ∷ xs) (y ∷ ys) → Within (y ∷ ys) (x ∷ xs) → x ≡ y
first_same x y xs ys up too a b = elim (a x (inl refl)) [
  | inl same ↦ same
  | inr later ↦ elim (b y (inl refl)) [
    | inl same ↦ sym same
    | inr after ↦ absurd (places_apart (cell_key x) (cell_key x) (nat_list_cmp_total.trans (cell_key x) (cell_key y) (cell_key x) (later_above x y xs up.0 after) (later_above y x ys too.0 later)) refl)
  ]
]

-- lists in order with the same members are one
pub ordered_same : (xs ys : List Cell) → InOrder cell_key xs → InOrder cell_key ys → Within xs ys → Within ys xs → xs ≡ ys
ordered_same [] [] up too a b = refl
ordered_same [] (y ∷ ys) up too a b = absurd (b y (inl refl))
ordered_same (x ∷ xs) [] up too a b = absurd (a x (inl refl))
ordered_same (x ∷ xs) (y ∷ ys) up too a b =
    let same = first_same x y xs ys up too a b in
    let a2 = subst (λ (z : Cell). Within (x ∷ xs) (z ∷ ys)) (sym same) a in
    let b2 = subst (λ (z : Cell). Within (z ∷ ys) (x ∷ xs)) (sym same) b in
    let low : Above cell_key (cell_key x) ys = subst (λ (z : Cell). Above cell_key (cell_key z) ys) (sym same) too.0 in
    ap (λ z. z ∷ xs) same ∙ ap (λ zs. y ∷ zs) (ordered_same xs ys up.1 too.1 (later_in x xs ys up.0 a2) (later_in x ys xs low b2))

-- ---- rows

pub row_cell_same : (i j : ℤ) (c d : Cell) → cell_row i c ≡ cell_row j d → c ≡ d
row_cell_same i j c d e =
    let s : c.shelf ≡ d.shelf = cc in
    let k : c.key ≡ d.key = cc in
    let b : c.body ≡ d.body = cc in
    λ t. record { shelf = s t; key = k t; body = b t }

-- the same rows stand for the same cells
same_cells : (rows : List Row) (xs ys : List Cell) → Stands rows xs → Stands rows ys → xs ≡ ys
same_cells rows xs ys p q = ordered_same xs ys p.order q.order (one xs ys p q) (one ys xs q p)
  where
    one : (xs ys : List Cell) → Stands rows xs → Stands rows ys → Within xs ys
    one xs ys p q c h =
        let row = p.kept c h in
        let e = q.read (cell_row row.0 c) row.1 in
        subst (Has ys) (sym (row_cell_same row.0 e.0 c e.1 e.2)) e.3

pub loaded_same : (c d : Loaded) → c.cells ≡ d.cells → c.generation ≡ d.generation → c ≡ d
loaded_same c d p q = λ t. record { cells = p t; generation = q t }

firsts_same : (x y : Cell) (xs ys : List Cell) → ◌≡◌ {A = List Cell} (x ∷ xs) (y ∷ ys) → (x ≡ y) × (xs ≡ ys)
firsts_same x y xs ys e = (let p : x ≡ y = cc in p, let q : xs ≡ ys = cc in q)

not_first : (g : ℕ) (xs ys : List Cell) → AllByRecursion (λ (d : Cell). 0 < d.shelf) ys → generation_cell g ∷ xs ≢ ys
not_first g xs [] all e = absurd (cc)
not_first g xs (y ∷ ys) all e = let s = ap (λ (z : Cell). z.shelf) (firsts_same (generation_cell g) y xs ys e).0 in omega (arith, all.0, s)

whole_same : (c d : Loaded) (all : List Cell) → IsAll c all → IsAll d all → c ≡ d
whole_same c d all p q = elim p.are [
  | inl a ↦ elim q.are [
    | inl b ↦
        let e = firsts_same (generation_cell c.generation) (generation_cell d.generation) c.cells d.cells (sym a ∙ b) in
        loaded_same c d e.1 (decimal_injective c.generation d.generation p.small q.small (ap (λ (z : Cell). z.body) e.0))
    | inr b ↦ absurd (not_first c.generation c.cells d.cells q.shelves (sym a ∙ b.1))
  ]
  | inr a ↦ elim q.are [
    | inl b ↦ absurd (not_first d.generation d.cells c.cells p.shelves (sym b ∙ a.1))
    | inr b ↦ loaded_same c d (sym a.1 ∙ b.1) (a.0 ∙ sym b.0)
  ]
]

-- ---- trees list one schema

-- two databases of the same trees that are both sound have one schema
pub one_schema : (one two : Database) → one.trees ≡ two.trees → IsSound one.schema one.trees → IsSound two.schema two.trees → one.schema ≡ two.schema
one_schema one two same p q = lists_once (two.trees catalog_tree) one.schema two.schema (subst (λ (t : Trees). Lists (t catalog_tree) one.schema) same p.lists) q.lists

-- one table has the name
one_tree : (schema : Schema) (at place tree other : ℕ) → IsCellAt schema at tree → IsCellAt schema place other → tree ≡ other
one_tree schema at place tree other p q =
    let here : Some at ≡ Some place = sym p.named ∙ q.named in
    let same : at ≡ place = cc in
    let found : Some (cell_in tree) ≡ Some (cell_in other) = sym p.there ∙ ap (slice_get schema.tables) same ∙ q.there in
    ap (λ (o : Option Table). unwrap_or (option_map (λ (t : Table). t.tree) o) 0) found

-- a table that stands nowhere does not stand at a place
pub not_both : (schema : Schema) (at tree : ℕ) → IsCellAt schema at tree → ¬ (is_unused schema ≡ true)
not_both schema at tree is unused = absurd (let e : Some at ≡ None = sym is.named ∙ (unused_names schema unused).0 in cc)

-- and the same cells
cells_same : (one two : Database) (xs ys : List Cell) → one.trees ≡ two.trees → HasCells one xs → HasCells two ys → xs ≡ ys
cells_same one two xs ys same p q =
    let schema = one_schema one two same p.sound q.sound in
    elim p.are [
      | inl a ↦ elim q.are [ inl b ↦ by_tables a b schema | inr b ↦ absurd (not_both two.schema a.0 a.1 (subst (λ s. IsCellAt s a.0 a.1) schema a.2) b.0) ]
      | inr a ↦ elim q.are [ inl b ↦ absurd (not_both two.schema b.0 b.1 b.2 (subst (λ s. is_unused s ≡ true) schema a.0)) | inr b ↦ a.1 ∙ sym b.1 ]
    ]
  where
    Has-Table : Database → List Cell → Type 0
    Has-Table db cells = (at : ℕ) × (tree : ℕ) × IsCellAt db.schema at tree × Stands (db.trees tree) cells

    by_tables : Has-Table one xs → Has-Table two ys → one.schema ≡ two.schema → xs ≡ ys
    by_tables a b schema =
        let is = subst (λ s. IsCellAt s a.0 a.1) schema a.2 in
        let tree = one_tree two.schema a.0 b.0 a.1 b.1 is b.2 in
        same_cells (two.trees b.1) xs ys (subst (λ (n : ℕ). Stands (two.trees n) xs) tree (subst (λ (t : Trees). Stands (t a.1) xs) same a.3)) b.3

-- and hold one thing
pub stand_same : (one two : Database) (c d : Loaded) → one.trees ≡ two.trees → StandFor one c → StandFor two d → c ≡ d
stand_same one two c d same p q = whole_same c d q.all (subst (IsAll c) (cells_same one two p.all q.all same p.has q.has) p.whole) q.whole
