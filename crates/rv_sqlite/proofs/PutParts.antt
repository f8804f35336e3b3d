-- What the third statement computes on the way.
use Rattle.std.proofs.Common.{◌≡◌, ℕ, ℤ, pos, Bool, true, false, cond, List, [], ◌∷◌, Some, refl, sym, ap, ◌∙◌}
use Rattle.std.specs.List.{list_all}
use Rattle.std.proofs.lemmas.Bool.{and_parts}
use Rattle.sqlite_value.specs.declared.value.Value.{Value}
use Rattle.sqlite_value.specs.declared.value.Value.TheVariants.{Null, Int, Blob}
use Rattle.sqlite_value.specs.Order.{Row}
use Rattle.sqlite_value.specs.Keys.{first_key, plain}
use Rattle.sqlite_sql.specs.Ops.{unary}
use Rattle.sqlite_sql.specs.Term.{holds}
use Rattle.sqlite_schema.specs.declared.schema.Kind.TheVariants.{Integer}
use Rattle.sqlite_rules.specs.Cast.{cast, cast_row}
use Rattle.sqlite_schema.specs.declared.schema.Index.{Index}
use Rattle.sqlite_schema.specs.declared.schema.Schema.{Schema}
use Rattle.sqlite_schema.specs.Rules.{agree, guards}
use Rattle.sqlite_rules.specs.Lists.{Has}
use Rattle.sqlite_rules.proofs.ListLemmas.{some_from, some_has}
use Rattle.sqlite_rules.specs.Keys.{conflicts, shares}
use Rattle.sqlite_rules.specs.Edit.{with_rowid, next_rowid, numbered}
use Rattle.sqlite_rules.specs.declared.error.Rowids.TheVariants.{Chosen, Given}
use Rattle.sqlite_trees.specs.Tree.{put_row}
use Rattle.rv_keeper.specs.declared.cell.Cell.{Cell}
use Rattle.rv_sqlite.specs.Table.{IsCellAt, cell_in}
use Rattle.rv_sqlite.specs.Stands.{cell_row}
use Rattle.rv_sqlite.proofs.CellAt.{guard, of_key}
use Rattle.rv_sqlite.proofs.Meaning.{at_place}

either : (b : Bool) (x : Value) → cond b x x ≡ x
either true x = refl
either false x = refl

cast_null : cast Integer Null ≡ Null
unfolding unary
cast_null = either _ Null

cast_int : (n : ℤ) → cast Integer (Int n) ≡ Int n
unfolding unary
cast_int n = either _ (Int n)

abbrev pub given_row : Cell → Row
given_row c = Null ∷ Int (pos c.shelf) ∷ Blob c.key ∷ Blob c.body ∷ []

pub cast_given : (tree : ℕ) (c : Cell) → cast_row (cell_in tree) (given_row c) ≡ given_row c
cast_given tree c = ap (λ v. v ∷ cast Integer (Int (pos c.shelf)) ∷ Blob c.key ∷ Blob c.body ∷ []) cast_null ∙ ap (λ v. Null ∷ v ∷ Blob c.key ∷ Blob c.body ∷ []) (cast_int (pos c.shelf))

pub cast_stored : (tree : ℕ) (id : ℤ) (c : Cell) → cast_row (cell_in tree) (cell_row id c) ≡ cell_row id c
cast_stored tree id c = ap (λ v. v ∷ cast Integer (Int (pos c.shelf)) ∷ Blob c.key ∷ Blob c.body ∷ []) (cast_int id) ∙ ap (λ v. Int id ∷ v ∷ Blob c.key ∷ Blob c.body ∷ []) (cast_int (pos c.shelf))

-- the new row has the next rowid
pub chosen_row : (tree : ℕ) (rows : List Row) (c : Cell) → with_rowid Chosen rows (cast_row (cell_in tree) (given_row c)) ≡ cell_row (next_rowid rows) c
chosen_row tree rows c = ap (with_rowid Chosen rows) (cast_given tree c)

pub numbered_given : (rows news : List Row) → numbered Given rows news ≡ news
numbered_given rows [] = refl
numbered_given rows (r ∷ rs) = ap (λ l. r ∷ l) (numbered_given (put_row r rows) rs)

-- a row conflicts where its cell is at the new one's place
module _ (schema : Schema) (at tree : ℕ) (is : IsCellAt schema at tree) (i j : ℤ) (c d : Cell) where
  abbrev is_at : Bool
  is_at = list_all (holds ((Int (pos c.shelf) ∷ Blob c.key ∷ []) ∷ cell_row j d ∷ [])) at_place

  agrees : agree plain (1 ∷ 2 ∷ []) (cell_row j d) (1 ∷ 2 ∷ []) (cell_row i c) ≡ is_at
  unfolding first_key
  agrees = refl

  shares_is : (index : Index) → Has schema.indexes index → guards index (cell_in tree) ≡ true → shares (Some (1 ∷ 2 ∷ [])) (cell_in tree) (cell_row i c) (cell_row j d) index ≡ is_at
  shares_is index there guards =
      let own = of_key schema at tree is index there guards in
      rw (guards, own.0, own.1) agrees

  pub conflicts_if : is_at ≡ true → conflicts (Some (1 ∷ 2 ∷ [])) schema.indexes (cell_in tree) (cell_row i c) (cell_row j d) ≡ true
  conflicts_if h =
      let g = guard schema at tree is in
      some_from (shares (Some (1 ∷ 2 ∷ [])) (cell_in tree) (cell_row i c) (cell_row j d)) schema.indexes g.0 g.1 (shares_is g.0 g.1 g.2 ∙ h)

  pub if_conflicts : conflicts (Some (1 ∷ 2 ∷ [])) schema.indexes (cell_in tree) (cell_row i c) (cell_row j d) ≡ true → is_at ≡ true
  if_conflicts h =
      let x = some_has (shares (Some (1 ∷ 2 ∷ [])) (cell_in tree) (cell_row i c) (cell_row j d)) schema.indexes h in
      sym (shares_is x.0 x.1 (and_parts _ _ (and_parts _ _ x.2).0).0) ∙ x.2
