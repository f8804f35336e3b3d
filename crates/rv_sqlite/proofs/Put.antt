-- The third statement puts a cell.
use Rattle.std.proofs.Common.{◌≡◌, ◌≢◌, ℕ, ℤ, pos, Bool, true, false, not, ◌&&◌, List, [], ◌∷◌, map, drop, inl, inr, refl, sym, ap, subst, ◌∙◌}
use Rattle.std.specs.List.{list_all}
use Rattle.std.specs.Ordering.{is_eq, int_cmp}
use Rattle.std.proofs.lemmas.Bool.{cases_Bool}
use Rattle.std.proofs.lemmas.Cmp.{tied_itself, int_cmp_total}
use Rattle.sqlite_value.specs.declared.value.Value.TheVariants.{Int, Blob}
use Rattle.sqlite_value.specs.declared.keys.Collation.TheVariants.{Binary}
use Rattle.sqlite_value.specs.Order.{Row, value_cmp}
use Rattle.sqlite_value.proofs.OrderLemmas.{value_cmp-Int}
use Rattle.sqlite_trees.specs.Tree.{Trees, rowid, has_rowid}
use Rattle.sqlite_sql.specs.declared.ops.BinaryOp.TheVariants.{Compare}
use Rattle.sqlite_sql.specs.declared.ops.CompareOp.TheVariants.{Eq}
use Rattle.sqlite_sql.specs.Term.{Term, col, op2, eval_all, holds}
use Rattle.sqlite_schema.specs.declared.schema.Keys.{Keys}
use Rattle.sqlite_schema.specs.declared.schema.Schema.{Schema}
use Rattle.sqlite_rules.specs.Lists.{Has}
use Rattle.sqlite_rules.specs.Cast.{cast_row}
use Rattle.sqlite_rules.specs.Edit.{id_in, without_all, put_all, is_taken, are_fresh, edit_of, Applies}
use Rattle.sqlite_rules.specs.declared.error.Rowids.TheVariants.{Given}
use Rattle.sqlite_rules.specs.Calls.{ids_of}
use Rattle.sqlite_rules.proofs.ListLemmas.{some_from}
use Rattle.sqlite_rules.proofs.TableLemmas.{put_all_has, put_all_keeps, put_all_adds}
use Rattle.sqlite_rules.proofs.ProbeLemmas.{has_mapped, mapped_has}
use Rattle.rv_keeper.specs.declared.cell.Cell.{Cell}
use Rattle.rv_keeper.specs.Cells.{cell_key}
use Rattle.rv_sqlite.specs.Table.{cell_in}
use Rattle.rv_sqlite.specs.Stands.{Stands, cell_row}
use Rattle.rv_sqlite.proofs.Scan.{AreShown}
use Rattle.rv_sqlite.proofs.Members.{IsAt, Lacks, left_from, left_has, one_place}
use Rattle.rv_sqlite.proofs.Compare.{same_int, same_place, own_rowid, rowid_is, int_equal}
use Rattle.rv_sqlite.specs.HeldLaws.{row_cell_same as same_stored}
use Rattle.rv_sqlite.proofs.PutRows.{Puts}
use Rattle.rv_sqlite.proofs.PutParts.{cast_stored, numbered_given}

first : (a b : Bool) → (a && b) ≡ true → a ≡ true
first true b h = refl
first false b h = absurd (cc)

not_false : (a : Bool) → not a ≡ true → a ≡ false
not_false true h = absurd (cc)
not_false false h = refl

-- ---- no row is at the place

module _ (schema : Schema) (tree : ℕ) (keys : Keys) (tables next : Trees) (id : ℤ) (c : Cell) (it : Applies schema keys tables (edit_of tables (cell_in tree) [] Given 0 (cell_row id c ∷ [])) next)
    (none : (j : ℤ) (d : Cell) → Has (tables tree) (cell_row j d) → ¬ IsAt (cell_key c) d) where
  abbrev news : List Row
  news = cell_row id c ∷ []

  as_given : cast_row (cell_in tree) (cell_row id c) ∷ [] ≡ news
  as_given = ap (λ r. r ∷ []) (cast_stored tree id c)

  after_is : next tree ≡ put_all (tables tree) news
  after_is = it.rows ∙ ap (put_all (tables tree)) as_given

  are_new : are_fresh (tables tree) news ≡ true
  are_new = subst (λ l. are_fresh (tables tree) l ≡ true) as_given it.fresh

  is_free : is_taken (tables tree) (cell_row id c) ≡ false
  is_free = not_false _ (first _ _ are_new)

  apart : (j : ℤ) (d : Cell) → Has (tables tree) (cell_row j d) → j ≢ id
  apart j d there same =
      let taken = some_from (λ r. is_eq (value_cmp (rowid r) (Int id))) (tables tree) (cell_row j d) there (ap is_eq (value_cmp-Int j id) ∙ ap (λ n. is_eq (int_cmp n id)) same ∙ ap is_eq (tied_itself int_cmp_total id)) in
      let f : true ≡ false = sym taken ∙ is_free in cc

  pub fresh_puts : Puts (tables tree) (next tree) id c
  fresh_puts = record {
    back = λ x h. elim (put_all_has news (tables tree) x (subst (λ l. Has l x) after_is h)) [
      | inl (inl new) ↦ inl new
      | inl (inr never) ↦ absurd never
      | inr was ↦ inr (was, λ j d e. let there = subst (Has (tables tree)) e was in (apart j d there, none j d there))
    ];
    new = subst (λ l. Has l (cell_row id c)) (sym after_is) (put_all_adds news (tables tree) (cell_row id c) are_new (inl refl));
    spares = λ j d h other. subst (λ l. Has l (cell_row j d)) (sym after_is) (put_all_keeps news (tables tree) (cell_row j d) are_new h);
  }

-- ---- a row is at the place

abbrev pub update_terms : List Term
update_terms = op2 (Compare Eq Binary) (col 1 0) (col 0 3) ∷ []

abbrev pub update_shown : List Term
update_shown = col 1 0 ∷ col 1 0 ∷ col 1 1 ∷ col 1 2 ∷ col 0 7 ∷ []

abbrev pub update_given : ℤ → ℤ → Cell → Row
update_given j id c = Int (pos c.shelf) ∷ Blob c.key ∷ Blob c.body ∷ Int j ∷ Int id ∷ Int (pos c.shelf) ∷ Blob c.key ∷ Blob c.body ∷ []

module _ (schema : Schema) (tree : ℕ) (keys : Keys) (tables next : Trees) (cells : List Cell) (j id : ℤ) (c d : Cell) (found : List Row) (old : Stands (tables tree) cells)
    (there : Has (tables tree) (cell_row j d)) (at : IsAt (cell_key c) d) (shown : AreShown update_terms update_shown (tables tree) (update_given j id c) found)
    (it : Applies schema keys tables (edit_of tables (cell_in tree) (ids_of found) Given 1 found) next) where
  abbrev updated : Row
  updated = Int j ∷ cell_row j c

  -- the old row with the new body
  shows : Cell → ℤ → Row
  shows e k = Int k ∷ Int k ∷ Int (pos e.shelf) ∷ Blob e.key ∷ Blob c.body ∷ []

  same_cell : (e : Cell) → e ≡ d → Int j ∷ Int j ∷ Int (pos e.shelf) ∷ Blob e.key ∷ Blob c.body ∷ [] ≡ updated
  same_cell e is =
      let s : e.shelf ≡ c.shelf = ap (λ (z : Cell). z.shelf) is ∙ (same_place c.shelf c.key d at).0 in
      let k : e.key ≡ c.key = ap (λ (z : Cell). z.key) is ∙ (same_place c.shelf c.key d at).1 in
      ap (λ n. Int j ∷ Int j ∷ Int (pos n) ∷ Blob e.key ∷ Blob c.body ∷ []) s ∙ ap (λ z. Int j ∷ Int j ∷ Int (pos c.shelf) ∷ Blob z ∷ Blob c.body ∷ []) k

  each : (x : Row) → Has found x → x ≡ updated
  each x h =
      let r = shown.sound x h in
      let e = old.read r.0 r.1 in
      let passes = rw e.2 at r.2 in
      let same : e.0 ≡ j = int_equal e.0 j (first _ _ passes) in
      let one : e.1 ≡ d = old.numbered j e.1 d (subst (λ n. Has (tables tree) (cell_row n e.1)) same (subst (Has (tables tree)) e.2 r.1)) there in
      r.3 ∙ ap (λ (z : Row). eval_all update_shown (update_given j id c ∷ z ∷ [])) e.2 ∙ ap (λ n. Int n ∷ Int n ∷ Int (pos e.1.shelf) ∷ Blob e.1.key ∷ Blob c.body ∷ []) same ∙ same_cell e.1 one

  some : Has found updated
  some =
      let passes : list_all (holds (update_given j id c ∷ cell_row j d ∷ [])) update_terms ≡ true = ap (λ b. b && true) (same_int j j ∙ ap is_eq (tied_itself int_cmp_total j)) in
      subst (Has found) (same_cell d refl) (shown.complete (cell_row j d) there passes)

  abbrev gone : List ℤ
  gone = ids_of found

  abbrev sources : List Row
  sources = map (λ s. cast_row (cell_in tree) (drop 1 s)) found

  abbrev left : List Row
  left = without_all (tables tree) gone

  gone_is : (g : ℤ) → Has gone g → g ≡ j
  gone_is g h = let x = has_mapped (λ (r : Row). id_in (rowid r)) found g h in x.2 ∙ ap (λ (r : Row). id_in (rowid r)) (each x.0 x.1)

  gone_has : Has gone j
  gone_has = mapped_has (λ (r : Row). id_in (rowid r)) found updated some

  after_is-2 : next tree ≡ put_all left sources
  after_is-2 = it.rows ∙ ap (put_all left) (numbered_given left sources)

  are_new-2 : are_fresh left sources ≡ true
  are_new-2 = subst (λ l. are_fresh left l ≡ true) (numbered_given left sources) it.fresh

  new_is : (x : Row) → Has sources x → x ≡ cell_row j c
  new_is x h = let s = has_mapped (λ (s : Row). cast_row (cell_in tree) (drop 1 s)) found x h in s.2 ∙ ap (λ (s : Row). cast_row (cell_in tree) (drop 1 s)) (each s.0 s.1) ∙ cast_stored tree j c

  has_new : Has sources (cell_row j c)
  has_new = subst (Has sources) (cast_stored tree j c) (mapped_has (λ (s : Row). cast_row (cell_in tree) (drop 1 s)) found updated some)

  other_id : (k : ℤ) (e : Cell) → Has (tables tree) (cell_row k e) → (¬ IsAt (cell_key c) e) → k ≢ j
  other_id k e h other same = other (subst (IsAt (cell_key c)) (sym (old.numbered j e d (subst (λ n. Has (tables tree) (cell_row n e)) same h) there)) at)

  stays-2 : (k : ℤ) (e : Cell) → Has (tables tree) (cell_row k e) → (¬ IsAt (cell_key c) e) → Lacks gone (cell_row k e)
  stays-2 k e h other g named = elim (cases_Bool (has_rowid g (cell_row k e))) [
    | inl is ↦ absurd (other_id k e h other (rowid_is k g e is ∙ gone_is g named))
    | inr apart ↦ apart
  ]

  apart-2 : (k : ℤ) (e : Cell) → Has (tables tree) (cell_row k e) → Lacks gone (cell_row k e) → k ≢ j
  apart-2 k e h lacks same =
      let no = lacks j gone_has in
      let own : has_rowid j (cell_row k e) ≡ true = ap (λ n. has_rowid n (cell_row k e)) (sym same) ∙ own_rowid k e in
      let f : true ≡ false = sym own ∙ no in cc

  elsewhere : (k : ℤ) (e : Cell) → Has (tables tree) (cell_row k e) → k ≢ j → ¬ IsAt (cell_key c) e
  elsewhere k e h other here =
      let a = old.read (cell_row k e) h in
      let b = old.read (cell_row j d) there in
      let e_in : Has cells e = subst (Has cells) (sym (same_stored k a.0 e a.1 a.2)) a.3 in
      let d_in : Has cells d = subst (Has cells) (sym (same_stored j b.0 d b.1 b.2)) b.3 in
      let same : e ≡ d = one_place (cell_key c) cells e d old.order e_in d_in here at in
      other (old.once k j d (subst (λ (z : Cell). Has (tables tree) (cell_row k z)) same h) there)

  pub update_puts : Puts (tables tree) (next tree) j c
  update_puts = record {
    back = λ x h. elim (put_all_has sources left x (subst (λ l. Has l x) after_is-2 h)) [
      | inl new ↦ inl (new_is x new)
      | inr was ↦
          let l = left_from gone (tables tree) x was in
          inr (l.0, λ k e is. let h = subst (Has (tables tree)) is l.0 in let far = apart-2 k e h (subst (Lacks gone) is l.1) in (far, elsewhere k e h far))
    ];
    new = subst (λ l. Has l (cell_row j c)) (sym after_is-2) (put_all_adds sources left (cell_row j c) are_new-2 has_new);
    spares = λ k e h other. subst (λ l. Has l (cell_row k e)) (sym after_is-2) (put_all_keeps sources left (cell_row k e) are_new-2 (left_has gone (tables tree) (cell_row k e) h (stays-2 k e h other)));
  }
