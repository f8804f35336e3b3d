-- The fourth statement takes one cell out.
use Rattle.std.proofs.Common.{◌≡◌, ℕ, ℤ, pos, true, false, List, [], ◌∷◌, Ok, Option, None, inl, inr, refl, sym, ap, subst, ◌∙◌}
use Rattle.std.proofs.lemmas.Bool.{cases_Bool}
use Rattle.sqlite_value.specs.declared.value.Value.TheVariants.{Null, Int, Blob}
use Rattle.sqlite_value.specs.Order.{Row}
use Rattle.sqlite_schema.specs.declared.schema.Table.{Table}
use Rattle.sqlite_trees.specs.Tree.{Trees, rowid, has_rowid}
use Rattle.sqlite_sql.specs.Term.{col, eval_all}
use Rattle.sqlite_rules.specs.Lists.{Has}
use Rattle.sqlite_rules.specs.Edit.{id_in, without_all, edit_of, taken_by}
use Rattle.sqlite_rules.specs.declared.error.Rowids.TheVariants.{Given}
use Rattle.sqlite_rules.specs.Calls.{ids_of}
use Rattle.sqlite_rules.proofs.ProbeLemmas.{has_mapped, mapped_has}
use Rattle.sqlite.specs.Effect.{Database, IsDatabase}
use Rattle.sqlite.specs.Rows.{Task, Written}
use Rattle.sqlite.specs.Does.{AtPlace, OnRows, Tally}
use Rattle.sqlite.specs.Listing.{understood}
use Rattle.sqlite.specs.State.{State, Runs, mode_of, Executes}
use Rattle.sqlite.proofs.Callers.{statement_of, runs_as, one_step}
use Rattle.rv_keeper.specs.declared.cell.Cell.{Cell}
use Rattle.rv_base.specs.Sorted.{without}
use Rattle.rv_base.specs.PositionLaws.{in_order-without}
use Rattle.rv_keeper.specs.Cells.{cell_key}
use Rattle.rv_sqlite.specs.Table.{IsCellAt, cell_in, remove_text}
use Rattle.rv_sqlite.specs.Stands.{Stands, cell_row}
use Rattle.rv_sqlite.proofs.CellAt.{low as low_tree, sets_nothing_off}
use Rattle.rv_sqlite.proofs.Meaning.{at_place, remove_command, remove_means}
use Rattle.rv_sqlite.proofs.Scan.{AreShown, are_shown}
use Rattle.rv_sqlite.proofs.Members.{IsAt, Lacks, left_from, left_has, without_has, has_without}
use Rattle.rv_sqlite.proofs.Parts.{went, same_value}
use Rattle.rv_sqlite.proofs.Compare.{at_if_passes, passes_if_at, own_rowid, rowid_is}

abbrev pub place_params : ℕ → List ℕ → Row
place_params shelf key = Int (pos shelf) ∷ Blob key ∷ []

module _ (shelf : ℕ) (key : List ℕ) (rows found : List Row) (cells : List Cell) (shown : AreShown at_place (col 1 0 ∷ []) rows (place_params shelf key) found) (old : Stands rows cells) where
  abbrev gone : List ℤ
  gone = ids_of found

  -- a row that stays is not at the place
  stays : (id : ℤ) (c : Cell) → Has rows (cell_row id c) → Lacks gone (cell_row id c) → ¬ IsAt (shelf ∷ key) c
  stays id c there lacks at =
      let shows = shown.complete (cell_row id c) there (passes_if_at id c shelf key at) in
      let named : Has gone id = mapped_has (λ (r : Row). id_in (rowid r)) found (Int id ∷ []) shows in
      let no = lacks id named in
      let f : true ≡ false = sym (own_rowid id c) ∙ no in cc

  -- a row that is not at the place stays
  spared : (id : ℤ) (c : Cell) → Has rows (cell_row id c) → (¬ IsAt (shelf ∷ key) c) → Lacks gone (cell_row id c)
  spared id c there other j named = elim (cases_Bool (has_rowid j (cell_row id c))) [
    | inl is ↦
        let x = has_mapped (λ (r : Row). id_in (rowid r)) found j named in
        let r = shown.sound x.0 x.1 in
        let d = old.read r.0 r.1 in
        let e : j ≡ d.0 = x.2 ∙ ap (λ (z : Row). id_in (rowid z)) (r.3 ∙ ap (λ (z : Row). eval_all (col 1 0 ∷ []) (place_params shelf key ∷ z ∷ [])) d.2) in
        let at : IsAt (shelf ∷ key) d.1 = at_if_passes d.0 d.1 shelf key (rw d.2 at r.2) in
        let same : id ≡ d.0 = rowid_is id j c is ∙ e in
        let one : c ≡ d.1 = old.numbered id c d.1 there (subst (λ k. Has rows (cell_row k d.1)) (sym same) (subst (Has rows) d.2 r.1)) in
        absurd (other (subst (IsAt (shelf ∷ key)) (sym one) at))
    | inr not ↦ not
  ]

  pub removed : Stands (without_all rows gone) (without cell_key (shelf ∷ key) cells)
  removed = record {
    order = in_order-without cell_key (shelf ∷ key) cells old.order;
    read = λ r h.
        let left = left_from gone rows r h in
        let was = old.read r left.0 in
        let other = stays was.0 was.1 (subst (Has rows) was.2 left.0) (subst (Lacks gone) was.2 left.1) in
        (was.0, was.1, was.2, has_without (shelf ∷ key) cells was.1 was.3 other);
    kept = λ c h.
        let was = without_has (shelf ∷ key) cells c h in
        let row = old.kept c was.0 in
        (row.0, left_has gone rows (cell_row row.0 c) row.1 (spared row.0 c row.1 was.1));
    once = λ i j c p q. old.once i j c (left_from gone rows (cell_row i c) p).0 (left_from gone rows (cell_row j c) q).0;
    numbered = λ i c d p q. old.numbered i c d (left_from gone rows (cell_row i c) p).0 (left_from gone rows (cell_row i d) q).0;
  }

module _ (old new : State) (at tree : ℕ) (is : IsCellAt old.now.schema at tree) (shelf : ℕ) (key : List ℕ) (count : ℕ) (h : Executes remove_text (place_params shelf key) old new (Ok count)) where
  abbrev params : Row
  params = place_params shelf key

  abbrev tables : Trees
  tables = old.now.trees

  abbrev task : Table → Task
  task table = record { limit = old.step_limit; keys = (mode_of old).keys; schema = old.now.schema; table = table; params = params }

  ran : Runs old new None (remove_command at tree) (statement_of remove_text (understood old.now.schema remove_text)) params count
  ran = let it = remove_means old.now.schema at tree is in runs_as remove_text params old new old.now.schema refl (remove_command at tree) it.is it.plain count h

  on_table : OnRows (task (cell_in tree)) (mode_of old) None (remove_command at tree) tables (Ok (ran.tally, new.now))
  on_table = subst (λ (o : Option Table). AtPlace (λ table. OnRows (task table) (mode_of old) None (remove_command at tree) tables) o (Ok (ran.tally, new.now))) is.there ran.changed

  -- The schema is what it was, and the cell is gone.
  pub removes_schema : new.now.schema ≡ old.now.schema
  removes_schema = ap (λ (p : Tally × Database). p.1.schema) (same_value (went (went (went on_table).2).2).2)

  pub removes : (cells : List Cell) → Stands (old.now.trees tree) cells → Stands (new.now.trees tree) (without cell_key (shelf ∷ key) cells)
  removes cells stands =
      let done = went on_table in
      let now = ap (λ (p : Tally × Database). p.1) (same_value (went (went done.2).2).2) in
      let given = went done.1 in
      let written = went given.2 in
      let trees : done.0.trees ≡ written.0 = ap (λ (it : Written). it.trees) (same_value written.2) in
      let edit = edit_of tables (cell_in tree) (ids_of given.0) Given 0 [] in
      let rows = (one_step old.now.schema (mode_of old).keys tables written.0 edit (sets_nothing_off old.now.schema at tree is (mode_of old).keys (taken_by tables edit) edit.news) written.1).rows in
      let left : new.now.trees tree ≡ without_all (tables tree) (ids_of given.0) = ap (λ (d : Database). d.trees tree) now ∙ ap (λ (t : Trees). t tree) trees ∙ rows in
      let shown = are_shown tree (low_tree old.now.schema at tree is) at_place (col 1 0 ∷ []) [] tables params given.0 (given.1.answer Null) in
      subst (λ l. Stands l (without cell_key (shelf ∷ key) cells)) (sym left) (removed shelf key (tables tree) given.0 cells shown stands)

  pub removes_sound : IsDatabase new.now
  removes_sound = ran.sound
