-- The third statement, from its text to the cells.
use Rattle.std.proofs.Common.{◌≡◌, ℕ, ℤ, pos, true, List, [], ◌∷◌, ◌++◌, Ok, Option, Some, None, inl, inr, refl, sym, ap, subst, ◌∙◌}
use Rattle.sqlite_value.specs.declared.value.Value.TheVariants.{Null, Int, Blob}
use Rattle.sqlite_value.specs.Order.{Row}
use Rattle.sqlite_trees.specs.Tree.{Trees, rowid}
use Rattle.sqlite_schema.specs.declared.schema.Keys.{Keys}
use Rattle.sqlite_schema.specs.declared.schema.Schema.{Schema}
use Rattle.sqlite_schema.specs.declared.schema.Table.{Table}
use Rattle.sqlite_schema.specs.declared.command.Conflict.TheVariants.{Abort}
use Rattle.sqlite_rules.specs.declared.error.Refusal.{Refusal}
use Rattle.sqlite_rules.specs.declared.error.Rowids.TheVariants.{Given}
use Rattle.sqlite_rules.specs.Lists.{Has}
use Rattle.sqlite_rules.specs.Keys.{AreConflicts, conflicts}
use Rattle.sqlite_rules.specs.Edit.{next_rowid, edit_of, taken_by}
use Rattle.sqlite_rules.specs.Calls.{ids_of}
use Rattle.sqlite.specs.Effect.{Database, IsDatabase}
use Rattle.sqlite.specs.Rows.{Task, Written, Puts as PutsRow, Clears, Meets, Upserts, Updates, Tries, TriesEach, Judged, nothing, shown, count_of}
use Rattle.sqlite.specs.Does.{AtPlace, OnRows, Tally}
use Rattle.sqlite.specs.Listing.{understood}
use Rattle.sqlite.specs.State.{State, Runs, mode_of, Executes}
use Rattle.sqlite.proofs.Callers.{statement_of, runs_as, one_step}
use Rattle.rv_keeper.specs.declared.cell.Cell.{Cell}
use Rattle.rv_base.specs.Sorted.{put_by}
use Rattle.rv_keeper.specs.Cells.{cell_key}
use Rattle.rv_sqlite.specs.Table.{IsCellAt, cell_in, put_text}
use Rattle.rv_sqlite.specs.Stands.{Stands, cell_row}
use Rattle.rv_sqlite.proofs.CellAt.{low, sets_nothing_off}
use Rattle.rv_sqlite.proofs.Meaning.{put_command, put_means, upsert, update_program}
use Rattle.rv_sqlite.proofs.Scan.{are_shown}
use Rattle.rv_sqlite.proofs.Members.{IsAt}
use Rattle.rv_sqlite.proofs.Parts.{went, same_value}
use Rattle.rv_sqlite.proofs.Compare.{at_if_passes, passes_if_at}
use Rattle.rv_sqlite.proofs.PutRows.{puts_stand}
use Rattle.rv_sqlite.proofs.PutParts.{chosen_row, conflicts_if, if_conflicts}
use Rattle.rv_sqlite.proofs.Put.{fresh_puts, update_puts, update_terms, update_shown, update_given}

abbrev pub put_params : Cell → Row
put_params c = Int (pos c.shelf) ∷ Blob c.key ∷ Blob c.body ∷ []

module _ (schema : Schema) (at tree : ℕ) (is : IsCellAt schema at tree) where
  abbrev pub task_for : Option ℕ → Keys → Cell → Task
  task_for limit keys c = record { limit = limit; keys = keys; schema = schema; table = cell_in tree; params = put_params c }

  module _ (limit : Option ℕ) (keys : Keys) (c : Cell) (id : ℤ) (cells : List Cell) (tables : Trees) (one : Written) (old : Stands (tables tree) cells) where
    abbrev Meets-Found : List Row → Type 0
    Meets-Found found = AreConflicts (Some (1 ∷ 2 ∷ [])) schema.indexes (cell_in tree) (tables tree) (cell_row id c) found

    none_there : Meets-Found [] → (j : ℤ) (d : Cell) → Has (tables tree) (cell_row j d) → ¬ IsAt (cell_key c) d
    none_there met j d h here = met.complete (cell_row j d) h (conflicts_if schema at tree is id j c d (passes_if_at j d c.shelf c.key here))

    inserted : Meets-Found [] → PutsRow (task_for limit keys c) (cell_row id c) tables (Ok one) → Stands (one.trees tree) (put_by cell_key c cells)
    inserted met h =
        let written = went h in
        let trees : one.trees ≡ written.0 = ap (λ (w : Written). w.trees) (same_value written.2) in
        let edit = edit_of tables (cell_in tree) [] Given 0 (cell_row id c ∷ []) in
        let it = one_step schema keys tables written.0 edit (sets_nothing_off schema at tree is keys (taken_by tables edit) edit.news) written.1 in
        subst (λ (t : Trees). Stands (t tree) (put_by cell_key c cells)) (sym trees) (puts_stand (tables tree) (written.0 tree) cells id c old (fresh_puts schema tree keys tables written.0 id c it (none_there met)))

    cleared : Meets-Found [] → (found : List Row) → Clears (task_for limit keys c) Abort (cell_row id c) tables found (Ok one) → Stands (one.trees tree) (put_by cell_key c cells)
    cleared met [] h = inserted met h
    cleared met (x ∷ more) h = inserted met h

    replaced : (there : Row) (more : List Row) → Meets-Found (there ∷ more) → Updates (task_for limit keys c) (update_program tree) (put_params c ++ rowid there ∷ shown (cell_in tree) (cell_row id c)) tables (Ok one) → Stands (one.trees tree) (put_by cell_key c cells)
    replaced there more met h =
        let r = met.sound there (inl refl) in
        let e = old.read r.0 r.1 in
        let j = e.0 in
        let d = e.1 in
        let named : rowid there ≡ Int j = ap rowid r.3 ∙ ap rowid e.2 in
        let given : put_params c ++ rowid there ∷ shown (cell_in tree) (cell_row id c) ≡ update_given j id c = ap (λ v. Int (pos c.shelf) ∷ Blob c.key ∷ Blob c.body ∷ v ∷ Int id ∷ Int (pos c.shelf) ∷ Blob c.key ∷ Blob c.body ∷ []) named in
        let clash : conflicts (Some (1 ∷ 2 ∷ [])) schema.indexes (cell_in tree) (cell_row id c) (cell_row j d) ≡ true = subst (λ z. conflicts (Some (1 ∷ 2 ∷ [])) schema.indexes (cell_in tree) (cell_row id c) z ≡ true) e.2 r.2 in
        let here : IsAt (cell_key c) d = at_if_passes j d c.shelf c.key (if_conflicts schema at tree is id j c d clash) in
        let ran = subst (λ g. Updates (task_for limit keys c) (update_program tree) g tables (Ok one)) given h in
        let queried = went ran in
        let written = went queried.2 in
        let trees : one.trees ≡ written.0 = ap (λ (w : Written). w.trees) (same_value written.2) in
        let edit = edit_of tables (cell_in tree) (ids_of queried.0) Given 1 queried.0 in
        let it = one_step schema keys tables written.0 edit (sets_nothing_off schema at tree is keys (taken_by tables edit) edit.news) written.1 in
        let found = are_shown tree (low schema at tree is) update_terms update_shown [] tables (update_given j id c) queried.0 (queried.1.answer Null) in
        subst (λ (t : Trees). Stands (t tree) (put_by cell_key c cells)) (sym trees)
        (puts_stand (tables tree) (written.0 tree) cells j c old (update_puts schema tree keys tables written.0 cells j id c d queried.0 old (subst (Has (tables tree)) e.2 r.1) here found it))

    upserted : Upserts (task_for limit keys c) Abort (cell_row id c) tables (upsert tree ∷ []) (Ok one) → Stands (one.trees tree) (put_by cell_key c cells)
    upserted h = go h.0 h.1 h.2
      where
        go : (found : List Row) → Meets-Found found → Meets (task_for limit keys c) (Upserts (task_for limit keys c) Abort (cell_row id c) tables []) (cell_row id c) tables (upsert tree) found (Ok one) → Stands (one.trees tree) (put_by cell_key c cells)
        go [] met otherwise = cleared met otherwise.0 otherwise.2
        go (there ∷ more) met updates = replaced there more met updates

    judged : (verdict : Option Refusal) → Judged (task_for limit keys c) Abort (upsert tree ∷ []) (cell_row id c) tables verdict (Ok one) → Stands (one.trees tree) (put_by cell_key c cells)
    judged None h = upserted h
    judged (Some why) h = absurd (let e = h in cc)

    pub tried : Tries (task_for limit keys c) Abort (upsert tree ∷ []) (cell_row id c) tables (Ok one) → Stands (one.trees tree) (put_by cell_key c cells)
    tried (inl refused) = absurd (let e = refused.1 in cc)
    tried (inr went_on) = judged went_on.0 went_on.2

module _ (old new : State) (at tree : ℕ) (is : IsCellAt old.now.schema at tree) (c : Cell) (count : ℕ) (h : Executes put_text (put_params c) old new (Ok count)) where
  abbrev params : Row
  params = put_params c

  abbrev tables : Trees
  tables = old.now.trees

  abbrev task : Table → Task
  task table = record { limit = old.step_limit; keys = (mode_of old).keys; schema = old.now.schema; table = table; params = params }

  ran : Runs old new None (put_command at tree) (statement_of put_text (understood old.now.schema put_text)) params count
  ran = let it = put_means old.now.schema at tree is in runs_as put_text params old new old.now.schema refl (put_command at tree) it.is it.plain count h

  on_table : OnRows (task (cell_in tree)) (mode_of old) None (put_command at tree) tables (Ok (ran.tally, new.now))
  on_table = subst (λ (o : Option Table). AtPlace (λ table. OnRows (task table) (mode_of old) None (put_command at tree) tables) o (Ok (ran.tally, new.now))) is.there ran.changed

  -- The schema is what it was, and the cell is put.
  pub puts_schema : new.now.schema ≡ old.now.schema
  puts_schema = ap (λ (p : Tally × Database). p.1.schema) (same_value (went (went (went on_table).2).2).2)

  pub puts_sound : IsDatabase new.now
  puts_sound = ran.sound

  pub puts : (cells : List Cell) → Stands (old.now.trees tree) cells → Stands (new.now.trees tree) (put_by cell_key c cells)
  puts cells stands =
      let done = went on_table in
      let now = ap (λ (p : Tally × Database). p.1) (same_value (went (went done.2).2).2) in
      let sourced = went done.1 in
      let counter = went sourced.2 in
      let each = went counter.2 in
      let last = went each.2 in
      let one = went (subst (λ rows. TriesEach (task (cell_in tree)) Abort (upsert tree ∷ []) rows (count_of counter.0) (nothing tables) (Ok each.0)) sourced.1.1 each.1) in
      let trees : done.0.trees ≡ one.0.trees = ap (λ (w : Written). w.trees) (same_value last.2) ∙ same_value last.1 ∙ ap (λ (p : Written × ℤ). p.0.trees) (same_value one.2) in
      let asked = subst (λ row. Tries (task (cell_in tree)) Abort (upsert tree ∷ []) row tables (Ok one.0)) (chosen_row tree (tables tree) c) one.1 in
      subst (λ (t : Trees). Stands (t tree) (put_by cell_key c cells)) (sym (ap (λ (d : Database). d.trees) now ∙ trees))
      (tried old.now.schema at tree is old.step_limit (mode_of old).keys c (next_rowid (tables tree)) cells tables one.0 stands asked)
