-- A statement inside a transaction.
use Rattle.std.proofs.Common.{◌≡◌, ℕ, Bool, true, false, IsTrue, List, [], ◌∷◌, ◌++◌, OnOk, Ok, Err, Result, Some, None, length, is_err, inl, inr, refl, sym, ap, subst, ◌∙◌}
use Rattle.std.proofs.lemmas.List.Sums.{fold_push}
use Rattle.sqlite_value.specs.Order.{Row}
use Rattle.sqlite_resolve.specs.declared.compiled.Compiled.{Compiled}
use Rattle.sqlite_resolve.specs.declared.error.CompileError.{CompileError}
use Rattle.sqlite.specs.declared.error.Error.{Error}
use Rattle.sqlite.specs.Effect.{Database, IsDatabase}
use Rattle.sqlite.specs.Listing.{understood}
use Rattle.sqlite.specs.State.{State, KeepsCommit, Executes, ExecutesIn, ExecutesInside}
use Rattle.rv_keeper.specs.declared.cell.Cell.{Cell}
use Rattle.rv_keeper.specs.declared.change.Change.{Change}
use Rattle.rv_base.specs.Sorted.{put_by, without}
use Rattle.rv_keeper.specs.Cells.{cell_key, changed, changed_by}
use Rattle.rv_sqlite.specs.Loads.{make_text}
use Rattle.rv_sqlite.specs.Table.{Grows, IsCellAt, IsKnown, Stays, cell_table, is_unused, put_text, remove_text}
use Rattle.rv_sqlite.specs.Steps.{IsUnderWay, Steps, generation_cell, all_next}
use Rattle.rv_sqlite.specs.Stands.{Stands, HasCells}
use Rattle.sqlite_schema.specs.declared.schema.Schema.{Schema}
use Rattle.sqlite_catalog.specs.Change.{created, next_tree}
use Rattle.rv_sqlite.specs.KnownLaws.{known_at, known_cases, unused_names}
use Rattle.rv_sqlite.proofs.Create.{creates, creates_at, creates_schema, creates_sound, leaves_alone, named}
use Rattle.rv_sqlite.proofs.Meaning.{put_nowhere, remove_nowhere}
use Rattle.rv_sqlite.proofs.Remove.{place_params, removes, removes_schema, removes_sound}
use Rattle.rv_sqlite.proofs.PutRun.{put_params, puts, puts_schema, puts_sound}

-- a call that gave a value was made inside
pub was_inside : {X : Type 0} (b : Bool) (r : Result ℕ Error) (count : ℕ) (e : Error) → r ≡ Ok count → (b ≡ false → (r ≡ Err e) × X) → IsTrue b
was_inside true r count e ok ended = refl
was_inside false r count e ok ended = absurd (let f = (ended refl).0 in cc)

pub is_no_error : (r : Result Compiled CompileError) (c : Compiled) → r ≡ Ok c → ¬ (is_err r ≡ true)
is_no_error r c is err = let e : false ≡ true = sym (ap is_err is) ∙ err in cc

-- A text that a database without the table does not understand is not run there.
not_run : (sql : List ℕ) (params : Row) (old new : State) (count : ℕ) → is_err (understood old.now.schema sql) ≡ true → ¬ Executes sql params old new (Ok count)
unfolding ExecutesIn
not_run sql params old new count nowhere h = is_no_error (understood old.now.schema sql) h.0 h.1.is nowhere

module _ (old new : State) (sql : List ℕ) (params : Row) (f : List Cell → List Cell) (count : ℕ) (nowhere : is_unused old.now.schema ≡ true → is_err (understood old.now.schema sql) ≡ true) where
  -- a statement on the rows of the table
  steps_by : ((at tree : ℕ) → IsCellAt old.now.schema at tree → Executes sql params old new (Ok count)
      → (new.now.schema ≡ old.now.schema) × IsDatabase new.now × ((cells : List Cell) → Stands (old.now.trees tree) cells → Stands (new.now.trees tree) (f cells)))
      → IsTrue old.in_transaction → ExecutesInside 0 sql params old new (Ok count) → Steps old new f
  steps_by w was h = record {
    was = record { inside = was; is_open = h.1.was_open };
    is = record { inside = h.1.mode; is_open = h.1.is_open };
    committed = h.1.committed_is;
    stays = record {
      known = λ k. elim (known_cases old.now.schema k) [
        | inl there ↦ subst IsKnown (sym (w there.0 there.1 there.2 h.0).0) k
        | inr unused ↦ absurd (not_run sql params old new count (nowhere unused) h.0)
      ];
      grows = λ k. elim (known_cases old.now.schema k) [
        | inl there ↦ inl (w there.0 there.1 there.2 h.0).0
        | inr unused ↦ absurd (not_run sql params old new count (nowhere unused) h.0)
      ];
    };
    leads = λ cells had. elim had.are [
      | inl there ↦
          let made = w there.0 there.1 there.2 h.0 in
          record { sound = made.1; are = inl (there.0, there.1, subst (λ s. IsCellAt s there.0 there.1) (sym made.0) there.2, made.2 cells there.3) }
      | inr none ↦ absurd (not_run sql params old new count (nowhere none.0) h.0)
    ];
  }

pub put_steps : (old new : State) (c : Cell) (count : ℕ) → IsTrue old.in_transaction → ExecutesInside 0 put_text (put_params c) old new (Ok count) → Steps old new (put_by cell_key c)
put_steps old new c count = steps_by old new put_text (put_params c) (put_by cell_key c) count (put_nowhere old.now.schema)
    (λ at tree is h. (puts_schema old new at tree is c count h, puts_sound old new at tree is c count h, puts old new at tree is c count h))

pub remove_steps : (old new : State) (shelf : ℕ) (key : List ℕ) (count : ℕ) → IsTrue old.in_transaction → ExecutesInside 0 remove_text (place_params shelf key) old new (Ok count) → Steps old new (without cell_key (shelf ∷ key))
remove_steps old new shelf key count = steps_by old new remove_text (place_params shelf key) (without cell_key (shelf ∷ key)) count (remove_nowhere old.now.schema)
    (λ at tree is h. (removes_schema old new at tree is shelf key count h, removes_sound old new at tree is shelf key count h, removes old new at tree is shelf key count h))

-- the table is there then, and the cells are the same
pub make_steps : (old new : State) (count : ℕ) → IsTrue old.in_transaction → ExecutesInside 0 make_text [] old new (Ok count) → Steps old new (λ cells. cells)
make_steps old new count was h = record {
  was = record { inside = was; is_open = h.1.was_open };
  is = record { inside = h.1.mode; is_open = h.1.is_open };
  committed = h.1.committed_is;
  stays = record {
    known = λ k. elim (known_cases old.now.schema k) [
      | inl there ↦ subst (λ (d : Database). IsKnown d.schema) (sym (leaves_alone old new there.0 there.1 count there.2 h.0).0.now_is) k
      | inr unused ↦ known_at new.now.schema _ _ (creates_at old new unused count h.0)
    ];
    grows = λ k. elim (known_cases old.now.schema k) [
      | inl there ↦ inl (ap (λ (d : Database). d.schema) (leaves_alone old new there.0 there.1 count there.2 h.0).0.now_is)
      | inr unused ↦ inr (unused, creates_schema old new unused count h.0)
    ];
  };
  leads = λ cells had. elim had.are [
    | inl there ↦ subst (λ d. HasCells d cells) (sym (leaves_alone old new there.0 there.1 count there.2 h.0).0.now_is) had
    | inr none ↦ record {
      sound = creates_sound old new none.0 count h.0;
      are = inl (_, _, creates_at old new none.0 count h.0, subst (Stands (new.now.trees (next_tree old.now.schema))) (sym none.1) (creates old new none.0 count h.0));
    }
  ];
}

-- nothing is done
pub no_steps : (s : State) → IsUnderWay s → Steps s s (λ cells. cells)
no_steps s under = record { was = under; is = under; committed = refl; stays = record { known = λ k. k; grows = λ k. inl refl }; leads = λ cells h. h }

-- a schema that has the table is not one that has it not
not_unused : (schema : Schema) → is_unused schema ≡ true → is_unused (created schema cell_table) ≡ true → ⊥
not_unused schema unused again = absurd (let e : Some (length schema.tables) ≡ None = sym (named schema unused) ∙ (unused_names (created schema cell_table) again).0 in cc)

grows_then : (a b c : Schema) → Grows a b → Grows b c → Grows a c
grows_then a b c (inl one) (inl two) = inl (two ∙ one)
grows_then a b c (inl one) (inr two) = inr (subst (λ s. (is_unused s ≡ true) × (c ≡ created s cell_table)) one two)
grows_then a b c (inr one) (inl two) = inr (one.0, two ∙ one.1)
grows_then a b c (inr one) (inr two) = absurd (not_unused a one.0 (subst (λ s. is_unused s ≡ true) one.1 two.0))

stays_then : (a b c : Schema) → Stays a b → Stays b c → Stays a c
stays_then a b c p q = record { known = λ k. q.known (p.known k); grows = λ k. grows_then a b c (p.grows k) (q.grows (p.known k)) }

steps_then : (a b c : State) (f g : List Cell → List Cell) → Steps a b f → Steps b c g → Steps a c (λ cells. g (f cells))
steps_then a b c f g p q = record {
  was = p.was;
  is = q.is;
  committed = q.committed ∙ p.committed;
  stays = stays_then a.now.schema b.now.schema c.now.schema p.stays q.stays;
  leads = λ cells h. q.leads (f cells) (p.leads cells h);
}

changed_more : (xs : List Change) (x : Change) (cells : List Cell) → changed cells (xs ++ x ∷ []) ≡ changed_by (changed cells xs) x
changed_more xs x cells = fold_push changed_by cells xs x

pub steps_more : (a b c : State) (xs : List Change) (x : Change) → Steps a b (λ cells. changed cells xs) → Steps b c (λ cells. changed_by cells x) → Steps a c (λ cells. changed cells (xs ++ x ∷ []))
steps_more a b c xs x p q =
    let m = steps_then a b c (λ cells. changed cells xs) (λ cells. changed_by cells x) p q in
    record { was = m.was; is = m.is; committed = m.committed; stays = m.stays; leads = λ cells h. subst (HasCells c.now) (sym (changed_more xs x cells)) (m.leads cells h) }

-- The table was made where that was asked, the changes were made, and then the generation was written.
pub filled_by : {E : Type 0} (old one two new : State) (generation : ℕ) (changes : List Change) (r : Result (Unit {0}) E) → IsTrue old.in_transaction → KeepsCommit old one → KeepsCommit one two
    → (IsUnderWay old → Steps old one (λ cells. cells)) → (IsUnderWay one → Steps one two (λ cells. changed cells changes)) → OnOk r (Steps two new (put_by cell_key (generation_cell generation))) → OnOk r (Steps old new (all_next generation changes))
filled_by old one two new generation changes (Ok done) inside kept kept-2 first second last =
    let open_one = kept-2.was_open last.was.is_open in
    let made = first (record { inside = inside; is_open = kept.was_open open_one }) in
    let moved = second made.is in
    steps_then old two new (λ cells. changed cells changes) (put_by cell_key (generation_cell generation)) (steps_then old one two (λ cells. cells) (λ cells. changed cells changes) made moved) last
filled_by old one two new generation changes (Err e) inside kept kept-2 first second last = tt
