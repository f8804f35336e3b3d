use Rattle.std.proofs.Common.{◌≡◌, ◌∙◌, ◌+◌, ◌++◌, ◌∷◌, [], List, take, sym, ap, subst, arith}
use Rattle.std.proofs.lemmas.List.{take_all, take_more}
use Rattle.sqlite.specs.State.{HasCleanDisk}
use Rattle.sqlite.specs.Held.{state}
use Rattle.sqlite.proofs.StateLemmas.{survives_then}
use Rattle.rv_keeper.specs.declared.change.Change.{Change}
use Rattle.rv_keeper.specs.Cells.{changed}
use Rattle.rv_sqlite.specs.Steps.{Steps}
use Rattle.rv_sqlite.proofs.Kept.{keeps_then}
use Rattle.rv_sqlite.proofs.Stepping.{steps_more}
use Rattle.rv_sqlite.proofs.writing.make_changes.Goals as goal

-- One more change is made.
pub loop-change-preserved : goal.loop-change-preserved
loop-change-preserved g c =
    let old = state g.S.Store c.args.transaction.now.conn.now in
    let mid = state g.S.Store c.loop-change.transaction.conn.now in
    let new = state g.S.Store c.make_change.new.transaction.conn.now in
    let i = c.loop-change.change-index in
    let xs = c.args.changes.now in
    let x = c.change-item.result in
    record {
      same = c.make_change.ensures.same_reference ∙ c.loop-change.invariant.same;
      survives = survives_then old mid new (λ _. ⊥) (λ _. ⊥) (λ _. ⊥) (λ _ trees h. h) (λ _ trees h. h) c.loop-change.invariant.survives c.make_change.ensures.survives;
      kept = λ clean.
          let early : HasCleanDisk mid = omega (arith, c.make_change.ensures.survives.clean) in
          keeps_then old mid new (c.loop-change.invariant.kept early) (c.make_change.ensures.kept clean);
      steps = λ clean was.
          let early : HasCleanDisk mid = omega (arith, c.make_change.ensures.survives.clean) in
          let more = steps_more old mid new (take i xs) x (c.loop-change.invariant.steps early was) (c.in_ok-make_change.ensures.steps clean) in
          let longer : take (i + 1) xs ≡ take i xs ++ x ∷ [] = take_more xs i x c.loop-change-test.true ∙ ap (λ (z : Change). take i xs ++ z ∷ []) (sym c.change-item.is) in
          subst (λ (l : List Change). Steps old new (λ cells. changed cells l)) (sym longer) more;
    }

-- All of them were made.
pub returns-clause-steps : goal.returns-clause-steps
returns-clause-steps g c was clean =
    let old = state g.S.Store c.args.transaction.now.conn.now in
    let new = state g.S.Store c.loop-change.transaction.conn.now in
    let whole : take c.loop-change.change-index c.args.changes.now ≡ c.args.changes.now = take_all c.loop-change.change-index c.args.changes.now (omega (arith, c.loop-change-test.false)) in
    subst (λ (l : List Change). Steps old new (λ cells. changed cells l)) whole (c.loop-change.invariant.steps clean was)
