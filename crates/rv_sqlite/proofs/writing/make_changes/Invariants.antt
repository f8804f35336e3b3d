use Rattle.std.proofs.Common.{◌≡◌, take}
use Rattle.sqlite.specs.State.{HasCleanDisk, Survives}
use Rattle.sqlite.specs.Held.{state}
use Rattle.rv_keeper.specs.Cells.{changed}
use Rattle.rv_sqlite.specs.Steps.{IsUnderWay, KeepsWhereClean, Steps}
use Rattle.rv_sqlite.proofs.writing.make_changes.Given as goal

-- The changes so far were made, and nothing was committed.
abbrev pub invariant-loop-change : goal.invariant-loop-change
invariant-loop-change g l =
    let first = l.fn.transaction.conn.now in
    let now = l.transaction.conn.now in
    record {
      same : l.transaction.conn.ghost_name ≡ l.fn.transaction.conn.ghost_name;
      survives : Survives (state g.S.Store first) (state g.S.Store now) (λ _. ⊥);
      kept : KeepsWhereClean g.S.Store first now;
      steps : HasCleanDisk (state g.S.Store now) → IsUnderWay (state g.S.Store first) → Steps (state g.S.Store first) (state g.S.Store now) (λ cells. changed cells (take l.change-index l.changes));
    }
