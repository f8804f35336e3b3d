use Rattle.std.proofs.Common.{◌≡◌, false}
use Rattle.sqlite.specs.State.{HasCleanDisk, Survives}
use Rattle.sqlite.specs.Held.{state}
use Rattle.rv_keeper.specs.Cells.{AreCells}
use Rattle.rv_sqlite.specs.Steps.{KeepsWhereClean}
use Rattle.rv_sqlite.proofs.RowsGiven.{HasReadSome}
use Rattle.rv_sqlite.proofs.reading.read_table.Given as goal

abbrev pub invariant-loop : goal.invariant-loop
invariant-loop g l =
    let first = l.fn.connection in
    let now = l.rows.conn.now in
    record {
      same : l.rows.conn.ghost_name ≡ l.initial.rows.conn.ghost_name;
      order : AreCells l.cells.items;
      mode : first.in_transaction ≡ false → now.in_transaction ≡ false;
      kept : KeepsWhereClean g.S.Store first now;
      survives : Survives (state g.S.Store first) (state g.S.Store now) (λ _. ⊥);
      read : HasCleanDisk (state g.S.Store now) → HasReadSome g.S.Store first now l.cells.items l.generation;
    }
