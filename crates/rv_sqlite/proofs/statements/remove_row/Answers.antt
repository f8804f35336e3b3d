use Rattle.sqlite.specs.Held.{state}
use Rattle.rv_sqlite.proofs.Stepping.{was_inside, remove_steps}
use Rattle.rv_sqlite.proofs.statements.remove_row.Goals as goal

pub returns-clause-steps : goal.returns-clause-steps
returns-clause-steps g c clean =
    let old = state g.S.Store c.args.transaction.now.conn.now in
    let new = state g.S.Store c.execute.new.self.conn.now in
    let inside = was_inside old.in_transaction c.execute.result c.in_ok-execute.field-0 _ c.in_ok-execute.was c.execute.ensures.ended in
    let ran = rw (c.params-to_sql.ensures, c.params-to_sql-2.ensures, c.from.ensures) at (c.in_ok-execute.ensures.runs clean inside) in
    remove_steps old new c.args.shelf c.args.key.now c.in_ok-execute.field-0 inside ran
