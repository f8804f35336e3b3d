use Rattle.sqlite.specs.Held.{state}
use Rattle.rv_sqlite.specs.Steps.{cell_of}
use Rattle.rv_sqlite.proofs.Stepping.{was_inside, put_steps}
use Rattle.rv_sqlite.proofs.statements.put_row.Goals as goal

-- The statement was run inside the transaction, and it is the third.
pub returns-clause-steps : goal.returns-clause-steps
returns-clause-steps g c clean =
    let old = state g.S.Store c.args.transaction.now.conn.now in
    let new = state g.S.Store c.execute.new.self.conn.now in
    let inside = was_inside old.in_transaction c.execute.result c.in_ok-execute.field-0 _ c.in_ok-execute.was c.execute.ensures.ended in
    let ran = rw (c.params-to_sql.ensures, c.params-to_sql-2.ensures, c.params-to_sql-3.ensures, c.from.ensures) at (c.in_ok-execute.ensures.runs clean inside) in
    put_steps old new (cell_of c.args.shelf c.args.key.now c.args.body.now) c.in_ok-execute.field-0 inside ran
