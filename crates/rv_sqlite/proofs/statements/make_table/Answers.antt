use Rattle.sqlite.specs.Held.{state}
use Rattle.rv_sqlite.proofs.Stepping.{was_inside, make_steps}
use Rattle.rv_sqlite.proofs.statements.make_table.Goals as goal

-- The statement was run inside the transaction, and it is the first.
pub returns-clause-steps : goal.returns-clause-steps
returns-clause-steps g c clean =
    let old = state g.S.Store c.args.transaction.now.conn.now in
    let new = state g.S.Store c.execute.new.self.conn.now in
    let inside = was_inside old.in_transaction c.execute.result c.in_ok-execute.field-0 _ c.in_ok-execute.was c.execute.ensures.ended in
    make_steps old new c.in_ok-execute.field-0 inside (c.in_ok-execute.ensures.runs clean inside)
