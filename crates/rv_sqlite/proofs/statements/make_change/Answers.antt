use Rattle.rv_sqlite.proofs.statements.make_change.Goals as goal

pub returns-in-Put-clause-steps : goal.returns-in-Put-clause-steps
returns-in-Put-clause-steps g c clean = rw c.in-Put.is (rw (c.as_slice.ensures, c.as_slice-in-Put.ensures) at (c.put_row.ensures.steps clean))
