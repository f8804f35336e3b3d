use Rattle.std.proofs.Common.{[], codes}
use Rattle.sqlite.specs.State.{CommitsBy}
use Rattle.sqlite.specs.Held.{state}
use Rattle.sqlite.proofs.StateLemmas.{survives_weaker}
use Rattle.rv_sqlite.proofs.RollingBack.{refused_ready, rollback_keeps, rollback_commits}
use Rattle.rv_sqlite.proofs.statements.roll_nothing_back.Goals as goal

pub returns-clause-kept : goal.returns-clause-kept
returns-clause-kept g c clean = rollback_keeps (state g.S.Store c.args.connection.now) (state g.S.Store c.execute.new.self) c.execute.result c.requires.autocommit (c.execute.ensures.runs clean)

pub returns-clause-survives : goal.returns-clause-survives
returns-clause-survives g c =
    let old = state g.S.Store c.args.connection.now in
    survives_weaker old (state g.S.Store c.execute.new.self) (CommitsBy (codes "ROLLBACK") [] old) (λ _. ⊥) (λ clean trees may. rollback_commits old trees may) c.execute.ensures.survives

pub returns-clause-ready : goal.returns-clause-ready
returns-clause-ready g c clean =
    refused_ready (state g.S.Store c.args.connection.now) (state g.S.Store c.execute.new.self) c.execute.result c.requires.autocommit (c.execute.ensures.runs clean)
