use Rattle.sqlite.specs.Held.{state}
use Rattle.sqlite.proofs.StateLemmas.{survives_weaker}
use Rattle.rv_sqlite.specs.Asked.{one_text}
use Rattle.rv_sqlite.proofs.Querying.{one_query, row_keeps, never_commits}
use Rattle.rv_sqlite.proofs.statements.ask.Goals as goal

pub returns-clause-kept : goal.returns-clause-kept
returns-clause-kept g c clean = row_keeps one_text one_query _ (state g.S.Store c.args.connection.now) (state g.S.Store c.query_row.new.self) c.query_row.result (c.query_row.ensures.row clean)

pub returns-clause-survives : goal.returns-clause-survives
returns-clause-survives g c =
    let old = state g.S.Store c.args.connection.now in
    survives_weaker old (state g.S.Store c.query_row.new.self) _ (λ _. ⊥) (λ clean trees may. never_commits one_text one_query old _ trees may) c.query_row.ensures.survives
