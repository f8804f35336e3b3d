use Rattle.std.proofs.Common.{sym, subst, ◌∙◌}
use Rattle.sqlite.proofs.HistoryLemmas.{when_empty}
use Rattle.rv_sqlite.specs.Table.{IsKnown}
use Rattle.rv_sqlite.proofs.sqlite_keeper.SqliteKeeper.adopt.Goals as goal

-- Outside a transaction the schema is the last commit's.
pub invariant_of-result : goal.invariant_of-result
invariant_of-result g c = record {
  known = λ is tells.
      let h = c.args.connection in
      let empty = (c.recall.ensures.settled tells.ready.is_open tells.ready.autocommit).1 in
      subst IsKnown (c.schema.ensures.value ∙ sym (when_empty h.saved empty h.schema).0) (record { by = c.is_known-is_known.ensures.0 is });
}
