use Rattle.std.proofs.Common.{◌≡◌, drop}
use Rattle.rv_rows.specs.Keys.{key_text}
use Rattle.rv_history.specs.History.{is_touched}
use Rattle.rv_plain.proofs.history.is_touched.Given as goal

abbrev pub invariant-loop-entry : goal.invariant-loop-entry
invariant-loop-entry l =
    let key = key_text (record { kind = l.kind; id = l.id }) in
    is_touched key l.before.items (drop l.entry-index l.since) ≡ is_touched key l.rows l.since
