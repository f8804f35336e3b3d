use Rattle.rv_cli.proofs.texts.write_import_ending.Goals as goal

pub returns-in-BadRecord-clause-writes : goal.returns-in-BadRecord-clause-writes
returns-in-BadRecord-clause-writes g c =
    let written = rw c.from.ensures at c.write_count.ensures.writes in
    rw c.in-BadRecord.is written
