use Rattle.rv_cli.proofs.texts.write_serve_ending.Goals as goal

pub returns-in-BadAccounts-clause-writes : goal.returns-in-BadAccounts-clause-writes
returns-in-BadAccounts-clause-writes g c =
    let written = rw c.from.ensures at c.write_count.ensures.writes in
    rw c.in-BadAccounts.is written
