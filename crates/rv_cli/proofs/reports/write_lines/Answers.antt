use Rattle.rv_cli.proofs.Reporting.{told_only}
use Rattle.rv_cli.proofs.reports.write_lines.Goals as goal

pub returns-in-Err-Memory-clause-writes : goal.returns-in-Err-Memory-clause-writes
returns-in-Err-Memory-clause-writes g c =
    let ships = rw c.in-Err-Memory.field-0-is at c.in-Err-Memory.ensures.ships in
    (g.O.Sink.state c.ship.new.out, ships.bytes, ships.cause, told_only _ _ _ _ c.write_ending.ensures.writes)
