use Rattle.rv_base.specs.WritesLaws.{writes_then, writes_cut}
use Rattle.rv_cli.proofs.texts.write_damaged.Goals as goal

pub returns-in-Ok-clause-writes : goal.returns-in-Ok-clause-writes
returns-in-Ok-clause-writes g c = writes_then _ _ _ _ _ _ _ c.in-Ok.ensures.writes c.write_place_ended.ensures.writes

pub returns-in-Err-clause-writes : goal.returns-in-Err-clause-writes
returns-in-Err-clause-writes g c = writes_cut _ _ _ _ _ c.in-Err.ensures.writes
