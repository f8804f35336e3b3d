use Rattle.std.proofs.Common.{◌≡◌, ◌∙◌, decimal}
use Rattle.rv_base.specs.WritesLaws.{writes_then, writes_cut}
use Rattle.rv_cli.proofs.texts.write_count.Goals as goal

pub returns-in-Ok-clause-writes : goal.returns-in-Ok-clause-writes
returns-in-Ok-clause-writes g c =
    let is : c.as_bytes.result.now ≡ decimal c.args.number = c.as_bytes.ensures.value ∙ c.format.ensures.text in
    let written = rw is at c.write_ended.ensures.writes in
    writes_then _ _ _ _ _ _ _ c.in-Ok.ensures.writes written

pub returns-in-Err-clause-writes : goal.returns-in-Err-clause-writes
returns-in-Err-clause-writes g c = writes_cut _ _ _ _ _ c.in-Err.ensures.writes
