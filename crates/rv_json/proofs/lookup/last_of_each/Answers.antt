use Rattle.std.proofs.Common.{◌∙◌, refl}
use Rattle.rv_json.proofs.ByName.{one_more}
use Rattle.rv_json.proofs.lookup.last_of_each.Goals as goal

pub loop-name-preserved : goal.loop-name-preserved
loop-name-preserved c =
    c.loop-name.invariant ∙ one_more c.deref-name-items.result.now c.loop-name.name-index c.loop-name-item.result c.loop-name.members.entries c.insert.new.self.entries _ _ c.loop-name-test.true c.loop-name-item.is refl refl c.in_ok-insert.ensures.entries
