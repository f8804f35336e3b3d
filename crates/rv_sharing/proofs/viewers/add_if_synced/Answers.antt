use Rattle.std.proofs.Common.{sym, ◌∙◌}
use Rattle.rv_sharing.proofs.TextLaws.{adds_when, adds_none}
use Rattle.rv_sharing.proofs.viewers.add_if_synced.Goals as goal

pub returns-then-is_synced : goal.returns-then-is_synced
returns-then-is_synced c = adds_when _ _ _ _ (sym c.is_synced.ensures ∙ c.if-is_synced.true) c.add_user.ensures

pub returns-else-is_synced : goal.returns-else-is_synced
returns-else-is_synced c = adds_none _ _ _ (sym c.is_synced.ensures ∙ c.if-is_synced.false) c.requires
