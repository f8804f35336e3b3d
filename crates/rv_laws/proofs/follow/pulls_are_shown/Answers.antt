use Rattle.rv_laws.proofs.FollowedLaws.{pulls_are_shown}
use Rattle.rv_laws.proofs.follow.pulls_are_shown.Goals as goal

pub returns : goal.returns
returns c = pulls_are_shown
