use Rattle.rv_following.proofs.Followed.{lines_are_followed}
use Rattle.rv_following.proofs.laws.lines_are_followed.Goals as goal

pub returns : goal.returns
returns c = lines_are_followed
