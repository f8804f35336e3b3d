use Rattle.rv_following.proofs.Followed.{no_line_is_refused}
use Rattle.rv_following.proofs.laws.no_line_is_refused.Goals as goal

pub returns : goal.returns
returns c = no_line_is_refused
