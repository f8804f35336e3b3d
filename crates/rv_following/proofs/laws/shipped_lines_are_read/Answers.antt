use Rattle.rv_following.proofs.Shipped.{shipped_lines_are_read}
use Rattle.rv_following.proofs.laws.shipped_lines_are_read.Goals as goal

pub returns : goal.returns
returns c = shipped_lines_are_read
