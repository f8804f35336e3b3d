-- Laws of a follower as one that takes lines.
use Rattle.std.proofs.Common.{refl}
use Rattle.rv_following.specs.FollowSteps.{Following}
use Rattle.rv_cli.specs.LineTaking.{TakesLater}
use Rattle.rv_cli.specs.Following.{follow_lines, follower_taker}

-- what a line does is the same whether what is kept is told or not
pub follower_takes_later : (old new : Following) → (Unit {0} → Unit {0}) → TakesLater follow_lines (Unit {0}) (Unit {0})
follower_takes_later old new before state state' line answer takes = takes

pub follower_stands : (follower : Following) → follower_taker.Stands follower follower
follower_stands follower = refl
