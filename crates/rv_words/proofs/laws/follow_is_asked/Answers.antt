use Rattle.rv_words.proofs.FollowLaws.{follow_asked}
use Rattle.rv_words.proofs.laws.follow_is_asked.Goals as goal

pub returns : goal.returns
returns c = follow_asked
