use Rattle.rv_words.proofs.FollowLaws.{only_a_port}
use Rattle.rv_words.proofs.laws.only_a_port_is_followed.Goals as goal

pub returns : goal.returns
returns c = only_a_port
