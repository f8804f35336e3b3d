use Rattle.rv_words.proofs.Commands.{users_are}
use Rattle.rv_words.proofs.laws.users_are_users.Goals as goal

pub returns : goal.returns
returns c = users_are
