use Rattle.rv_words.proofs.Commands.{group_is_id}
use Rattle.rv_words.proofs.laws.groups_are_ids.Goals as goal

pub returns : goal.returns
returns c = group_is_id
