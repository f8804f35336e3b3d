use Rattle.rv_laws.proofs.FollowedLaws.{books_are_fronts}
use Rattle.rv_laws.proofs.follow.books_are_fronts.Goals as goal

pub returns : goal.returns
returns c = books_are_fronts
