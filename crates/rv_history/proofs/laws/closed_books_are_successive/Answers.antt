use Rattle.rv_history.specs.SuccessionLaws.{closed_books_are_successive}
use Rattle.rv_history.proofs.laws.closed_books_are_successive.Goals as goal

pub returns : goal.returns
returns c = closed_books_are_successive
