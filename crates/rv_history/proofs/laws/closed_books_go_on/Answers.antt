use Rattle.rv_history.specs.SoundClosingLaws.{closed_books_go_on}
use Rattle.rv_history.proofs.laws.closed_books_go_on.Goals as goal

pub returns : goal.returns
returns c = closed_books_go_on
