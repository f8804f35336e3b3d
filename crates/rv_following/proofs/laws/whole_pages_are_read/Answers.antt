use Rattle.rv_following.proofs.CellsRead.{whole_pages_are_read}
use Rattle.rv_following.proofs.laws.whole_pages_are_read.Goals as goal

pub returns : goal.returns
returns c = whole_pages_are_read
