use Rattle.rv_following.proofs.CellsRead.{cells_are_read}
use Rattle.rv_following.proofs.laws.cells_are_read.Goals as goal

pub returns : goal.returns
returns c = cells_are_read
