use Rattle.rv_mutators.proofs.TouchLaws.{are_touched}
use Rattle.rv_mutators.proofs.staged.Staged.affected.Goals as goal

pub returns : goal.returns
returns c = are_touched c.args.tables.now.rows c.args.self.now _ _ c.fits.ensures c.requires (rw c.as_slice.ensures at c.in_ok-users.ensures) (rw c.as_slice-2.ensures at c.add_readers.ensures)
