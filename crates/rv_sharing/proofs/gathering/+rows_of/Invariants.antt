use Rattle.std.proofs.Common.{length}
use Rattle.rv_sharing.proofs.gathering.+rows_of.Given as goal

abbrev pub decreases-rows_of : goal.decreases-rows_of
decreases-rows_of g l = length l.lists.now
