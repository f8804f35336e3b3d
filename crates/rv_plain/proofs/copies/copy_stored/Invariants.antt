use Rattle.std.proofs.Common.{◌≡◌, take}
use Rattle.rv_plain.proofs.copies.copy_stored.Given as goal

abbrev pub invariant-loop-row : goal.invariant-loop-row
invariant-loop-row l = l.copies.items ≡ take l.row-index l.stored
