use Rattle.std.proofs.Common.{◌≡◌, take}
use Rattle.rv_rows.proofs.lists.copies.Given as goal

abbrev pub invariant-loop-id : goal.invariant-loop-id
invariant-loop-id l = l.copies.items ≡ take l.id-index l.ids
