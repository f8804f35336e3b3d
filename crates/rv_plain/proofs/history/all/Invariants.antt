use Rattle.std.proofs.Common.{◌≡◌, ◌∷◌, map, take}
use Rattle.rv_turns.specs.declared.op.Op.TheVariants.{Clear, Put}
use Rattle.rv_plain.proofs.history.all.Given as goal

abbrev pub invariant-loop-row : goal.invariant-loop-row
invariant-loop-row l = l.ops ≡ Clear ∷ map (λ row. Put row) (take l.row-index l.rows)
