use Rattle.std.proofs.Common.{◌≡◌, ◌++◌, map, take}
use Rattle.std.specs.List.{filter}
use Rattle.rv_rows.specs.Keys.{row_key}
use Rattle.rv_turns.specs.declared.op.Op.TheVariants.{Del}
use Rattle.rv_history.specs.History.{is_absent}
use Rattle.rv_plain.proofs.history.add_dels.Given as goal

abbrev pub invariant-loop-row : goal.invariant-loop-row
invariant-loop-row l = l.ops ≡ l.fn.ops ++ map (λ row. Del (row_key row)) (filter (is_absent l.now) (take l.row-index l.base))
