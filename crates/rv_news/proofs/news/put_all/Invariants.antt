use Rattle.std.proofs.Common.{◌≡◌, ◌++◌, map, take}
use Rattle.rv_turns.specs.declared.op.Op.TheVariants.{Put}
use Rattle.rv_news.proofs.news.put_all.Given as goal

abbrev pub invariant-loop-row : goal.invariant-loop-row
invariant-loop-row l = l.ops ≡ l.fn.ops ++ map (λ row. Put row.0.now) (take l.row-index l.rows)
