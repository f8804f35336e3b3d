use Rattle.std.proofs.Common.{◌≡◌, ◌++◌, map, take}
use Rattle.std.specs.List.{filter}
use Rattle.rv_turns.specs.declared.op.Op.TheVariants.{Put}
use Rattle.rv_history.specs.History.{is_news}
use Rattle.rv_plain.proofs.history.add_puts.Given as goal

abbrev pub invariant-loop-row : goal.invariant-loop-row
invariant-loop-row l = l.ops ≡ l.fn.ops ++ map (λ row. Put row) (filter (is_news l.base l.rows l.since) (take l.row-index l.now))
