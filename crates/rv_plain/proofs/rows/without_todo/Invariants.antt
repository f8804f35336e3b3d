use Rattle.std.proofs.Common.{◌≡◌, take}
use Rattle.std.specs.List.{filter}
use Rattle.rv_rows.specs.Effects.{is_unchanged}
use Rattle.rv_plain.proofs.rows.without_todo.Given as goal

abbrev pub invariant-loop-row : goal.invariant-loop-row
invariant-loop-row l = l.kept.items ≡ filter (is_unchanged l.user l.rows l.id) (take l.row-index l.rows)
