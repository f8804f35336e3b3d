use Rattle.std.proofs.Common.{◌≡◌, take}
use Rattle.std.specs.Prelude.{map}
use Rattle.rv_rows.specs.Effects.{after_role}
use Rattle.rv_plain.proofs.rows.update_share.Given as goal

abbrev pub invariant-loop-row : goal.invariant-loop-row
invariant-loop-row l = l.updated.items ≡ map (after_role l.user l.rows l.id l.role) (take l.row-index l.rows)
