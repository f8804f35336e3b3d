use Rattle.std.proofs.Common.{◌≡◌, map, take}
use Rattle.rv_report.specs.Activity.{in_order}
use Rattle.rv_report.specs.Shown.{shown_groups}
use Rattle.rv_report.proofs.tallies.names.Given as goal

abbrev pub invariant-loop-group : goal.invariant-loop-group
invariant-loop-group l = shown_groups l.names.keys ≡ in_order (map (λ group. group.0) (take l.group-index l.groups))
