use Rattle.std.proofs.Common.{◌≡◌, ◌++◌}
use Rattle.std.specs.List.{flat_map}
use Rattle.rv_report.proofs.ActivityLaws.{lent_line}
use Rattle.rv_report.proofs.activity.activity_text.Given as goal

-- with the lines of the users that are left, the text is all lines
abbrev pub invariant-loop-user : goal.invariant-loop-user
invariant-loop-user l = l.out.items ++ flat_map lent_line l.user-iterator ≡ flat_map lent_line l.initial.user-iterator
