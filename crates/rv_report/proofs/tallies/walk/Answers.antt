use Rattle.std.proofs.Common.{ap, ◌∙◌, arith}
use Rattle.rv_report.specs.Shown.{shown_groups, shown_users}
use Rattle.rv_report.proofs.TallyLaws.{groups_more, may_rise, none_next, tallies_more}
use Rattle.rv_report.proofs.tallies.walk.Goals.{in-Some+in_ok-count+in_ok-add, in_default}
use Rattle.rv_report.proofs.tallies.walk.Goals as goal

pub count-requires : goal.count-requires
count-requires c = may_rise c.args.book.now.book c.loop-before.before (shown_users c.loop-before.tallies.entries) c.loop-before.invariant.2 (omega arith) (omega arith) c.loop-before.invariant.0

pub loop-before-preserved : goal.loop-before-preserved
loop-before-preserved c =
    let from = c.loop-before.invariant.2 in
    elim c.match-entry.branch [
      | in-Some+in_ok-count+in_ok-add w ↦ (
        tallies_more c.args.book.now.book c.loop-before.before w.in-Some.entry.now _ _ from w.in-Some.ensures c.loop-before.invariant.0 (ap (λ tallies. shown_users tallies.entries) w.tallies-is ∙ w.in_ok-count.ensures),
        groups_more c.args.book.now.book c.loop-before.before w.in-Some.entry.now _ _ from w.in-Some.ensures c.loop-before.invariant.1 (ap (λ groups. shown_groups groups.keys) w.groups-is ∙ w.in_ok-add.ensures),
        omega (arith, from),
      )
      | in_default w ↦ absurd (none_next c.args.book.now.book c.loop-before.before from w.in_default.ensures (omega arith))
    ]
