use Rattle.std.proofs.Common.{◌++◌, ap, ◌∙◌}
use Rattle.std.specs.List.{flat_map}
use Rattle.rv_report.specs.Tallies.{groups_line}
use Rattle.rv_report.proofs.ActivityLaws.{groups_are, lent_line, users_text}
use Rattle.rv_report.proofs.LineLaws.{lines_more, lines_all}
use Rattle.rv_report.proofs.activity.activity_text.Goals as goal

pub loop-user-init : goal.loop-user-init
loop-user-init c = ap (λ text. text ++ flat_map lent_line c.into_iter-user-iterator.result) c.new-out.ensures.items

pub loop-user-preserved : goal.loop-user-preserved
loop-user-preserved c = lines_more lent_line _ _ _ _ _ _ c.in-Some.ensures.steps c.in_ok-out.ensures c.loop-user.invariant

pub returns : goal.returns
returns c =
    let all = lines_all lent_line _ _ _ c.in-None.ensures.steps.0 c.loop-user.invariant ∙ ap (flat_map lent_line) c.into_iter-user-iterator.ensures.into_iter_gives.0 ∙ users_text c.args.book.now.book c.in_ok-tallies.tallies.entries c.in_ok-tallies.ensures.0 in
    c.from_vec.ensures
    ∙ c.in_ok-add_groups.ensures
    ∙ (λ i. c.loop-user.out.items ++ groups_line (c.len.ensures.len i) (c.retired.ensures i))
    ∙ (λ i. all i ++ groups_are c.args.book.now.book c.in_ok-tallies.groups.keys c.in_ok-tallies.ensures.1 i)
