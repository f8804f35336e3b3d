use Rattle.std.proofs.Common.{◌++◌, ap, ◌∙◌}
use Rattle.std.specs.List.{flat_map}
use Rattle.rv_report.specs.Counted.{counts_of}
use Rattle.rv_report.specs.Lists.{line_of_list}
use Rattle.rv_report.specs.ListLines.{totals_line}
use Rattle.rv_report.proofs.LineLaws.{lines_more, lines_all}
use Rattle.rv_report.proofs.lists.lists_text.Goals as goal

pub loop-row-init : goal.loop-row-init
loop-row-init c = record {
  can_next = tt;
  is_finite = tt;
  lines = (λ i. c.new-out.ensures.items i ++ flat_map (line_of_list c.args.tables.now.rows) ((c.into_iter-row-iterator.ensures.into_iter_gives ∙ c.iter-row-items.ensures.rows) i));
}

pub loop-row-preserved : goal.loop-row-preserved
loop-row-preserved c = record {
  can_next = tt;
  is_finite = tt;
  lines = lines_more (line_of_list c.args.tables.now.rows) _ _ _ _ _ _ c.in-Some.ensures.steps (c.in_ok-out.ensures c.in-Some._version) c.loop-row.invariant.lines;
}

pub returns : goal.returns
returns c =
    c.from_vec.ensures
    ∙ c.in_ok-add_totals.ensures
    ∙ (λ i. lines_all (line_of_list c.args.tables.now.rows) _ _ _ c.in-None.ensures.steps.0 c.loop-row.invariant.lines i ++ totals_line ((c.in_ok-all.ensures ∙ ap counts_of c.iter.ensures.rows) i))
