use Rattle.std.proofs.Common.{◌∙◌, ap, count_by}
use Rattle.rv_report.specs.Counted.{counts_list, counts_open, counts_share, counts_todo}
use Rattle.rv_report.proofs.CountLaws.{lists_counted, open_counted, shares_counted, todos_counted}
use Rattle.rv_report.proofs.counts.Counts.of.Goals as goal

pub returns : goal.returns
returns c = (λ i. record {
  lists = (c.lists.ensures ∙ ap (count_by counts_list) (c.deref.ensures.value ∙ c.in_ok-counted.ensures) ∙ lists_counted c.args.rows) i;
  todos = (c.todos.ensures ∙ ap (count_by counts_todo) (c.deref-2.ensures.value ∙ c.in_ok-counted.ensures) ∙ todos_counted c.args.rows) i;
  incomplete = (c.incomplete.ensures ∙ ap (count_by counts_open) (c.deref-3.ensures.value ∙ c.in_ok-counted.ensures) ∙ open_counted c.args.rows) i;
  shares = (c.shares.ensures ∙ ap (count_by counts_share) (c.deref-4.ensures.value ∙ c.in_ok-counted.ensures) ∙ shares_counted c.args.rows) i;
})
