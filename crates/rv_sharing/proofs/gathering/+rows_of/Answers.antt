use Rattle.std.proofs.Common.{ap, sym, ◌∙◌, subst}
use Rattle.std.proofs.lemmas.Result.{IfOk-weaker}
use Rattle.rv_rows.specs.Held.{AreRows}
use Rattle.rv_sharing.specs.Gathered.{rows_at}
use Rattle.rv_sharing.proofs.GatheredLaws.{in_order-of, of_both, of_none}
use Rattle.rv_sharing.proofs.gathering.+rows_of.Goals as goal

pub merged-requires-clause-left : goal.merged-requires-clause-left
merged-requires-clause-left g t c = subst AreRows (sym (ap rows_at c.deref.ensures.value ∙ c.in_ok-left-in_default.ensures.rows)) (in_order-of _ _ c.requires)

pub merged-requires-clause-right : goal.merged-requires-clause-right
merged-requires-clause-right g t c = subst AreRows (sym (ap rows_at c.deref-in_default.ensures.value ∙ c.in_ok-right-in_default.ensures.rows)) (in_order-of _ _ c.requires)

pub returns-in-empty-clause-rows : goal.returns-in-empty-clause-rows
returns-in-empty-clause-rows g t c = ap rows_at c.new.ensures.items ∙ sym (of_none c.args.lists.now c.args.tables.now.rows c.in-empty.len_below)

pub returns-in_ok-right-in_default-clause-rows : goal.returns-in_ok-right-in_default-clause-rows
returns-in_ok-right-in_default-clause-rows g t c =
    IfOk-weaker c.merged.result _ _
    (λ rows are. of_both _ c.args.lists.now _ _ c.args.tables.now.rows _ _ _ c.requires c.split_at.ensures.front c.split_at.ensures.back (ap rows_at c.deref.ensures.value ∙ c.in_ok-left-in_default.ensures.rows) (ap rows_at c.deref-in_default.ensures.value ∙ c.in_ok-right-in_default.ensures.rows) are)
    c.merged.ensures
