use Rattle.std.proofs.Common.{List, ap, sym, ◌∙◌, subst}
use Rattle.std.specs.List.{list_any}
use Rattle.rv_base.specs.PositionLaws.{in_order-filter}
use Rattle.rv_rows.specs.Held.{Stored, AreRows, rows_in, stored_key}
use Rattle.rv_rows.specs.Sharing.{belongs, shares}
use Rattle.rv_sharing.proofs.ViewerLaws.{shares-named, shares-own, none_behind}
use Rattle.rv_sharing.proofs.lists.has_share.Goals as goal

pub loop-row-init : goal.loop-row-init
loop-row-init c = record {
  can_next = tt;
  is_finite = tt;
  same =
      ap (λ (rest : List Stored). list_any (shares c.args.user.now c.args.list.now) (rows_in rest)) (c.into_iter-row-iterator.ensures.into_iter_gives ∙ c.of_user-row-items.ensures.rows)
      ∙ shares-named c.args.user.now c.args.list.now c.args.tables.now.rows;
  beside =
      ap (λ (rest : List Stored). list_any (shares c.args.user.now c.args.list.now) (rows_in rest)) c.of_list-of_list.ensures.rows
      ∙ shares-own c.args.user.now c.args.list.now c.args.tables.now.rows;
  order = subst AreRows (sym c.of_list-of_list.ensures.rows) (in_order-filter stored_key (λ s. belongs c.args.list.now s.0) c.args.tables.now.rows c.of_list-of_list.ensures.order);
}

pub returns-then-is_todo : goal.returns-then-is_todo
returns-then-is_todo c =
    let todo = c.is_todo.ensures c.if-is_todo.true in
    none_behind c.args.user.now c.args.list.now (rows_in c.args.tables.now.rows) _ _ _ _ c.in-Some-next.ensures.steps todo.1 c.loop-row.invariant.order c.loop-row.invariant.beside
