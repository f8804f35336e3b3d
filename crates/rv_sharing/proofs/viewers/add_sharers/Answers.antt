use Rattle.std.proofs.Common.{List, ap, sym, ◌∙◌, subst}
use Rattle.std.specs.List.{list_any}
use Rattle.rv_base.specs.PositionLaws.{in_order-filter}
use Rattle.rv_rows.specs.Held.{Stored, AreRows, rows_in, stored_key}
use Rattle.rv_rows.specs.Sharing.{belongs, shares}
use Rattle.rv_sharing.proofs.ViewerLaws.{shares-own}
use Rattle.rv_sharing.proofs.viewers.add_sharers.Goals as goal

pub add_named-requires-clause-order : goal.add_named-requires-clause-order
add_named-requires-clause-order c = subst AreRows (sym c.of_list.ensures.rows) (in_order-filter stored_key (λ s. belongs c.args.list.now s.0) c.args.tables.now.rows c.of_list.ensures.order)

pub add_named-requires-clause-shares : goal.add_named-requires-clause-shares
add_named-requires-clause-shares c user =
    ap (λ (rest : List Stored). list_any (shares user c.args.list.now) (rows_in rest)) c.of_list.ensures.rows
    ∙ shares-own user c.args.list.now c.args.tables.now.rows
