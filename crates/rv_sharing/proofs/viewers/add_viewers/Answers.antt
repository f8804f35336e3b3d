use Rattle.std.proofs.Common.{List, ap, sym, ◌∙◌, subst}
use Rattle.std.specs.List.{list_any}
use Rattle.rv_base.specs.PositionLaws.{in_order-filter}
use Rattle.rv_rows.specs.Held.{Stored, AreRows, rows_in, stored_key}
use Rattle.rv_rows.specs.Sharing.{belongs, shares}
use Rattle.rv_sharing.proofs.OwnerLaws.{owner-first, order-behind, shares-behind}
use Rattle.rv_sharing.proofs.ViewerLaws.{shares-own, viewers_shared, viewers_absent}
use Rattle.rv_sharing.proofs.viewers.add_viewers.Goals as goal

pub add_named-requires-clause-order : goal.add_named-requires-clause-order
add_named-requires-clause-order c =
    let own : AreRows c.of_list-rows.result = subst AreRows (sym c.of_list-rows.ensures.rows) (in_order-filter stored_key (λ s. belongs c.args.list.now s.0) c.args.tables.now.rows c.of_list-rows.ensures.order) in
    subst AreRows (sym c.in-Some.ensures.rest) (order-behind c.of_list-rows.result own)

pub add_named-requires-clause-shares : goal.add_named-requires-clause-shares
add_named-requires-clause-shares c user =
    ap (λ (rest : List Stored). list_any (shares user c.args.list.now) (rows_in rest)) c.in-Some.ensures.rest
    ∙ shares-behind user c.args.list.now c.in-Some.row.now.owner c.of_list-rows.result c.in-Some.ensures.owner
    ∙ ap (λ (rest : List Stored). list_any (shares user c.args.list.now) (rows_in rest)) c.of_list-rows.ensures.rows
    ∙ shares-own user c.args.list.now c.args.tables.now.rows

pub returns-in_ok-owned-in-Some : goal.returns-in_ok-owned-in-Some
returns-in_ok-owned-in-Some c =
    let owner = c.in-Some.ensures.owner ∙ owner-first c.args.list.now c.args.tables.now.rows c.of_list-rows.result c.of_list-rows.ensures.order c.of_list-rows.ensures.rows in
    viewers_shared _ _ _ _ _ _ c.of_list-rows.ensures.order owner c.in_ok-owned-in-Some.ensures c.add_named.ensures

pub returns-in-None : goal.returns-in-None
returns-in-None c =
    let owner = c.in-None.ensures.owner ∙ owner-first c.args.list.now c.args.tables.now.rows c.of_list-rows.result c.of_list-rows.ensures.order c.of_list-rows.ensures.rows in
    viewers_absent _ _ _ c.of_list-rows.ensures.order owner c.requires
