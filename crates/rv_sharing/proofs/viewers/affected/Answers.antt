use Rattle.std.proofs.Common.{List, ℕ, sym, subst}
use Rattle.rv_rows.specs.Held.{rows_in}
use Rattle.rv_sharing.specs.Opened.{AreListsOf}
use Rattle.rv_sharing.proofs.ViewerLaws.{viewing_begins, viewing_more, viewing_ends}
use Rattle.rv_sharing.proofs.viewers.affected.Goals as goal

pub loop-list-init : goal.loop-list-init
loop-list-init c = record {
  lists = subst (λ (lists : List (List ℕ)). AreListsOf (rows_in c.args.tables.now.rows) c.args.keys.now lists) (sym c.deref-list-items.ensures.value) c.in_ok-lists.ensures;
  viewing = viewing_begins _ _ c.deref-list-items.result.now _ c.in_ok-users.ensures;
}

pub loop-list-preserved : goal.loop-list-preserved
loop-list-preserved c = record {
  lists = c.loop-list.invariant.lists;
  viewing = viewing_more _ _ _ _ _ _ _ c.loop-list-test.true c.list-item.is c.in_ok-users-2.ensures c.loop-list.invariant.viewing;
}

pub returns : goal.returns
returns c = viewing_ends _ _ _ _ _ c.loop-list-test.false c.loop-list.invariant.lists c.loop-list.invariant.viewing
