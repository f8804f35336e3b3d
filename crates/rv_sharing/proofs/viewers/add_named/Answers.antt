use Rattle.rv_rows.specs.Held.{rows_in}
use Rattle.rv_sharing.proofs.ViewerLaws.{adding_begins, adding_more, adding_same, adding_stops, adding_ends}
use Rattle.rv_sharing.proofs.viewers.add_named.Goals as goal

pub loop-row-init : goal.loop-row-init
loop-row-init c = record {
  can_next = tt;
  is_finite = tt;
  adding = adding_begins c.args.list.now (rows_in c.args.tables.now.rows) c.args.rows c.into_iter-row-iterator.result c.args.users c.into_vec-users.result.items c.requires.order c.requires.users c.into_vec-users.ensures c.into_iter-row-iterator.ensures.into_iter_gives c.requires.shares;
}

pub loop-row-preserved-in-Continue-1 : goal.loop-row-preserved-in-Continue-1
loop-row-preserved-in-Continue-1 c = record { can_next = tt; is_finite = tt; adding = adding_more _ _ _ _ _ _ _ _ _ c.in-Some.ensures.steps c.in-Some-sharer.ensures c.in_ok-add.ensures c.loop-row.invariant.adding }

pub loop-row-preserved : goal.loop-row-preserved
loop-row-preserved c = record { can_next = tt; is_finite = tt; adding = adding_same _ _ _ _ _ _ _ c.in-Some.ensures.steps c.in_default.ensures c.loop-row.invariant.adding }

pub returns : goal.returns
returns c = adding_ends _ _ _ _ _ _ c.in-None.ensures.steps.0 c.from_vec-2.ensures c.loop-row.invariant.adding

pub returns-then-is_todo : goal.returns-then-is_todo
returns-then-is_todo c = let todo = c.is_todo.ensures c.if-is_todo.true in adding_stops _ _ _ _ _ _ _ _ todo.0 c.in-Some.ensures.steps todo.1 c.from_vec.ensures c.loop-row.invariant.adding
