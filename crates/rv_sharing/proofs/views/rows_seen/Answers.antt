use Rattle.std.proofs.Common.{sym, subst, arith}
use Rattle.std.proofs.lemmas.Result.{IfOk-weaker}
use Rattle.rv_rows.specs.Held.{AreRows, rows_in}
use Rattle.rv_rows.specs.Sharing.{sees_row}
use Rattle.rv_sharing.specs.Gathered.{rows_at}
use Rattle.rv_sharing.proofs.GatheredLaws.{in_order-of}
use Rattle.rv_sharing.proofs.VisibleLaws.{all_stand, seen_keys, seen_rows, visible_in_order}
use Rattle.rv_sharing.proofs.ReadLaws.{read_seen, steps_of_both}
use Rattle.rv_sharing.proofs.views.rows_seen.Goals as goal

pub with_extent-requires : goal.with_extent-requires
with_extent-requires g c = subst AreRows (sym c.in_ok-rows.ensures.rows) (in_order-of c.deref.result.now c.args.tables.now.rows c.in_ok-lists.ensures.order)

pub returns-clause-seen : goal.returns-clause-seen
returns-clause-seen g c =
    IfOk-weaker c.with_extent.result _ _
    (λ all both. seen_keys c.args.user.now c.args.tables.now.rows all.items (seen_rows c.args.user.now c.args.tables.now.rows c.deref.result.now c.in_ok-lists.lists.items (rows_at c.in_ok-rows.rows.items) (rows_at all.items) c.in_ok-lists.ensures.order c.deref.ensures.value c.in_ok-lists.ensures.lists c.in_ok-rows.ensures.rows both))
    c.with_extent.ensures.rows

pub returns-clause-order : goal.returns-clause-order
returns-clause-order g c =
    IfOk-weaker c.with_extent.result _ _
    (λ all both. visible_in_order c.args.user.now c.args.tables.now.rows _ (seen_keys c.args.user.now c.args.tables.now.rows all.items (seen_rows c.args.user.now c.args.tables.now.rows c.deref.result.now c.in_ok-lists.lists.items (rows_at c.in_ok-rows.rows.items) (rows_at all.items) c.in_ok-lists.ensures.order c.deref.ensures.value c.in_ok-lists.ensures.lists c.in_ok-rows.ensures.rows both)) c.in_ok-lists.ensures.order)
    c.with_extent.ensures.rows

pub returns-clause-stand : goal.returns-clause-stand
returns-clause-stand g c =
    IfOk-weaker c.with_extent.result _ _
    (λ all both. all_stand (λ s. sees_row c.args.user.now (rows_in c.args.tables.now.rows) s.0) c.args.tables.now.rows (rows_at all.items) (seen_rows c.args.user.now c.args.tables.now.rows c.deref.result.now c.in_ok-lists.lists.items (rows_at c.in_ok-rows.rows.items) (rows_at all.items) c.in_ok-lists.ensures.order c.deref.ensures.value c.in_ok-lists.ensures.lists c.in_ok-rows.ensures.rows both) c.in_ok-lists.ensures.order)
    c.with_extent.ensures.rows

pub returns-clause-read : goal.returns-clause-read
returns-clause-read g c =
    steps_of_both c.with_extent.result _ _ _ _ _ _ c.in_ok-rows.ensures.read
    (read_seen c.args.user.now c.args.tables.now.rows c.deref.result.now c.in_ok-lists.lists.items c.deref.ensures.value c.in_ok-lists.ensures.lists)
    c.with_extent.ensures.read

pub returns-clause-most : goal.returns-clause-most
returns-clause-most g c = omega (arith, c.in_ok-rows.ensures.read, c.with_extent.ensures.most, read_seen c.args.user.now c.args.tables.now.rows c.deref.result.now c.in_ok-lists.lists.items c.deref.ensures.value c.in_ok-lists.ensures.lists)

pub returns-in_err-rows-clause-most : goal.returns-in_err-rows-clause-most
returns-in_err-rows-clause-most g c = omega (arith, c.in_err-rows.ensures.most, read_seen c.args.user.now c.args.tables.now.rows c.deref.result.now c.in_ok-lists.lists.items c.deref.ensures.value c.in_ok-lists.ensures.lists)
