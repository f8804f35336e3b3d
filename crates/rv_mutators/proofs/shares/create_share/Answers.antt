use Rattle.std.proofs.Common.{◌∙◌, sym}
use Rattle.rv_rows.specs.Held.{rows_in}
use Rattle.rv_rows.specs.HeldLaws.{in_order-rows}
use Rattle.rv_mutators.proofs.Calls.{ok_is, then_is, else_is, create_share-is}
use Rattle.rv_mutators.proofs.shares.create_share.Goals as goal

pub returns-in_ok-copy-3 : goal.returns-in_ok-copy-3
returns-in_ok-copy-3 c =
    let stored = c.args.tables.now.rows in
    ok_is _ _ _ (rw (c.in_ok-copy.ensures, c.in_ok-copy-2.ensures, c.in_ok-copy-3.ensures) at c.writes.ensures)
    (then_is _ _ _ _ (sym c.may_share.ensures ∙ c.if-may_share.true) (create_share-is (rows_in stored) (in_order-rows stored c.requires) c.args.user.now c.args.id.now c.args.list.now c.args.other.now c.args.role))

pub returns-else-may_share : goal.returns-else-may_share
returns-else-may_share c =
    let stored = c.args.tables.now.rows in
    c.nothing.ensures ∙ else_is _ _ _ _ (sym c.may_share.ensures ∙ c.if-may_share.false) (create_share-is (rows_in stored) (in_order-rows stored c.requires) c.args.user.now c.args.id.now c.args.list.now c.args.other.now c.args.role)
