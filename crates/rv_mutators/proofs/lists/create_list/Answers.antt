use Rattle.std.proofs.Common.{◌∙◌, sym}
use Rattle.rv_rows.specs.Held.{rows_in}
use Rattle.rv_rows.specs.HeldLaws.{in_order-rows}
use Rattle.rv_mutators.proofs.Calls.{ok_is, then_is, else_is, create_list-is}
use Rattle.rv_mutators.proofs.lists.create_list.Goals as goal

pub returns-in_ok-copy-3 : goal.returns-in_ok-copy-3
returns-in_ok-copy-3 c =
    let stored = c.args.tables.now.rows in
    ok_is _ _ _ (rw (c.in_ok-copy.ensures, c.in_ok-copy-2.ensures, c.in_ok-copy-3.ensures) at c.writes.ensures)
    (then_is _ _ _ _ (sym c.may_create.ensures ∙ c.if-may_create.true) (create_list-is (rows_in stored) (in_order-rows stored c.requires) c.args.user.now c.args.id.now c.args.name.now c.args.owner.now))

pub returns-else-may_create : goal.returns-else-may_create
returns-else-may_create c =
    let stored = c.args.tables.now.rows in
    c.nothing.ensures ∙ else_is _ _ _ _ (sym c.may_create.ensures ∙ c.if-may_create.false) (create_list-is (rows_in stored) (in_order-rows stored c.requires) c.args.user.now c.args.id.now c.args.name.now c.args.owner.now)
