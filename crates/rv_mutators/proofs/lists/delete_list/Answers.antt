use Rattle.std.proofs.Common.{◌∙◌, sym}
use Rattle.rv_rows.specs.Held.{rows_in}
use Rattle.rv_rows.specs.HeldLaws.{in_order-rows}
use Rattle.rv_mutators.proofs.Calls.{then_is, else_is, delete_list-is}
use Rattle.rv_mutators.proofs.lists.delete_list.Goals as goal

pub returns-in_ok-keys : goal.returns-in_ok-keys
returns-in_ok-keys c =
    let stored = c.args.tables.now.rows in
    rw (c.none.ensures, c.in_ok-keys.ensures)
    (then_is _ _ _ _ (sym c.owns.ensures ∙ c.if-owns.true) (delete_list-is (rows_in stored) (in_order-rows stored c.requires) c.args.user.now c.args.id.now))

pub returns-else-owns : goal.returns-else-owns
returns-else-owns c =
    let stored = c.args.tables.now.rows in
    c.nothing.ensures ∙ else_is _ _ _ _ (sym c.owns.ensures ∙ c.if-owns.false) (delete_list-is (rows_in stored) (in_order-rows stored c.requires) c.args.user.now c.args.id.now)
