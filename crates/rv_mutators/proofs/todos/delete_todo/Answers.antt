use Rattle.std.proofs.Common.{◌∙◌, sym}
use Rattle.rv_rows.specs.Held.{rows_in}
use Rattle.rv_rows.specs.Keys.{key_text}
use Rattle.rv_rows.specs.declared.key.Kind.TheVariants.{Todo}
use Rattle.rv_rows.specs.HeldLaws.{in_order-rows}
use Rattle.rv_mutators.proofs.Calls.{ok_is, then_is, else_is, row_found, row_absent, delete_todo-found, delete_todo-absent}
use Rattle.rv_mutators.proofs.todos.delete_todo.Goals as goal

pub returns-in_ok-key-in-Some : goal.returns-in_ok-key-in-Some
returns-in_ok-key-in-Some c =
    let stored = c.args.tables.now.rows in
    let k = key_text (record { kind = Todo; id = c.args.id.now }) in
    ok_is _ _ _ (rw c.in_ok-key-in-Some.ensures at c.removes.ensures)
    (then_is _ _ _ _ (sym c.may_edit_list_of.ensures ∙ c.if-may_edit_list_of.true) (delete_todo-found (rows_in stored) (in_order-rows stored c.requires) c.args.user.now c.args.id.now c.in-Some.row.now (row_found k stored (c.in-Some.row.now, c.in-Some._version) c.in-Some.ensures.found)))

pub returns-else-may_edit_list_of : goal.returns-else-may_edit_list_of
returns-else-may_edit_list_of c =
    let stored = c.args.tables.now.rows in
    let k = key_text (record { kind = Todo; id = c.args.id.now }) in
    c.nothing.ensures ∙ else_is _ _ _ _ (sym c.may_edit_list_of.ensures ∙ c.if-may_edit_list_of.false) (delete_todo-found (rows_in stored) (in_order-rows stored c.requires) c.args.user.now c.args.id.now c.in-Some.row.now (row_found k stored (c.in-Some.row.now, c.in-Some._version) c.in-Some.ensures.found))

pub returns-in-None : goal.returns-in-None
returns-in-None c =
    let stored = c.args.tables.now.rows in
    let k = key_text (record { kind = Todo; id = c.args.id.now }) in
    c.nothing-in-None.ensures ∙ delete_todo-absent (rows_in stored) (in_order-rows stored c.requires) c.args.user.now c.args.id.now (row_absent k stored c.in-None.ensures.found)
