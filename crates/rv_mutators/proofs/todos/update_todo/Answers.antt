use Rattle.std.proofs.Common.{◌∙◌, sym}
use Rattle.rv_rows.specs.Held.{rows_in}
use Rattle.rv_rows.specs.Keys.{key_text}
use Rattle.rv_rows.specs.declared.key.Kind.TheVariants.{Todo}
use Rattle.rv_rows.specs.HeldLaws.{in_order-rows}
use Rattle.rv_mutators.proofs.Calls.{ok_is, row_found, row_absent, update_todo-allowed, update_todo-refused, update_todo-absent}
use Rattle.rv_mutators.proofs.todos.update_todo.Goals as goal

pub returns-then-may_edit_list_of : goal.returns-then-may_edit_list_of
returns-then-may_edit_list_of c =
    let stored = c.args.tables.now.rows in
    let k = key_text (record { kind = Todo; id = c.args.id.now }) in
    ok_is _ _ _ c.set_fields.ensures (update_todo-allowed (rows_in stored) (in_order-rows stored c.requires) c.args.user.now c.args.id.now c.args.text.now c.args.complete c.args.sort c.in-Some.row.now (row_found k stored (c.in-Some.row.now, c.in-Some._version) c.in-Some.ensures.found) (sym c.may_edit_list_of.ensures ∙ c.if-may_edit_list_of.true))

pub returns-else-may_edit_list_of : goal.returns-else-may_edit_list_of
returns-else-may_edit_list_of c =
    let stored = c.args.tables.now.rows in
    let k = key_text (record { kind = Todo; id = c.args.id.now }) in
    c.nothing.ensures ∙ update_todo-refused (rows_in stored) (in_order-rows stored c.requires) c.args.user.now c.args.id.now c.args.text.now c.args.complete c.args.sort c.in-Some.row.now (row_found k stored (c.in-Some.row.now, c.in-Some._version) c.in-Some.ensures.found) (sym c.may_edit_list_of.ensures ∙ c.if-may_edit_list_of.false)

pub returns-in-None : goal.returns-in-None
returns-in-None c =
    let stored = c.args.tables.now.rows in
    let k = key_text (record { kind = Todo; id = c.args.id.now }) in
    c.nothing-in-None.ensures ∙ update_todo-absent (rows_in stored) (in_order-rows stored c.requires) c.args.user.now c.args.id.now c.args.text.now c.args.complete c.args.sort (row_absent k stored c.in-None.ensures.found)
