use Rattle.std.proofs.Common.{◌∙◌, sym}
use Rattle.rv_rows.specs.Held.{rows_in}
use Rattle.rv_rows.specs.HeldLaws.{in_order-rows}
use Rattle.rv_mutators.proofs.Calls.{ok_is, then_is, else_is, create_todo-is}
use Rattle.rv_mutators.proofs.todos.create_todo.Goals as goal

pub returns-in_ok-copy-in-Some-3 : goal.returns-in_ok-copy-in-Some-3
returns-in_ok-copy-in-Some-3 c =
    let stored = c.args.tables.now.rows in
    ok_is _ _ _ (rw (c.in_ok-copy-in-Some.ensures, c.in_ok-copy-in-Some-2.ensures, c.in-Some.ensures.id, c.in_ok-copy-in-Some-3.ensures, c.sort_after.ensures, c.greatest_sort.ensures) at c.adds.ensures)
    (then_is _ _ _ _ (sym c.in-Some.ensures.allowed) (create_todo-is (rows_in stored) (in_order-rows stored c.requires) c.args.user.now c.args.id.now c.args.list.now c.args.text.now c.args.complete))

pub returns-in-None : goal.returns-in-None
returns-in-None c =
    let stored = c.args.tables.now.rows in
    c.nothing.ensures ∙ else_is _ _ _ _ (sym c.in-None.ensures.allowed) (create_todo-is (rows_in stored) (in_order-rows stored c.requires) c.args.user.now c.args.id.now c.args.list.now c.args.text.now c.args.complete)
