use Rattle.std.proofs.Common.{◌∙◌, sym}
use Rattle.rv_rows.specs.Held.{rows_in}
use Rattle.rv_mutators.proofs.Changed.{changes-none}
use Rattle.rv_rows.specs.HeldLaws.{in_order-rows}
use Rattle.rv_mutators.proofs.staging.changes.Goals as goal

pub returns-in-CreateShare : goal.returns-in-CreateShare
returns-in-CreateShare c = rw c.in-CreateShare.is c.create_share.ensures

pub returns-in-CreateTodo : goal.returns-in-CreateTodo
returns-in-CreateTodo c = rw c.in-CreateTodo.is c.create_todo.ensures

pub returns-in-Void : goal.returns-in-Void
returns-in-Void c =
    let stored = c.args.tables.now.rows in
    rw c.in-Void.is (c.nothing.ensures ∙ sym (changes-none (rows_in stored) (in_order-rows stored c.requires)))
