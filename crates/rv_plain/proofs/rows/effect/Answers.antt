use Rattle.rv_plain.proofs.rows.effect.Goals as goal

pub returns-in-CreateShare : goal.returns-in-CreateShare
returns-in-CreateShare c = rw (c.in-CreateShare.is) c.create_share.ensures

pub returns-in-CreateTodo : goal.returns-in-CreateTodo
returns-in-CreateTodo c = rw (c.in-CreateTodo.is) c.create_todo.ensures
