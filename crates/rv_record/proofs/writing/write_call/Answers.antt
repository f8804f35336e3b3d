use Rattle.rv_record.proofs.writing.write_call.Goals as goal

pub returns-in-DeleteList : goal.returns-in-DeleteList
returns-in-DeleteList c = rw c.in-DeleteList.is c.write_removal.ensures

pub returns-in-DeleteShare : goal.returns-in-DeleteShare
returns-in-DeleteShare c = rw c.in-DeleteShare.is c.write_removal-in-DeleteShare.ensures

pub returns-in-DeleteTodo : goal.returns-in-DeleteTodo
returns-in-DeleteTodo c = rw c.in-DeleteTodo.is c.write_removal-in-DeleteTodo.ensures
