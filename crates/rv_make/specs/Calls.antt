-- What the pushes ask for.
use Rattle.std.specs.Prelude.{ℕ, ◌+◌, ◌%◌, ◌==◌, true, false, Some, None, codes, if◌then◌else◌}
use Rattle.rv_rows.specs.declared.role.Role.TheVariants as roles
use Rattle.rv_rows.specs.declared.call.Call.{Call}
use Rattle.rv_rows.specs.declared.call.Call.TheVariants.{CreateList, DeleteList, CreateShare, DeleteShare, CreateTodo, UpdateTodo, DeleteTodo}
use Rattle.rv_make.specs.Names.{lettered, user_name}

-- The call of a kind, from 0, that the request of this number makes for a user. It is of the row of this number, and of the list of that
-- number mod 5. A list is the user's, and is shared with the next user, who may edit it.
abbrev pub call_of : ℕ → ℕ → ℕ → ℕ → Call
call_of kind user row number =
    let list = lettered (codes "l") (row % 5) in
    let share = lettered (codes "s") row in
    let todo = lettered (codes "t") row in
    let text = lettered (codes "x") number in
    if kind == 0 then CreateList list (lettered (codes "n") (row % 5)) (user_name user)
    else if kind == 1 then DeleteList list
    else if kind == 2 then CreateShare share list (user_name ((user + 1) % 3)) roles.Edit
    else if kind == 3 then DeleteShare share
    else if kind == 4 then CreateTodo todo list text false
    else if kind == 5 then UpdateTodo todo (Some text) (Some true) None
    else DeleteTodo todo
