-- What a share lets its user do: one with role view lets the user see the list, one with role edit also add, change and
-- remove its todos.
use Rattle.std.specs.Prelude.{ℕ, Bool, true, false, List, codes, Option, Some, None, if◌then◌else◌}
use Rattle.std.specs.Str.{bytes_eq}
use Rattle.rv_rows.specs.declared.role.Role.{Role}
use Rattle.rv_rows.specs.declared.role.Role.TheVariants as roles

-- the role's text
abbrev pub role_text : Role → List ℕ
role_text roles.View = codes "view"
role_text roles.Edit = codes "edit"

-- the role with this text
abbrev pub role_named : List ℕ → Option Role
role_named text = if bytes_eq text (codes "view") then Some roles.View else if bytes_eq text (codes "edit") then Some roles.Edit else None

-- the role lets its user add, change and remove todos
abbrev pub is_edit : Role → Bool
is_edit roles.View = false
is_edit roles.Edit = true

-- the two are the same
abbrev pub same_role : Role → Role → Bool
same_role roles.View roles.View = true
same_role roles.View roles.Edit = false
same_role roles.Edit roles.View = false
same_role roles.Edit roles.Edit = true
