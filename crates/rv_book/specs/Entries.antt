-- Lists of entries, and what is looked up in them.
use Rattle.std.specs.Prelude.{ℕ, List, [], ◌∷◌, Bool, false, Option, Some, None, count_by, if◌then◌else◌}
use Rattle.std.specs.List.{list_any}
use Rattle.std.specs.Str.{bytes_eq}
use Rattle.rv_book.specs.declared.entry.Entry.{Entry}
use Rattle.rv_book.specs.declared.entry.Entry.TheVariants.{Act, Look, Retire}

-- the user of the first act or look that names the group
abbrev pub bound_in : List ℕ → List Entry → Option (List ℕ)
bound_in group [] = None
bound_in group (Act user other client id call ∷ entries) = if bytes_eq other group then Some user else bound_in group entries
bound_in group (Look user other order base ∷ entries) = if bytes_eq other group then Some user else bound_in group entries
bound_in group (Retire other ∷ entries) = bound_in group entries

abbrev pub retires : List ℕ → Entry → Bool
retires group (Act user other client id call) = false
retires group (Look user other order base) = false
retires group (Retire other) = bytes_eq other group

-- an entry retires the group
abbrev pub retired_in : List ℕ → List Entry → Bool
retired_in group entries = list_any (retires group) entries

abbrev pub is_act_of : List ℕ → Entry → Bool
is_act_of client (Act user group actor id call) = bytes_eq actor client
is_act_of client (Look user group order base) = false
is_act_of client (Retire group) = false

-- the number of the client's acts
abbrev pub last_in : List ℕ → List Entry → ℕ
last_in client entries = count_by (is_act_of client) entries

-- the group of the client's first act
abbrev pub group_of_in : List ℕ → List Entry → Option (List ℕ)
group_of_in client [] = None
group_of_in client (Act user group actor id call ∷ entries) = if bytes_eq actor client then Some group else group_of_in client entries
group_of_in client (Look user group order base ∷ entries) = group_of_in client entries
group_of_in client (Retire group ∷ entries) = group_of_in client entries

-- the group's order after one more entry
abbrev pub order_after : List ℕ → ℕ → Entry → ℕ
order_after group before (Act user other client id call) = before
order_after group before (Look user other order base) = if bytes_eq other group then order else before
order_after group before (Retire other) = before
