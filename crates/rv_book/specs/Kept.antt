-- Looks, and which of them are kept: a cookie that names a kept look has a base.
use Rattle.std.specs.Prelude.{ℕ, suc, ◌+◌, ◌-◌, ◌==◌, List, [], ◌∷◌, Bool, false, Option, Some, None, ◌&&◌, not, nat_lt, count_by, option_map, option_and_then, find, if◌then◌else◌}
use Rattle.std.specs.List.{range_with_len}
use Rattle.std.specs.Option.{option_map_or, option_or}
use Rattle.std.specs.Str.{bytes_eq}
use Rattle.rv_book.specs.declared.entry.Entry.{Entry}
use Rattle.rv_book.specs.declared.entry.Entry.TheVariants.{Act, Look, Retire}
use Rattle.rv_book.specs.Book.{Book, entry_at, retired, size, up_to, since, with_entry}

-- the user, the group and the order of a look
abbrev pub look_of : Entry → Option (List ℕ × List ℕ × ℕ)
look_of (Act user group client id call) = None
look_of (Look user group order base) = Some (user, group, order)
look_of (Retire group) = None

-- the look at a place
abbrev pub look_at : ℕ → Book → Option (List ℕ × List ℕ × ℕ)
look_at place book = option_and_then look_of (entry_at place book)

abbrev pub is_look_of : List ℕ → Entry → Bool
is_look_of group (Act user other client id call) = false
is_look_of group (Look user other order base) = bytes_eq other group
is_look_of group (Retire other) = false

-- the look at the place is of the group
abbrev pub is_look_at : List ℕ → Book → ℕ → Bool
is_look_at group book place = option_map_or (λ look. bytes_eq look.1 group) (look_at place book) false

-- how many looks of the group stand since a place
abbrev pub later_looks : List ℕ → ℕ → Book → ℕ
later_looks group place book = count_by (is_look_of group) (since place book)

-- the look at a place is kept: its group is not retired, and fewer than 16 later looks of its group stand in the book
unfoldable pub kept : ℕ → Book → Bool
kept place book = option_map_or (λ look. not (retired look.1 book) && nat_lt (later_looks look.1 place book) 16) (look_at place book) false

-- the index of the last entry that passes the test
abbrev pub last_where : (Entry → Bool) → List Entry → Option ℕ
last_where p [] = None
last_where p (entry ∷ entries) = option_or (option_map suc (last_where p entries)) (if p entry then Some 0 else None)

-- the place of the group's last look
unfoldable pub last_look : List ℕ → Book → Option ℕ
last_look group book = option_map (λ index. book.page.at + (index + 1)) (last_where (is_look_of group) book.entries)

-- of the look at a place: the place of its group's look before it
unfoldable pub look_before : ℕ → Book → Option ℕ
look_before place book = option_and_then (λ look. last_look look.1 (up_to (place - 1) book)) (look_at place book)

-- what was found is this place
abbrev pub is_place : ℕ → Option ℕ → Bool
is_place place found = option_map_or (λ other. other == place) found false

-- The look at a place is of the group and kept, and would not be kept any more if one more look of the group stood at the end
-- of the book, whoever pulls and whatever it is answered.
unfoldable pub falls_at : List ℕ → Book → ℕ → Bool
falls_at group book place = is_look_at group book place && kept place book && not (kept place (with_entry book (Look [] group 0 None)))

-- the place of the look that falls out so
unfoldable pub falls_out : List ℕ → Book → Option ℕ
falls_out group book = find (falls_at group book) (range_with_len 1 (size book))
