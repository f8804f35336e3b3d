-- The activity report as it is counted: a tally for each user, entry by entry, and the groups.
use Rattle.std.specs.Prelude.{ℕ, ◌+◌, ◌-◌, ◌<◌, ◌^◌, List, ◌++◌, Bool, true, false, if◌then◌else◌, codes, count_by, decimal, map}
use Rattle.std.specs.Option.{option_map_or}
use Rattle.rv_base.specs.Sorted.{find_by, put_by}
use Rattle.rv_rows.specs.declared.call.Call.{Call}
use Rattle.rv_rows.specs.declared.call.Call.TheVariants as calls
use Rattle.rv_book.specs.declared.entry.Entry.{Entry}
use Rattle.rv_book.specs.declared.entry.Entry.TheVariants.{Act, Look, Retire}
use Rattle.rv_book.specs.Book.{Book}
use Rattle.rv_report.specs.declared.tally.Tally.{Tally}
use Rattle.rv_report.specs.Texts.{quoted, in_ten}
use Rattle.rv_report.specs.Activity.{entry_user, users_of, is_act_by, is_void_by, is_look_by}

-- a user with the tally
abbrev pub Tallied : Type 0
Tallied = List ℕ × Tally

abbrev pub tallied_key : Tallied → List ℕ
tallied_key tallied = tallied.0

abbrev pub no_entries : Tally
no_entries = record { acts = 0; voids = 0; looks = 0 }

-- nothing is called
abbrev pub is_void : Call → Bool
is_void (calls.Void reason) = true
is_void call = false

-- one more entry of the user
abbrev pub with_one : Entry → Tally → Tally
with_one (Act user group client id call) tally = record { acts = tally.acts + 1; voids = (if is_void call then tally.voids + 1 else tally.voids); looks = tally.looks }
with_one (Look user group order base) tally = record { acts = tally.acts; voids = tally.voids; looks = tally.looks + 1 }
with_one (Retire group) tally = tally

-- each number may rise
abbrev pub MayRise : Tally → Type 0
MayRise tally = (tally.acts < 2 ^ 32 - 1) × (tally.voids < 2 ^ 32 - 1) × (tally.looks < 2 ^ 32 - 1)

-- the tally of a user among those so far
abbrev pub tally_in : List ℕ → List Tallied → Tally
tally_in user tallies = option_map_or (λ tallied. tallied.1) (find_by tallied_key user tallies) no_entries

-- the tallies after one more entry
abbrev pub tallied_with : Entry → List Tallied → List Tallied
tallied_with entry tallies = option_map_or (λ user. put_by tallied_key (user, with_one entry (tally_in user tallies)) tallies) (entry_user entry) tallies

-- the tally of a user in a book
abbrev pub tally_of : List ℕ → Book → Tally
tally_of user book = record { acts = count_by (is_act_by user) book.entries; voids = count_by (is_void_by user) book.entries; looks = count_by (is_look_by user) book.entries }

abbrev pub tallies_of : Book → List Tallied
tallies_of book = map (λ user. (user, tally_of user book)) (users_of book)

-- the line of a user
abbrev pub tally_line : Tallied → List ℕ
tally_line tallied =
    in_ten tallied.1.acts ++ (in_ten tallied.1.voids ++ (in_ten tallied.1.looks ++ (codes " " ++ (quoted tallied.0 ++ codes "\n"))))

-- the line on groups
abbrev pub groups_line : ℕ → ℕ → List ℕ
groups_line groups retired = codes "groups " ++ (decimal groups ++ (codes " retired " ++ (decimal retired ++ codes "\n")))
