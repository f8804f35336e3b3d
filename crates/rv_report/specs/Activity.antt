-- The report of who did how much: a line for each user who has an act or a look, in the order of their bytes, and a line on groups.
use Rattle.std.specs.Prelude.{ℕ, List, [], ◌++◌, Bool, false, Option, Some, None, if◌then◌else◌, codes, decimal, count_by, length, map, nat_lt}
use Rattle.std.specs.List.{filter_map, flat_map}
use Rattle.std.specs.Str.{bytes_eq}
use Rattle.rv_base.specs.Sorted.{sorted_by}
use Rattle.rv_rows.specs.declared.call.Call.TheVariants as calls
use Rattle.rv_book.specs.declared.entry.Entry.{Entry}
use Rattle.rv_book.specs.declared.entry.Entry.TheVariants.{Act, Look, Retire}
use Rattle.rv_book.specs.declared.page.Page.{Page}
use Rattle.rv_book.specs.Book.{Book, retired}
use Rattle.rv_report.specs.Texts.{quoted, in_ten}

-- who made an act or a look
abbrev pub entry_user : Entry → Option (List ℕ)
entry_user (Act user group client id call) = Some user
entry_user (Look user group order base) = Some user
entry_user (Retire group) = None

-- the group that an act or a look names
abbrev pub named_group : Entry → Option (List ℕ)
named_group (Act user group client id call) = Some group
named_group (Look user group order base) = Some group
named_group (Retire group) = None

-- texts in the order of their bytes, each once
abbrev pub in_order : List (List ℕ) → List (List ℕ)
in_order texts = sorted_by (λ text. text) texts

abbrev pub users_of : Book → List (List ℕ)
users_of book = in_order (filter_map entry_user book.entries)

-- the groups of the page; one that stands at 0 is none
abbrev pub page_groups : Page → List (List ℕ)
page_groups page = if nat_lt 0 page.at then map (λ group. group.0) page.groups else []

-- the groups of the page, and those that an act or a look names: all that are bound
abbrev pub group_ids : Book → List (List ℕ)
group_ids book = in_order (page_groups book.page ++ filter_map named_group book.entries)

abbrev pub is_act_by : List ℕ → Entry → Bool
is_act_by user (Act other group client id call) = bytes_eq other user
is_act_by user (Look other group order base) = false
is_act_by user (Retire group) = false

-- an act that is no call
abbrev pub is_void_by : List ℕ → Entry → Bool
is_void_by user (Act other group client id (calls.Void reason)) = bytes_eq other user
is_void_by user entry = false

abbrev pub is_look_by : List ℕ → Entry → Bool
is_look_by user (Act other group client id call) = false
is_look_by user (Look other group order base) = bytes_eq other user
is_look_by user (Retire group) = false

-- ACTS VOIDS LOOKS USER
abbrev pub user_text : Book → List ℕ → List ℕ
user_text book user =
    in_ten (count_by (is_act_by user) book.entries) ++ (in_ten (count_by (is_void_by user) book.entries) ++ (in_ten (count_by (is_look_by user) book.entries) ++ (codes " " ++ (quoted user ++ codes "\n"))))

-- how many groups the page, an act or a look names, and how many of them are retired
abbrev pub groups_text : Book → List ℕ
groups_text book = codes "groups " ++ (decimal (length (group_ids book)) ++ (codes " retired " ++ (decimal (count_by (λ group. retired group book) (group_ids book)) ++ codes "\n")))

abbrev pub activity_text : Book → List ℕ
activity_text book = flat_map (user_text book) (users_of book) ++ groups_text book
