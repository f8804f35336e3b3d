-- What the indexes of a book hold, by the definitions of what is looked up in it.
use Rattle.std.specs.Prelude.{◌≡◌, ℕ, suc, ◌+◌, ◌<◌, ◌≤◌, List, [], ◌∷◌, ◌++◌, length, take, map, count_by, Bool, true, false, Option, Some, None, option_map, option_and_then, slice_get, slice_index_or, if◌then◌else◌}
use Rattle.std.specs.Option.{option_map_or, option_or}
use Rattle.std.specs.List.{AllByRecursion}
use Rattle.std.specs.Str.{bytes_eq}
use Rattle.rv_base.specs.Sorted.{find_by, InOrder}
use Rattle.rv_rows.specs.declared.call.Call.TheVariants.{Void}
use Rattle.rv_rows.specs.declared.call.Reason.TheVariants.{UnknownName}
use Rattle.rv_book.specs.declared.entry.Entry.{Entry}
use Rattle.rv_book.specs.declared.entry.Entry.TheVariants.{Act, Look, Retire}
use Rattle.rv_book.specs.declared.clients.ClientRow.{ClientRow}
use Rattle.rv_book.specs.declared.groups.GroupRow.{GroupRow}
use Rattle.rv_book.specs.declared.look.LookRow.{LookRow}
use Rattle.rv_book.specs.declared.page.Page.{Page}
use Rattle.rv_book.specs.Entries.{is_act_of}
use Rattle.rv_book.specs.Book.{Book, last, last_order, retired}
use Rattle.rv_book.specs.Kept.{is_look_of, last_look, look_before, look_of}

-- The rows of an index: in the order of their keys, each naming one of so many entries, and for each key the row that it
-- is to have.
pub record IsIndex {X : Type 0} (key : X → List ℕ) (named : X → ℕ) (count : ℕ) (row_of : List ℕ → Option X) (rows : List X) : Type 0 where
  pub order : InOrder key rows
  pub within : AllByRecursion (λ row. named row < count) rows
  pub found : (k : List ℕ) → find_by key k rows ≡ row_of k

-- the row of the key stands at the index
pub record StandsAt {X : Type 0} (key : X → List ℕ) (k : List ℕ) (rows : List X) (at : ℕ) : Type 0 where
  pub within : at < length rows
  pub is : (d : X) → key (slice_index_or rows at d) ≡ k

-- the index of the first entry that passes the test
abbrev pub first_where : (Entry → Bool) → List Entry → Option ℕ
first_where p [] = None
first_where p (entry ∷ entries) = if p entry then Some 0 else option_map suc (first_where p entries)

-- A client of the page as an act of it, and a group of the page as a look of it. So an index names what stands on the page as it names
-- entries: those of the page come first.
abbrev pub page_act : List ℕ × List ℕ × ℕ → Entry
page_act client = Act [] client.1 client.0 client.2 (Void UnknownName)

abbrev pub page_look : List ℕ × List ℕ × ℕ × Bool → Entry
page_look group = Look group.1 group.0 group.2 None

abbrev pub acting : Book → List Entry
acting book = map page_act book.page.clients ++ book.entries

abbrev pub naming : Book → List Entry
naming book = map page_look book.page.groups ++ book.entries

-- no last mutation id of the page is above its place
abbrev pub LastsFit : Page → Type 0
LastsFit page = AllByRecursion (λ client. client.2 ≤ page.at) page.clients

-- the group of an act
abbrev pub acted_in : Entry → Option (List ℕ)
acted_in (Act user group client id call) = Some group
acted_in (Look user group order base) = None
acted_in (Retire group) = None

-- the client of an act and its group
abbrev pub acting_pair : Entry → Option (List ℕ × List ℕ)
acting_pair (Act user group client id call) = Some (client, group)
acting_pair (Look user group order base) = None
acting_pair (Retire group) = None

-- the client of an act, and nothing of another entry
abbrev pub actor : Entry → List ℕ
actor (Act user group client id call) = client
actor (Look user group order base) = []
actor (Retire group) = []

-- the client of a row: that of the act that it names
unfoldable pub client_of_row : Book → ClientRow → List ℕ
client_of_row book row = option_map_or actor (slice_get (acting book) row.first) []

-- the row of a client that is first named at an index
abbrev pub row_from : Book → List ℕ → ℕ → ClientRow
row_from book client index = record { first = index; acts = last client book }

-- the row of a client, where the page or an act names it
unfoldable pub client_row : Book → List ℕ → Option ClientRow
client_row book client = option_map (row_from book client) (first_where (is_act_of client) (acting book))

-- the rows are those of the book's clients
abbrev pub AreClientRows : Book → List ClientRow → Type 0
AreClientRows book rows = IsIndex (client_of_row book) (λ row. row.first) (length (acting book)) (client_row book) rows

-- the client of an act, the act's group, and a number of acts
abbrev pub acting_with : ℕ → Entry → Option (List ℕ × List ℕ × ℕ)
acting_with acts (Act user group client id call) = Some (client, group, acts)
acting_with acts (Look user group order base) = None
acting_with acts (Retire group) = None

-- what a row says of its client, by the act that it names
abbrev pub info_by_client : Book → ClientRow → Option (List ℕ × List ℕ × ℕ)
info_by_client book row = option_and_then (acting_with row.acts) (slice_get (acting book) row.first)

-- the group that an entry names
abbrev pub named_in : Entry → List ℕ
named_in (Act user group client id call) = group
named_in (Look user group order base) = group
named_in (Retire group) = group

abbrev pub names_group : List ℕ → Entry → Bool
names_group group entry = bytes_eq (named_in entry) group

-- the entry is an act or a look of the group
abbrev pub binds : List ℕ → Entry → Bool
binds group (Act user other client id call) = bytes_eq other group
binds group (Look user other order base) = bytes_eq other group
binds group (Retire other) = false

-- the user of an act or a look
abbrev pub user_of : Entry → Option (List ℕ)
user_of (Act user group client id call) = Some user
user_of (Look user group order base) = Some user
user_of (Retire group) = None

-- the group that an entry names, and the user to whom it binds the group, if it does
abbrev pub naming_pair : Entry → List ℕ × Option (List ℕ)
naming_pair entry = (named_in entry, user_of entry)

-- the group of a row: that of the entry that it names
unfoldable pub group_of_row : Book → GroupRow → List ℕ
group_of_row book row = option_map_or named_in (slice_get (naming book) row.named) []

-- the row of a group, where the page or an entry names it
unfoldable pub group_row : Book → List ℕ → Option GroupRow
group_row book group = option_map (λ index. record {
  named = index;
  bound = first_where (binds group) (naming book);
  order = last_order group book;
  looks = count_by (is_look_of group) book.entries;
  last_look = last_look group book;
  retired = retired group book;
}) (first_where (names_group group) (naming book))

-- the row of a group before the first entry that names it
abbrev pub new_row : ℕ → GroupRow
new_row index = record { named = index; bound = None; order = 0; looks = 0; last_look = None; retired = false }

-- the row of a group after one more entry that names it, which has an index and stands at a place
abbrev pub row_after : ℕ → ℕ → Entry → GroupRow → GroupRow
row_after index place (Act user group client id call) row = record { named = row.named; bound = option_or row.bound (Some index); order = row.order; looks = row.looks; last_look = row.last_look; retired = row.retired }
row_after index place (Look user group order base) row = record { named = row.named; bound = option_or row.bound (Some index); order = order; looks = row.looks + 1; last_look = Some place; retired = row.retired }
row_after index place (Retire group) row = record { named = row.named; bound = row.bound; order = row.order; looks = row.looks; last_look = row.last_look; retired = true }

-- the rows are those of the groups that the page or the book's entries name
abbrev pub AreGroupRows : Book → List GroupRow → Type 0
AreGroupRows book rows = IsIndex (group_of_row book) (λ row. row.named) (length (naming book)) (group_row book) rows

-- the user of a row: that of the act or look that binds its group
abbrev pub user_of_row : Book → GroupRow → Option (List ℕ)
user_of_row book row = option_and_then (λ index. option_and_then user_of (slice_get (naming book) index)) row.bound

-- what a row says of its group, by the entry that it names, where the group is bound
abbrev pub info_by_group : Book → GroupRow → Option (List ℕ × List ℕ × ℕ × Bool)
info_by_group book row = option_and_then (λ entry. option_map (λ user. (named_in entry, user, row.order, row.retired)) (user_of_row book row)) (slice_get (naming book) row.named)

-- of a look at an index: its number among the looks of its group, from 1; and 0 of another entry
unfoldable pub number_at : ℕ → Book → ℕ
number_at index book = option_map_or (λ look. count_by (is_look_of look.1) (take (index + 1) book.entries)) (option_and_then look_of (slice_get book.entries index)) 0

-- of an entry at an index: its number, and where it is a look the place of its group's look before it
unfoldable pub look_row_at : ℕ → Book → LookRow
look_row_at index book = record { number = number_at index book; before = look_before (book.page.at + (index + 1)) book }

-- the look rows are those of the entries, one of each
pub record AreLookRows (book : Book) (look_rows : List LookRow) : Type 0 where
  pub one_each : length look_rows ≡ length book.entries
  pub each : (index : ℕ) → index < length book.entries → slice_get look_rows index ≡ Some (look_row_at index book)
