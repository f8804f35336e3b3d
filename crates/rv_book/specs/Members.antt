-- What the index of clients by group holds.
use Rattle.std.specs.Prelude.{ℕ, zero, suc, List, [], ◌∷◌, length, Bool, Option, None, slice_get, option_map, option_and_then, if◌then◌else◌}
use Rattle.std.specs.Option.{option_map_or}
use Rattle.std.specs.Str.{bytes_eq}
use Rattle.rv_book.specs.declared.entry.Entry.{Entry}
use Rattle.rv_book.specs.declared.entry.Entry.TheVariants.{Act, Look, Retire}
use Rattle.rv_book.specs.declared.clients.ClientRow.{ClientRow}
use Rattle.rv_book.specs.Book.{Book, acting_client, group_of}
use Rattle.rv_book.specs.Indexes.{IsIndex, acting, client_of_row, client_row}

-- A group and a client as one key: the group's bytes, each one more, then a 0, then the client's. In the order of such keys
-- the clients of a group stand together, in the order of their own bytes.
abbrev pub member_key : List ℕ → List ℕ → List ℕ
member_key [] client = 0 ∷ client
member_key (byte ∷ group) client = suc byte ∷ member_key group client

-- the client of such a key
abbrev pub client_of_key : List ℕ → List ℕ
client_of_key [] = []
client_of_key (zero ∷ client) = client
client_of_key (suc byte ∷ key) = client_of_key key

-- the group of an act, and nothing of another entry
abbrev pub acting_group : Entry → List ℕ
acting_group (Act user group client id call) = group
acting_group (Look user group order base) = []
acting_group (Retire group) = []

-- the group of a row: that of the act that it names
unfoldable pub group_of_member : Book → ClientRow → List ℕ
group_of_member book row = option_map_or acting_group (slice_get (acting book) row.first) []

abbrev pub key_of_member : Book → ClientRow → List ℕ
key_of_member book row = member_key (group_of_member book row) (client_of_row book row)

abbrev pub is_member : List ℕ → Book → ClientRow → Bool
is_member group book row = bytes_eq (group_of_member book row) group

-- of an act that follows the book: the group that its client is of already
abbrev pub group_before : Book → Entry → Option (List ℕ)
group_before book entry = option_and_then (λ client. group_of client book) (acting_client entry)

-- of a row that names an act: its client, with its last mutation id
abbrev pub info_by : Book → ClientRow → Option (List ℕ × ℕ)
info_by book row = option_map (λ client. (client, row.acts)) (option_and_then acting_client (slice_get (acting book) row.first))

-- the row of a client, where it has a group and the key is that of its group and the client
abbrev pub row_with_key : List ℕ → Book → List ℕ → Option ClientRow
row_with_key key book client = option_and_then (λ group. if bytes_eq key (member_key group client) then client_row book client else None) (group_of client book)

-- the row at a key
unfoldable pub member_row : Book → List ℕ → Option ClientRow
member_row book key = row_with_key key book (client_of_key key)

-- the rows are those of the book's clients, by their groups
abbrev pub AreMemberRows : Book → List ClientRow → Type 0
AreMemberRows book rows = IsIndex (key_of_member book) (λ row. row.first) (length (acting book)) (member_row book) rows
