-- A book: an opening page, none at first, and then entries in order. A page that stands at a place sums up all that came up to it, and the
-- places of the entries go on from there; without a page they count from 1. What is looked up in a book.
use Rattle.std.specs.Prelude.{◌≡◌, ℕ, ◌+◌, ◌-◌, List, [], ◌∷◌, ◌++◌, ◌||◌, length, take, drop, Bool, false, Option, Some, None, slice_get, nat_lt, map, fold, option_map, if◌then◌else◌}
use Rattle.std.specs.Option.{option_map_or, option_or}
use Rattle.std.specs.List.{filter_map}
use Rattle.std.specs.Str.{bytes_eq}
use Rattle.rv_base.specs.Sorted.{find_by, sorted_by}
use Rattle.rv_book.specs.declared.entry.Entry.{Entry}
use Rattle.rv_book.specs.declared.entry.Entry.TheVariants.{Act, Look, Retire}
use Rattle.rv_book.specs.declared.page.Page.{Page}
use Rattle.rv_book.specs.Entries.{bound_in, retired_in, last_in, group_of_in, order_after}

-- no page: it stands at 0, and nothing is on it
abbrev pub no_page : Page
no_page = record { at = 0; rows = []; clients = []; groups = [] }

-- what the page has of a client: the client, its group and its last mutation id
abbrev pub page_client : List ℕ → Page → Option (List ℕ × List ℕ × ℕ)
page_client client page = find_by (λ c. c.0) client page.clients

-- what the page has of a group: the group, its user, the order of its last look, and whether it is retired
abbrev pub page_group : List ℕ → Page → Option (List ℕ × List ℕ × ℕ × Bool)
page_group group page = find_by (λ g. g.0) group page.groups

pub record Book : Type 0 where
  pub page : Page
  pub entries : List Entry

-- the book that opens with this page, and has these entries
abbrev pub book_from : Page → List Entry → Book
book_from page entries = record { page = page; entries = entries }

-- the book as it opens: its page, without entries
abbrev pub opening : Book → Book
opening book = book_from book.page []

-- the book of these entries, without a page
abbrev pub book_of : List Entry → Book
book_of entries = book_from no_page entries

-- the book without a page and without entries
abbrev pub empty_book : Book
empty_book = book_of []

-- how long the book is: the place of its last entry, or of its page
abbrev pub size : Book → ℕ
size book = book.page.at + length book.entries

-- the book up to a place, and the entries since
abbrev pub up_to : ℕ → Book → Book
up_to place book = book_from book.page (take (place - book.page.at) book.entries)

abbrev pub since : ℕ → Book → List Entry
since place book = drop (place - book.page.at) book.entries

-- the book with more entries at its end, and with one
abbrev pub with_entries : Book → List Entry → Book
with_entries book more = book_from book.page (book.entries ++ more)

abbrev pub with_entry : Book → Entry → Book
with_entry book entry = with_entries book (entry ∷ [])

-- the one book goes on from the other
abbrev pub Extends : Book → Book → Type 0
Extends new old = (more : List Entry) × (new ≡ with_entries old more)

-- the entry at a place, which stands after the page's
abbrev pub entry_at : ℕ → Book → Option Entry
entry_at place book = if nat_lt book.page.at place then slice_get book.entries (place - (book.page.at + 1)) else None

-- the user whom a group is bound to: that of the page, or else of the first act or look that names the group
abbrev pub bound : List ℕ → Book → Option (List ℕ)
bound group book = option_or (option_map (λ g. g.1) (page_group group book.page)) (bound_in group book.entries)

-- a group is retired where it is on the page, or an entry retires it
abbrev pub retired : List ℕ → Book → Bool
retired group book = option_map_or (λ g. g.3) (page_group group book.page) false || retired_in group book.entries

-- the client's last mutation id: that of the page, or 0, and the number of its acts
abbrev pub last : List ℕ → Book → ℕ
last client book = option_map_or (λ c. c.2) (page_client client book.page) 0 + last_in client book.entries

-- the client's group: that of the page, or else of its first act
abbrev pub group_of : List ℕ → Book → Option (List ℕ)
group_of client book = option_or (option_map (λ c. c.1) (page_client client book.page)) (group_of_in client book.entries)

-- the order of the group's last look, or else that of the page, or 0
abbrev pub last_order : List ℕ → Book → ℕ
last_order group book = fold (order_after group) (option_map_or (λ g. g.2) (page_group group book.page) 0) book.entries

-- the client's group is this one
abbrev pub belongs : List ℕ → List ℕ → Book → Bool
belongs client group book = option_map_or (λ other. bytes_eq other group) (group_of client book) false

-- the client of an act
abbrev pub acting_client : Entry → Option (List ℕ)
acting_client (Act user group client id call) = Some client
acting_client (Look user group order base) = None
acting_client (Retire group) = None

-- the clients that the page or an act names, as often as they do
abbrev pub clients_named : Book → List (List ℕ)
clients_named book = map (λ c. c.0) book.page.clients ++ filter_map acting_client book.entries

-- a client of the group, with its last mutation id
abbrev pub client_in : List ℕ → Book → List ℕ → Option (List ℕ × ℕ)
client_in group book client = if belongs client group book then Some (client, last client book) else None

-- the group's clients with their last mutation ids, in the order of the clients' bytes
abbrev pub ids : List ℕ → Book → List (List ℕ × ℕ)
ids group book = sorted_by (λ pair. pair.0) (filter_map (client_in group book) (clients_named book))
