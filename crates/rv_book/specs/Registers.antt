-- The registers of a book: the clients that the page or an act names, and the groups that the page, an act or a look names, each with what
-- a mutation, a pull or a retirement asks of it.
use Rattle.std.specs.Prelude.{◌≡◌, ℕ, Bool, true, List, ◌++◌, map, Option, Some, None, IsSome, option_map}
use Rattle.std.specs.List.{filter_map}
use Rattle.rv_base.specs.Sorted.{sorted_by}
use Rattle.rv_book.specs.declared.entry.Entry.{Entry}
use Rattle.rv_book.specs.declared.entry.Entry.TheVariants.{Act, Look, Retire}
use Rattle.rv_book.specs.Book.{Book, bound, clients_named, group_of, last, last_order, retired}

-- a client that has a group: its name, its group, and its last mutation id
abbrev pub client_named : List ℕ → Book → Option (List ℕ × List ℕ × ℕ)
client_named client book = option_map (λ group. (client, group, last client book)) (group_of client book)

-- the clients that the page or an act names, in the order of their bytes
abbrev pub clients_of : Book → List (List ℕ × List ℕ × ℕ)
clients_of book = sorted_by (λ client. client.0) (filter_map (λ client. client_named client book) (clients_named book))

-- a group that is bound: its name, the user whom it is bound to, the order of its last look (0 before the first), and whether it is retired
abbrev pub group_named : List ℕ → Book → Option (List ℕ × List ℕ × ℕ × Bool)
group_named group book = option_map (λ user. (group, user, last_order group book, retired group book)) (bound group book)

-- the group that an act or a look names
abbrev pub binding_group : Entry → Option (List ℕ)
binding_group (Act user group client id call) = Some group
binding_group (Look user group order base) = Some group
binding_group (Retire group) = None

-- the groups that the page, an act or a look names, as often as they do
abbrev pub groups_named : Book → List (List ℕ)
groups_named book = map (λ g. g.0) book.page.groups ++ filter_map binding_group book.entries

-- the groups that the page, an act or a look names, in the order of their bytes
abbrev pub groups_of : Book → List (List ℕ × List ℕ × ℕ × Bool)
groups_of book = sorted_by (λ group. group.0) (filter_map (λ group. group_named group book) (groups_named book))

-- each group that is retired is bound, as it is in every lawful book
abbrev pub RetiresBound : Book → Type 0
RetiresBound book = (group : List ℕ) → retired group book ≡ true → IsSome (bound group book)
