-- The numbers of the shelves of a book's cells.
use Rattle.std.specs.Prelude.{ℕ}
use Rattle.rv_keeper.specs.declared.shelf.Shelf.{Shelf}
use Rattle.rv_keeper.specs.declared.shelf.Shelf.TheVariants.{Entries, Rows, Clients, Groups, Views, Page, PageRows, PageClients, PageGroups}

abbrev pub shelf_number : Shelf → ℕ
shelf_number Entries = 1
shelf_number Rows = 2
shelf_number Clients = 3
shelf_number Groups = 4
shelf_number Views = 5
shelf_number Page = 6
shelf_number PageRows = 7
shelf_number PageClients = 8
shelf_number PageGroups = 9
