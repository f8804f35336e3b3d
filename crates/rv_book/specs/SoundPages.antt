-- Pages on which a book may go on: what a page that was made of a book always is.
use Rattle.std.specs.Prelude.{◌≡◌, ℕ, ◌≤◌, Bool, true, false, List, [], ◌∷◌, ◌&&◌, ◌⊎◌, IsSome, map}
use Rattle.std.specs.List.{list_any, AllByRecursion}
use Rattle.std.specs.Option.{option_map_or}
use Rattle.std.specs.Str.{bytes_eq}
use Rattle.rv_base.specs.Sorted.{InOrder}
use Rattle.rv_rows.specs.declared.row.Row.{Row}
use Rattle.rv_rows.specs.declared.row.Row.TheVariants as variants
use Rattle.rv_rows.specs.Held.{AreRows, rows_in}
use Rattle.rv_rows.specs.Sharing.{is_list, list_of, owns}
use Rattle.rv_book.specs.declared.page.Page.{Page}
use Rattle.rv_book.specs.Book.{no_page, page_group}

-- two shares of one list with one user
abbrev pub share_alike : Row → Row → Bool
share_alike (variants.Share a) (variants.Share b) = bytes_eq a.list b.list && bytes_eq a.user b.user
share_alike a b = false

-- no two of the rows are such shares
abbrev pub AreSharedOnce : List Row → Type 0
AreSharedOnce [] = Unit {0}
AreSharedOnce (row ∷ rows) = AllByRecursion (λ later. share_alike row later ≡ false) rows × AreSharedOnce rows

-- a share that names the owner of its list
abbrev pub shared_with_owner : List Row → Row → Bool
shared_with_owner rows (variants.Extent row) = false
shared_with_owner rows (variants.List row) = false
shared_with_owner rows (variants.Share row) = list_any (owns row.user row.list) rows
shared_with_owner rows (variants.Todo row) = false

-- the list that the row is or belongs to is one of the rows, where it has one
abbrev pub has_its_list : List Row → Row → Bool
has_its_list rows row = option_map_or (λ list. list_any (is_list list) rows) (list_of row) true

-- The rows stand in the order of their keys, clients and groups in the order of their bytes, each once. Each share and each todo names a list
-- of the page; no two shares have the same list and user; and no share names its list's owner. Versions and last mutation ids are from 1 to
-- the page's place, and each client's group is one of the page.
pub record IsSoundPage (page : Page) : Type 0 where
  pub rows : AreRows page.rows
  pub clients : InOrder (λ c. c.0) page.clients
  pub groups : InOrder (λ g. g.0) page.groups
  pub listed : AllByRecursion (λ row. has_its_list (rows_in page.rows) row ≡ true) (rows_in page.rows)
  pub once : AreSharedOnce (rows_in page.rows)
  pub others : AllByRecursion (λ row. shared_with_owner (rows_in page.rows) row ≡ false) (rows_in page.rows)
  pub versions : AllByRecursion (λ s. (1 ≤ s.1) × (s.1 ≤ page.at)) page.rows
  pub lasts : AllByRecursion (λ c. (1 ≤ c.2) × (c.2 ≤ page.at)) page.clients
  pub homes : AllByRecursion (λ c. IsSome (page_group c.1 page)) page.clients

-- a book opens without a page, or with a sound one, at a place above 0
abbrev pub IsOpening : Page → Type 0
IsOpening page = (page ≡ no_page) ⊎ ((1 ≤ page.at) × IsSoundPage page)
