-- What closing a book changes: the changes name each place once, and leave the cells of the closed book.
use Rattle.std.proofs.Common.{◌≡◌, ℕ, ◌+◌, ◌^◌, ◌≤◌, ◌<◌, ◌==◌, Bool, true, false, cond, List, [], ◌∷◌, ◌++◌, length, map, Option, Some, None, refl, sym, ap, ◌∙◌, subst, arith, append-nil, inl, inr}
use Rattle.std.specs.List.{filter}
use Rattle.std.specs.Option.{option_map, option_or}
use Rattle.std.proofs.lemmas.Bool.Decides.{Decides-eqb}
use Rattle.rv_base.specs.Sorted.{find_by, InOrder}
use Rattle.rv_base.specs.ArrangedLaws.{in_order-same}
use Rattle.rv_rows.specs.Held.{AreRows, Stored, stored_key}
use Rattle.rv_book.specs.declared.page.Page.{Page}
use Rattle.rv_book.specs.Book.{Book, book_from, bound, group_of, last, last_order, page_client, page_group, retired, size}
use Rattle.rv_book.specs.Entries.{bound_in, group_of_in}
use Rattle.rv_book.specs.Registers.{client_named, clients_of, group_named, groups_of}
use Rattle.rv_book.specs.RegisterLaws.{clients-in_order, found_client, found_group, groups-in_order}
use Rattle.rv_book.specs.SoundPages.{IsOpening}
use Rattle.rv_history.specs.Closing.{SumsUp}
use Rattle.rv_history.specs.ClosingLaws.{closed_bound, closed_group_of, closed_last, closed_last_order, closed_replay, closed_retired}
use Rattle.rv_history.specs.Lawful.{IsLawful}
use Rattle.rv_history.specs.OpeningLaws.{kept_opening, replay_unique}
use Rattle.rv_history.specs.Replay.{IsReplay}
use Rattle.rv_history.specs.ReplayLaws.{stored_in_order}
use Rattle.rv_history.specs.SoundClosingLaws.{retires_bound}
use Rattle.rv_news.specs.Records.{AreRecords, Placed}
use Rattle.rv_keeper.specs.declared.cell.Cell.{Cell}
use Rattle.rv_keeper.specs.declared.change.Change.{Change}
use Rattle.rv_keeper.specs.declared.change.Change.TheVariants.{Put}
use Rattle.rv_keeper.specs.Cells.{AreChanges, changed}
use Rattle.rv_record.specs.PageCells.{PageClient, PageGroup, client_parts, group_parts, page_cells, row_parts}
use Rattle.rv_record.specs.PartLaws.{written}
use Rattle.rv_record.specs.CellTexts.{client_cell, group_cell, page_cell, page_row_cell, page_client_cell, page_group_cell, view_cell}
use Rattle.rv_store.specs.ClosingChanges.{closing_changes, gone_entries, gone_records, gone_rows, put_clients, put_groups, put_rows}
use Rattle.rv_store.specs.ShelfLaws.{OnShelf}
use Rattle.rv_store.specs.StoreCells.{AreCellsOf, cells_of, client_cells, entry_cells, group_cells, row_cells, view_cells}
use Rattle.rv_store.specs.StoreOrderLaws.{arranged, clients-on, groups-on, in_order-records, places_fit, record_key, rows-on}
use Rattle.rv_store.specs.StoreUniqueLaws.{records_unique}
use Rattle.rv_store.proofs.GoneEntries.{entries_are, entries_part}
use Rattle.rv_store.proofs.NextCells.{regroup}
use Rattle.rv_store.proofs.Replacements.{added_is, left_out, put_part, removed_is, removed_part, replaced_is}
use Rattle.rv_store.proofs.ShelfParts.{ArePartsAfter, IsPart, Part, all_cells, all_changes, all_left, kept_is, kept_part, parts_are, parts_leave}

-- ---- The page that the book opened with.

-- the cell of its place, where there is a page
abbrev place_cells : Page → List Cell
place_cells page = cond (page.at == 0) [] (page_cell page.at ∷ [])

place_written : (page : Page) → 1 ≤ page.at → place_cells page ≡ page_cell page.at ∷ []
place_written page from = by (page.at == 0) refl
  where
    by : (b : Bool) → (page.at == 0) ≡ b → cond b [] (page_cell page.at ∷ []) ≡ page_cell page.at ∷ []
    by true none = absurd (let zero : page.at ≡ 0 = (Decides-eqb page.at 0).0 none in omega (arith, zero, from))
    by false there = refl

-- its cells, shelf after shelf
shelf_by_shelf : (page : Page) → IsOpening page → page_cells page ≡ place_cells page ++ (row_parts page.rows ++ (client_parts page.clients ++ (group_parts page.groups ++ [])))
shelf_by_shelf page (inl none) =
    subst (λ (p : Page). page_cells p ≡ place_cells p ++ (row_parts p.rows ++ (client_parts p.clients ++ (group_parts p.groups ++ [])))) (sym none) refl
shelf_by_shelf page (inr (from, sound)) =
    written page from
    ∙ (λ i. page_cell page.at ∷ (row_parts page.rows ++ (client_parts page.clients ++ sym (append-nil (group_parts page.groups)) i)))
    ∙ sym (ap (λ (cells : List Cell). cells ++ (row_parts page.rows ++ (client_parts page.clients ++ (group_parts page.groups ++ [])))) (place_written page from))

rows_ordered : (page : Page) → IsOpening page → AreRows page.rows
rows_ordered page (inl none) = subst (λ (p : Page). AreRows p.rows) (sym none) tt
rows_ordered page (inr (from, sound)) = sound.rows

clients_ordered : (page : Page) → IsOpening page → InOrder (λ (c : PageClient). c.0) page.clients
clients_ordered page (inl none) = subst (λ (p : Page). InOrder (λ (c : PageClient). c.0) p.clients) (sym none) tt
clients_ordered page (inr (from, sound)) = sound.clients

groups_ordered : (page : Page) → IsOpening page → InOrder (λ (g : PageGroup). g.0) page.groups
groups_ordered page (inl none) = subst (λ (p : Page). InOrder (λ (g : PageGroup). g.0) p.groups) (sym none) tt
groups_ordered page (inr (from, sound)) = sound.groups

-- the cell of the new page's place comes in the place of the old one's
abbrev place_part : Page → Page → Part
place_part old new = record { shelf = 6; cells = place_cells old; changes = Put (page_cell new.at) ∷ []; left = page_cell new.at ∷ [] }

place_is : (old new : Page) → IsPart (place_part old new)
place_is old new = record {
  on = elim (old.at == 0) as (λ b. OnShelf 6 (cond b [] (page_cell old.at ∷ []))) [ true ↦ tt | false ↦ (refl, tt) ];
  own = (refl, tt);
  once = (refl, tt);
  leaves = elim (old.at == 0) as (λ b. changed (cond b [] (page_cell old.at ∷ [])) (Put (page_cell new.at) ∷ []) ≡ page_cell new.at ∷ []) [ true ↦ refl | false ↦ refl ];
}

-- rows, clients and groups of a page on their shelves
abbrev row_part : List Stored → List Stored → Part
row_part old new = put_part stored_key 7 (λ s. page_row_cell s.0 s.1) (λ s. refl) (filter (left_out stored_key new) old) new old

abbrev client_part : List PageClient → List PageClient → Part
client_part old new = put_part (λ (c : PageClient). c.0) 8 (λ c. page_client_cell c.0 c.1 c.2) (λ c. refl) [] new old

abbrev group_part : List PageGroup → List PageGroup → Part
group_part old new = put_part (λ (g : PageGroup). g.0) 9 (λ g. page_group_cell g.0 g.1 g.2 g.3) (λ g. refl) [] new old

-- ---- What the book has, the page that sums it up has.

no_image : {A B : Type 0} (f : A → B) (o : Option A) → option_map f o ≡ None → o ≡ None
no_image f None none = refl
no_image f (Some a) none = absurd (cc)

first_none : {A : Type 0} (o p : Option A) → option_or o p ≡ None → o ≡ None
first_none None p none = refl
first_none (Some a) p none = absurd (cc)

module _ (book : Book) (page : Page) (lawful : IsLawful book) (sums : SumsUp book page) where
  abbrev closed : Book
  closed = book_from page []

  clients_stay : (client : List ℕ) → find_by (λ (c : PageClient). c.0) client page.clients ≡ None → page_client client book.page ≡ None
  clients_stay client none =
      let absent : client_named client book ≡ None = sym (ap (λ (clients : List PageClient). find_by (λ c. c.0) client clients) sums.clients ∙ found_client client book) ∙ none in
      let homeless : group_of client book ≡ None = no_image (λ (group : List ℕ). (client, group, last client book)) (group_of client book) absent in
      no_image (λ (c : PageClient). c.1) (page_client client book.page) (first_none _ (group_of_in client book.entries) homeless)

  groups_stay : (group : List ℕ) → find_by (λ (g : PageGroup). g.0) group page.groups ≡ None → page_group group book.page ≡ None
  groups_stay group none =
      let absent : group_named group book ≡ None = sym (ap (λ (groups : List PageGroup). find_by (λ g. g.0) group groups) sums.groups ∙ found_group group book) ∙ none in
      let unbound : bound group book ≡ None = no_image (λ (user : List ℕ). (group, user, last_order group book, retired group book)) (bound group book) absent in
      no_image (λ (g : PageGroup). g.1) (page_group group book.page) (first_none _ (bound_in group book.entries) unbound)

  -- the closed book has the clients and the groups of the book
  same_clients : clients_of closed ≡ clients_of book
  same_clients =
      in_order-same (λ (c : PageClient). c.0) (clients_of closed) (clients_of book) (clients-in_order closed) (clients-in_order book)
      (λ client. found_client client closed ∙ (λ i. option_map (λ group. (client, group, closed_last book page sums client i)) (closed_group_of book page sums client i)) ∙ sym (found_client client book))

  same_groups : groups_of closed ≡ groups_of book
  same_groups =
      let bounds = retires_bound book lawful in
      in_order-same (λ (g : PageGroup). g.0) (groups_of closed) (groups_of book) (groups-in_order closed) (groups-in_order book)
      (λ group.
      found_group group closed
      ∙ (λ i. option_map (λ user. (group, user, closed_last_order book page sums group i, closed_retired book page sums bounds group i)) (closed_bound book page sums group i))
      ∙ sym (found_group group book))

  -- none of its looks is kept, and it has the rows of the book
  no_records : AreRecords closed []
  no_records = record {
    rise = tt;
    each = tt;
    all = λ place stays. absurd (let both = sym stays ∙ kept_opening page place in cc);
  }

  same_rows : (rows : List Stored) → IsReplay book rows → IsReplay closed rows
  same_rows rows replay = subst (IsReplay closed) (replay_unique book page.rows rows sums.rows replay) (closed_replay book page sums)

  -- ---- The shelves.

  module _ (rows : List Stored) (records : List Placed) (small : size book < 2 ^ 32) (replay : IsReplay book rows) (kept : AreRecords book records) where
    records_ordered : InOrder record_key records
    records_ordered = let are = arranged book rows records small replay kept in in_order-records records are.rise (places_fit book rows records are)

    abbrev parts : List Part
    parts =
        entries_part (book.page.at + 1) book.entries
        ∷ kept_part 2 (row_cells rows)
        ∷ kept_part 3 (client_cells book)
        ∷ kept_part 4 (group_cells book)
        ∷ removed_part record_key 5 (λ r. view_cell r.0 r.1) (λ r. refl) records
        ∷ place_part book.page page
        ∷ row_part book.page.rows page.rows
        ∷ client_part book.page.clients page.clients
        ∷ group_part book.page.groups page.groups
        ∷ []

    rows_are : IsPart (row_part book.page.rows page.rows)
    rows_are = replaced_is stored_key 7 (λ s. page_row_cell s.0 s.1) (λ s. refl) page.rows book.page.rows (rows_ordered book.page lawful.opens) (stored_in_order book page.rows sums.rows)

    clients_are : IsPart (client_part book.page.clients page.clients)
    clients_are =
        added_is (λ (c : PageClient). c.0) 8 (λ c. page_client_cell c.0 c.1 c.2) (λ c. refl) page.clients book.page.clients (clients_ordered book.page lawful.opens)
        (subst (InOrder (λ (c : PageClient). c.0)) (sym sums.clients) (clients-in_order book)) clients_stay

    groups_are : IsPart (group_part book.page.groups page.groups)
    groups_are =
        added_is (λ (g : PageGroup). g.0) 9 (λ g. page_group_cell g.0 g.1 g.2 g.3) (λ g. refl) page.groups book.page.groups (groups_ordered book.page lawful.opens)
        (subst (InOrder (λ (g : PageGroup). g.0)) (sym sums.groups) (groups-in_order book)) groups_stay

    page_are : ArePartsAfter 5 (place_part book.page page ∷ row_part book.page.rows page.rows ∷ client_part book.page.clients page.clients ∷ group_part book.page.groups page.groups ∷ [])
    page_are = (omega arith, place_is book.page page, (omega arith, rows_are, (omega arith, clients_are, (omega arith, groups_are, tt))))

    views_are : IsPart (removed_part record_key 5 (λ r. view_cell r.0 r.1) (λ r. refl) records)
    views_are = removed_is record_key 5 (λ r. view_cell r.0 r.1) (λ r. refl) records records_ordered

    they_are : ArePartsAfter 0 parts
    they_are = (
      omega arith,
      entries_are (book.page.at + 1) book.entries (omega (arith, small)),
      (omega arith, kept_is 2 (row_cells rows) (rows-on rows), (omega arith, kept_is 3 (client_cells book) (clients-on book), (omega arith, kept_is 4 (group_cells book) (groups-on book), (omega arith, views_are, page_are)))),
    )

    changes_are : all_changes parts ≡ closing_changes book page records
    changes_are =
        ap (λ (changes : List Change). gone_entries (book.page.at + 1) (length book.entries) ++ (gone_records records ++ Put (page_cell page.at) ∷ ((gone_rows book.page.rows page.rows ++ put_rows page.rows) ++ (put_clients page.clients ++ changes))))
        (append-nil (put_groups page.groups))

    cells_are : cells_of book rows records ≡ all_cells parts
    cells_are =
        ap (λ (cells : List Cell). entry_cells (book.page.at + 1) book.entries ++ cells)
        (regroup (row_cells rows) (client_cells book) (group_cells book) (view_cells records) (page_cells book.page)
        ∙ ap (λ (cells : List Cell). row_cells rows ++ (client_cells book ++ (group_cells book ++ (view_cells records ++ cells)))) (shelf_by_shelf book.page lawful.opens))

    left_are : all_left parts ≡ cells_of closed rows []
    left_are =
        let from : 1 ≤ page.at = (let at = sums.at in omega (arith, at)) in
        let page_is : page_cell page.at ∷ (row_parts page.rows ++ (client_parts page.clients ++ (group_parts page.groups ++ []))) ≡ page_cells page =
        (λ i. page_cell page.at ∷ (row_parts page.rows ++ (client_parts page.clients ++ append-nil (group_parts page.groups) i))) ∙ sym (written page from) in
        let clients : client_cells book ≡ client_cells closed = ap (map (λ (c : PageClient). client_cell c.0 c.1 c.2)) (sym same_clients) in
        let groups : group_cells book ≡ group_cells closed = ap (map (λ (g : PageGroup). group_cell g.0 g.1 g.2 g.3)) (sym same_groups) in
        (λ i. row_cells rows ++ (clients i ++ (groups i ++ page_is i)))
        ∙ sym (regroup (row_cells rows) (client_cells closed) (group_cells closed) [] (page_cells page))

    pub closing_are : AreChanges (closing_changes book page records)
    closing_are = subst AreChanges changes_are (parts_are parts they_are)

    pub closing_leaves : changed (cells_of book rows records) (closing_changes book page records) ≡ cells_of closed rows []
    closing_leaves = (λ i. changed (cells_are i) (sym changes_are i)) ∙ parts_leave 0 parts they_are ∙ left_are

  pub closing_next : (records : List Placed) → size book < 2 ^ 32 → AreRecords book records → (cells : List Cell) → AreCellsOf book cells → AreCellsOf closed (changed cells (closing_changes book page records))
  closing_next records small kept cells are = record {
    rows = are.rows;
    records = [];
    replay = same_rows are.rows are.replay;
    kept = no_records;
    made =
        ap (λ (c : List Cell). changed c (closing_changes book page records)) (are.made ∙ ap (λ (rs : List Placed). cells_of book are.rows rs) (records_unique book are.records records are.kept kept))
        ∙ closing_leaves are.rows records small are.replay kept;
  }
