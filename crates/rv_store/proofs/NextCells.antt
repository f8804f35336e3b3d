-- The changes that an entry makes of the cells of a book name each place once, and leave the cells of the book with the entry.
use Rattle.std.proofs.Common.{◌≡◌, ℕ, ◌+◌, ◌^◌, ◌<◌, ◌≤◌, Bool, true, false, cond, not, List, [], ◌∷◌, ◌++◌, length, Option, Some, None, refl, sym, ap, ◌∙◌, subst, arith, map, append_assoc, append-nil, inl, inr}
use Rattle.std.specs.List.{AllByRecursion, filter}
use Rattle.std.specs.Option.{option_map, option_map_or}
use Rattle.std.specs.Str.{bytes_eq}
use Rattle.std.proofs.lemmas.Slice.Eq.{bytes_eq-Decides}
use Rattle.rv_base.specs.Sorted.{find_by, put_by, InOrder, Distinct, Below}
use Rattle.rv_base.specs.PositionLaws.{differs, find_put, in_order-filter, in_order-put}
use Rattle.rv_base.specs.ArrangedLaws.{distinct-in_order, in_order-same}
use Rattle.rv_rows.specs.declared.call.Call.{Call}
use Rattle.rv_rows.specs.Held.{Stored, rows_in}
use Rattle.rv_rows.specs.HeldLaws.{distinct-rows}
use Rattle.rv_rows.specs.Changes.{after}
use Rattle.rv_mutators.specs.declared.staged.Staged.{Staged}
use Rattle.rv_mutators.specs.Staging.{with_staged, staged}
use Rattle.rv_views.specs.Viewed.{Viewed}
use Rattle.rv_book.specs.declared.entry.Entry.{Entry}
use Rattle.rv_book.specs.declared.entry.Entry.TheVariants.{Act, Look, Retire}
use Rattle.rv_book.specs.Book.{Book, size, with_entry, bound, group_of, last_order, retired}
use Rattle.rv_book.specs.Kept.{is_look_at, falls_out, kept, is_place}
use Rattle.rv_book.specs.Registers.{clients_of, group_named, groups_of}
use Rattle.rv_book.specs.RegisterLaws.{none_but, clients_after_home_act, clients_after_look, clients_after_retire, found_group, groups-in_order, groups_after_act, groups_after_look, groups_after_retire, NoneBut}
use Rattle.rv_history.specs.Lawful.{IsLawfulAfter}
use Rattle.rv_history.specs.Replay.{IsReplay}
use Rattle.rv_history.specs.ReplayLaws.{replay_act, replay_look, replay_retire, stored_in_order}
use Rattle.rv_news.specs.Records.{Placed, AreRecords, IsViewAt}
use Rattle.rv_news.specs.KeptRecordLaws.{records_act, records_look_in_place, records_retire}
use Rattle.rv_keeper.specs.declared.cell.Cell.{Cell}
use Rattle.rv_keeper.specs.declared.change.Change.{Change}
use Rattle.rv_keeper.specs.declared.change.Change.TheVariants.{Put, Remove}
use Rattle.rv_keeper.specs.Cells.{AreChanges, cell_key, change_key, change_shelf, changed}
use Rattle.rv_record.specs.CellTexts.{ten_digits, entry_cell, client_cell, group_cell, view_cell}
use Rattle.rv_record.specs.PlaceOrderLaws.{ten_digits-order}
use Rattle.rv_record.specs.PageCells.{page_cells}
use Rattle.rv_record.specs.PageLaws.{page_cells-on}
use Rattle.rv_store.specs.StoreCells.{entry_cells, row_cells, client_cells, group_cells, view_cells, cells_of, AreCellsOf}
use Rattle.rv_store.specs.StoreOrderLaws.{entries-on, rows-on, clients-on, groups-on, views-on, views-behind, record_key, in_order-records, arranged, places_fit}
use Rattle.rv_history.specs.OpeningLaws.{replay_unique}
use Rattle.rv_store.specs.StoreUniqueLaws.{records_unique}
use Rattle.rv_store.specs.StoreBookLaws.{entry_cells-with_entry}
use Rattle.rv_store.specs.ShelfLaws.{AreOf, AreAfter, Behind, all-append, behind-on, same_shelf, changed-parts, distinct-parts, put-cells, distinct-changes}
use Rattle.rv_store.specs.EntryChanges.{row_changes, act_changes, first_group, gone_view, look_changes, gone_views, retire_changes}
use Rattle.rv_store.proofs.RowChanges.{rows-leave, rows-of, rows-distinct}
use Rattle.rv_store.proofs.ViewChanges.{put-end, gone_views-leave, others_stay, falls_out-within, look_views-leave}

-- the changes are of the shelf, and name each place once
record AreOnce (shelf : ℕ) (changes : List Change) : Type 0 where
  own : AreOf shelf changes
  once : Distinct change_key changes

none_at : (shelf : ℕ) → AreOnce shelf []
none_at shelf = record { own = tt; once = tt }

one_at : (shelf : ℕ) (change : Change) → change_shelf change ≡ shelf → AreOnce shelf (change ∷ [])
one_at shelf change own = record { own = (own, tt); once = (refl, tt) }

pub after_of : (s t : ℕ) (changes : List Change) → s < t → AreOf t changes → AreAfter s changes
after_of s t [] low own = tt
after_of s t (change ∷ changes) low own = (omega (arith, low, own.0), after_of s t changes low own.1)

-- ---- What stands behind the five shelves.

behind_page : (s : ℕ) (cells : List Cell) → s ≤ 5 → AllByRecursion (λ cell. (5 < cell.shelf) × (cell.shelf < 10)) cells → Behind s cells
behind_page s [] low all = tt
behind_page s (cell ∷ cells) low all = (omega (arith, low, all.0.0), behind_page s cells low all.1)

further : (s t : ℕ) (cells : List Cell) → s < t → Behind t cells → Behind s cells
further s t [] low all = tt
further s t (cell ∷ cells) low all = (omega (arith, low, all.0), further s t cells low all.1)

all_of : (s : ℕ) (xs ys : List Cell) → Behind s xs → Behind s ys → Behind s (xs ++ ys)
all_of s xs ys = all-append (λ cell. s < cell.shelf) xs ys

pub regroup : (a b c d e : List Cell) → (a ++ (b ++ (c ++ d))) ++ e ≡ a ++ (b ++ (c ++ (d ++ e)))
regroup a b c d e =
    append_assoc a (b ++ (c ++ d)) e
    ∙ ap (λ (cells : List Cell). a ++ cells) (append_assoc b (c ++ d) e ∙ ap (λ (cells : List Cell). b ++ cells) (append_assoc c d e))

-- Changes of the five shelves, one shelf after another.
module _ (entries rows clients groups views : List Change) (first : AreOnce 1 entries) (second : AreOnce 2 rows) (third : AreOnce 3 clients) (fourth : AreOnce 4 groups) (fifth : AreOnce 5 views) where
  after_fourth : (s : ℕ) → s < 5 → AreAfter s views
  after_fourth s low = after_of s 5 views low fifth.own

  after_third : (s : ℕ) → s < 4 → AreAfter s (groups ++ views)
  after_third s low = all-append (λ change. s < change_shelf change) groups views (after_of s 4 groups low fourth.own) (after_fourth s (omega (arith, low)))

  after_second : (s : ℕ) → s < 3 → AreAfter s (clients ++ (groups ++ views))
  after_second s low = all-append (λ change. s < change_shelf change) clients (groups ++ views) (after_of s 3 clients low third.own) (after_third s (omega (arith, low)))

  after_first : (s : ℕ) → s < 2 → AreAfter s (rows ++ (clients ++ (groups ++ views)))
  after_first s low = all-append (λ change. s < change_shelf change) rows (clients ++ (groups ++ views)) (after_of s 2 rows low second.own) (after_second s (omega (arith, low)))

  -- they name each place once
  five_are : AreChanges (entries ++ (rows ++ (clients ++ (groups ++ views))))
  five_are = record {
    distinct =
        distinct-parts 1 entries (rows ++ (clients ++ (groups ++ views))) first.own (after_first 1 (omega arith)) first.once
        (distinct-parts 2 rows (clients ++ (groups ++ views)) second.own (after_second 2 (omega arith)) second.once
        (distinct-parts 3 clients (groups ++ views) third.own (after_third 3 (omega arith)) third.once
        (distinct-parts 4 groups views fourth.own (after_fourth 4 (omega arith)) fourth.once fifth.once)));
    shelves = all-append (λ change. 0 < change_shelf change) entries (rows ++ (clients ++ (groups ++ views))) (after_of 0 1 entries (omega arith) first.own) (after_first 0 (omega arith));
  }

  -- and each shelf's change its cells alone, and leave the page's
  five_leave : (book : Book) (stored : List Stored) (records : List Placed) → changed (cells_of book stored records) (entries ++ (rows ++ (clients ++ (groups ++ views))))
      ≡ changed (entry_cells (book.page.at + 1) book.entries) entries
      ++ ((changed (row_cells stored) rows ++ (changed (client_cells book) clients ++ (changed (group_cells book) groups ++ changed (view_cells records) views))) ++ page_cells book.page)
  five_leave book stored records =
      let page : List Cell = page_cells book.page in
      let on = page_cells-on book.page in
      let from_views = all_of 4 (view_cells records) page (views-behind records) (behind_page 4 page (omega arith) on) in
      let from_groups = all_of 3 (group_cells book) (view_cells records ++ page) (behind-on 3 4 (group_cells book) (omega arith) (groups-on book)) (further 3 4 (view_cells records ++ page) (omega arith) from_views) in
      let from_clients = all_of 2 (client_cells book) (group_cells book ++ (view_cells records ++ page)) (behind-on 2 3 (client_cells book) (omega arith) (clients-on book)) (further 2 3 (group_cells book ++ (view_cells records ++ page)) (omega arith) from_groups) in
      let from_rows = all_of 1 (row_cells stored) (client_cells book ++ (group_cells book ++ (view_cells records ++ page))) (behind-on 1 2 (row_cells stored) (omega arith) (rows-on stored)) (further 1 2 (client_cells book ++ (group_cells book ++ (view_cells records ++ page))) (omega arith) from_clients) in
      ap (λ (cells : List Cell). changed (entry_cells (book.page.at + 1) book.entries ++ cells) (entries ++ (rows ++ (clients ++ (groups ++ views))))) (regroup (row_cells stored) (client_cells book) (group_cells book) (view_cells records) page)
      ∙ changed-parts 1 (entry_cells (book.page.at + 1) book.entries) (row_cells stored ++ (client_cells book ++ (group_cells book ++ (view_cells records ++ page)))) entries (rows ++ (clients ++ (groups ++ views)))
      (entries-on (book.page.at + 1) book.entries) from_rows first.own (after_first 1 (omega arith))
      ∙ ap (λ (cells : List Cell). changed (entry_cells (book.page.at + 1) book.entries) entries ++ cells)
      (changed-parts 2 (row_cells stored) (client_cells book ++ (group_cells book ++ (view_cells records ++ page))) rows (clients ++ (groups ++ views))
      (rows-on stored) from_clients second.own (after_second 2 (omega arith))
      ∙ ap (λ (cells : List Cell). changed (row_cells stored) rows ++ cells)
      (changed-parts 3 (client_cells book) (group_cells book ++ (view_cells records ++ page)) clients (groups ++ views) (clients-on book) from_groups third.own (after_third 3 (omega arith))
      ∙ ap (λ (cells : List Cell). changed (client_cells book) clients ++ cells)
      (changed-parts 4 (group_cells book) (view_cells records ++ page) groups views (groups-on book) from_views fourth.own (after_fourth 4 (omega arith))
      ∙ ap (λ (cells : List Cell). changed (group_cells book) groups ++ cells)
      (ap (changed (view_cells records ++ page)) (sym (append-nil views)) ∙ changed-parts 5 (view_cells records) page views [] (views-on records) (behind_page 5 page (omega arith) on) fifth.own tt)))
      ∙ sym (regroup (changed (row_cells stored) rows) (changed (client_cells book) clients) (changed (group_cells book) groups) (changed (view_cells records) views) page))

-- The cell of the entry is written after those of the others.
below_end : (place end : ℕ) (entries : List Entry) → place + length entries ≤ end → end < 10 ^ 10 → AllByRecursion (λ y. Below (cell_key y) (1 ∷ ten_digits end)) (entry_cells place entries)
below_end place end [] low fits = tt
below_end place end (entry ∷ entries) low fits =
    (same_shelf 1 (ten_digits place) (ten_digits end) ∙ ten_digits-order place end (omega (arith, low)) fits, below_end (place + 1) end entries (omega (arith, low)) fits)

entries-leave : (book : Book) (entry : Entry) → size book + 1 < 2 ^ 32
    → changed (entry_cells (book.page.at + 1) book.entries) (Put (entry_cell (size book + 1) entry) ∷ []) ≡ entry_cells (book.page.at + 1) (with_entry book entry).entries
entries-leave book entry fits =
    put-end cell_key (entry_cell (size book + 1) entry) (entry_cells (book.page.at + 1) book.entries) (below_end (book.page.at + 1) (size book + 1) book.entries (omega arith) (omega (arith, fits)))
    ∙ ap (λ (place : ℕ). entry_cells (book.page.at + 1) book.entries ++ entry_cell place entry ∷ []) (omega arith)
    ∙ sym (entry_cells-with_entry (book.page.at + 1) book entry)

-- a client's and a group's cell
client-leaves : (book : Book) (client group : List ℕ) (id : ℕ) → changed (client_cells book) (Put (client_cell client group id) ∷ []) ≡ map (λ c. client_cell c.0 c.1 c.2) (put_by (λ (c : List ℕ × List ℕ × ℕ). c.0) (client, group, id) (clients_of book))
client-leaves book client group id = put-cells (λ (c : List ℕ × List ℕ × ℕ). c.0) 3 (λ c. client_cell c.0 c.1 c.2) (λ c. refl) (client, group, id) (clients_of book)

group-leaves : (book : Book) (group user : List ℕ) (order : ℕ) (gone : Bool)
    → changed (group_cells book) (Put (group_cell group user order gone) ∷ []) ≡ map (λ g. group_cell g.0 g.1 g.2 g.3) (put_by (λ (g : List ℕ × List ℕ × ℕ × Bool). g.0) (group, user, order, gone) (groups_of book))
group-leaves book group user order gone = put-cells (λ (g : List ℕ × List ℕ × ℕ × Bool). g.0) 4 (λ g. group_cell g.0 g.1 g.2 g.3) (λ g. refl) (group, user, order, gone) (groups_of book)

-- an item that is there already leaves a list in order as it is
put_same : {X : Type 0} (key : X → List ℕ) (x : X) (xs : List X) → InOrder key xs → find_by key (key x) xs ≡ Some x → put_by key x xs ≡ xs
put_same key x xs order there = in_order-same key (put_by key x xs) xs (in_order-put key x xs order) order (λ k. find_put key k x xs ∙ each k)
  where
    each : (k : List ℕ) → cond (bytes_eq k (key x)) (Some x) (find_by key k xs) ≡ find_by key k xs
    each k =
        elim (bytes_eq k (key x)) as (λ b. bytes_eq k (key x) ≡ b → cond b (Some x) (find_by key k xs) ≡ find_by key k xs) [
          | true ↦ λ e. sym (ap (λ (name : List ℕ). find_by key name xs) ((bytes_eq-Decides k (key x)).0 e) ∙ there)
          | false ↦ λ e. refl
        ] refl

-- An act.
module _ (book : Book) (stored : List Stored) (user group client : List ℕ) (id : ℕ) (call : Call) (change : Staged) (fits : size book + 1 < 2 ^ 32) (replay : IsReplay book stored)
    (lawful : IsLawfulAfter book (Act user group client id call)) (is : change ≡ staged (rows_in stored) user call) where
  abbrev act : Entry
  act = Act user group client id call

  act_rows : AreOnce 2 (row_changes (size book + 1) change)
  act_rows = record {
    own = rows-of (size book + 1) change;
    once = subst (λ (c : Staged). Distinct change_key (row_changes (size book + 1) c)) (sym is) (rows-distinct (size book + 1) (rows_in stored) user call (distinct-rows stored (stored_in_order book stored replay)));
  }

  act_group : AreOnce 4 (first_group book user group)
  act_group = elim (bound group book) as (λ o. AreOnce 4 (option_map_or (λ owner. []) o (Put (group_cell group user (last_order group book) false) ∷ []))) [ None ↦ one_at 4 _ refl | Some owner ↦ none_at 4 ]

  -- nothing comes after the group
  group_last : Put (entry_cell (size book + 1) act) ∷ (row_changes (size book + 1) change ++ Put (client_cell client group id) ∷ (first_group book user group ++ [])) ≡ act_changes book user group client id call change
  group_last = ap (λ (changes : List Change). Put (entry_cell (size book + 1) act) ∷ (row_changes (size book + 1) change ++ Put (client_cell client group id) ∷ changes)) (append-nil (first_group book user group))

  pub act_are : AreChanges (act_changes book user group client id call change)
  act_are =
      subst AreChanges group_last
      (five_are (Put (entry_cell (size book + 1) act) ∷ []) (row_changes (size book + 1) change) (Put (client_cell client group id) ∷ []) (first_group book user group) [] (one_at 1 _ refl) act_rows (one_at 3 _ refl) act_group (none_at 5))

  act_clients : changed (client_cells book) (Put (client_cell client group id) ∷ []) ≡ client_cells (with_entry book act)
  act_clients =
      client-leaves book client group id
      ∙ ap (λ (n : ℕ). map (λ c. client_cell c.0 c.1 c.2) (put_by (λ (c : List ℕ × List ℕ × ℕ). c.0) (client, group, n) (clients_of book))) lawful.2
      ∙ ap (map (λ c. client_cell c.0 c.1 c.2)) (sym (clients_after_home_act book user group client id call (none_but group (group_of client book) lawful.1)))

  new_group : changed (group_cells book) (Put (group_cell group user (last_order group book) false) ∷ []) ≡ group_cells (with_entry book act)
  new_group =
      group-leaves book group user (last_order group book) false
      ∙ ap (λ (b : Bool). map (λ g. group_cell g.0 g.1 g.2 g.3) (put_by (λ (g : List ℕ × List ℕ × ℕ × Bool). g.0) (group, user, last_order group book, b) (groups_of book))) (sym lawful.0.stands)
      ∙ ap (map (λ g. group_cell g.0 g.1 g.2 g.3)) (sym (groups_after_act book user group client id call (none_but user (bound group book) lawful.0.own)))

  -- a group that is bound is what it was
  known_group : (owner : List ℕ) → bound group book ≡ Some owner → group_cells book ≡ group_cells (with_entry book act)
  known_group owner is =
      let free = none_but user (bound group book) lawful.0.own in
      let named : group_named group book ≡ Some (group, user, last_order group book, retired group book) = ap (option_map (λ (name : List ℕ). (group, name, last_order group book, retired group book))) (bound_to owner is free) in
      ap (map (λ g. group_cell g.0 g.1 g.2 g.3))
      (sym (put_same (λ (g : List ℕ × List ℕ × ℕ × Bool). g.0) (group, user, last_order group book, retired group book) (groups_of book) (groups-in_order book) (found_group group book ∙ named))
      ∙ sym (groups_after_act book user group client id call free))
    where
      bound_to : (owner : List ℕ) → bound group book ≡ Some owner → NoneBut user (bound group book) → bound group book ≡ Some user
      bound_to owner is (inl none) = absurd (let both : Some owner ≡ None = sym is ∙ none in cc)
      bound_to owner is (inr same) = same

  act_groups : changed (group_cells book) (first_group book user group) ≡ group_cells (with_entry book act)
  act_groups =
      elim (bound group book) as (λ o. bound group book ≡ o → changed (group_cells book) (option_map_or (λ owner. []) o (Put (group_cell group user (last_order group book) false) ∷ [])) ≡ group_cells (with_entry book act)) [
        | None ↦ λ none. new_group
        | Some owner ↦ λ is. known_group owner is
      ] refl

  act_leaves : (records : List Placed) → changed (cells_of book stored records) (act_changes book user group client id call change) ≡ cells_of (with_entry book act) (with_staged (size book + 1) change stored) records
  act_leaves records =
      ap (changed (cells_of book stored records)) (sym group_last)
      ∙ five_leave (Put (entry_cell (size book + 1) act) ∷ []) (row_changes (size book + 1) change) (Put (client_cell client group id) ∷ []) (first_group book user group) []
      (one_at 1 _ refl) act_rows (one_at 3 _ refl) act_group (none_at 5) book stored records
      ∙ (λ i. entries-leave book act fits i ++ ((rows-leave (size book + 1) change stored i ++ (act_clients i ++ (act_groups i ++ view_cells records))) ++ page_cells book.page))

  pub act_next : ((version : ℕ) → with_staged version change stored ≡ after stored user call version) → (cells : List Cell) → AreCellsOf book cells
      → AreCellsOf (with_entry book act) (changed cells (act_changes book user group client id call change))
  act_next effect cells are = record {
    rows = with_staged (size book + 1) change stored;
    records = are.records;
    replay = subst (IsReplay (with_entry book act)) (sym (effect (size book + 1))) (replay_act book stored user group client id call replay);
    kept = records_act book user group client id call are.records are.kept;
    made =
        ap (λ (c : List Cell). changed c (act_changes book user group client id call change)) (are.made ∙ ap (λ (rows : List Stored). cells_of book rows are.records) (replay_unique book are.rows stored are.replay replay))
        ∙ act_leaves are.records;
  }

-- A look.
module _ (book : Book) (user group : List ℕ) (order : ℕ) (base : Option ℕ) (viewed : Viewed) (fits : size book + 1 < 2 ^ 32) (lawful : IsLawfulAfter book (Look user group order base)) where
  abbrev look : Entry
  look = Look user group order base

  abbrev view_changes : List Change
  view_changes = gone_view (falls_out group book) ++ Put (view_cell (size book + 1) viewed) ∷ []

  look_views : AreOnce 5 view_changes
  look_views = once_of (falls_out group book) (falls_out-within group book)
    where
      once_of : (o : Option ℕ) → ((place : ℕ) → o ≡ Some place → place ≤ size book) → AreOnce 5 (gone_view o ++ Put (view_cell (size book + 1) viewed) ∷ [])
      once_of None within = one_at 5 _ refl
      once_of (Some place) within =
          let new : ℕ = size book + 1 in
          let below : Below (ten_digits place) (ten_digits new) = ten_digits-order place new (omega (arith, within place refl)) (omega (arith, fits)) in
          let apart : bytes_eq (5 ∷ ten_digits place) (5 ∷ ten_digits new) ≡ false = differs (5 ∷ ten_digits place) (5 ∷ ten_digits new) (same_shelf 5 (ten_digits place) (ten_digits new) ∙ below) in
          record { own = (refl, (refl, tt)); once = (rw apart refl, (refl, tt)) }

  pub look_are : AreChanges (look_changes book user group order base viewed)
  look_are =
      five_are (Put (entry_cell (size book + 1) look) ∷ []) [] [] (Put (group_cell group user order false) ∷ []) view_changes
      (one_at 1 _ refl) (none_at 2) (none_at 3) (one_at 4 _ refl) look_views

  look_groups : changed (group_cells book) (Put (group_cell group user order false) ∷ []) ≡ group_cells (with_entry book look)
  look_groups =
      group-leaves book group user order false
      ∙ ap (λ (b : Bool). map (λ g. group_cell g.0 g.1 g.2 g.3) (put_by (λ (g : List ℕ × List ℕ × ℕ × Bool). g.0) (group, user, order, b) (groups_of book))) (sym lawful.0.stands)
      ∙ ap (map (λ g. group_cell g.0 g.1 g.2 g.3)) (sym (groups_after_look book user group order base (none_but user (bound group book) lawful.0.own)))

  abbrev records_left : List Placed → List Placed
  records_left records = filter (λ r. not (is_place r.0 (falls_out group book))) records ++ (size book + 1, viewed) ∷ []

  look_leaves : (stored : List Stored) (records : List Placed) → AllByRecursion (λ r. r.0 ≤ size book) records
      → changed (cells_of book stored records) (look_changes book user group order base viewed) ≡ cells_of (with_entry book look) stored (records_left records)
  look_leaves stored records within =
      let views : changed (view_cells records) view_changes ≡ view_cells (records_left records) =
      look_views-leave (falls_out group book) records (size book + 1) viewed (omega (arith, fits)) (λ place is. omega (arith, falls_out-within group book place is)) (all records within) in
      let clients : client_cells book ≡ client_cells (with_entry book look) = ap (map (λ c. client_cell c.0 c.1 c.2)) (sym (clients_after_look book user group order base)) in
      five_leave (Put (entry_cell (size book + 1) look) ∷ []) [] [] (Put (group_cell group user order false) ∷ []) view_changes
      (one_at 1 _ refl) (none_at 2) (none_at 3) (one_at 4 _ refl) look_views book stored records
      ∙ (λ i. entries-leave book look fits i ++ ((row_cells stored ++ (clients i ++ (look_groups i ++ views i))) ++ page_cells book.page))
    where
      all : (rs : List Placed) → AllByRecursion (λ r. r.0 ≤ size book) rs → AllByRecursion (λ r. r.0 < size book + 1) rs
      all [] each = tt
      all (r ∷ rs) each = (omega (arith, each.0), all rs each.1)

  pub look_next : IsViewAt book user group viewed → (cells : List Cell) → AreCellsOf book cells → AreCellsOf (with_entry book look) (changed cells (look_changes book user group order base viewed))
  look_next shown cells are = record {
    rows = are.rows;
    records = records_left are.records;
    replay = replay_look book are.rows user group order base are.replay;
    kept = records_look_in_place book user group order base viewed are.records are.kept shown lawful.0.stands;
    made =
        ap (λ (c : List Cell). changed c (look_changes book user group order base viewed)) are.made
        ∙ look_leaves are.rows are.records (arranged book are.rows are.records (omega (arith, fits)) are.replay are.kept).places;
  }

-- A retirement of a group that is bound to the user.
module _ (book : Book) (group user : List ℕ) (records : List Placed) (fits : size book + 1 < 2 ^ 32) (kept_records : AreRecords book records) (owned : bound group book ≡ Some user) where
  records_order : (stored : List Stored) → IsReplay book stored → InOrder record_key records
  records_order stored replay = let are = arranged book stored records (omega (arith, fits)) replay kept_records in in_order-records records are.rise (places_fit book stored records are)

  retire_views : (stored : List Stored) → IsReplay book stored → AreOnce 5 (gone_views group book records)
  retire_views stored replay = record {
    own = all (filter (λ r. is_look_at group book r.0) records);
    once = distinct-changes record_key 5 (λ r. Remove 5 (ten_digits r.0)) (λ r. refl) (filter (λ r. is_look_at group book r.0) records)
        (distinct-in_order record_key _ (in_order-filter record_key (λ r. is_look_at group book r.0) records (records_order stored replay)));
  }
    where
      all : (rs : List Placed) → AreOf 5 (map (λ r. Remove 5 (ten_digits r.0)) rs)
      all [] = tt
      all (r ∷ rs) = (refl, all rs)

  pub retire_are : (stored : List Stored) → IsReplay book stored → AreChanges (retire_changes book group user records)
  retire_are stored replay =
      five_are (Put (entry_cell (size book + 1) (Retire group)) ∷ []) [] [] (Put (group_cell group user (last_order group book) true) ∷ []) (gone_views group book records)
      (one_at 1 _ refl) (none_at 2) (none_at 3) (one_at 4 _ refl) (retire_views stored replay)

  retire_groups : changed (group_cells book) (Put (group_cell group user (last_order group book) true) ∷ []) ≡ group_cells (with_entry book (Retire group))
  retire_groups = group-leaves book group user (last_order group book) true ∙ ap (map (λ g. group_cell g.0 g.1 g.2 g.3)) (sym (groups_after_retire book group user owned))

  abbrev others : List Placed
  others = filter (λ r. kept r.0 (with_entry book (Retire group))) records

  retire_leaves : (stored : List Stored) → IsReplay book stored → changed (cells_of book stored records) (retire_changes book group user records) ≡ cells_of (with_entry book (Retire group)) stored others
  retire_leaves stored replay =
      let views : changed (view_cells records) (gone_views group book records) ≡ view_cells others =
      gone_views-leave group book records (records_order stored replay) ∙ ap view_cells (others_stay book group records kept_records.each) in
      let clients : client_cells book ≡ client_cells (with_entry book (Retire group)) = ap (map (λ c. client_cell c.0 c.1 c.2)) (sym (clients_after_retire book group)) in
      five_leave (Put (entry_cell (size book + 1) (Retire group)) ∷ []) [] [] (Put (group_cell group user (last_order group book) true) ∷ []) (gone_views group book records)
      (one_at 1 _ refl) (none_at 2) (none_at 3) (one_at 4 _ refl) (retire_views stored replay) book stored records
      ∙ (λ i. entries-leave book (Retire group) fits i ++ ((row_cells stored ++ (clients i ++ (retire_groups i ++ views i))) ++ page_cells book.page))

  pub retire_next : (cells : List Cell) → AreCellsOf book cells → AreCellsOf (with_entry book (Retire group)) (changed cells (retire_changes book group user records))
  retire_next cells are = record {
    rows = are.rows;
    records = others;
    replay = replay_retire book are.rows group are.replay;
    kept = records_retire book group records kept_records;
    made =
        ap (λ (c : List Cell). changed c (retire_changes book group user records)) (are.made ∙ ap (λ (rs : List Placed). cells_of book are.rows rs) (records_unique book are.records records are.kept kept_records))
        ∙ retire_leaves are.rows are.replay;
  }
