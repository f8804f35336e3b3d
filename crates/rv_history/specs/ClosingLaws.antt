-- What is asked of a book is answered alike by the page that sums it up: clients and groups, their ids and orders, and the rows with their
-- versions. So ids, orders and versions go on from the page as they would from the book.
use Rattle.std.proofs.Common.{◌≡◌, ℕ, zero, ◌+◌, ◌≤◌, ◌||◌, Bool, true, false, cond, List, [], ◌∷◌, Option, Some, None, refl, sym, ap, ◌∙◌, subst, arith, map, inr}
use Rattle.std.specs.List.{filter_map, fold, AllByRecursion}
use Rattle.std.specs.Option.{option_map, option_map_or, option_or, is_some, IsSome}
use Rattle.std.specs.Str.{bytes_eq}
use Rattle.std.proofs.Math.Bool.{or-false}
use Rattle.rv_base.specs.Sorted.{find_by, sorted_by, InOrder}
use Rattle.rv_base.specs.ArrangedLaws.{in_order-same, sorted-sorted}
use Rattle.rv_base.specs.PositionLaws.{in_order-sorted}
use Rattle.std.proofs.lemmas.Option.{same_Some}
use Rattle.rv_rows.specs.declared.row.Row.{Row}
use Rattle.rv_rows.specs.Keys.{row_text, in_key_order}
use Rattle.rv_rows.specs.Held.{Stored, find, rows_in}
use Rattle.rv_book.specs.declared.entry.Entry.{Entry}
use Rattle.rv_book.specs.declared.entry.Entry.TheVariants.{Act, Look, Retire}
use Rattle.rv_book.specs.declared.page.Page.{Page}
use Rattle.rv_book.specs.Entries.{bound_in, group_of_in, last_in, order_after}
use Rattle.rv_book.specs.Book.{Book, belongs, book_from, bound, client_in, clients_named, group_of, ids, last, last_order, page_client, page_group, retired, size}
use Rattle.rv_book.specs.Registers.{client_named, clients_of, group_named, groups_of, RetiresBound}
use Rattle.rv_book.specs.RegisterLaws.{client_is_named, find-info, found_client, found_group}
use Rattle.rv_history.specs.Replay.{page_rows, rows_of, IsLastWrite, IsReplay}
use Rattle.rv_history.specs.ReplayLaws.{all_found, each_found, last_within, stored_in_order}
use Rattle.rv_history.specs.LawfulBookLaws.{last_cons}
use Rattle.rv_history.specs.Closing.{SumsUp}

or_none : {X : Type 0} (o : Option X) → option_or o None ≡ o
or_none None = refl
or_none (Some x) = refl

back : {A X : Type 0} (f : A → X) (g : X → A) (o : Option A) → ((a : A) → g (f a) ≡ a) → option_map g (option_map f o) ≡ o
back f g None is = refl
back f g (Some a) is = ap Some (is a)

first_none : {X : Type 0} (o p : Option X) → option_or o p ≡ None → o ≡ None
first_none None p is = refl
first_none (Some x) p is = is

second_none : {X : Type 0} (o p : Option X) → option_or o p ≡ None → p ≡ None
second_none None p is = is
second_none (Some x) p is = absurd (cc)

-- a client without a group has no act
no_acts_in : (client : List ℕ) (entries : List Entry) → group_of_in client entries ≡ None → last_in client entries ≡ 0
no_acts_in client [] none = refl
no_acts_in client (Act user group actor id call ∷ entries) none = by (bytes_eq actor client) refl none (no_acts_in client entries)
  where
    by : (b : Bool) → bytes_eq actor client ≡ b → cond b (Some group) (group_of_in client entries) ≡ None → (group_of_in client entries ≡ None → last_in client entries ≡ 0) → last_in client (Act user group actor id call ∷ entries) ≡ 0
    by true same absent rest = absurd (cc)
    by false other absent rest = last_cons client entries (Act user group actor id call) ∙ (ap (λ (b : Bool). cond b 1 0 + last_in client entries) other ∙ omega (arith, rest absent))
no_acts_in client (Look user group order base ∷ entries) none = last_cons client entries (Look user group order base) ∙ omega (arith, no_acts_in client entries none)
no_acts_in client (Retire group ∷ entries) none = last_cons client entries (Retire group) ∙ omega (arith, no_acts_in client entries none)

no_group : {A : Type 0} (f : A → List ℕ) (o : Option A) → option_map f o ≡ None → o ≡ None
no_group f None none = refl
no_group f (Some a) none = absurd (cc)

pub groupless_last : (client : List ℕ) (book : Book) → group_of client book ≡ None → last client book ≡ 0
groupless_last client book none =
    let page = no_group (λ (c : List ℕ × List ℕ × ℕ). c.1) (page_client client book.page) (first_none _ (group_of_in client book.entries) none) in
    let early : option_map_or (λ (c : List ℕ × List ℕ × ℕ). c.2) (page_client client book.page) 0 ≡ 0 = ap (λ (o : Option (List ℕ × List ℕ × ℕ)). option_map_or (λ c. c.2) o 0) page in
    omega (arith, early, no_acts_in client book.entries (second_none (option_map (λ (c : List ℕ × List ℕ × ℕ). c.1) (page_client client book.page)) _ none))

-- a group that is not bound has no look
no_looks_in : (group : List ℕ) (start : ℕ) (entries : List Entry) → bound_in group entries ≡ None → fold (order_after group) start entries ≡ start
no_looks_in group start [] none = refl
no_looks_in group start (Act user other client id call ∷ entries) none = by (bytes_eq other group) none (no_looks_in group start entries)
  where
    by : (b : Bool) → cond b (Some user) (bound_in group entries) ≡ None → (bound_in group entries ≡ None → fold (order_after group) start entries ≡ start) → fold (order_after group) start entries ≡ start
    by true absent rest = absurd (cc)
    by false absent rest = rest absent
no_looks_in group start (Look user other order base ∷ entries) none = by (bytes_eq other group) none (no_looks_in group start entries)
  where
    by : (b : Bool) → cond b (Some user) (bound_in group entries) ≡ None → (bound_in group entries ≡ None → fold (order_after group) start entries ≡ start) → fold (order_after group) (cond b order start) entries ≡ start
    by true absent rest = absurd (cc)
    by false absent rest = rest absent
no_looks_in group start (Retire other ∷ entries) none = no_looks_in group start entries none

no_page_group : (o : Option (List ℕ × List ℕ × ℕ × Bool)) → option_map (λ g. g.1) o ≡ None → o ≡ None
no_page_group None none = refl
no_page_group (Some g) none = absurd (cc)

pub unbound_order : (group : List ℕ) (book : Book) → bound group book ≡ None → last_order group book ≡ 0
unbound_order group book none =
    let page = no_page_group (page_group group book.page) (first_none _ (bound_in group book.entries) none) in
    let entries = second_none (option_map (λ (g : List ℕ × List ℕ × ℕ × Bool). g.1) (page_group group book.page)) _ none in
    no_looks_in group (option_map_or (λ g. g.2) (page_group group book.page) 0) book.entries entries ∙ ap (λ (o : Option (List ℕ × List ℕ × ℕ × Bool)). option_map_or (λ g. g.2) o 0) page

module _ (book : Book) (page : Page) (sums : SumsUp book page) where
  abbrev closed : Book
  closed = book_from page []

  client_there : (client : List ℕ) → page_client client page ≡ client_named client book
  client_there client = ap (λ (clients : List (List ℕ × List ℕ × ℕ)). find_by (λ c. c.0) client clients) sums.clients ∙ found_client client book

  group_there : (group : List ℕ) → page_group group page ≡ group_named group book
  group_there group = ap (λ (groups : List (List ℕ × List ℕ × ℕ × Bool)). find_by (λ g. g.0) group groups) sums.groups ∙ found_group group book

  pub closed_group_of : (client : List ℕ) → group_of client closed ≡ group_of client book
  closed_group_of client =
      or_none (option_map (λ (c : List ℕ × List ℕ × ℕ). c.1) (page_client client page))
      ∙ ap (option_map (λ (c : List ℕ × List ℕ × ℕ). c.1)) (client_there client)
      ∙ back (λ (group : List ℕ). (client, group, last client book)) (λ (c : List ℕ × List ℕ × ℕ). c.1) (group_of client book) (λ group. refl)

  pub closed_last : (client : List ℕ) → last client closed ≡ last client book
  closed_last client =
      let there : option_map_or (λ (c : List ℕ × List ℕ × ℕ). c.2) (page_client client page) 0 ≡ last client book =
      ap (λ (o : Option (List ℕ × List ℕ × ℕ)). option_map_or (λ c. c.2) o 0) (client_there client) ∙ by (group_of client book) refl in
      omega (arith, there)
    where
      by : (o : Option (List ℕ)) → group_of client book ≡ o → option_map_or (λ (c : List ℕ × List ℕ × ℕ). c.2) (option_map (λ group. (client, group, last client book)) o) 0 ≡ last client book
      by None none = sym (groupless_last client book none)
      by (Some group) some = refl

  pub closed_bound : (group : List ℕ) → bound group closed ≡ bound group book
  closed_bound group =
      or_none (option_map (λ (g : List ℕ × List ℕ × ℕ × Bool). g.1) (page_group group page))
      ∙ ap (option_map (λ (g : List ℕ × List ℕ × ℕ × Bool). g.1)) (group_there group)
      ∙ back (λ (user : List ℕ). (group, user, last_order group book, retired group book)) (λ (g : List ℕ × List ℕ × ℕ × Bool). g.1) (bound group book) (λ user. refl)

  pub closed_last_order : (group : List ℕ) → last_order group closed ≡ last_order group book
  closed_last_order group =
      ap (λ (o : Option (List ℕ × List ℕ × ℕ × Bool)). option_map_or (λ g. g.2) o 0) (group_there group) ∙ by (bound group book) refl
    where
      by : (o : Option (List ℕ)) → bound group book ≡ o → option_map_or (λ (g : List ℕ × List ℕ × ℕ × Bool). g.2) (option_map (λ user. (group, user, last_order group book, retired group book)) o) 0 ≡ last_order group book
      by None none = sym (unbound_order group book none)
      by (Some user) some = refl

  pub closed_retired : RetiresBound book → (group : List ℕ) → retired group closed ≡ retired group book
  closed_retired bounds group =
      or-false (option_map_or (λ (g : List ℕ × List ℕ × ℕ × Bool). g.3) (page_group group page) false)
      ∙ ap (λ (o : Option (List ℕ × List ℕ × ℕ × Bool)). option_map_or (λ g. g.3) o false) (group_there group)
      ∙ by (bound group book) refl
    where
      stands : (b : Bool) → retired group book ≡ b → bound group book ≡ None → false ≡ b
      stands false is none = refl
      stands true is none = absurd (let some : IsSome (bound group book) = bounds group is in let not : is_some (bound group book) ≡ false = ap (λ (o : Option (List ℕ)). is_some o) none in cc)

      by : (o : Option (List ℕ)) → bound group book ≡ o → option_map_or (λ (g : List ℕ × List ℕ × ℕ × Bool). g.3) (option_map (λ user. (group, user, last_order group book, retired group book)) o) false ≡ retired group book
      by None none = stands (retired group book) refl none
      by (Some user) some = refl

  -- the rows are those of the book, in the order of their keys
  pub closed_rows : rows_of closed ≡ in_key_order (rows_of book)
  closed_rows = ap in_key_order sums.rows.rows ∙ sorted-sorted row_text (rows_of book)

  -- and each has the version that it had
  pub closed_replay : IsReplay closed page.rows
  closed_replay = record {
    rows = sums.rows.rows ∙ sym (sorted-sorted row_text (rows_of book)) ∙ ap in_key_order (sym closed_rows);
    versions = each page.rows (each_found (λ (s : Stored). row_text s.0) page.rows (stored_in_order book page.rows sums.rows)) sums.rows.versions;
  }
    where
      each : (rows : List Stored) → AllByRecursion (λ s. find (row_text s.0) page.rows ≡ Some s) rows → AllByRecursion (λ s. IsLastWrite book (row_text s.0) s.1) rows → AllByRecursion (λ s. IsLastWrite closed (row_text s.0) s.1) rows
      each [] found writes = tt
      each (s ∷ rows) found writes = (
        record {
          wrote = inr (omega (arith, last_within book (row_text s.0) s.1 writes.0, sums.at), ap (option_map (λ (t : Stored). t.1)) found.0);
          last = λ later lt wrote. absurd (let first = wrote.first in let within = wrote.within in omega (arith, first, within));
        },
        each rows found.1 writes.1,
      )

-- the clients of a group with their last mutation ids, as they are found
client_keyed : (group : List ℕ) (book : Book) (other : List ℕ) (pair : List ℕ × ℕ) → client_in group book other ≡ Some pair → pair.0 ≡ other
client_keyed group book other pair is = by (belongs other group book) is
  where
    by : (b : Bool) → cond b (Some (other, last other book)) None ≡ Some pair → pair.0 ≡ other
    by true told = sym (ap (λ (p : List ℕ × ℕ). p.0) (same_Some (other, last other book) pair told))
    by false told = absurd (cc)

found_id : (group : List ℕ) (book : Book) (client : List ℕ) → find_by (λ (pair : List ℕ × ℕ). pair.0) client (ids group book) ≡ cond (is_some (group_of client book)) (client_in group book client) None
found_id group book client =
    find-info (λ (pair : List ℕ × ℕ). pair.0) (client_in group book) client (clients_named book) (client_keyed group book)
    ∙ ap (λ (b : Bool). cond b (client_in group book client) None) (client_is_named client book)

ids_in_order : (group : List ℕ) (book : Book) → InOrder (λ (pair : List ℕ × ℕ). pair.0) (ids group book)
ids_in_order group book = in_order-sorted (λ (pair : List ℕ × ℕ). pair.0) (filter_map (client_in group book) (clients_named book))

module _ (book : Book) (page : Page) (sums : SumsUp book page) where
  pub closed_ids : (group : List ℕ) → ids group (book_from page []) ≡ ids group book
  closed_ids group =
      in_order-same (λ (pair : List ℕ × ℕ). pair.0) (ids group (book_from page [])) (ids group book) (ids_in_order group (book_from page [])) (ids_in_order group book)
      (λ client. found_id group (book_from page []) client ∙ each client ∙ sym (found_id group book client))
    where
      each : (client : List ℕ) → cond (is_some (group_of client (book_from page []))) (client_in group (book_from page []) client) None ≡ cond (is_some (group_of client book)) (client_in group book client) None
      each client =
          let home = closed_group_of book page sums client in
          let number = closed_last book page sums client in
          λ i. cond (is_some (home i)) (cond (option_map_or (λ (other : List ℕ). bytes_eq other group) (home i) false) (Some (client, number i)) None) None
