-- What the rows of the clients and of the groups tell: the registers of the book.
use Rattle.std.proofs.Common.{◌≡◌, ℕ, suc, ◌≤◌, length, ◌||◌, Bool, true, false, cond, List, [], ◌∷◌, get_or, Option, Some, None, Ok, IfSome, refl, sym, ap, ◌∙◌, arith}
use Rattle.std.specs.List.{slice_get}
use Rattle.std.specs.Option.{option_map, option_map_or, option_and_then, is_some}
use Rattle.std.specs.Str.{bytes_eq}
use Rattle.std.proofs.Math.Bool.{or-true}
use Rattle.std.proofs.lemmas.Option.{same_Some, none-some, slice_get-get_or}
use Rattle.std.proofs.lemmas.Slice.Eq.{bytes_eq-Decides}
use Rattle.rv_base.specs.Sorted.{IsPositionOf}
use Rattle.rv_book.specs.declared.entry.Entry.{Entry}
use Rattle.rv_book.specs.declared.entry.Entry.TheVariants.{Act, Look, Retire}
use Rattle.rv_book.specs.declared.clients.ClientRow.{ClientRow}
use Rattle.rv_book.specs.declared.groups.GroupRow.{GroupRow}
use Rattle.rv_book.specs.Entries.{is_act_of, bound_in, retired_in}
use Rattle.rv_book.specs.Book.{Book, last, group_of, bound, last_order, page_group, retired, size}
use Rattle.rv_book.specs.Indexes.{acting, naming, first_where, acted_in, acting_with, client_of_row, client_row, AreClientRows, LastsFit, info_by_client, named_in, names_group, group_of_row, group_row, AreGroupRows, user_of_row, info_by_group}
use Rattle.rv_book.specs.Registers.{client_named, clients_of, group_named, groups_of, RetiresBound}
use Rattle.rv_book.specs.RegisterLaws.{found_client, clients-in_order, found_group, groups-in_order}
use Rattle.rv_book.proofs.IdLaws.{first_at}
use Rattle.rv_book.proofs.ClientLaws.{gives_client, last_fits, no_acts, no_group, no_row, first_of}
use Rattle.rv_book.proofs.GroupLaws.{group_row_at, row_gives, bound-found}
use Rattle.rv_book.proofs.PageLaws.{bound-naming, retired-naming}
use Rattle.rv_book.proofs.RowsInfo.{GivesItem, info-at, info-count}

abbrev Client : Type 0
Client = List ℕ × List ℕ × ℕ

abbrev client_key : Client → List ℕ
client_key client = client.0

-- what an act of a client tells
acting_is : (client : List ℕ) (acts : ℕ) (entry : Entry) → is_act_of client entry ≡ true → acting_with acts entry ≡ option_map {U = Client} (λ group. (client, group, acts)) (acted_in entry)
acting_is client acts (Act user group actor id call) is = let name : actor ≡ client = (bytes_eq-Decides actor client).0 is in (λ i. Some (name i, group, acts))
acting_is client acts (Look user group order base) is = absurd (cc)
acting_is client acts (Retire group) is = absurd (cc)

-- the row of a client tells what is said of the client
row_info : (client : List ℕ) (book : Book) (row : ClientRow) → client_row book client ≡ Some row → info_by_client book row ≡ client_named client book
row_info client book row is = go (first_at (is_act_of client) (acting book) row.first (sym (first_of book client (Some row) (sym is))))
  where
    go : (e : Entry) × (slice_get (acting book) row.first ≡ Some e) × (is_act_of client e ≡ true) → info_by_client book row ≡ client_named client book
    go there =
        let gives = gives_client book client row (sym is) in
        let group : acted_in there.0 ≡ group_of client book = ap (option_and_then acted_in) (sym there.1) ∙ gives.group in
        ap (option_and_then (acting_with row.acts)) there.1 ∙ acting_is client row.acts there.0 there.2 ∙ (λ i. option_map {U = Client} (λ g. (client, g, gives.acts i)) (group i))

client_gives : (client : List ℕ) (book : Book) (row : ClientRow) → client_row book client ≡ Some row → GivesItem (client_of_row book) client_key (info_by_client book) client row
client_gives client book row is =
    elim (group_of client book) as (λ o. group_of client book ≡ o → info_by_client book row ≡ option_map {U = Client} (λ group. (client, group, last client book)) o → GivesItem (client_of_row book) client_key (info_by_client book) client row) [
      | None ↦ λ none info. absurd (none-some row (sym (no_row client book none) ∙ is))
      | Some group ↦ λ some info. record { item = (client, group, last client book); info_as = info; keyed = refl }
    ] refl (row_info client book row is)

named_by_row : (client : List ℕ) (book : Book) → client_named client book ≡ option_and_then (info_by_client book) (client_row book client)
named_by_row client book =
    elim (client_row book client) as (λ o. client_row book client ≡ o → client_named client book ≡ option_and_then (info_by_client book) o) [
      | None ↦ λ none. ap (option_map (λ group. (client, group, last client book))) (no_group client book none)
      | Some row ↦ λ some. sym (row_info client book row some)
    ] refl

-- the client at an index is what the row there tells
pub client-at : (book : Book) (rows : List ClientRow) (index : ℕ) → AreClientRows book rows → option_and_then (info_by_client book) (slice_get rows index) ≡ slice_get (clients_of book) index
client-at book rows index h =
    info-at (client_of_row book) client_key (info_by_client book) (λ row. row.first) (length (acting book)) (client_row book) rows (clients_of book) h (clients-in_order book)
    (λ client row is. client_gives client book row is) (λ client. found_client client book ∙ named_by_row client book) index

-- the client of a name stands where its row does
pub named-at : (client : List ℕ) (book : Book) (rows : List ClientRow) (at : ℕ) → AreClientRows book rows → IsPositionOf (client_of_row book) client rows (Ok at) → slice_get (clients_of book) at ≡ client_named client book
named-at client book rows at h found =
    let no_row : ClientRow = record { first = 0; acts = 0 } in
    sym (client-at book rows at h)
    ∙ ap (option_and_then (info_by_client book)) (slice_get-get_or rows at no_row found.in_range)
    ∙ row_info client book (get_or rows at no_row) (sym (h.found client) ∙ found.found no_row)

-- what an item tells of the client of a name, where there is one: the name, the client's group and its last mutation id
pub record TellsClient {X : Type 0} (tell : X → Client) (client : List ℕ) (book : Book) (info : Option X) : Type 0 where
  pub name : IfSome info (λ x. (tell x).0 ≡ client)
  pub group : option_map (λ x. (tell x).1) info ≡ group_of client book
  pub acts : option_map_or (λ x. (tell x).2) info 0 ≡ last client book
  pub bound : LastsFit book.page → IfSome info (λ x. (tell x).2 ≤ size book)

pub tells_client : {X : Type 0} (tell : X → Client) (client : List ℕ) (book : Book) (info : Option X) → option_map tell info ≡ client_named client book → TellsClient tell client book info
tells_client tell client book None is =
    let without : group_of client book ≡ None = without_group (group_of client book) is in
    record { name = tt; group = sym without; acts = sym (no_acts client book without); bound = λ fit. tt }
  where
    without_group : (o : Option (List ℕ)) → None ≡ option_map {U = Client} (λ group. (client, group, last client book)) o → o ≡ None
    without_group None is = refl
    without_group (Some group) is = absurd (none-some (client, group, last client book) is)
tells_client tell client book (Some x) is =
    elim (group_of client book) as (λ o. group_of client book ≡ o → Some (tell x) ≡ option_map {U = Client} (λ group. (client, group, last client book)) o → TellsClient tell client book (Some x)) [
      | None ↦ λ e h. absurd (none-some (tell x) (sym h))
      | Some group ↦ λ e h.
          let same : tell x ≡ (client, group, last client book) = same_Some (tell x) (client, group, last client book) h in
          record {
            name = ap (λ (t : Client). t.0) same;
            group = ap (λ (t : Client). Some t.1) same ∙ sym e;
            acts = ap (λ (t : Client). t.2) same;
            bound = λ fit. omega (arith, ap (λ (t : Client). t.2) same, last_fits book client fit);
          }
    ] refl is

-- an item that tells of the client at an index, and tells the index
pub told_where : {X : Type 0} (tell : X → Client) (place : X → ℕ) (clients : List Client) (at : ℕ) (info : Option X) → option_map tell info ≡ slice_get clients at → IfSome info (λ x. place x ≡ at) → IfSome info (λ x. slice_get clients (place x) ≡ Some (tell x))
told_where tell place clients at None is there = tt
told_where tell place clients at (Some x) is there = ap (slice_get clients) there ∙ sym is

-- there are as many clients as rows
pub client-count : (book : Book) (rows : List ClientRow) → AreClientRows book rows → length rows ≡ length (clients_of book)
client-count book rows h =
    info-count (client_of_row book) client_key (info_by_client book) (λ row. row.first) (length (acting book)) (client_row book) rows (clients_of book) h (clients-in_order book)
    (λ client row is. client_gives client book row is) (λ client. found_client client book ∙ named_by_row client book)

abbrev Group : Type 0
Group = List ℕ × List ℕ × ℕ × Bool

abbrev group_key : Group → List ℕ
group_key group = group.0

later : (o : Option ℕ) → is_some (option_map suc o) ≡ is_some o
later None = refl
later (Some index) = refl

-- a group that an entry names is bound or retired
named_as : (group : List ℕ) (entries : List Entry) → is_some (first_where (names_group group) entries) ≡ (is_some (bound_in group entries) || retired_in group entries)
named_as group [] = refl
named_as group (Act user other client id call ∷ entries) =
    elim (bytes_eq other group) as (λ b. is_some (cond b (Some 0) (option_map suc (first_where (names_group group) entries))) ≡ (is_some (cond b (Some user) (bound_in group entries)) || retired_in group entries)) [
      | true ↦ refl
      | false ↦ later (first_where (names_group group) entries) ∙ named_as group entries
    ]
named_as group (Look user other order base ∷ entries) =
    elim (bytes_eq other group) as (λ b. is_some (cond b (Some 0) (option_map suc (first_where (names_group group) entries))) ≡ (is_some (cond b (Some user) (bound_in group entries)) || retired_in group entries)) [
      | true ↦ refl
      | false ↦ later (first_where (names_group group) entries) ∙ named_as group entries
    ]
named_as group (Retire other ∷ entries) =
    elim (bytes_eq other group) as (λ b. is_some (cond b (Some 0) (option_map suc (first_where (names_group group) entries))) ≡ (is_some (bound_in group entries) || (b || retired_in group entries))) [
      | true ↦ sym (or-true (is_some (bound_in group entries)))
      | false ↦ later (first_where (names_group group) entries) ∙ named_as group entries
    ]

-- where every group that is retired is bound, one has a row exactly where it is bound
has_row : (group : List ℕ) (book : Book) → RetiresBound book → is_some (first_where (names_group group) (naming book)) ≡ is_some (bound group book)
has_row group book h =
    named_as group (naming book) ∙ (λ i. is_some (sym (bound-naming group book) i) || retired-naming group book i)
    ∙ either (is_some (bound group book)) (retired_in group book.entries) (λ gone. h group (ap (λ (b : Bool). option_map_or (λ g. g.3) (page_group group book.page) false || b) gone ∙ or-true (option_map_or (λ g. g.3) (page_group group book.page) false)))
  where
    either : (b c : Bool) → (c ≡ true → b ≡ true) → (b || c) ≡ b
    either true c is = refl
    either false true is = sym (is refl)
    either false false is = refl

-- the row of a group names an entry of the group
names_it : (group : List ℕ) (book : Book) (row : GroupRow) → group_row book group ≡ Some row → first_where (names_group group) (naming book) ≡ Some row.named
unfolding group_row
names_it group book row is =
    elim (first_where (names_group group) (naming book)) as (λ o. option_map (group_row_at book group) o ≡ Some row → o ≡ Some row.named) [
      | None ↦ λ h. absurd (none-some row h)
      | Some index ↦ λ h. ap (λ (r : GroupRow). Some r.named) (same_Some (group_row_at book group index) row h)
    ] is

-- the row of a group tells what is said of the group
group_row_info : (group : List ℕ) (book : Book) (row : GroupRow) → group_row book group ≡ Some row → info_by_group book row ≡ group_named group book
group_row_info group book row is = go (first_at (names_group group) (naming book) row.named (names_it group book row is))
  where
    go : (e : Entry) × (slice_get (naming book) row.named ≡ Some e) × (names_group group e ≡ true) → info_by_group book row ≡ group_named group book
    go there =
        let gives = row_gives book group row (sym is) in
        let name : named_in there.0 ≡ group = (bytes_eq-Decides (named_in there.0) group).0 there.2 in
        ap (option_and_then (λ entry. option_map {U = Group} (λ user. (named_in entry, user, row.order, row.retired)) (user_of_row book row))) there.1
        ∙ (λ i. option_map {U = Group} (λ user. (name i, user, gives.order i, gives.retired i)) (bound-found group book row.bound gives.bound i))

group_gives : (group : List ℕ) (book : Book) (row : GroupRow) → RetiresBound book → group_row book group ≡ Some row → GivesItem (group_of_row book) group_key (info_by_group book) group row
group_gives group book row h is =
    elim (bound group book) as (λ o. is_some o ≡ true → info_by_group book row ≡ option_map {U = Group} (λ user. (group, user, last_order group book, retired group book)) o → GivesItem (group_of_row book) group_key (info_by_group book) group row) [
      | None ↦ λ none info. absurd (cc)
      | Some user ↦ λ some info. record { item = (group, user, last_order group book, retired group book); info_as = info; keyed = refl }
    ] (sym (has_row group book h) ∙ ap is_some (names_it group book row is)) (group_row_info group book row is)

without_row : (group : List ℕ) (book : Book) → RetiresBound book → group_row book group ≡ None → bound group book ≡ None
unfolding group_row
without_row group book h none =
    elim (first_where (names_group group) (naming book)) as (λ o. is_some o ≡ is_some (bound group book) → option_map (group_row_at book group) o ≡ None → bound group book ≡ None) [
      | None ↦ λ some is. unbound (bound group book) (sym some)
      | Some index ↦ λ some is. absurd (cc)
    ] (has_row group book h) none
  where
    unbound : (o : Option (List ℕ)) → is_some o ≡ false → o ≡ None
    unbound None is = refl
    unbound (Some user) is = absurd (cc)

named_by_group_row : (group : List ℕ) (book : Book) → RetiresBound book → group_named group book ≡ option_and_then (info_by_group book) (group_row book group)
named_by_group_row group book h =
    elim (group_row book group) as (λ o. group_row book group ≡ o → group_named group book ≡ option_and_then (info_by_group book) o) [
      | None ↦ λ none. ap (option_map (λ user. (group, user, last_order group book, retired group book))) (without_row group book h none)
      | Some row ↦ λ some. sym (group_row_info group book row some)
    ] refl

-- the group at an index is what the row there tells
pub group-at : (book : Book) (rows : List GroupRow) (index : ℕ) → RetiresBound book → AreGroupRows book rows → option_and_then (info_by_group book) (slice_get rows index) ≡ slice_get (groups_of book) index
group-at book rows index bounds h =
    info-at (group_of_row book) group_key (info_by_group book) (λ row. row.named) (length (naming book)) (group_row book) rows (groups_of book) h (groups-in_order book)
    (λ group row is. group_gives group book row bounds is) (λ group. found_group group book ∙ named_by_group_row group book bounds) index

-- there are as many groups as rows
pub group-count : (book : Book) (rows : List GroupRow) → RetiresBound book → AreGroupRows book rows → length rows ≡ length (groups_of book)
group-count book rows bounds h =
    info-count (group_of_row book) group_key (info_by_group book) (λ row. row.named) (length (naming book)) (group_row book) rows (groups_of book) h (groups-in_order book)
    (λ group row is. group_gives group book row bounds is) (λ group. found_group group book ∙ named_by_group_row group book bounds)
