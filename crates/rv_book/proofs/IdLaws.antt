-- What is told by the rows of a group's clients is the group's clients with their last mutation ids, in order.
use Rattle.std.proofs.Common.{◌≡◌, ℕ, suc, ◌+◌, ◌<◌, ◌≤◌, Bool, true, false, cond, List, [], ◌∷◌, ◌++◌, length, get_or, take, map, Option, Some, None, refl, sym, ap, subst, ◌∙◌, ◌&&◌, ◌||◌}
use Rattle.std.specs.List.{slice_get, filter, filter_map, cons_option, fold, list_any, AllByRecursion}
use Rattle.std.specs.Option.{option_map, option_map_or, option_and_then, is_some}
use Rattle.std.specs.Str.{bytes_eq}
use Rattle.std.proofs.lemmas.List.{take_more, take_all}
use Rattle.std.proofs.lemmas.List.Elements.{filter_map-append}
use Rattle.std.proofs.lemmas.Option.{none-some, same_Some}
use Rattle.std.proofs.lemmas.Slice.Eq.{bytes_eq-Decides}
use Rattle.rv_base.specs.Sorted.{find_by, put_by, InOrder}
use Rattle.rv_base.specs.PositionLaws.{Above, equals, differs_back, in_order-sorted, in_order-filter, found-sorted, all-put}
use Rattle.rv_base.specs.ArrangedLaws.{in_order-same, find-map}
use Rattle.rv_book.specs.declared.entry.Entry.{Entry}
use Rattle.rv_book.specs.declared.entry.Entry.TheVariants.{Act, Look, Retire}
use Rattle.rv_book.specs.declared.clients.ClientRow.{ClientRow}
use Rattle.rv_book.specs.Entries.{is_act_of}
use Rattle.rv_book.specs.Book.{Book, last, group_of, acting_client, belongs, client_in, clients_named, ids}
use Rattle.rv_book.specs.Indexes.{acting, first_where, actor, client_of_row, row_from, client_row}
use Rattle.rv_book.specs.Members.{member_key, client_of_key, group_of_member, key_of_member, is_member, info_by, row_with_key, member_row, AreMemberRows}
use Rattle.rv_book.specs.BookWordLaws.{bytes_eq_back}
use Rattle.rv_book.specs.RegisterLaws.{client_is_named}
use Rattle.rv_book.proofs.IndexLaws.{found_key, found_all}
use Rattle.rv_book.proofs.ClientLaws.{act_is, no_group}
use Rattle.rv_book.proofs.MemberKeys.{same-member_key, client-member_key, in_order-group}

abbrev Pair : Type 0
Pair = List ℕ × ℕ

abbrev first : Pair → List ℕ
first pair = pair.0

-- a pair has its client's last mutation id
abbrev Own : Book → Pair → Type 0
Own book pair = pair.1 ≡ last pair.0 book

own_client : (group : List ℕ) (book : Book) (names : List (List ℕ)) → AllByRecursion (Own book) (filter_map (client_in group book) names)
own_client group book [] = tt
own_client group book (client ∷ names) =
    elim (belongs client group book) as (λ b. AllByRecursion (Own book) (cons_option (cond b (Some (client, last client book)) None) (filter_map (client_in group book) names))) [
      | true ↦ (refl, own_client group book names)
      | false ↦ own_client group book names
    ]

all_after : (P : Pair → Type 0) (xs sorted : List Pair) → AllByRecursion P xs → AllByRecursion P sorted → AllByRecursion P (fold (λ s x. put_by first x s) sorted xs)
all_after P [] sorted all h = h
all_after P (x ∷ xs) sorted all h = all_after P xs (put_by first x sorted) all.1 (all-put first P x sorted all.0 h)

-- so what is found at a client is its pair
found_own : (book : Book) (k : List ℕ) (xs : List Pair) → AllByRecursion (Own book) xs → find_by first k xs ≡ cond (is_some (find_by first k xs)) (Some (k, last k book)) None
found_own book k xs all =
    elim (find_by first k xs) as (λ o. find_by first k xs ≡ o → o ≡ cond (is_some o) (Some (k, last k book)) None) [
      | None ↦ λ e. refl
      | Some x ↦ λ e. pair x (found_key first k x xs e) (found_all first (Own book) k x xs all e)
    ] refl
  where
    pair : (x : Pair) → x.0 ≡ k → x.1 ≡ last x.0 book → Some x ≡ Some (k, last k book)
    pair x is own = let all : x.1 ≡ last k book = own ∙ ap (λ (t : List ℕ). last t book) is in (λ i. Some (is i, all i))

-- a client of the group is named, and each name is found
one_act : (b c mine rest : Bool) (pair : Pair) (k : List ℕ) (pairs : List Pair) → list_any (λ p. bytes_eq k p.0) pairs ≡ (c && rest) → bytes_eq k pair.0 ≡ mine → (mine ≡ true → b ≡ c)
    → list_any (λ p. bytes_eq k p.0) (cons_option (cond b (Some pair) None) pairs) ≡ (c && (mine || rest))
one_act true true true rest pair k pairs h is same = rw is refl
one_act true false true rest pair k pairs h is same = absurd (let e : true ≡ false = same refl in cc)
one_act true c false rest pair k pairs h is same = rw is h
one_act false true true rest pair k pairs h is same = absurd (let e : false ≡ true = same refl in cc)
one_act false false true rest pair k pairs h is same = h
one_act false c false rest pair k pairs h is same = h

any_client : (k group : List ℕ) (book : Book) (names : List (List ℕ)) → list_any (λ p. bytes_eq k p.0) (filter_map (client_in group book) names) ≡ (belongs k group book && list_any (λ name. bytes_eq name k) names)
any_client k group book [] = elim (belongs k group book) as (λ b. false ≡ (b && false)) [ true ↦ refl | false ↦ refl ]
any_client k group book (client ∷ names) =
    one_act (belongs client group book) (belongs k group book) (bytes_eq client k) (list_any (λ name. bytes_eq name k) names) (client, last client book) k (filter_map (client_in group book) names)
    (any_client k group book names) (bytes_eq_back k client) (λ e. ap (λ (t : List ℕ). belongs t group book) ((bytes_eq-Decides client k).0 e))

belongs_named : (k group : List ℕ) (book : Book) → (belongs k group book && list_any (λ name. bytes_eq name k) (clients_named book)) ≡ belongs k group book
belongs_named k group book = ap (λ (b : Bool). belongs k group book && b) (client_is_named k book) ∙ both (group_of k book)
  where
    both : (o : Option (List ℕ)) → (option_map_or (λ other. bytes_eq other group) o false && is_some o) ≡ option_map_or (λ other. bytes_eq other group) o false
    both None = refl
    both (Some other) = elim (bytes_eq other group) as (λ b. (b && true) ≡ b) [ true ↦ refl | false ↦ refl ]

-- what is found in the group's ids
find_ids : (k group : List ℕ) (book : Book) → find_by first k (ids group book) ≡ cond (belongs k group book) (Some (k, last k book)) None
find_ids k group book =
    let pairs = filter_map (client_in group book) (clients_named book) in
    found_own book k (ids group book) (all_after (Own book) pairs [] (own_client group book (clients_named book)) tt)
    ∙ ap (λ (b : Bool). cond b (Some (k, last k book)) None) (found-sorted first k pairs ∙ any_client k group book (clients_named book) ∙ belongs_named k group book)

abbrev pair_of : Book → ClientRow → Pair
pair_of book row = (client_of_row book row, row.acts)

pub first_at : (p : Entry → Bool) (entries : List Entry) (i : ℕ) → first_where p entries ≡ Some i → (e : Entry) × (slice_get entries i ≡ Some e) × (p e ≡ true)
first_at p [] i h = absurd (cc)
first_at p (x ∷ entries) i h =
    elim (p x) as (λ b. p x ≡ b → cond b (Some 0) (option_map suc (first_where p entries)) ≡ Some i → (e : Entry) × (slice_get (x ∷ entries) i ≡ Some e) × (p e ≡ true)) [
      | true ↦ λ e f. (x, ap (slice_get (x ∷ entries)) (sym (same_Some 0 i f)), e)
      | false ↦ λ e f. elim (first_where p entries) as (λ o. first_where p entries ≡ o → option_map suc o ≡ Some i → (e : Entry) × (slice_get (x ∷ entries) i ≡ Some e) × (p e ≡ true)) [
        | None ↦ λ g q. absurd (cc)
        | Some j ↦ λ g q. let there = first_at p entries j g in (there.0, ap (slice_get (x ∷ entries)) (sym (same_Some (suc j) i q)) ∙ there.1, there.2)
      ] refl f
    ] refl h

-- the row of a client names an act of it, and tells its last mutation id
act_info : (c : List ℕ) (acts : ℕ) (e : Entry) → is_act_of c e ≡ true → option_map {U = Pair} (λ client. (client, acts)) (acting_client e) ≡ Some (actor e, acts)
act_info c acts (Act user group client id call) is = refl
act_info c acts (Look user group order base) is = absurd (cc)
act_info c acts (Retire group) is = absurd (cc)

row_names : (c : List ℕ) (book : Book) (row : ClientRow) → client_row book c ≡ Some row → (info_by book row ≡ Some (pair_of book row)) × (pair_of book row ≡ (c, last c book))
unfolding client_row client_of_row
row_names c book row is =
    elim (first_where (is_act_of c) (acting book)) as (λ o. first_where (is_act_of c) (acting book) ≡ o → option_map (row_from book c) o ≡ Some row → (info_by book row ≡ Some (pair_of book row)) × (pair_of book row ≡ (c, last c book))) [
      | None ↦ λ e h. absurd (cc)
      | Some i ↦ λ e h. subst (λ (r : ClientRow). (info_by book r ≡ Some (pair_of book r)) × (pair_of book r ≡ (c, last c book))) (same_Some (row_from book c i) row h) (info i (first_at (is_act_of c) (acting book) i e))
    ] refl is
  where
    info : (i : ℕ) → (e : Entry) × (slice_get (acting book) i ≡ Some e) × (is_act_of c e ≡ true) → (info_by book (row_from book c i) ≡ Some (pair_of book (row_from book c i))) × (pair_of book (row_from book c i) ≡ (c, last c book))
    info i there =
        let acts = last c book in
        let actor_is : option_map_or actor (slice_get (acting book) i) [] ≡ actor there.0 = ap (λ (o : Option Entry). option_map_or actor o []) there.1 in (
          ap (λ (o : Option Entry). option_map {U = Pair} (λ client. (client, acts)) (option_and_then acting_client o)) there.1 ∙ act_info c acts there.0 there.2 ∙ (λ j. Some (sym actor_is j, acts)),
          (λ j. ((actor_is ∙ (act_is c there.0 there.2).0) j, acts)),
        )

-- each item of items in order is what is found at its key
pub finds_itself : {X : Type 0} (key : X → List ℕ) (xs : List X) → InOrder key xs → AllByRecursion (λ x. find_by key (key x) xs ≡ Some x) xs
finds_itself key [] sorted = tt
finds_itself {X} key (x ∷ xs) sorted = (rw (equals (key x)) refl, after xs sorted.0 (finds_itself key xs sorted.1))
  where
    after : (ys : List X) → Above key (key x) ys → AllByRecursion (λ y. find_by key (key y) xs ≡ Some y) ys → AllByRecursion (λ y. find_by key (key y) (x ∷ xs) ≡ Some y) ys
    after [] all h = tt
    after (y ∷ ys) all h = (rw (differs_back (key x) (key y) all.0) h.0, after ys all.1 h.1)

pub all_weaker : {X : Type 0} (P Q : X → Type 0) (xs : List X) → ((x : X) → P x → Q x) → AllByRecursion P xs → AllByRecursion Q xs
all_weaker P Q [] each h = tt
all_weaker P Q (x ∷ xs) each h = (each x h.0, all_weaker P Q xs each h.1)

all-filter : {X : Type 0} (P : X → Type 0) (p : X → Bool) (xs : List X) → AllByRecursion P xs → AllByRecursion P (filter p xs)
all-filter P p [] h = tt
all-filter P p (x ∷ xs) h = elim (p x) as (λ b. AllByRecursion P (cond b (x ∷ filter p xs) (filter p xs))) [ true ↦ (h.0, all-filter P p xs h.1) | false ↦ all-filter P p xs h.1 ]

all_pass : {X : Type 0} (p : X → Bool) (xs : List X) → AllByRecursion (λ x. p x ≡ true) (filter p xs)
all_pass p [] = tt
all_pass p (x ∷ xs) = elim (p x) as (λ b. p x ≡ b → AllByRecursion (λ x. p x ≡ true) (cond b (x ∷ filter p xs) (filter p xs))) [ true ↦ λ e. (e, all_pass p xs) | false ↦ λ e. all_pass p xs ] refl

-- each row by group is that of its client
member_info : (book : Book) (rows : List ClientRow) → AreMemberRows book rows → AllByRecursion (λ row. info_by book row ≡ Some (pair_of book row)) rows
unfolding member_row
member_info book rows h = all_weaker _ _ rows (λ row found. info row (sym (h.found (key_of_member book row)) ∙ found)) (finds_itself (key_of_member book) rows h.order)
  where
    of_client : (c : List ℕ) (row : ClientRow) (b : Bool) → cond b (client_row book c) None ≡ Some row → info_by book row ≡ Some (pair_of book row)
    of_client c row true is = (row_names c book row is).0
    of_client c row false is = absurd (none-some row is)

    go : (k c : List ℕ) (row : ClientRow) (o : Option (List ℕ)) → option_and_then (λ g. cond (bytes_eq k (member_key g c)) (client_row book c) None) o ≡ Some row → info_by book row ≡ Some (pair_of book row)
    go k c row None is = absurd (none-some row is)
    go k c row (Some g) is = of_client c row (bytes_eq k (member_key g c)) is

    info : (row : ClientRow) → row_with_key (key_of_member book row) book (client_of_key (key_of_member book row)) ≡ Some row → info_by book row ≡ Some (pair_of book row)
    info row is = go (key_of_member book row) (client_of_key (key_of_member book row)) row (group_of (client_of_key (key_of_member book row)) book) is

filter_map-info : {X Y : Type 0} (h : X → Option Y) (f : X → Y) (xs : List X) → AllByRecursion (λ x. h x ≡ Some (f x)) xs → filter_map h xs ≡ map f xs
filter_map-info h f [] all = refl
filter_map-info h f (x ∷ xs) all = ap (λ o. cons_option o (filter_map h xs)) all.0 ∙ ap (λ ys. f x ∷ ys) (filter_map-info h f xs all.1)

above-view : {X Y : Type 0} (key : X → List ℕ) (view : Y → X) (k : List ℕ) (ys : List Y) → Above (λ y. key (view y)) k ys → Above key k (map view ys)
above-view key view k [] h = tt
above-view key view k (y ∷ ys) h = (h.0, above-view key view k ys h.1)

in_order-view : {X Y : Type 0} (key : X → List ℕ) (view : Y → X) (ys : List Y) → InOrder (λ y. key (view y)) ys → InOrder key (map view ys)
in_order-view key view [] h = tt
in_order-view key view (y ∷ ys) h = (above-view key view (key (view y)) ys h.0, in_order-view key view ys h.1)

-- what is found among the rows of the group
found_member : (k group : List ℕ) (book : Book) (rows : List ClientRow) → find_by (client_of_row book) k (filter (is_member group book) rows) ≡ find_by (key_of_member book) (member_key group k) rows
found_member k group book [] = refl
found_member k group book (row ∷ rows) =
    let mine = bytes_eq (group_of_member book row) group in
    let named = bytes_eq k (client_of_row book row) in
    let same : bytes_eq (member_key group k) (key_of_member book row) ≡ (mine && named) = same-member_key group (group_of_member book row) k (client_of_row book row) ∙ ap (λ (b : Bool). b && named) (bytes_eq_back group (group_of_member book row)) in
    (elim mine as (λ b. find_by (client_of_row book) k (cond b (row ∷ filter (is_member group book) rows) (filter (is_member group book) rows)) ≡ cond (b && named) (Some row) (find_by (key_of_member book) (member_key group k) rows)) [
      | true ↦ ap (cond named (Some row)) (found_member k group book rows)
      | false ↦ found_member k group book rows
    ])
    ∙ ap (λ (b : Bool). cond b (Some row) (find_by (key_of_member book) (member_key group k) rows)) (sym same)

row_found : (k group : List ℕ) (book : Book) → option_map (pair_of book) (member_row book (member_key group k)) ≡ cond (belongs k group book) (Some (k, last k book)) None
unfolding member_row
row_found k group book =
    ap (λ (c : List ℕ). option_map (pair_of book) (row_with_key (member_key group k) book c)) (client-member_key group k)
    ∙ (elim (group_of k book) as (λ o. group_of k book ≡ o → option_map (pair_of book) (option_and_then (λ g. cond (bytes_eq (member_key group k) (member_key g k)) (client_row book k) None) o) ≡ cond (option_map_or (λ other. bytes_eq other group) o false) (Some (k, last k book)) None) [
      | None ↦ λ e. refl
      | Some g ↦ λ e. ap (λ (b : Bool). option_map (pair_of book) (cond b (client_row book k) None)) (same g) ∙ info g e (bytes_eq g group)
    ] refl)
  where
    and_true : (b : Bool) → (b && true) ≡ b
    and_true true = refl
    and_true false = refl

    same : (g : List ℕ) → bytes_eq (member_key group k) (member_key g k) ≡ bytes_eq g group
    same g = same-member_key group g k k ∙ ap (λ (b : Bool). bytes_eq group g && b) (equals k) ∙ and_true (bytes_eq group g) ∙ bytes_eq_back group g

    has_row : (g : List ℕ) → group_of k book ≡ Some g → option_map (pair_of book) (client_row book k) ≡ Some (k, last k book)
    has_row g e =
        elim (client_row book k) as (λ o. client_row book k ≡ o → option_map (pair_of book) o ≡ Some (k, last k book)) [
          | None ↦ λ f. absurd (none-some g (sym (no_group k book f) ∙ e))
          | Some row ↦ λ f. ap Some (row_names k book row f).1
        ] refl

    info : (g : List ℕ) → group_of k book ≡ Some g → (b : Bool) → option_map (pair_of book) (cond b (client_row book k) None) ≡ cond b (Some (k, last k book)) None
    info g e true = has_row g e
    info g e false = refl

pub ids-members : (group : List ℕ) (book : Book) (rows : List ClientRow) → AreMemberRows book rows → filter_map (info_by book) (filter (is_member group book) rows) ≡ ids group book
ids-members group book rows h =
    filter_map-info (info_by book) (pair_of book) kept (all-filter _ (is_member group book) rows (member_info book rows h))
    ∙ in_order-same first (map (pair_of book) kept) (ids group book) (in_order-view first (pair_of book) kept order) (in_order-sorted first (filter_map (client_in group book) (clients_named book))) same
  where
    kept : List ClientRow
    kept = filter (is_member group book) rows

    order : InOrder (client_of_row book) (filter (is_member group book) rows)
    order = in_order-group (group_of_member book) (client_of_row book) group (filter (is_member group book) rows)
        (all_weaker _ _ (filter (is_member group book) rows) (λ row is. (bytes_eq-Decides (group_of_member book row) group).0 is) (all_pass (is_member group book) rows))
        (in_order-filter (key_of_member book) (is_member group book) rows h.order)

    same : (k : List ℕ) → find_by first k (map (pair_of book) (filter (is_member group book) rows)) ≡ find_by first k (ids group book)
    same k =
        sym (find-map first (pair_of book) k (filter (is_member group book) rows))
        ∙ ap (option_map (pair_of book)) (found_member k group book rows ∙ h.found (member_key group k))
        ∙ row_found k group book
        ∙ sym (find_ids k group book)

pub ids-in_order : (group : List ℕ) (book : Book) → InOrder first (ids group book)
ids-in_order group book = in_order-sorted first (filter_map (client_in group book) (clients_named book))

-- one more row of a walk
pub rows_more : {X Y : Type 0} (h : X → Option Y) (rows : List X) (i : ℕ) (row : X) → i < length rows → filter_map h (take (i + 1) rows) ≡ filter_map h (take i rows) ++ cons_option (h (get_or rows i row)) []
rows_more h rows i row lt = ap (filter_map h) (take_more rows i row lt) ∙ filter_map-append h (take i rows) (get_or rows i row ∷ [])

pub rows_all : {X Y : Type 0} (h : X → Option Y) (rows : List X) (i : ℕ) → length rows ≤ i → filter_map h (take i rows) ≡ filter_map h rows
rows_all h rows i le = ap (filter_map h) (take_all i rows le)
