-- Laws of the registers of a book: what is found in them, and what one more entry makes of them.
use Rattle.std.proofs.Common.{◌≡◌, ℕ, ◌+◌, ◌⊎◌, inl, inr, ◌||◌, Bool, true, false, cond, not, map, List, [], ◌∷◌, Option, Some, None, refl, sym, ap, ◌∙◌, subst, arith, ◌++◌}
use Rattle.std.specs.List.{fold, filter_map, cons_option, list_any}
use Rattle.std.specs.Option.{option_map, option_map_or, option_or, option_and_then, is_some, IsSome}
use Rattle.std.specs.Str.{bytes_eq}
use Rattle.std.proofs.Math.Bool.{or-false, or-true}
use Rattle.std.proofs.lemmas.List.Folds.{list_any-append}
use Rattle.std.proofs.lemmas.Option.{same_Some}
use Rattle.std.proofs.lemmas.Slice.Eq.{bytes_eq-Decides}
use Rattle.rv_base.specs.Sorted.{find_by, put_by, InOrder, sorted_by}
use Rattle.rv_base.specs.PositionLaws.{equals, not_same, find_put, in_order-put, in_order-sorted}
use Rattle.rv_base.specs.ArrangedLaws.{in_order-same}
use Rattle.rv_rows.specs.declared.call.Call.{Call}
use Rattle.rv_book.specs.declared.entry.Entry.{Entry}
use Rattle.rv_book.specs.declared.entry.Entry.TheVariants.{Act, Look, Retire}
use Rattle.rv_book.specs.Entries.{is_act_of, order_after, retires, bound_in, group_of_in}
use Rattle.rv_book.specs.declared.page.Page.{Page}
use Rattle.rv_book.specs.Book.{Book, book_from, with_entry, acting_client, bound, clients_named, group_of, last, last_order, page_client, page_group, retired}
use Rattle.rv_book.specs.BookWordLaws.{bytes_eq_back, last-with_entry, last_order-with_entry, retired-with_entry}
use Rattle.rv_book.specs.Indexes.{binds, named_in, names_group, user_of}
use Rattle.rv_book.specs.Members.{acting_group}
use Rattle.rv_book.specs.Registers.{binding_group, client_named, clients_of, group_named, groups_named, groups_of, RetiresBound}

or_false : {X : Type 0} (b : Bool) (o : Option X) → cond b o None ≡ cond (b || false) o None
or_false true o = refl
or_false false o = refl

or_true : {X : Type 0} (b : Bool) (o : Option X) → o ≡ cond (b || true) o None
or_true true o = refl
or_true false o = refl

where_none : {X : Type 0} (b : Bool) (o : Option X) → o ≡ None → cond b o None ≡ o
where_none true o none = refl
where_none false o none = sym none

-- Items that are said of the names in a list.
module _ {X : Type 0} (key : X → List ℕ) (of : List ℕ → Option X) where
  -- a name of which nothing is told
  found_absent : (k other : List ℕ) (b : Bool) (sorted : List X) → of other ≡ None → find_by key k sorted ≡ cond b (of k) None → find_by key k sorted ≡ cond (b || bytes_eq other k) (of k) None
  found_absent k other b sorted none h =
      h ∙ (elim (bytes_eq other k) as (λ c. bytes_eq other k ≡ c → cond b (of k) None ≡ cond (b || c) (of k) None) [
        | true ↦ λ e. where_none b (of k) (ap of (sym ((bytes_eq-Decides other k).0 e)) ∙ none) ∙ or_true b (of k)
        | false ↦ λ e. or_false b (of k)
      ] refl)

  -- a name of which an item is told
  found_present : (k other : List ℕ) (b : Bool) (x : X) (sorted : List X) → of other ≡ Some x → key x ≡ other → find_by key k sorted ≡ cond b (of k) None
      → find_by key k (put_by key x sorted) ≡ cond (b || bytes_eq other k) (of k) None
  found_present k other b x sorted some is h =
      find_put key k x sorted
      ∙ ap (λ (t : List ℕ). cond (bytes_eq k t) (Some x) (find_by key k sorted)) is
      ∙ (elim (bytes_eq other k) as (λ c. bytes_eq other k ≡ c → cond (bytes_eq k other) (Some x) (find_by key k sorted) ≡ cond (b || c) (of k) None) [
        | true ↦ λ e.
            let same : other ≡ k = (bytes_eq-Decides other k).0 e in
            let there : bytes_eq k other ≡ true = ap (bytes_eq k) same ∙ equals k in
            ap (λ (c : Bool). cond c (Some x) (find_by key k sorted)) there ∙ sym some ∙ ap of same ∙ or_true b (of k)
        | false ↦ λ e. ap (λ (c : Bool). cond c (Some x) (find_by key k sorted)) (not_same other k e) ∙ h ∙ or_false b (of k)
      ] refl)

  either_of : (a b c : Bool) (o : Option X) → cond ((a || b) || c) o None ≡ cond (a || (b || c)) o None
  either_of true b c o = refl
  either_of false b c o = refl

  found_info : (k : List ℕ) (names : List (List ℕ)) (b : Bool) (sorted : List X) → ((other : List ℕ) (x : X) → of other ≡ Some x → key x ≡ other) → find_by key k sorted ≡ cond b (of k) None
      → find_by key k (fold (λ s x. put_by key x s) sorted (filter_map of names)) ≡ cond (b || list_any (λ name. bytes_eq name k) names) (of k) None
  found_info k [] b sorted keyed h = h ∙ or_false b (of k)
  found_info k (other ∷ names) b sorted keyed h =
      (elim (of other) as (λ o. of other ≡ o → find_by key k (fold (λ s x. put_by key x s) sorted (cons_option o (filter_map of names))) ≡ cond ((b || bytes_eq other k) || list_any (λ name. bytes_eq name k) names) (of k) None) [
        | None ↦ λ none. found_info k names (b || bytes_eq other k) sorted keyed (found_absent k other b sorted none h)
        | Some x ↦ λ some. found_info k names (b || bytes_eq other k) (put_by key x sorted) keyed (found_present k other b x sorted some (keyed other x some) h)
      ] refl)
      ∙ either_of b (bytes_eq other k) (list_any (λ name. bytes_eq name k) names) (of k)

  -- what is found at a name: what is said of it, where it is in the list
  pub find-info : (k : List ℕ) (names : List (List ℕ)) → ((other : List ℕ) (x : X) → of other ≡ Some x → key x ≡ other)
      → find_by key k (sorted_by key (filter_map of names)) ≡ cond (list_any (λ name. bytes_eq name k) names) (of k) None
  find-info k names keyed = found_info k names false [] keyed refl

-- a key stands among those of a list where an item with it is found
any_found : {X : Type 0} (key : X → List ℕ) (k : List ℕ) (xs : List X) → list_any (λ name. bytes_eq name k) (map key xs) ≡ is_some (find_by key k xs)
any_found key k [] = refl
any_found key k (x ∷ xs) =
    ap (λ (b : Bool). b || list_any (λ name. bytes_eq name k) (map key xs)) (bytes_eq_back (key x) k)
    ∙ (elim (bytes_eq k (key x)) as (λ b. (b || list_any (λ name. bytes_eq name k) (map key xs)) ≡ is_some (cond b (Some x) (find_by key k xs))) [
      | true ↦ refl
      | false ↦ any_found key k xs
    ])

either_some : {A B : Type 0} (f : A → B) (o : Option A) (p : Option B) → (is_some o || is_some p) ≡ is_some (option_or (option_map f o) p)
either_some f None p = refl
either_some f (Some a) p = refl

-- a name stands among those of the page and of the entries
any_named : {X : Type 0} (key : X → List ℕ) (k : List ℕ) (xs : List X) (name : Entry → Option (List ℕ)) (entries : List Entry) (found : Bool) → list_any (λ name. bytes_eq name k) (filter_map name entries) ≡ found
    → list_any (λ name. bytes_eq name k) (map key xs ++ filter_map name entries) ≡ (is_some (find_by key k xs) || found)
any_named key k xs name entries found is = list_any-append (λ name. bytes_eq name k) (map key xs) (filter_map name entries) ∙ (λ i. any_found key k xs i || is i)

-- Two registers, of which the second is told a new item of one name, and of each other name what the first is told.
put-same : {X : Type 0} (key : X → List ℕ) (before after : List ℕ → Option X) (new : X) (xs ys : List X) → InOrder key xs → InOrder key ys → ((k : List ℕ) → find_by key k xs ≡ before k) → ((k : List ℕ) → find_by key k ys ≡ after k)
    → after (key new) ≡ Some new → ((k : List ℕ) → bytes_eq k (key new) ≡ false → after k ≡ before k) → ys ≡ put_by key new xs
put-same key before after new xs ys order next found info own other =
    in_order-same key ys (put_by key new xs) next (in_order-put key new xs order) (λ k. info k ∙ each k ∙ sym (find_put key k new xs ∙ ap (cond (bytes_eq k (key new)) (Some new)) (found k)))
  where
    each : (k : List ℕ) → after k ≡ cond (bytes_eq k (key new)) (Some new) (before k)
    each k =
        elim (bytes_eq k (key new)) as (λ b. bytes_eq k (key new) ≡ b → after k ≡ cond b (Some new) (before k)) [
          | true ↦ λ e. ap after ((bytes_eq-Decides k (key new)).0 e) ∙ own
          | false ↦ λ e. other k e
        ] refl

-- a client, as it is said of
abbrev Client : Type 0
Client = List ℕ × List ℕ × ℕ

abbrev client_key : Client → List ℕ
client_key client = client.0

client_keyed : (book : Book) (client : List ℕ) (x : Client) → client_named client book ≡ Some x → x.0 ≡ client
client_keyed book client x is =
    elim (group_of client book) as (λ o. option_map {U = Client} (λ group. (client, group, last client book)) o ≡ Some x → x.0 ≡ client) [
      | None ↦ λ h. absurd (cc)
      | Some group ↦ λ h. sym (ap client_key (same_Some _ x h))
    ] is

-- a client has a group where the page or an act names it
has_act : (client : List ℕ) (entries : List Entry) → list_any (λ name. bytes_eq name client) (filter_map acting_client entries) ≡ is_some (group_of_in client entries)
has_act client [] = refl
has_act client (Act user group actor id call ∷ entries) =
    elim (bytes_eq actor client) as (λ b. (b || list_any (λ name. bytes_eq name client) (filter_map acting_client entries)) ≡ is_some (cond b (Some group) (group_of_in client entries))) [ true ↦ refl | false ↦ has_act client entries ]
has_act client (Look user group order base ∷ entries) = has_act client entries
has_act client (Retire group ∷ entries) = has_act client entries

pub client_is_named : (client : List ℕ) (book : Book) → list_any (λ name. bytes_eq name client) (clients_named book) ≡ is_some (group_of client book)
client_is_named client book =
    any_named client_key client book.page.clients acting_client book.entries (is_some (group_of_in client book.entries)) (has_act client book.entries)
    ∙ either_some (λ (c : Client). c.1) (page_client client book.page) (group_of_in client book.entries)

where_some : {A X : Type 0} (f : A → X) (o : Option A) → cond (is_some o) (option_map f o) None ≡ option_map f o
where_some f None = refl
where_some f (Some a) = refl

-- what is found in the register of the clients
pub found_client : (client : List ℕ) (book : Book) → find_by (λ (c : List ℕ × List ℕ × ℕ). c.0) client (clients_of book) ≡ client_named client book
found_client client book =
    find-info client_key (λ c. client_named c book) client (clients_named book) (client_keyed book)
    ∙ ap (λ (b : Bool). cond b (client_named client book) None) (client_is_named client book)
    ∙ where_some (λ group. (client, group, last client book)) (group_of client book)

pub clients-in_order : (book : Book) → InOrder (λ (c : List ℕ × List ℕ × ℕ). c.0) (clients_of book)
clients-in_order book = in_order-sorted client_key (filter_map (λ client. client_named client book) (clients_named book))

-- the group of a client, when one more entry follows
group_of_in-push : (client : List ℕ) (entries : List Entry) (entry : Entry) → group_of_in client (entries ++ entry ∷ []) ≡ option_or (group_of_in client entries) (cond (is_act_of client entry) (Some (acting_group entry)) None)
group_of_in-push client [] (Act user group actor id call) = refl
group_of_in-push client [] (Look user group order base) = refl
group_of_in-push client [] (Retire group) = refl
group_of_in-push client (Act user group actor id call ∷ entries) entry =
    elim (bytes_eq actor client) as (λ b. cond b (Some group) (group_of_in client (entries ++ entry ∷ [])) ≡ option_or (cond b (Some group) (group_of_in client entries)) (cond (is_act_of client entry) (Some (acting_group entry)) None)) [
      | true ↦ refl
      | false ↦ group_of_in-push client entries entry
    ]
group_of_in-push client (Look user group order base ∷ entries) entry = group_of_in-push client entries entry
group_of_in-push client (Retire group ∷ entries) entry = group_of_in-push client entries entry

or_or : {X : Type 0} (o p q : Option X) → option_or o (option_or p q) ≡ option_or (option_or o p) q
or_or None p q = refl
or_or (Some x) p q = refl

pub group_of-push : (client : List ℕ) (book : Book) (entry : Entry) → group_of client (with_entry book entry) ≡ option_or (group_of client book) (cond (is_act_of client entry) (Some (acting_group entry)) None)
group_of-push client book entry =
    let page = option_map (λ (c : Client). c.1) (page_client client book.page) in
    ap (option_or page) (group_of_in-push client book.entries entry) ∙ or_or page (group_of_in client book.entries) (cond (is_act_of client entry) (Some (acting_group entry)) None)

or_none : {X : Type 0} (o : Option X) → option_or o None ≡ o
or_none None = refl
or_none (Some x) = refl

-- what is said of a client, when an entry follows that is no act of it
other_client : (client : List ℕ) (book : Book) (entry : Entry) → is_act_of client entry ≡ false → client_named client (with_entry book entry) ≡ client_named client book
other_client client book entry other =
    let group : group_of client (with_entry book entry) ≡ group_of client book = group_of-push client book entry ∙ ap (λ (b : Bool). option_or (group_of client book) (cond b (Some (acting_group entry)) None)) other ∙ or_none (group_of client book) in
    let none : last client book + 0 ≡ last client book = omega arith in
    let count : last client (with_entry book entry) ≡ last client book = last-with_entry client book entry ∙ ap (λ (b : Bool). last client book + cond b 1 0) other ∙ none in
    (λ i. option_map (λ g. (client, g, count i)) (group i))

-- and when an act of it follows
own_act : (client : List ℕ) (book : Book) (entry : Entry) (home : List ℕ) → is_act_of client entry ≡ true → group_of client (with_entry book entry) ≡ Some home → client_named client (with_entry book entry) ≡ Some (client, home, last client book + 1)
own_act client book entry home own group =
    let count : last client (with_entry book entry) ≡ last client book + 1 = last-with_entry client book entry ∙ ap (λ (b : Bool). last client book + cond b 1 0) own in
    (λ i. option_map (λ g. (client, g, count i)) (group i))

-- one more act puts its client, with the group of the client's first act and the next mutation id
clients_after_act : (book : Book) (user group client : List ℕ) (id : ℕ) (call : Call) (home : List ℕ) → group_of client (with_entry book (Act user group client id call)) ≡ Some home
    → clients_of (with_entry book (Act user group client id call)) ≡ put_by (λ (c : List ℕ × List ℕ × ℕ). c.0) (client, home, last client book + 1) (clients_of book)
clients_after_act book user group client id call home is =
    let act = Act user group client id call in
    put-same client_key (λ c. client_named c book) (λ c. client_named c (with_entry book act)) (client, home, last client book + 1) (clients_of book) (clients_of (with_entry book act))
    (clients-in_order book) (clients-in_order (with_entry book act)) (λ c. found_client c book) (λ c. found_client c (with_entry book act))
    (own_act client book act home (equals client) is) (λ c other. other_client c book act (not_same c client other))

-- none, or no other than this one
abbrev pub NoneBut : List ℕ → Option (List ℕ) → Type 0
NoneBut name o = (o ≡ None) ⊎ (o ≡ Some name)

-- as a test for another name tells
pub none_but : (name : List ℕ) (o : Option (List ℕ)) → option_map_or (λ other. not (bytes_eq other name)) o false ≡ false → NoneBut name o
none_but name None own = inl refl
none_but name (Some other) own =
    inr (elim (bytes_eq other name) as (λ b. bytes_eq other name ≡ b → not b ≡ false → Some other ≡ Some name) [
      | true ↦ λ e f. ap Some ((bytes_eq-Decides other name).0 e)
      | false ↦ λ e f. absurd (cc)
    ] refl own)

or_this : (name : List ℕ) (o : Option (List ℕ)) → NoneBut name o → option_or o (Some name) ≡ Some name
or_this name o (inl none) = ap (λ (p : Option (List ℕ)). option_or p (Some name)) none
or_this name o (inr some) = ap (λ (p : Option (List ℕ)). option_or p (Some name)) some

-- where the client is of no other group than the act's
pub clients_after_home_act : (book : Book) (user group client : List ℕ) (id : ℕ) (call : Call) → NoneBut group (group_of client book)
    → clients_of (with_entry book (Act user group client id call)) ≡ put_by (λ (c : List ℕ × List ℕ × ℕ). c.0) (client, group, last client book + 1) (clients_of book)
clients_after_home_act book user group client id call home =
    let act = Act user group client id call in
    clients_after_act book user group client id call group
    (group_of-push client book act ∙ ap (λ (b : Bool). option_or (group_of client book) (cond b (Some group) None)) (equals client) ∙ or_this group (group_of client book) home)

-- an entry that is no act leaves the clients
clients_after_other : (book : Book) (entry : Entry) → ((client : List ℕ) → is_act_of client entry ≡ false) → clients_of (with_entry book entry) ≡ clients_of book
clients_after_other book entry other =
    in_order-same client_key (clients_of (with_entry book entry)) (clients_of book) (clients-in_order (with_entry book entry)) (clients-in_order book)
    (λ c. found_client c (with_entry book entry) ∙ other_client c book entry (other c) ∙ sym (found_client c book))

-- so a look and a retirement leave them
pub clients_after_look : (book : Book) (user group : List ℕ) (order : ℕ) (base : Option ℕ) → clients_of (with_entry book (Look user group order base)) ≡ clients_of book
clients_after_look book user group order base = clients_after_other book (Look user group order base) (λ client. refl)

pub clients_after_retire : (book : Book) (group : List ℕ) → clients_of (with_entry book (Retire group)) ≡ clients_of book
clients_after_retire book group = clients_after_other book (Retire group) (λ client. refl)

-- a group, as it is said of
abbrev Group : Type 0
Group = List ℕ × List ℕ × ℕ × Bool

abbrev group_key : Group → List ℕ
group_key group = group.0

group_keyed : (book : Book) (group : List ℕ) (x : Group) → group_named group book ≡ Some x → x.0 ≡ group
group_keyed book group x is =
    elim (bound group book) as (λ o. option_map {U = Group} (λ user. (group, user, last_order group book, retired group book)) o ≡ Some x → x.0 ≡ group) [
      | None ↦ λ h. absurd (cc)
      | Some user ↦ λ h. sym (ap group_key (same_Some _ x h))
    ] is

-- a group is bound where the page, an act or a look names it
is_bound_in : (group : List ℕ) (entries : List Entry) → list_any (λ name. bytes_eq name group) (filter_map binding_group entries) ≡ is_some (bound_in group entries)
is_bound_in group [] = refl
is_bound_in group (Act user other client id call ∷ entries) =
    elim (bytes_eq other group) as (λ b. (b || list_any (λ name. bytes_eq name group) (filter_map binding_group entries)) ≡ is_some (cond b (Some user) (bound_in group entries))) [ true ↦ refl | false ↦ is_bound_in group entries ]
is_bound_in group (Look user other order base ∷ entries) =
    elim (bytes_eq other group) as (λ b. (b || list_any (λ name. bytes_eq name group) (filter_map binding_group entries)) ≡ is_some (cond b (Some user) (bound_in group entries))) [ true ↦ refl | false ↦ is_bound_in group entries ]
is_bound_in group (Retire other ∷ entries) = is_bound_in group entries

pub group_is_named : (group : List ℕ) (book : Book) → list_any (λ name. bytes_eq name group) (groups_named book) ≡ is_some (bound group book)
group_is_named group book =
    any_named group_key group book.page.groups binding_group book.entries (is_some (bound_in group book.entries)) (is_bound_in group book.entries)
    ∙ either_some (λ (g : Group). g.1) (page_group group book.page) (bound_in group book.entries)

-- what is found in the register of the groups
pub found_group : (group : List ℕ) (book : Book) → find_by (λ (g : List ℕ × List ℕ × ℕ × Bool). g.0) group (groups_of book) ≡ group_named group book
found_group group book =
    find-info group_key (λ g. group_named g book) group (groups_named book) (group_keyed book)
    ∙ ap (λ (b : Bool). cond b (group_named group book) None) (group_is_named group book)
    ∙ where_some (λ user. (group, user, last_order group book, retired group book)) (bound group book)

pub groups-in_order : (book : Book) → InOrder (λ (g : List ℕ × List ℕ × ℕ × Bool). g.0) (groups_of book)
groups-in_order book = in_order-sorted group_key (filter_map (λ group. group_named group book) (groups_named book))

-- the user of a group, when one more entry follows
bound_in-push : (group : List ℕ) (entries : List Entry) (entry : Entry) → bound_in group (entries ++ entry ∷ []) ≡ option_or (bound_in group entries) (cond (binds group entry) (user_of entry) None)
bound_in-push group [] (Act user other client id call) = refl
bound_in-push group [] (Look user other order base) = refl
bound_in-push group [] (Retire other) = refl
bound_in-push group (Act user other client id call ∷ entries) entry =
    elim (bytes_eq other group) as (λ b. cond b (Some user) (bound_in group (entries ++ entry ∷ [])) ≡ option_or (cond b (Some user) (bound_in group entries)) (cond (binds group entry) (user_of entry) None)) [
      | true ↦ refl
      | false ↦ bound_in-push group entries entry
    ]
bound_in-push group (Look user other order base ∷ entries) entry =
    elim (bytes_eq other group) as (λ b. cond b (Some user) (bound_in group (entries ++ entry ∷ [])) ≡ option_or (cond b (Some user) (bound_in group entries)) (cond (binds group entry) (user_of entry) None)) [
      | true ↦ refl
      | false ↦ bound_in-push group entries entry
    ]
bound_in-push group (Retire other ∷ entries) entry = bound_in-push group entries entry

pub bound-push : (group : List ℕ) (book : Book) (entry : Entry) → bound group (with_entry book entry) ≡ option_or (bound group book) (cond (binds group entry) (user_of entry) None)
bound-push group book entry =
    let page = option_map (λ (g : Group). g.1) (page_group group book.page) in
    ap (option_or page) (bound_in-push group book.entries entry) ∙ or_or page (bound_in group book.entries) (cond (binds group entry) (user_of entry) None)

-- what is said of a group, when an entry follows that leaves what it is told by
left_group : (group : List ℕ) (book : Book) (entry : Entry) → binds group entry ≡ false → order_after group (last_order group book) entry ≡ last_order group book → retires group entry ≡ false
    → group_named group (with_entry book entry) ≡ group_named group book
left_group group book entry unbound same stands =
    let user : bound group (with_entry book entry) ≡ bound group book = bound-push group book entry ∙ ap (λ (b : Bool). option_or (bound group book) (cond b (user_of entry) None)) unbound ∙ or_none (bound group book) in
    let order : last_order group (with_entry book entry) ≡ last_order group book = last_order-with_entry group book entry ∙ same in
    let gone : retired group (with_entry book entry) ≡ retired group book = retired-with_entry group book entry ∙ ap (λ (b : Bool). retired group book || b) stands ∙ or-false (retired group book) in
    (λ i. option_map (λ u. (group, u, order i, gone i)) (user i))

-- as one that names another group does
other_group : (group : List ℕ) (book : Book) (entry : Entry) → names_group group entry ≡ false → group_named group (with_entry book entry) ≡ group_named group book
other_group group book (Act user named client id call) other = left_group group book (Act user named client id call) other refl refl
other_group group book (Look user named order base) other = left_group group book (Look user named order base) other (ap (λ (b : Bool). cond b order (last_order group book)) other) refl
other_group group book (Retire named) other = left_group group book (Retire named) refl refl other

-- one more entry of a group puts the group, as it is said of after the entry
groups_after : (book : Book) (entry : Entry) (user : List ℕ) (order : ℕ) (gone : Bool) → bound (named_in entry) (with_entry book entry) ≡ Some user → order_after (named_in entry) (last_order (named_in entry) book) entry ≡ order → (retired (named_in entry) book || retires (named_in entry) entry) ≡ gone
    → groups_of (with_entry book entry) ≡ put_by group_key (named_in entry, user, order, gone) (groups_of book)
groups_after book entry user order gone own last stands =
    put-same group_key (λ g. group_named g book) (λ g. group_named g (with_entry book entry)) (named_in entry, user, order, gone) (groups_of book) (groups_of (with_entry book entry))
    (groups-in_order book) (groups-in_order (with_entry book entry)) (λ g. found_group g book) (λ g. found_group g (with_entry book entry))
    (λ i. option_map (λ u. (named_in entry, u, (last_order-with_entry (named_in entry) book entry ∙ last) i, (retired-with_entry (named_in entry) book entry ∙ stands) i)) (own i))
    (λ g other. other_group g book entry (not_same g (named_in entry) other))

-- the user of an act or a look, whose group is bound to no other
bound_by : (book : Book) (entry : Entry) (user : List ℕ) → binds (named_in entry) entry ≡ true → user_of entry ≡ Some user → NoneBut user (bound (named_in entry) book) → bound (named_in entry) (with_entry book entry) ≡ Some user
bound_by book entry user own is free =
    bound-push (named_in entry) book entry ∙ (λ i. option_or (bound (named_in entry) book) (cond (own i) (is i) None)) ∙ or_this user (bound (named_in entry) book) free

-- an act puts its group, bound to its user
pub groups_after_act : (book : Book) (user group client : List ℕ) (id : ℕ) (call : Call) → NoneBut user (bound group book)
    → groups_of (with_entry book (Act user group client id call)) ≡ put_by (λ (g : List ℕ × List ℕ × ℕ × Bool). g.0) (group, user, last_order group book, retired group book) (groups_of book)
groups_after_act book user group client id call free =
    let act = Act user group client id call in
    groups_after book act user (last_order group book) (retired group book) (bound_by book act user (equals group) refl free) refl (or-false (retired group book))

-- a look puts its group with its order
pub groups_after_look : (book : Book) (user group : List ℕ) (order : ℕ) (base : Option ℕ) → NoneBut user (bound group book)
    → groups_of (with_entry book (Look user group order base)) ≡ put_by (λ (g : List ℕ × List ℕ × ℕ × Bool). g.0) (group, user, order, retired group book) (groups_of book)
groups_after_look book user group order base free =
    let look = Look user group order base in
    groups_after book look user order (retired group book) (bound_by book look user (equals group) refl free) (ap (λ (b : Bool). cond b order (last_order group book)) (equals group)) (or-false (retired group book))

-- a retirement puts its group as one that is retired
pub groups_after_retire : (book : Book) (group user : List ℕ) → bound group book ≡ Some user
    → groups_of (with_entry book (Retire group)) ≡ put_by (λ (g : List ℕ × List ℕ × ℕ × Bool). g.0) (group, user, last_order group book, true) (groups_of book)
groups_after_retire book group user is =
    groups_after book (Retire group) user (last_order group book) true (bound-push group book (Retire group) ∙ or_none (bound group book) ∙ is) refl
    (ap (λ (b : Bool). retired group book || b) (equals group) ∙ or-true (retired group book))

-- Every group that is retired is bound: in a book as it opens, and after one more entry that keeps to it.
pub retires_bound-opening : (page : Page) → RetiresBound (book_from page [])
retires_bound-opening page = λ group gone. known (page_group group page) gone
  where
    known : (o : Option Group) → (option_map_or (λ g. g.3) o false || false) ≡ true → IsSome (option_or (option_map (λ g. g.1) o) None)
    known None gone = absurd (cc)
    known (Some g) gone = refl

-- the entry retires no group, or one that is bound
abbrev pub BoundIfRetired : Book → Entry → Type 0
BoundIfRetired book (Act user group client id call) = Unit {0}
BoundIfRetired book (Look user group order base) = Unit {0}
BoundIfRetired book (Retire group) = IsSome (bound group book)

-- a group that is bound stays so
bound_stays : (group : List ℕ) (book : Book) (entry : Entry) → IsSome (bound group book) → IsSome (bound group (with_entry book entry))
bound_stays group book entry is = ap is_some (bound-push group book entry) ∙ either (bound group book) (cond (binds group entry) (user_of entry) None) is
  where
    either : (o p : Option (List ℕ)) → is_some o ≡ true → is_some (option_or o p) ≡ true
    either None p some = absurd (cc)
    either (Some user) p some = refl

retired_now : (group : List ℕ) (book : Book) (entry : Entry) → BoundIfRetired book entry → retires group entry ≡ true → IsSome (bound group book)
retired_now group book (Act user other client id call) named gone = absurd (cc)
retired_now group book (Look user other order base) named gone = absurd (cc)
retired_now group book (Retire other) named gone = subst (λ (g : List ℕ). IsSome (bound g book)) ((bytes_eq-Decides other group).0 gone) named

pub retires_bound-with_entry : (book : Book) (entry : Entry) → RetiresBound book → BoundIfRetired book entry → RetiresBound (with_entry book entry)
retires_bound-with_entry book entry bound_before named = λ group gone.
    bound_stays group book entry (
    elim (retired group book) as (λ b. retired group book ≡ b → (b || retires group entry) ≡ true → IsSome (bound group book)) [
      | true ↦ λ before now. bound_before group before
      | false ↦ λ before now. retired_now group book entry named now
    ] refl (sym (retired-with_entry group book entry) ∙ gone)
    )
