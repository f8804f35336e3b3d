-- Laws of owners: among rows of which no two have one key, the owner of a list decides whether the list is there, who owns
-- it, and who may see it.
use Rattle.std.proofs.Common.{◌≡◌, ℕ, Bool, true, false, cond, List, [], ◌∷◌, Option, Some, None, IfSome, drop, refl, sym, ap, ◌∙◌, subst, ◌||◌, ◌&&◌}
use Rattle.std.specs.declared.cmp.Ordering.TheVariants.{Less, Greater}
use Rattle.std.specs.List.{AllByRecursion, filter, list_any}
use Rattle.std.specs.Option.{is_some, option_map, option_map_or, option_and_then}
use Rattle.std.specs.Str.{bytes_eq}
use Rattle.std.proofs.lemmas.List.{append_cancel_left}
use Rattle.std.proofs.lemmas.Option.{none-some}
use Rattle.std.proofs.lemmas.Slice.Eq.{bytes_eq-Decides}
use Rattle.rv_base.specs.Sorted.{Distinct}
use Rattle.rv_base.specs.PositionLaws.{Above, in_order-filter}
use Rattle.rv_base.specs.ArrangedLaws.{find-map}
use Rattle.rv_rows.specs.declared.key.Kind.TheVariants as kinds
use Rattle.rv_rows.specs.declared.row.ListRow.{ListRow}
use Rattle.rv_rows.specs.declared.row.Row.{Row}
use Rattle.rv_rows.specs.declared.row.ShareRow.{ShareRow}
use Rattle.rv_rows.specs.declared.row.TodoRow.{TodoRow}
use Rattle.rv_rows.specs.declared.row.Row.TheVariants as variants
use Rattle.rv_rows.specs.Keys.{prefix, key_text, row_text, row_at}
use Rattle.rv_rows.specs.Held.{Stored, rows_in, find, stored_key, AreRows}
use Rattle.rv_rows.specs.HeldLaws.{distinct-rows}
use Rattle.rv_rows.proofs.SlotLaws.{found_key}
use Rattle.rv_rows.specs.Sharing.{belongs, is_list, owns, shares, may_see, lets_edit, may_edit}
use Rattle.rv_sharing.specs.Owners.{row_owner, first_owner, owner_of}
use Rattle.rv_sharing.specs.SameTextLaws.{same_either_way}

-- the text of a list's key
abbrev list_key : List ℕ → List ℕ
list_key list = key_text (record { kind = kinds.List; id = list })

-- a text is the one that is given on a condition
pub picked : (a b : List ℕ) (given : Bool) → option_map_or (bytes_eq a) (cond given (Some b) None) false ≡ (given && bytes_eq a b)
picked a b true = refl
picked a b false = refl

-- the list is there exactly where it has an owner
pub is_list-owner : (list : List ℕ) (rows : List Row) → list_any (is_list list) rows ≡ is_some (owner_of list rows)
is_list-owner list [] = refl
is_list-owner list (variants.Extent row ∷ rows) = is_list-owner list rows
is_list-owner list (variants.List row ∷ rows) =
    ap (λ (b : Bool). b || list_any (is_list list) rows) (same_either_way row.id list)
    ∙ elim (bytes_eq list row.id) as (λ b. (b || list_any (is_list list) rows) ≡ is_some (option_and_then row_owner (cond b (Some (variants.List row)) (row_at (list_key list) rows)))) [
      | true ↦ refl
      | false ↦ is_list-owner list rows
    ]
is_list-owner list (variants.Share row ∷ rows) = is_list-owner list rows
is_list-owner list (variants.Todo row ∷ rows) = is_list-owner list rows

pub is_list-found : {X : Type 0} (view : X → List ℕ) (o : Option X) (list : List ℕ) (rows : List Row) → option_map view o ≡ owner_of list rows → is_some o ≡ list_any (is_list list) rows
is_list-found view o list rows is = seen o ∙ ap is_some is ∙ sym (is_list-owner list rows)
  where
    seen : (o : Option _) → is_some o ≡ is_some (option_map view o)
    seen None = refl
    seen (Some x) = refl

-- the user owns it exactly where the user is that owner
none_owns : (user list : List ℕ) (rows : List Row) → row_at (list_key list) rows ≡ None → list_any (owns user list) rows ≡ false
none_owns user list [] h = refl
none_owns user list (variants.Extent row ∷ rows) h = none_owns user list rows h
none_owns user list (variants.List row ∷ rows) h =
    ap (λ (b : Bool). (b && bytes_eq row.owner user) || list_any (owns user list) rows) (same_either_way row.id list)
    ∙ elim (bytes_eq list row.id) as (λ b. cond b (Some (variants.List row)) (row_at (list_key list) rows) ≡ None → ((b && bytes_eq row.owner user) || list_any (owns user list) rows) ≡ false) [
      | true ↦ λ e. absurd (cc)
      | false ↦ λ e. none_owns user list rows e
    ] h
none_owns user list (variants.Share row ∷ rows) h = none_owns user list rows h
none_owns user list (variants.Todo row ∷ rows) h = none_owns user list rows h

pub or_none : (b c : Bool) → c ≡ false → (b || c) ≡ b
or_none true c h = refl
or_none false c h = h

pub owns-owner : (user list : List ℕ) (rows : List Row) → Distinct row_text rows → list_any (owns user list) rows ≡ option_map_or (λ owner. bytes_eq owner user) (owner_of list rows) false
owns-owner user list [] apart = refl
owns-owner user list (variants.Extent row ∷ rows) apart = owns-owner user list rows apart.1
owns-owner user list (variants.List row ∷ rows) apart =
    ap (λ (b : Bool). (b && bytes_eq row.owner user) || list_any (owns user list) rows) (same_either_way row.id list)
    ∙ elim (bytes_eq list row.id) as (λ b. bytes_eq list row.id ≡ b → ((b && bytes_eq row.owner user) || list_any (owns user list) rows) ≡ option_map_or (λ owner. bytes_eq owner user) (option_and_then row_owner (cond b (Some (variants.List row)) (row_at (list_key list) rows))) false) [
      | true ↦ λ e. or_none (bytes_eq row.owner user) _ (none_owns user list rows (subst (λ (id : List ℕ). row_at (list_key id) rows ≡ None) (sym ((bytes_eq-Decides list row.id).0 e)) apart.0))
      | false ↦ λ e. owns-owner user list rows apart.1
    ] refl
owns-owner user list (variants.Share row ∷ rows) apart = owns-owner user list rows apart.1
owns-owner user list (variants.Todo row ∷ rows) apart = owns-owner user list rows apart.1

-- who owns a list or is let by one of its rows, by its owner
let-owner : (lets : Row → Bool) (user list : List ℕ) (rows : List Row) → Distinct row_text rows
    → (list_any (owns user list) rows || (list_any (is_list list) rows && list_any lets rows)) ≡ option_map_or (λ owner. bytes_eq owner user || list_any lets rows) (owner_of list rows) false
let-owner lets user list rows apart =
    ap (λ (b : Bool). b || (list_any (is_list list) rows && list_any lets rows)) (owns-owner user list rows apart)
    ∙ ap (λ (b : Bool). option_map_or (λ owner. bytes_eq owner user) (owner_of list rows) false || (b && list_any lets rows)) (is_list-owner list rows)
    ∙ joined (owner_of list rows)
  where
    joined : (o : Option (List ℕ)) → (option_map_or (λ owner. bytes_eq owner user) o false || (is_some o && list_any lets rows)) ≡ option_map_or (λ owner. bytes_eq owner user || list_any lets rows) o false
    joined None = refl
    joined (Some owner) = refl

-- who may see a list, by its owner
pub may_see-owner : (user list : List ℕ) (rows : List Row) → Distinct row_text rows → may_see user list rows ≡ option_map_or (λ owner. bytes_eq owner user || list_any (shares user list) rows) (owner_of list rows) false
unfolding may_see
may_see-owner user list rows apart = let-owner (shares user list) user list rows apart

-- who may edit a list, by its owner
may_edit-owner : (user list : List ℕ) (rows : List Row) → Distinct row_text rows → may_edit user list rows ≡ option_map_or (λ owner. bytes_eq owner user || list_any (lets_edit user list) rows) (owner_of list rows) false
unfolding may_edit
may_edit-owner user list rows apart = let-owner (lets_edit user list) user list rows apart

-- the owner of a list, by what is found in a table
pub owner-found : (list : List ℕ) (stored : List Stored) → option_and_then (λ (s : Stored). row_owner s.0) (find (list_key list) stored) ≡ owner_of list (rows_in stored)
owner-found list stored = joined (find (list_key list) stored) ∙ ap (λ (o : Option Row). option_and_then row_owner o) (find-map row_text (λ (s : Stored). s.0) (list_key list) stored)
  where
    joined : (o : Option Stored) → option_and_then (λ (s : Stored). row_owner s.0) o ≡ option_and_then row_owner (option_map (λ (s : Stored). s.0) o)
    joined None = refl
    joined (Some s) = refl

-- a list that is found in a table by the text of a list's key is that list
pub id-found : {X : Type 0} (view : X → ListRow) (o : Option X) (list : List ℕ) (stored : List Stored) (row : Row) (version : ℕ) → Some (row, version) ≡ find (list_key list) stored → IfSome o (λ x. row ≡ variants.List (view x))
    → IfSome o (λ x. (view x).id ≡ list)
id-found view None list stored row version is same = tt
id-found view (Some x) list stored row version is same =
    sym (append_cancel_left (prefix kinds.List) list (view x).id (found_key stored_key (list_key list) stored (row, version) (sym is) ∙ ap row_text same))

-- who may see a list of a table, by what is known of its owner
pub may_see-owned : (user list owner : List ℕ) (stored : List Stored) → AreRows stored → Some owner ≡ owner_of list (rows_in stored) → may_see user list (rows_in stored) ≡ (bytes_eq owner user || list_any (shares user list) (rows_in stored))
may_see-owned user list owner stored order is = may_see-owner user list (rows_in stored) (distinct-rows stored order) ∙ ap (λ (o : Option (List ℕ)). option_map_or (λ owner. bytes_eq owner user || list_any (shares user list) (rows_in stored)) o false) (sym is)

pub may_see-absent : (user list : List ℕ) (stored : List Stored) → AreRows stored → None ≡ owner_of list (rows_in stored) → may_see user list (rows_in stored) ≡ false
may_see-absent user list stored order is = may_see-owner user list (rows_in stored) (distinct-rows stored order) ∙ ap (λ (o : Option (List ℕ)). option_map_or (λ owner. bytes_eq owner user || list_any (shares user list) (rows_in stored)) o false) (sym is)

-- who may edit a list of a table, by what is known of its owner
pub may_edit-owned : (user list owner : List ℕ) (stored : List Stored) → AreRows stored → Some owner ≡ owner_of list (rows_in stored) → may_edit user list (rows_in stored) ≡ (bytes_eq owner user || list_any (lets_edit user list) (rows_in stored))
may_edit-owned user list owner stored order is = may_edit-owner user list (rows_in stored) (distinct-rows stored order) ∙ ap (λ (o : Option (List ℕ)). option_map_or (λ owner. bytes_eq owner user || list_any (lets_edit user list) (rows_in stored)) o false) (sym is)

pub may_edit-absent : (user list : List ℕ) (stored : List Stored) → AreRows stored → None ≡ owner_of list (rows_in stored) → may_edit user list (rows_in stored) ≡ false
may_edit-absent user list stored order is = may_edit-owner user list (rows_in stored) (distinct-rows stored order) ∙ ap (λ (o : Option (List ℕ)). option_map_or (λ owner. bytes_eq owner user || list_any (lets_edit user list) (rows_in stored)) o false) (sym is)

-- who owns a list of a table, by what is known of its owner
pub owns-found : (user list : List ℕ) (stored : List Stored) (owner : Option (List ℕ)) → AreRows stored → owner ≡ owner_of list (rows_in stored)
    → option_map_or (λ owner. bytes_eq owner user) owner false ≡ list_any (owns user list) (rows_in stored)
owns-found user list stored owner order is = ap (λ (o : Option (List ℕ)). option_map_or (λ owner. bytes_eq owner user) o false) is ∙ sym (owns-owner user list (rows_in stored) (distinct-rows stored order))

-- the owner of a list is told by the rows of that list
own_owner : (list : List ℕ) (stored : List Stored) → owner_of list (rows_in (filter (λ s. belongs list s.0) stored)) ≡ owner_of list (rows_in stored)
own_owner list [] = refl
own_owner list ((variants.Extent row, version) ∷ stored) = own_owner list stored
own_owner list ((variants.List row, version) ∷ stored) =
    let own : List Stored = filter (λ s. belongs list s.0) stored in
    ap (λ (b : Bool). owner_of list (rows_in (cond b ((variants.List row, version) ∷ own) own))) (same_either_way row.id list)
    ∙ elim (bytes_eq list row.id) as (λ b. bytes_eq list row.id ≡ b → owner_of list (rows_in (cond b ((variants.List row, version) ∷ own) own)) ≡ option_and_then row_owner (cond b (Some (variants.List row)) (row_at (list_key list) (rows_in stored)))) [
      | true ↦ λ e. ap (λ (b : Bool). option_and_then row_owner (cond b (Some (variants.List row)) (row_at (list_key list) (rows_in own)))) e
      | false ↦ λ e. own_owner list stored
    ] refl
own_owner list ((variants.Share row, version) ∷ stored) =
    elim (bytes_eq row.list list) as (λ b. owner_of list (rows_in (cond b ((variants.Share row, version) ∷ filter (λ s. belongs list s.0) stored) (filter (λ s. belongs list s.0) stored))) ≡ owner_of list (rows_in stored)) [
      | true ↦ own_owner list stored
      | false ↦ own_owner list stored
    ]
own_owner list ((variants.Todo row, version) ∷ stored) =
    elim (bytes_eq row.list list) as (λ b. owner_of list (rows_in (cond b ((variants.Todo row, version) ∷ filter (λ s. belongs list s.0) stored) (filter (λ s. belongs list s.0) stored))) ≡ owner_of list (rows_in stored)) [
      | true ↦ own_owner list stored
      | false ↦ own_owner list stored
    ]

-- no list comes after a share or a todo
none_after-share : (row : ShareRow) (list : List ℕ) (rest : List Stored) → Above stored_key (row_text (variants.Share row)) rest → None ≡ owner_of list (rows_in rest)
none_after-share row list [] all = refl
none_after-share row list ((variants.Extent next, version) ∷ rest) all = absurd (let below : Less ≡ Greater = sym all.0 in cc)
none_after-share row list ((variants.List next, version) ∷ rest) all = absurd (let below : Less ≡ Greater = sym all.0 in cc)
none_after-share row list ((variants.Share next, version) ∷ rest) all = none_after-share row list rest all.1
none_after-share row list ((variants.Todo next, version) ∷ rest) all = none_after-share row list rest all.1

none_after-todo : (row : TodoRow) (list : List ℕ) (rest : List Stored) → Above stored_key (row_text (variants.Todo row)) rest → None ≡ owner_of list (rows_in rest)
none_after-todo row list [] all = refl
none_after-todo row list ((variants.Extent next, version) ∷ rest) all = absurd (let below : Less ≡ Greater = sym all.0 in cc)
none_after-todo row list ((variants.List next, version) ∷ rest) all = absurd (let below : Less ≡ Greater = sym all.0 in cc)
none_after-todo row list ((variants.Share next, version) ∷ rest) all = none_after-todo row list rest all.1
none_after-todo row list ((variants.Todo next, version) ∷ rest) all = none_after-todo row list rest all.1

all_belong : (list : List ℕ) (stored : List Stored) → AllByRecursion (λ s. belongs list s.0 ≡ true) (filter (λ s. belongs list s.0) stored)
all_belong list [] = tt
all_belong list (s ∷ stored) =
    elim (belongs list s.0) as (λ b. belongs list s.0 ≡ b → AllByRecursion (λ s. belongs list s.0 ≡ true) (cond b (s ∷ filter (λ s. belongs list s.0) stored) (filter (λ s. belongs list s.0) stored))) [
      | true ↦ λ e. (e, all_belong list stored)
      | false ↦ λ _. all_belong list stored
    ] refl

first_tells : (list : List ℕ) (own : List Stored) → AreRows own → AllByRecursion (λ s. belongs list s.0 ≡ true) own → first_owner own ≡ owner_of list (rows_in own)
first_tells list [] order all = refl
first_tells list ((variants.Extent row, version) ∷ rest) order all = absurd (let both : false ≡ true = all.0 in cc)
first_tells list ((variants.List row, version) ∷ rest) order all =
    ap (λ (b : Bool). option_and_then row_owner (cond b (Some (variants.List row)) (row_at (list_key list) (rows_in rest)))) (sym (sym (same_either_way row.id list) ∙ all.0))
first_tells list ((variants.Share row, version) ∷ rest) order all = none_after-share row list rest order.0
first_tells list ((variants.Todo row, version) ∷ rest) order all = none_after-todo row list rest order.0

-- the first of the rows of a list tells its owner
pub owner-first : (list : List ℕ) (stored own : List Stored) → AreRows stored → own ≡ filter (λ s. belongs list s.0) stored → first_owner own ≡ owner_of list (rows_in stored)
owner-first list stored own order is =
    ap first_owner is
    ∙ first_tells list (filter (λ s. belongs list s.0) stored) (in_order-filter stored_key (λ s. belongs list s.0) stored order) (all_belong list stored)
    ∙ own_owner list stored

-- the rows behind the list's own have all of its shares
pub shares-behind : (user list owner : List ℕ) (own : List Stored) → Some owner ≡ first_owner own → list_any (shares user list) (rows_in (drop 1 own)) ≡ list_any (shares user list) (rows_in own)
shares-behind user list owner [] e = absurd (none-some owner (sym e))
shares-behind user list owner ((variants.Extent row, version) ∷ rest) e = absurd (none-some owner (sym e))
shares-behind user list owner ((variants.List row, version) ∷ rest) e = refl
shares-behind user list owner ((variants.Share row, version) ∷ rest) e = absurd (none-some owner (sym e))
shares-behind user list owner ((variants.Todo row, version) ∷ rest) e = absurd (none-some owner (sym e))

pub order-behind : (own : List Stored) → AreRows own → AreRows (drop 1 own)
order-behind [] order = tt
order-behind (s ∷ rest) order = order.1
