-- What a call does does not depend on the order of the rows, where no two have one key; and it leaves no two with one key.
use Rattle.std.proofs.Common.{◌≡◌, ℕ, Bool, true, false, cond, List, [], ◌∷◌, ◌++◌, map, Option, Some, None, refl, sym, ap, ◌∙◌, subst, not, ◌&&◌, ◌||◌, nat_lt, arith}
use Rattle.std.specs.List.{filter, fold, list_any}
use Rattle.std.specs.Option.{option_map_or}
use Rattle.std.specs.Str.{bytes_eq}
use Rattle.std.specs.Bool.{Decides}
use Rattle.std.proofs.lemmas.Slice.Eq.{bytes_eq-Decides, slice_eq-Decides}
use Rattle.std.proofs.lemmas.Bool.Decides.{nat_tests, Decides-eqb, Decides-and}
use Rattle.rv_base.specs.Sorted.{put_by, Distinct}
use Rattle.rv_base.specs.PositionLaws.{equals, found-any, none_found}
use Rattle.rv_base.specs.ArrangedLaws.{distinct-filter, distinct-map, distinct-push, sorted-sorted, sorted-push, list_any-sorted, filter-sorted, map-sorted}
use Rattle.rv_rows.specs.declared.key.Kind.TheVariants as kinds
use Rattle.rv_rows.specs.declared.role.Role.{Role}
use Rattle.rv_rows.specs.declared.role.Role.TheVariants as roles
use Rattle.rv_rows.specs.declared.row.Row.{Row}
use Rattle.rv_rows.specs.declared.row.Row.TheVariants as variants
use Rattle.rv_rows.specs.declared.call.Call.{Call}
use Rattle.rv_rows.specs.declared.call.Call.TheVariants.{CreateList, DeleteList, CreateShare, UpdateShare, DeleteShare, CreateTodo, UpdateTodo, DeleteTodo, SetExtent, Void}
use Rattle.rv_rows.specs.Keys.{key_text, row_text, has_row, in_key_order}
use Rattle.rv_rows.specs.Sharing.{owns, shares, lets_edit, is_list, is_extent, names, list_of, list_passes, may_see, is_synced, sees_list, sees_row, may_edit}
use Rattle.rv_rows.specs.Roles.{same_role}
use Rattle.rv_rows.specs.Extents.{same_lists}
use Rattle.rv_rows.specs.Effects.{effect, is_at, may_change, may_end, ends, is_unchanged, is_outside, is_other, greater_sort, greatest_sort, next_sort, sort_after, sort_in, with_fields, after_update, may_set_role, with_role, after_role, replaced, with_row, with_extent}
use Rattle.rv_rows.specs.Changes.{same_row, same_flag}

-- what is told of the rows in the order of their keys
has_row-sorted : (key : List ℕ) (rows : List Row) → Distinct row_text rows → has_row key (in_key_order rows) ≡ has_row key rows
has_row-sorted key rows h = list_any-sorted row_text (λ row. bytes_eq key (row_text row)) rows h

pub may_see-sorted : (user list : List ℕ) (rows : List Row) → Distinct row_text rows → may_see user list (in_key_order rows) ≡ may_see user list rows
unfolding may_see
may_see-sorted user list rows h =
    let owned = list_any-sorted row_text (owns user list) rows h in
    let there = list_any-sorted row_text (is_list list) rows h in
    let shared = list_any-sorted row_text (shares user list) rows h in
    (λ i. owned i || (there i && shared i))

pub is_synced-sorted : (user list : List ℕ) (rows : List Row) → Distinct row_text rows → is_synced user list (in_key_order rows) ≡ is_synced user list rows
unfolding is_synced
is_synced-sorted user list rows h =
    let extent = list_any-sorted row_text (is_extent user) rows h in
    let named = list_any-sorted row_text (names user list) rows h in
    (λ i. not (extent i) || named i)

pub sees_list-sorted : (user list : List ℕ) (rows : List Row) → Distinct row_text rows → sees_list user list (in_key_order rows) ≡ sees_list user list rows
sees_list-sorted user list rows h = λ i. may_see-sorted user list rows h i && is_synced-sorted user list rows h i

pub sees_row-sorted : (user : List ℕ) (rows : List Row) → Distinct row_text rows → (row : Row) → sees_row user (in_key_order rows) row ≡ sees_row user rows row
sees_row-sorted user rows h row = λ i. option_map_or (λ list. sees_list-sorted user list rows h i) (list_of row) (is_extent user row)

pub may_edit-sorted : (user list : List ℕ) (rows : List Row) → Distinct row_text rows → may_edit user list (in_key_order rows) ≡ may_edit user list rows
unfolding may_edit
may_edit-sorted user list rows h =
    let owned = list_any-sorted row_text (owns user list) rows h in
    let there = list_any-sorted row_text (is_list list) rows h in
    let lets = list_any-sorted row_text (lets_edit user list) rows h in
    (λ i. owned i || (there i && lets i))

may_set_role-sorted : (user : List ℕ) (rows : List Row) (id : List ℕ) → Distinct row_text rows → may_set_role user (in_key_order rows) id ≡ may_set_role user rows id
unfolding may_set_role
may_set_role-sorted user rows id h = λ i row. is_at kinds.Share id row && list_passes (λ list. list_any-sorted row_text (owns user list) rows h i) row

may_change-sorted : (user : List ℕ) (rows : List Row) (id : List ℕ) → Distinct row_text rows → may_change user (in_key_order rows) id ≡ may_change user rows id
unfolding may_change
may_change-sorted user rows id h = λ i row. is_at kinds.Todo id row && list_passes (λ list. may_edit-sorted user list rows h i) row

may_end-sorted : (user : List ℕ) (rows : List Row) (row : Row) → Distinct row_text rows → may_end user (in_key_order rows) row ≡ may_end user rows row
may_end-sorted user rows (variants.Share row) h = ap (λ (b : Bool). b || bytes_eq row.user user) (list_any-sorted row_text (owns user row.list) rows h)
may_end-sorted user rows (variants.Extent row) h = refl
may_end-sorted user rows (variants.List row) h = refl
may_end-sorted user rows (variants.Todo row) h = refl

ends-sorted : (user : List ℕ) (rows : List Row) (id : List ℕ) → Distinct row_text rows → ends user (in_key_order rows) id ≡ ends user rows id
unfolding ends
ends-sorted user rows id h = λ i row. is_at kinds.Share id row && may_end-sorted user rows row h i

-- the greatest sort is above n exactly where some row's sort is
above_greater : (n most sort : ℕ) → nat_lt n (cond (nat_lt most sort) sort most) ≡ (nat_lt n most || nat_lt n sort)
above_greater n most sort = grind (arith, nat_tests)

or_nothing : (a : Bool) → a ≡ (a || false)
or_nothing true = refl
or_nothing false = refl

or_regroup : (a b c : Bool) → ((a || b) || c) ≡ (a || (b || c))
or_regroup true b c = refl
or_regroup false b c = refl

above_fold : (n : ℕ) (list : List ℕ) (most : ℕ) (rows : List Row) → nat_lt n (fold (greater_sort list) most rows) ≡ (nat_lt n most || list_any (λ row. nat_lt n (sort_in list row)) rows)
above_fold n list most [] = or_nothing (nat_lt n most)
above_fold n list most (row ∷ rows) =
    above_fold n list (greater_sort list most row) rows
    ∙ ap (λ (b : Bool). b || list_any (λ row. nat_lt n (sort_in list row)) rows) (above_greater n most (sort_in list row))
    ∙ or_regroup (nat_lt n most) (nat_lt n (sort_in list row)) (list_any (λ row. nat_lt n (sort_in list row)) rows)

same_by_above : (a b : ℕ) → ((n : ℕ) → nat_lt n a ≡ nat_lt n b) → a ≡ b
same_by_above a b same = grind (arith, nat_tests, same a, same b)

-- so it does not depend on the order of the rows
pub greatest_sort-same : (list : List ℕ) (rows others : List Row) → ((test : Row → Bool) → list_any test rows ≡ list_any test others) → greatest_sort list rows ≡ greatest_sort list others
greatest_sort-same list rows others same =
    same_by_above (greatest_sort list rows) (greatest_sort list others)
    (λ n. above_fold n list 0 rows ∙ ap (λ (b : Bool). nat_lt n 0 || b) (same (λ row. nat_lt n (sort_in list row))) ∙ sym (above_fold n list 0 others))

greatest_sort-sorted : (list : List ℕ) (rows : List Row) → Distinct row_text rows → greatest_sort list (in_key_order rows) ≡ greatest_sort list rows
greatest_sort-sorted list rows h = greatest_sort-same list (in_key_order rows) rows (λ test. list_any-sorted row_text test rows h)

next_sort-sorted : (list : List ℕ) (rows : List Row) → Distinct row_text rows → next_sort list (in_key_order rows) ≡ next_sort list rows
next_sort-sorted list rows h = ap sort_after (greatest_sort-sorted list rows h)

-- the key of a row whose fields are set
with_fields-key : (text : Option (List ℕ)) (complete : Option Bool) (sort : Option ℕ) (row : Row) → row_text (with_fields text complete sort row) ≡ row_text row
with_fields-key text complete sort (variants.Extent row) = refl
with_fields-key text complete sort (variants.List row) = refl
with_fields-key text complete sort (variants.Share row) = refl
with_fields-key text complete sort (variants.Todo row) = refl

with_role-key : (role : Role) (row : Row) → row_text (with_role role row) ≡ row_text row
with_role-key role (variants.Extent row) = refl
with_role-key role (variants.List row) = refl
with_role-key role (variants.Share row) = refl
with_role-key role (variants.Todo row) = refl

after_role-key : (user : List ℕ) (rows : List Row) (id : List ℕ) (role : Role) (row : Row) → row_text (after_role user rows id role row) ≡ row_text row
after_role-key user rows id role row = elim (may_set_role user rows id row) as (λ b. row_text (cond b (with_role role row) row) ≡ row_text row) [ true ↦ with_role-key role row | false ↦ refl ]

after_update-key : (user : List ℕ) (rows : List Row) (id : List ℕ) (text : Option (List ℕ)) (complete : Option Bool) (sort : Option ℕ) (row : Row) → row_text (after_update user rows id text complete sort row) ≡ row_text row
after_update-key user rows id text complete sort row = elim (may_change user rows id row) as (λ b. row_text (cond b (with_fields text complete sort row) row) ≡ row_text row) [ true ↦ with_fields-key text complete sort row | false ↦ refl ]

-- a row that takes the place of another has its key
pub replaced-key : (new row : Row) → row_text (replaced new row) ≡ row_text row
replaced-key new row = elim (bytes_eq (row_text new) (row_text row)) as (λ b. bytes_eq (row_text new) (row_text row) ≡ b → row_text (cond b new row) ≡ row_text row) [ true ↦ λ e. (bytes_eq-Decides (row_text new) (row_text row)).0 e | false ↦ λ e. refl ] refl

-- keys stay distinct: one more row with a new key, rows that are filtered, and rows that keep their keys
distinct_more : (rows : List Row) (row : Row) (b : Bool) → (b ≡ true → has_row (row_text row) rows ≡ false) → Distinct row_text rows → Distinct row_text (cond b (rows ++ row ∷ []) rows)
distinct_more rows row true new h = distinct-push row_text row rows (none_found row_text (row_text row) rows (found-any row_text (row_text row) rows ∙ new refl)) h
distinct_more rows row false new h = h

distinct_fewer : (rows : List Row) (p : Row → Bool) (b : Bool) → Distinct row_text rows → Distinct row_text (cond b (filter p rows) rows)
distinct_fewer rows p true h = distinct-filter row_text p rows h
distinct_fewer rows p false h = h

distinct_with : (new : Row) (rows : List Row) → Distinct row_text rows → Distinct row_text (with_row new rows)
distinct_with new rows h =
    elim (has_row (row_text new) rows) as (λ b. has_row (row_text new) rows ≡ b → Distinct row_text (cond b (map (replaced new) rows) (rows ++ new ∷ []))) [
      | true ↦ λ e. distinct-map row_text (replaced new) rows (replaced-key new) h
      | false ↦ λ e. distinct-push row_text new rows (none_found row_text (row_text new) rows (found-any row_text (row_text new) rows ∙ e)) h
    ] refl

distinct_extent : (user : List ℕ) (lists : Option (List (List ℕ))) (rows : List Row) → Distinct row_text rows → Distinct row_text (with_extent user lists rows)
distinct_extent user (Some lists) rows h = distinct_with (variants.Extent (record { user = user; lists = lists })) rows h
distinct_extent user None rows h = distinct-filter row_text (is_other kinds.Extent user) rows h

first_is_not : (a b : Bool) → (not a && b) ≡ true → a ≡ false
first_is_not true b e = absurd (cc)
first_is_not false b e = refl

second_is_not : (a b c d : Bool) → (a && not b && c && d) ≡ true → b ≡ false
second_is_not a false c d e = refl
second_is_not true true c d e = absurd (cc)
second_is_not false true c d e = absurd (cc)

pub distinct-effect : (rows : List Row) (user : List ℕ) (call : Call) → Distinct row_text rows → Distinct row_text (effect rows user call)
distinct-effect rows user (CreateList id name owner) h = distinct_more rows (variants.List (record { id = id; name = name; owner = owner })) _ (first_is_not _ _) h
distinct-effect rows user (DeleteList id) h = distinct_fewer rows (is_outside id) (list_any (owns user id) rows) h
distinct-effect rows user (CreateShare id list other role) h = distinct_more rows (variants.Share (record { id = id; list = list; user = other; role = role })) _ (second_is_not _ _ _ _) h
distinct-effect rows user (UpdateShare id role) h = distinct-map row_text (after_role user rows id role) rows (after_role-key user rows id role) h
distinct-effect rows user (DeleteShare id) h = distinct_fewer rows (is_other kinds.Share id) (list_any (ends user rows id) rows) h
distinct-effect rows user (CreateTodo id list text complete) h = distinct_more rows (variants.Todo (record { id = id; list = list; text = text; complete = complete; sort = next_sort list rows })) _ (first_is_not _ _) h
distinct-effect rows user (UpdateTodo id text complete sort) h = distinct-map row_text (after_update user rows id text complete sort) rows (after_update-key user rows id text complete sort) h
distinct-effect rows user (DeleteTodo id) h = distinct-filter row_text (is_unchanged user rows id) rows h
distinct-effect rows user (SetExtent lists) h = distinct_extent user lists rows h
distinct-effect rows user (Void reason) h = h

-- the same of rows in order and of rows: one more row, rows that are filtered, and rows that keep their keys
more-sorted : (rows : List Row) (row : Row) (b : Bool) → in_key_order (cond b (in_key_order rows ++ row ∷ []) (in_key_order rows)) ≡ in_key_order (cond b (rows ++ row ∷ []) rows)
more-sorted rows row true = sorted-push row_text row (in_key_order rows) ∙ ap (put_by row_text row) (sorted-sorted row_text rows) ∙ sym (sorted-push row_text row rows)
more-sorted rows row false = sorted-sorted row_text rows

left-sorted : (rows : List Row) (p : Row → Bool) → Distinct row_text rows → in_key_order (filter p (in_key_order rows)) ≡ in_key_order (filter p rows)
left-sorted rows p h = ap in_key_order (filter-sorted row_text p rows h) ∙ sorted-sorted row_text (filter p rows)

fewer-sorted : (rows : List Row) (p : Row → Bool) (b : Bool) → Distinct row_text rows → in_key_order (cond b (filter p (in_key_order rows)) (in_key_order rows)) ≡ in_key_order (cond b (filter p rows) rows)
fewer-sorted rows p true h = left-sorted rows p h
fewer-sorted rows p false h = sorted-sorted row_text rows

changed-sorted : (rows : List Row) (f : Row → Row) → ((row : Row) → row_text (f row) ≡ row_text row) → in_key_order (map f (in_key_order rows)) ≡ in_key_order (map f rows)
changed-sorted rows f keeps = ap in_key_order (map-sorted row_text f rows keeps) ∙ sorted-sorted row_text (map f rows)

with-sorted : (new : Row) (rows : List Row) → Distinct row_text rows → in_key_order (with_row new (in_key_order rows)) ≡ in_key_order (with_row new rows)
with-sorted new rows h =
    ap (λ (b : Bool). in_key_order (cond b (map (replaced new) (in_key_order rows)) (in_key_order rows ++ new ∷ []))) (has_row-sorted (row_text new) rows h)
    ∙ elim (has_row (row_text new) rows) as (λ b. in_key_order (cond b (map (replaced new) (in_key_order rows)) (in_key_order rows ++ new ∷ [])) ≡ in_key_order (cond b (map (replaced new) rows) (rows ++ new ∷ []))) [
      | true ↦ changed-sorted rows (replaced new) (replaced-key new)
      | false ↦ more-sorted rows new true
    ]

extent-sorted : (user : List ℕ) (lists : Option (List (List ℕ))) (rows : List Row) → Distinct row_text rows → in_key_order (with_extent user lists (in_key_order rows)) ≡ in_key_order (with_extent user lists rows)
extent-sorted user (Some lists) rows h = with-sorted (variants.Extent (record { user = user; lists = lists })) rows h
extent-sorted user None rows h = left-sorted rows (is_other kinds.Extent user) h

pub effect-sorted : (rows : List Row) (user : List ℕ) (call : Call) → Distinct row_text rows → in_key_order (effect (in_key_order rows) user call) ≡ in_key_order (effect rows user call)
effect-sorted rows user (CreateList id name owner) h =
    let new = has_row-sorted (key_text (record { kind = kinds.List; id = id })) rows h in
    let row : Row = variants.List (record { id = id; name = name; owner = owner }) in
    ap (λ (b : Bool). in_key_order (cond (not b && bytes_eq owner user) (in_key_order rows ++ row ∷ []) (in_key_order rows))) new
    ∙ more-sorted rows row _
effect-sorted rows user (DeleteList id) h =
    ap (λ (b : Bool). in_key_order (cond b (filter (is_outside id) (in_key_order rows)) (in_key_order rows))) (list_any-sorted row_text (owns user id) rows h)
    ∙ fewer-sorted rows (is_outside id) (list_any (owns user id) rows) h
effect-sorted rows user (CreateShare id list other role) h =
    let owned = list_any-sorted row_text (owns user list) rows h in
    let new = has_row-sorted (key_text (record { kind = kinds.Share; id = id })) rows h in
    let shared = list_any-sorted row_text (shares other list) rows h in
    let row : Row = variants.Share (record { id = id; list = list; user = other; role = role }) in
    (λ i. in_key_order (cond (owned i && not (new i) && not (bytes_eq other user) && not (shared i)) (in_key_order rows ++ row ∷ []) (in_key_order rows)))
    ∙ more-sorted rows row _
effect-sorted rows user (UpdateShare id role) h =
    ap (λ (p : Row → Bool). in_key_order (map (λ row. cond (p row) (with_role role row) row) (in_key_order rows))) (may_set_role-sorted user rows id h)
    ∙ changed-sorted rows (after_role user rows id role) (after_role-key user rows id role)
effect-sorted rows user (DeleteShare id) h =
    ap (λ (b : Bool). in_key_order (cond b (filter (is_other kinds.Share id) (in_key_order rows)) (in_key_order rows))) (ap (λ (p : Row → Bool). list_any p (in_key_order rows)) (ends-sorted user rows id h) ∙ list_any-sorted row_text (ends user rows id) rows h)
    ∙ fewer-sorted rows (is_other kinds.Share id) (list_any (ends user rows id) rows) h
effect-sorted rows user (CreateTodo id list text complete) h =
    let new = has_row-sorted (key_text (record { kind = kinds.Todo; id = id })) rows h in
    let edits = may_edit-sorted user list rows h in
    let last = next_sort-sorted list rows h in
    (λ i. in_key_order (cond (not (new i) && edits i) (in_key_order rows ++ variants.Todo (record { id = id; list = list; text = text; complete = complete; sort = last i }) ∷ []) (in_key_order rows)))
    ∙ more-sorted rows (variants.Todo (record { id = id; list = list; text = text; complete = complete; sort = next_sort list rows })) _
effect-sorted rows user (UpdateTodo id text complete sort) h =
    ap (λ (p : Row → Bool). in_key_order (map (λ row. cond (p row) (with_fields text complete sort row) row) (in_key_order rows))) (may_change-sorted user rows id h)
    ∙ changed-sorted rows (after_update user rows id text complete sort) (after_update-key user rows id text complete sort)
effect-sorted rows user (DeleteTodo id) h =
    ap (λ (p : Row → Bool). in_key_order (filter (λ row. not (p row)) (in_key_order rows))) (may_change-sorted user rows id h)
    ∙ left-sorted rows (is_unchanged user rows id) h
effect-sorted rows user (SetExtent lists) h = extent-sorted user lists rows h
effect-sorted rows user (Void reason) h = sorted-sorted row_text rows

same_flag-is : (a b : Bool) → same_flag a b ≡ true → a ≡ b
same_flag-is true b e = sym e
same_flag-is false true e = absurd (cc)
same_flag-is false false e = refl

same_flag-itself : (a : Bool) → same_flag a a ≡ true
same_flag-itself true = refl
same_flag-itself false = refl

same_flag-Decides : (a b : Bool) → Decides (same_flag a b) (a ≡ b)
same_flag-Decides a b = (same_flag-is a b, λ e. subst (λ (t : Bool). same_flag a t ≡ true) e (same_flag-itself a))

same_role-is : (a b : Role) → same_role a b ≡ true → a ≡ b
same_role-is roles.View roles.View e = refl
same_role-is roles.View roles.Edit e = absurd (cc)
same_role-is roles.Edit roles.View e = absurd (cc)
same_role-is roles.Edit roles.Edit e = refl

same_role-itself : (a : Role) → same_role a a ≡ true
same_role-itself roles.View = refl
same_role-itself roles.Edit = refl

same_role-Decides : (a b : Role) → Decides (same_role a b) (a ≡ b)
same_role-Decides a b = (same_role-is a b, λ e. subst (λ (t : Role). same_role a t ≡ true) e (same_role-itself a))

same_lists-Decides : (a b : List (List ℕ)) → Decides (same_lists a b) (a ≡ b)
same_lists-Decides a b = slice_eq-Decides bytes_eq-Decides a b (same_lists a b) refl

pub same_lists_itself : (a : List (List ℕ)) → same_lists a a ≡ true
same_lists_itself a = (same_lists-Decides a a).1 refl

same_itself : (a : Row) → same_row a a ≡ true
same_itself (variants.Extent a) = rw (equals a.user) (same_lists_itself a.lists)
same_itself (variants.List a) = rw (equals a.id, equals a.name, equals a.owner) refl
same_itself (variants.Share a) = rw (equals a.id, equals a.list, equals a.user, same_role-itself a.role) refl
same_itself (variants.Todo a) = rw (equals a.id, equals a.list, equals a.text, same_flag-itself a.complete) ((Decides-eqb a.sort a.sort).1 refl)

same_from : (a b : Row) → same_row a b ≡ true → a ≡ b
same_from (variants.Extent a) (variants.Extent b) e =
    let is = (Decides-and _ _ (bytes_eq-Decides a.user b.user) (same_lists-Decides a.lists b.lists)).0 e in
    (λ i. variants.Extent (record { user = is.0 i; lists = is.1 i }))
same_from (variants.List a) (variants.List b) e =
    let is = (Decides-and _ _ (Decides-and _ _ (bytes_eq-Decides a.id b.id) (bytes_eq-Decides a.name b.name)) (bytes_eq-Decides a.owner b.owner)).0 e in
    (λ i. variants.List (record { id = is.0.0 i; name = is.0.1 i; owner = is.1 i }))
same_from (variants.Share a) (variants.Share b) e =
    let texts = Decides-and _ _ (Decides-and _ _ (bytes_eq-Decides a.id b.id) (bytes_eq-Decides a.list b.list)) (bytes_eq-Decides a.user b.user) in
    let is = (Decides-and _ _ texts (same_role-Decides a.role b.role)).0 e in
    (λ i. variants.Share (record { id = is.0.0.0 i; list = is.0.0.1 i; user = is.0.1 i; role = is.1 i }))
same_from (variants.Todo a) (variants.Todo b) e =
    let texts = Decides-and _ _ (Decides-and _ _ (bytes_eq-Decides a.id b.id) (bytes_eq-Decides a.list b.list)) (bytes_eq-Decides a.text b.text) in
    let is = (Decides-and _ _ (Decides-and _ _ texts (same_flag-Decides a.complete b.complete)) (Decides-eqb a.sort b.sort)).0 e in
    (λ i. variants.Todo (record { id = is.0.0.0.0 i; list = is.0.0.0.1 i; text = is.0.0.1 i; complete = is.0.1 i; sort = is.1 i }))
same_from (variants.Extent a) (variants.List b) e = absurd (cc)
same_from (variants.Extent a) (variants.Share b) e = absurd (cc)
same_from (variants.Extent a) (variants.Todo b) e = absurd (cc)
same_from (variants.List a) (variants.Extent b) e = absurd (cc)
same_from (variants.List a) (variants.Share b) e = absurd (cc)
same_from (variants.List a) (variants.Todo b) e = absurd (cc)
same_from (variants.Share a) (variants.Extent b) e = absurd (cc)
same_from (variants.Share a) (variants.List b) e = absurd (cc)
same_from (variants.Share a) (variants.Todo b) e = absurd (cc)
same_from (variants.Todo a) (variants.Extent b) e = absurd (cc)
same_from (variants.Todo a) (variants.List b) e = absurd (cc)
same_from (variants.Todo a) (variants.Share b) e = absurd (cc)

-- rows that are told to be the same are
pub same_row-Decides : (a b : Row) → (same_row a b ≡ true → a ≡ b) × (a ≡ b → same_row a b ≡ true)
same_row-Decides a b = (same_from a b, λ e. subst (λ (t : Row). same_row a t ≡ true) e (same_itself a))
