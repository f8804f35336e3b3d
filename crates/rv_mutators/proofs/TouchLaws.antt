-- The users who see a key that a call writes or removes.
use Rattle.std.proofs.Common.{◌≡◌, ℕ, Bool, true, false, cond, ◌&&◌, ◌||◌, List, [], ◌∷◌, ◌++◌, map, Option, Some, None, Result, Ok, Err, refl, sym, ap, ◌∙◌, subst, not}
use Rattle.std.specs.Prelude.{IfOk}
use Rattle.std.specs.Str.{bytes_eq}
use Rattle.std.specs.List.{filter, list_any}
use Rattle.std.specs.Option.{option_map_or}
use Rattle.std.proofs.lemmas.Option.{none-some, same_Some}
use Rattle.std.proofs.lemmas.Slice.Eq.{bytes_eq-Decides}
use Rattle.rv_base.specs.Sorted.{find_by, InOrder}
use Rattle.rv_base.specs.PositionLaws.{equals, found-any, none_found, found-sorted, find_put}
use Rattle.rv_base.specs.ArrangedLaws.{distinct-in_order, distinct-push, sorted-in_order, sorted-push, find-changed, in_order-map}
use Rattle.rv_rows.specs.declared.key.Key.{Key}
use Rattle.rv_rows.specs.declared.key.Kind.TheVariants as kinds
use Rattle.rv_rows.specs.declared.role.Role.{Role}
use Rattle.rv_rows.specs.declared.row.Row.{Row}
use Rattle.rv_rows.specs.declared.row.Row.TheVariants as variants
use Rattle.rv_rows.specs.declared.call.Call.{Call}
use Rattle.rv_rows.specs.declared.call.Call.TheVariants.{CreateList, DeleteList, CreateShare, UpdateShare, DeleteShare, CreateTodo, UpdateTodo, DeleteTodo, SetExtent, Void}
use Rattle.rv_rows.specs.Keys.{key_text, row_key, row_text, row_at, has_row, in_key_order}
use Rattle.rv_rows.specs.Held.{Stored, rows_in, AreRows}
use Rattle.rv_rows.specs.Sharing.{is_list, is_extent, names, owns, shares, may_see, is_synced, sees_list, sees_row, may_edit, list_of, list_passes}
use Rattle.rv_rows.specs.Effects.{is_outside, is_other, is_unchanged, may_change, may_set_role, ends, with_fields, with_role, after_update, after_role, replaced, with_extent, next_sort, effect}
use Rattle.rv_rows.specs.Changes.{same_row, is_gone, written, lost, version_after}
use Rattle.rv_rows.specs.EffectLaws.{sees_row-sorted, replaced-key}
use Rattle.rv_sharing.specs.Affected.{sees_key, AreAffected}
use Rattle.rv_mutators.specs.declared.staged.Staged.{Staged}
use Rattle.rv_mutators.specs.Staging.{staged, with_staged, IsStagedOn, written_if}
use Rattle.rv_mutators.specs.Touched.{touched, AreTouched, sees_with, AddsReaders}
use Rattle.rv_mutators.proofs.Picked.{by_flag, by_found, find-key}
use Rattle.rv_mutators.proofs.Changed.{changes, at_own, changes-none, changes-push, changes-filter, changes-map}
use Rattle.rv_rows.specs.HeldLaws.{in_order-rows}
use Rattle.rv_mutators.proofs.Applied.{applied-changes}
use Rattle.rv_mutators.proofs.Calls.{free_first, free_second, set_at, keeps, set_if, set-is, fields-keep, role-keeps, extent_of, replaces}
use Rattle.rv_mutators.proofs.ReaderLaws.{list_any-push}

-- whether a user sees a touched key before or after, told by the removed keys before and the written rows
abbrev pub HasViewers : List Row → List Row → List ℕ → Staged → Type 0
HasViewers before after user s = (list_any (sees_key before user) (touched s) || list_any (sees_key after user) (touched s)) ≡ (list_any (sees_key before user) s.keys || list_any (sees_with before user) s.rows)

append-nil : {X : Type 0} (xs : List X) → xs ++ [] ≡ xs
append-nil [] = refl
append-nil (x ∷ xs) = ap (λ t. x ∷ t) (append-nil xs)

-- a key that is lost is seen by nobody afterwards
lost-unseen : (user : List ℕ) (before after : List Row) → list_any (sees_key (in_key_order after) user) (lost before after) ≡ false
unfolding is_gone
lost-unseen user [] after = refl
lost-unseen user (row ∷ before) after =
    by_flag (λ b. list_any (sees_key (in_key_order after) user) (map row_key (cond (not b) (row ∷ filter (is_gone after) before) (filter (is_gone after) before))) ≡ false) (has_row (row_text row) after)
    (λ e. lost-unseen user before after)
    (λ e. rw (none_found row_text (row_text row) (in_key_order after) (found-sorted row_text (row_text row) after ∙ e)) (lost-unseen user before after))

-- nothing is written
viewers-removed : (user : List ℕ) (before after : List Row) (keys : List Key) → lost before after ≡ keys → HasViewers before (in_key_order after) user (record { rows = []; keys = keys })
viewers-removed user before after keys e =
    rw (append-nil keys) (ap (λ (b : Bool). list_any (sees_key before user) keys || b) (subst (λ (t : List Key). list_any (sees_key (in_key_order after) user) t ≡ false) e (lost-unseen user before after)))

-- one row is written, and nothing removed
viewers-written : (user : List ℕ) (before after : List Row) (row : Row) → row_at (row_text row) after ≡ Some row → sees_row user after row ≡ sees_with before user row
    → (sees_key before user (row_key row) ≡ true → sees_with before user row ≡ true) → HasViewers before after user (record { rows = row ∷ []; keys = [] })
viewers-written user before after row stands same earlier = rw (stands, same) (each (sees_key before user (row_key row)) (sees_with before user row) earlier)
  where
    each : (a b : Bool) → (a ≡ true → b ≡ true) → ((a || false) || (b || false)) ≡ (b || false)
    each true b h = sym (ap (λ (t : Bool). t || false) (h refl))
    each false b h = refl

-- one more row
may_see-push : (user list : List ℕ) (rows : List Row) (row : Row) → may_see user list (rows ++ row ∷ []) ≡ may_see user list (row ∷ rows)
unfolding may_see
may_see-push user list rows row = rw (list_any-push (owns user list) rows row, list_any-push (is_list list) rows row, list_any-push (shares user list) rows row) refl

is_synced-push : (user list : List ℕ) (rows : List Row) (row : Row) → is_synced user list (rows ++ row ∷ []) ≡ is_synced user list (row ∷ rows)
unfolding is_synced
is_synced-push user list rows row = rw (list_any-push (is_extent user) rows row, list_any-push (names user list) rows row) refl

sees_list-push : (user list : List ℕ) (rows : List Row) (row : Row) → sees_list user list (rows ++ row ∷ []) ≡ sees_list user list (row ∷ rows)
sees_list-push user list rows row = λ i. may_see-push user list rows row i && is_synced-push user list rows row i

viewers-push : (user : List ℕ) (before : List Row) (row : Row) → InOrder row_text before → find_by row_text (row_text row) before ≡ None
    → HasViewers before (in_key_order (before ++ row ∷ [])) user (record { rows = row ∷ []; keys = [] })
viewers-push user before row h none =
    viewers-written user before (in_key_order (before ++ row ∷ [])) row
    (rw (sorted-push row_text row before, sorted-in_order row_text before h, find_put row_text (row_text row) row before, equals (row_text row)) refl)
    (sees_row-sorted user (before ++ row ∷ []) (distinct-push row_text row before none (distinct-in_order row_text before h)) row ∙ (λ i. option_map_or (λ list. sees_list-push user list before row i) (list_of row) (is_extent user row)))
    (λ e. absurd (let never : sees_key before user (row_key row) ≡ false = rw none refl in let both : false ≡ true = sym never ∙ e in cc))

-- only keys are removed
viewers-rest : (user : List ℕ) (before after : List Row) → written before after ≡ [] → HasViewers before (in_key_order after) user (changes before after)
viewers-rest user before after e =
    subst (λ (rows : List Row). HasViewers before (in_key_order after) user (record { rows = rows; keys = lost before after })) (sym e) (viewers-removed user before after (lost before after) refl)

any-map : (p : Row → Bool) (f : Row → Row) (rows : List Row) → ((x : Row) → p (f x) ≡ p x) → list_any p (map f rows) ≡ list_any p rows
any-map p f [] same = refl
any-map p f (x ∷ rows) same = rw (same x, any-map p f rows same) refl

-- a row that is found among others adds nothing to what one of them shows
is_among : {X : Type 0} (key : X → List ℕ) (p : X → Bool) (k : List ℕ) (xs : List X) (x : X) → find_by key k xs ≡ Some x → (p x || list_any p xs) ≡ list_any p xs
is_among {X = X} key p k [] x e = absurd (none-some x e)
is_among {X = X} key p k (y ∷ ys) x e =
    by_flag (λ b. cond b (Some y) (find_by key k ys) ≡ Some x → (p x || (p y || list_any p ys)) ≡ (p y || list_any p ys)) (bytes_eq k (key y))
    (λ t f. subst (λ (z : X). (p z || (p y || list_any p ys)) ≡ (p y || list_any p ys)) (same_Some y x f) (twice (p y) (list_any p ys)))
    (λ t f. moved (p x) (p y) (list_any p ys) (is_among key p k ys x f)) e
  where
    twice : (a b : Bool) → (a || (a || b)) ≡ (a || b)
    twice true b = refl
    twice false b = refl

    moved : (a b c : Bool) → (a || c) ≡ c → (a || (b || c)) ≡ (b || c)
    moved true b c e = rw (sym e) (or_true b)
      where
        or_true : (b : Bool) → true ≡ (b || true)
        or_true true = refl
        or_true false = refl
    moved false b c e = refl

both_true : (b c : Bool) → (b && c) ≡ true → b ≡ true
both_true true c e = refl
both_true false c e = absurd (cc)

module _ (before : List Row) (h : InOrder row_text before) (user caller : List ℕ) where
  viewers-none : HasViewers before (in_key_order before) user (changes before before)
  viewers-none = viewers-rest user before before (ap (λ (s : Staged). s.rows) (changes-none before h))

  viewers-push_if : (test : Bool) (row : Row) → (test ≡ true → has_row (row_text row) before ≡ false)
      → HasViewers before (in_key_order (cond test (before ++ row ∷ []) before)) user (changes before (cond test (before ++ row ∷ []) before))
  viewers-push_if true row free =
      let none = none_found row_text (row_text row) before (found-any row_text (row_text row) before ∙ free refl) in
      subst (HasViewers before (in_key_order (before ++ row ∷ [])) user) (sym (changes-push before row h none)) (viewers-push user before row h none)
  viewers-push_if false row free = viewers-none

  viewers-filter_if : (test : Bool) (p : Row → Bool) → HasViewers before (in_key_order (cond test (filter p before) before)) user (changes before (cond test (filter p before) before))
  viewers-filter_if true p = viewers-rest user before (filter p before) (ap (λ (s : Staged). s.rows) (changes-filter before p h))
  viewers-filter_if false p = viewers-none

  -- a row at a key is replaced
  module _ (k : List ℕ) (allowed : Row → Bool) (new : Row → Row) (keeps_key : (x : Row) → row_text (new x) ≡ row_text x) where
    abbrev set : Row → Row
    set = set_at before h k allowed new keeps_key

    -- beside the others the new row shows what it shows in the other's place, and no less than that showed
    abbrev Sighted : Row → Type 0
    Sighted x = (sees_row user (map set before) (new x) ≡ sees_with before user (new x)) × (sees_row user before x ≡ true → sees_with before user (new x) ≡ true)

    module _ (sighted : (x : Row) → find_by row_text k before ≡ Some x → Sighted x) where
      sorted : in_key_order (map set before) ≡ map set before
      sorted = sorted-in_order row_text (map set before) (in_order-map row_text set before (keeps before h k allowed new keeps_key) h)

      viewers-set : (x : Row) → find_by row_text k before ≡ Some x → allowed x ≡ true → HasViewers before (in_key_order (map set before)) user (record { rows = new x ∷ []; keys = [] })
      viewers-set x e may =
          let own = at_own k before x e in
          let at : bytes_eq k (row_text x) ≡ true = subst (λ (t : List ℕ). bytes_eq t (row_text x) ≡ true) (sym (find-key row_text k before x e)) (equals (row_text x)) in
          viewers-written user before (in_key_order (map set before)) (new x)
          (rw (keeps_key x, sorted, find-changed row_text set (row_text x) before (keeps before h k allowed new keeps_key), own, at, may) refl)
          (rw sorted (sighted x e).0)
          (λ t. (sighted x e).1 (rw (keeps_key x, own) at t))

      viewers-still : HasViewers before (in_key_order (map set before)) user (record { rows = []; keys = [] })
      viewers-still = viewers-removed user before (map set before) [] (ap (λ (s : Staged). s.keys) (changes-map before set (keeps before h k allowed new keeps_key) h))

      viewers-found : (x : Row) → find_by row_text k before ≡ Some x → HasViewers before (in_key_order (map set before)) user (written_if (set_if before h k allowed new keeps_key x) (new x))
      viewers-found x e =
          by_flag (λ b. HasViewers before (in_key_order (map set before)) user (written_if b (new x))) (set_if before h k allowed new keeps_key x)
          (λ t. viewers-set x e (both_true (allowed x) (not (same_row (new x) x)) t))
          (λ t. viewers-still)

      viewers-map : HasViewers before (in_key_order (map set before)) user (changes before (map set before))
      viewers-map =
          subst (HasViewers before (in_key_order (map set before)) user) (set-is before h k allowed new keeps_key)
          (by_found (λ o. HasViewers before (in_key_order (map set before)) user (option_map_or (λ x. written_if (set_if before h k allowed new keeps_key x) (new x)) o (record { rows = []; keys = [] })))
          (find_by row_text k before)
          (λ e. viewers-still)
          (λ x e. viewers-found x e))

    -- by one that shows the same to the same users
    module _ (same_list : (x : Row) → list_of (new x) ≡ list_of x) (owns_same : (list : List ℕ) (x : Row) → owns user list (new x) ≡ owns user list x) (is_list_same : (list : List ℕ) (x : Row) → is_list list (new x) ≡ is_list list x)
        (shares_same : (list : List ℕ) (x : Row) → shares user list (new x) ≡ shares user list x) (extent_same : (x : Row) → is_extent user (new x) ≡ is_extent user x) (names_same : (list : List ℕ) (x : Row) → names user list (new x) ≡ names user list x) where
      same_by : (p : Row → Bool) → ((x : Row) → p (new x) ≡ p x) → (x : Row) → p (set x) ≡ p x
      same_by p same x = elim (bytes_eq k (row_text x) && allowed x) as (λ b. p (cond b (new x) x) ≡ p x) [ true ↦ same x | false ↦ refl ]

      sees_list-set : (list : List ℕ) → sees_list user list (map set before) ≡ sees_list user list before
      unfolding may_see is_synced
      sees_list-set list =
          rw (
            any-map (owns user list) set before (same_by (owns user list) (owns_same list)),
            any-map (is_list list) set before (same_by (is_list list) (is_list_same list)),
            any-map (shares user list) set before (same_by (shares user list) (shares_same list)),
            any-map (is_extent user) set before (same_by (is_extent user) extent_same),
            any-map (names user list) set before (same_by (names user list) (names_same list)),
          ) refl

      -- beside the others it shows no more than the row that it replaces, which is among them
      sees_list-beside : (x : Row) (list : List ℕ) → find_by row_text k before ≡ Some x → sees_list user list (new x ∷ before) ≡ sees_list user list before
      unfolding may_see is_synced
      sees_list-beside x list e =
          rw (
            owns_same list x,
            is_list_same list x,
            shares_same list x,
            extent_same x,
            names_same list x,
            is_among row_text (owns user list) k before x e,
            is_among row_text (is_list list) k before x e,
            is_among row_text (shares user list) k before x e,
            is_among row_text (is_extent user) k before x e,
            is_among row_text (names user list) k before x e,
          ) refl

      same_sight : (x : Row) → find_by row_text k before ≡ Some x → Sighted x
      same_sight x e = (
        (λ i. option_map_or (λ list. (sees_list-set list ∙ sym (sees_list-beside x list e)) i) (list_of (new x)) (is_extent user (new x))),
        λ t. (λ i. option_map_or (λ list. sees_list-beside x list e i) (same_list x i) (extent_same x i)) ∙ t,
      )

      viewers-same : HasViewers before (in_key_order (map set before)) user (changes before (map set before))
      viewers-same = viewers-map same_sight

  -- a todo's fields are set
  viewers-fields : (id : List ℕ) (text : Option (List ℕ)) (complete : Option Bool) (sort : Option ℕ) → HasViewers before (in_key_order (map (after_update caller before id text complete sort) before)) user (staged before caller (UpdateTodo id text complete sort))
  unfolding may_change
  viewers-fields id text complete sort =
      viewers-same (key_text (record { kind = kinds.Todo; id = id })) (list_passes (λ list. may_edit caller list before)) (with_fields text complete sort) (fields-keep before h text complete sort) same_list owns_same is_list_same shares_same extent_same names_same
    where
      same_list : (x : Row) → list_of (with_fields text complete sort x) ≡ list_of x
      same_list (variants.Extent x) = refl
      same_list (variants.List x) = refl
      same_list (variants.Share x) = refl
      same_list (variants.Todo x) = refl

      owns_same : (list : List ℕ) (x : Row) → owns user list (with_fields text complete sort x) ≡ owns user list x
      owns_same list (variants.Extent x) = refl
      owns_same list (variants.List x) = refl
      owns_same list (variants.Share x) = refl
      owns_same list (variants.Todo x) = refl

      is_list_same : (list : List ℕ) (x : Row) → is_list list (with_fields text complete sort x) ≡ is_list list x
      is_list_same list (variants.Extent x) = refl
      is_list_same list (variants.List x) = refl
      is_list_same list (variants.Share x) = refl
      is_list_same list (variants.Todo x) = refl

      shares_same : (list : List ℕ) (x : Row) → shares user list (with_fields text complete sort x) ≡ shares user list x
      shares_same list (variants.Extent x) = refl
      shares_same list (variants.List x) = refl
      shares_same list (variants.Share x) = refl
      shares_same list (variants.Todo x) = refl

      extent_same : (x : Row) → is_extent user (with_fields text complete sort x) ≡ is_extent user x
      extent_same (variants.Extent x) = refl
      extent_same (variants.List x) = refl
      extent_same (variants.Share x) = refl
      extent_same (variants.Todo x) = refl

      names_same : (list : List ℕ) (x : Row) → names user list (with_fields text complete sort x) ≡ names user list x
      names_same list (variants.Extent x) = refl
      names_same list (variants.List x) = refl
      names_same list (variants.Share x) = refl
      names_same list (variants.Todo x) = refl

  -- a share's role is set
  viewers-role : (id : List ℕ) (role : Role) → HasViewers before (in_key_order (map (after_role caller before id role) before)) user (staged before caller (UpdateShare id role))
  unfolding may_set_role
  viewers-role id role =
      viewers-same (key_text (record { kind = kinds.Share; id = id })) (list_passes (λ list. list_any (owns caller list) before)) (with_role role) (role-keeps before h role) same_list owns_same is_list_same shares_same extent_same names_same
    where
      same_list : (x : Row) → list_of (with_role role x) ≡ list_of x
      same_list (variants.Extent x) = refl
      same_list (variants.List x) = refl
      same_list (variants.Share x) = refl
      same_list (variants.Todo x) = refl

      owns_same : (list : List ℕ) (x : Row) → owns user list (with_role role x) ≡ owns user list x
      owns_same list (variants.Extent x) = refl
      owns_same list (variants.List x) = refl
      owns_same list (variants.Share x) = refl
      owns_same list (variants.Todo x) = refl

      is_list_same : (list : List ℕ) (x : Row) → is_list list (with_role role x) ≡ is_list list x
      is_list_same list (variants.Extent x) = refl
      is_list_same list (variants.List x) = refl
      is_list_same list (variants.Share x) = refl
      is_list_same list (variants.Todo x) = refl

      shares_same : (list : List ℕ) (x : Row) → shares user list (with_role role x) ≡ shares user list x
      shares_same list (variants.Extent x) = refl
      shares_same list (variants.List x) = refl
      shares_same list (variants.Share x) = refl
      shares_same list (variants.Todo x) = refl

      extent_same : (x : Row) → is_extent user (with_role role x) ≡ is_extent user x
      extent_same (variants.Extent x) = refl
      extent_same (variants.List x) = refl
      extent_same (variants.Share x) = refl
      extent_same (variants.Todo x) = refl

      names_same : (list : List ℕ) (x : Row) → names user list (with_role role x) ≡ names user list x
      names_same list (variants.Extent x) = refl
      names_same list (variants.List x) = refl
      names_same list (variants.Share x) = refl
      names_same list (variants.Todo x) = refl

  -- a user's extent is set, or it goes
  module _ (lists : List (List ℕ)) where
    abbrev new_extent : Row
    new_extent = extent_of before h caller lists

    -- whoever saw the one that it replaces sees it: its user
    new_sight : (x : Row) → find_by row_text (row_text new_extent) before ≡ Some x → Sighted (row_text new_extent) (λ _. true) (replaced new_extent) (replaced-key new_extent) x
    new_sight x e = sight x (subst (λ (t : List ℕ). bytes_eq t (row_text x) ≡ true) (sym (find-key row_text (row_text new_extent) before x e)) (equals (row_text x)))
      where
        sight : (x : Row) → bytes_eq (row_text new_extent) (row_text x) ≡ true → Sighted (row_text new_extent) (λ _. true) (replaced new_extent) (replaced-key new_extent) x
        sight (variants.Extent x) at = rw at (refl, λ t. ap (λ (u : List ℕ). bytes_eq u user) ((bytes_eq-Decides caller x.user).0 at) ∙ t)
        sight (variants.List x) at = absurd (cc)
        sight (variants.Share x) at = absurd (cc)
        sight (variants.Todo x) at = absurd (cc)

    viewers-replaced : HasViewers before (in_key_order (map (replaced new_extent) before)) user (changes before (map (replaced new_extent) before))
    viewers-replaced =
        subst (λ (rows : List Row). HasViewers before (in_key_order rows) user (changes before rows)) (λ i. map (λ x. replaces before h caller new_extent x i) before)
        (viewers-map (row_text new_extent) (λ _. true) (replaced new_extent) (replaced-key new_extent) new_sight)

  viewers-extent : (lists : Option (List (List ℕ))) → HasViewers before (in_key_order (with_extent caller lists before)) user (changes before (with_extent caller lists before))
  viewers-extent (Some lists) =
      let new = extent_of before h caller lists in
      by_flag (λ b. HasViewers before (in_key_order (cond b (map (replaced new) before) (before ++ new ∷ []))) user (changes before (cond b (map (replaced new) before) (before ++ new ∷ [])))) (has_row (row_text new) before)
      (λ e. viewers-replaced lists)
      (λ e. viewers-push_if true new (λ _. e))
  viewers-extent None = viewers-filter_if true (is_other kinds.Extent caller)

  -- each call
  viewers : (call : Call) → HasViewers before (in_key_order (effect before caller call)) user (staged before caller call)
  viewers (CreateList id name owner) =
      viewers-push_if (not (has_row (key_text (record { kind = kinds.List; id = id })) before) && bytes_eq owner caller) (variants.List (record { id = id; name = name; owner = owner }))
      (free_first before h (has_row (key_text (record { kind = kinds.List; id = id })) before) (bytes_eq owner caller))
  viewers (DeleteList id) = viewers-filter_if (list_any (owns caller id) before) (is_outside id)
  viewers (CreateShare id list other role) =
      viewers-push_if (list_any (owns caller list) before && not (has_row (key_text (record { kind = kinds.Share; id = id })) before) && not (bytes_eq other caller) && not (list_any (shares other list) before)) (variants.Share (record { id = id; list = list; user = other; role = role }))
      (free_second before h (list_any (owns caller list) before) (has_row (key_text (record { kind = kinds.Share; id = id })) before) (not (bytes_eq other caller)) (not (list_any (shares other list) before)))
  viewers (UpdateShare id role) = viewers-role id role
  viewers (DeleteShare id) = viewers-filter_if (list_any (ends caller before id) before) (is_other kinds.Share id)
  viewers (CreateTodo id list text complete) =
      viewers-push_if (not (has_row (key_text (record { kind = kinds.Todo; id = id })) before) && may_edit caller list before) (variants.Todo (record { id = id; list = list; text = text; complete = complete; sort = next_sort list before }))
      (free_first before h (has_row (key_text (record { kind = kinds.Todo; id = id })) before) (may_edit caller list before))
  viewers (UpdateTodo id text complete sort) = viewers-fields id text complete sort
  viewers (DeleteTodo id) = viewers-filter_if true (is_unchanged caller before id)
  viewers (SetExtent lists) = viewers-extent lists
  viewers (Void reason) = viewers-none

rows_stored : (version : Row → ℕ) (rows : List Row) → rows_in (map (λ row. (row, version row)) rows) ≡ rows
rows_stored version [] = refl
rows_stored version (row ∷ rows) = ap (λ (t : List Row). row ∷ t) (rows_stored version rows)

rows_after : (stored : List Stored) (caller : List ℕ) (call : Call) → AreRows stored → rows_in (with_staged 0 (staged (rows_in stored) caller call) stored) ≡ in_key_order (effect (rows_in stored) caller call)
rows_after stored caller call h =
    ap rows_in (applied-changes 0 stored (effect (rows_in stored) caller call) h) ∙ rows_stored (version_after 0 stored) (in_key_order (effect (rows_in stored) caller call))

pub are_touched : {E : Type 0} (stored : List Stored) (s : Staged) (users : List (List ℕ)) (result : Result (List (List ℕ)) E) → AreRows stored → IsStagedOn stored s
    → AreAffected (rows_in stored) s.keys users → IfOk result (AddsReaders (rows_in stored) s.rows users) → IfOk result (AreTouched stored s)
are_touched stored s users (Err e) h on removed readers = tt
are_touched stored s users (Ok after) h on removed readers = record {
  order = readers.order;
  each = λ user. readers.each user ∙ ap (λ (b : Bool). b || list_any (sees_with (rows_in stored) user) s.rows) (removed.each user) ∙ sym (both user);
}
  where
    both : (user : List ℕ) → HasViewers (rows_in stored) (rows_in (with_staged 0 s stored)) user s
    both user =
        subst (λ (t : Staged). HasViewers (rows_in stored) (rows_in (with_staged 0 t stored)) user t) (sym on.2)
        (subst (λ (rows : List Row). HasViewers (rows_in stored) rows user (staged (rows_in stored) on.0 on.1)) (sym (rows_after stored on.0 on.1 h)) (viewers (rows_in stored) (in_order-rows stored h) user on.0 on.1))
