-- What each call stages on rows in the order of their keys.
use Rattle.std.proofs.Common.{◌≡◌, ℕ, Bool, true, false, cond, ◌&&◌, List, [], ◌∷◌, ◌++◌, map, Option, Some, None, Result, Ok, Err, refl, sym, ap, ◌∙◌, subst, not}
use Rattle.std.specs.Prelude.{IfOk}
use Rattle.std.specs.Str.{bytes_eq}
use Rattle.std.specs.List.{filter, list_any}
use Rattle.std.specs.Option.{option_map, option_map_or, is_some}
use Rattle.std.proofs.lemmas.List.Elements.{filter_agree}
use Rattle.rv_base.specs.Sorted.{find_by, InOrder}
use Rattle.rv_base.specs.PositionLaws.{equals, found-any, found-map, none_found}
use Rattle.rv_base.specs.ArrangedLaws.{find-map}
use Rattle.rv_rows.specs.declared.key.Kind.TheVariants as kinds
use Rattle.rv_rows.specs.declared.role.Role.{Role}
use Rattle.rv_rows.specs.declared.row.Row.{Row}
use Rattle.rv_rows.specs.declared.row.Row.TheVariants as variants
use Rattle.rv_rows.specs.declared.call.Call.TheVariants.{CreateList, DeleteList, CreateShare, UpdateShare, DeleteShare, CreateTodo, UpdateTodo, DeleteTodo, SetExtent}
use Rattle.rv_rows.specs.Keys.{key_text, row_key, row_text, has_row}
use Rattle.rv_rows.specs.Held.{Stored, rows_in, find}
use Rattle.rv_rows.specs.Sharing.{belongs, owns, shares, may_edit, list_passes}
use Rattle.rv_rows.specs.Effects.{is_outside, is_other, is_unchanged, may_change, may_set_role, ends, may_end, with_fields, with_role, replaced, next_sort}
use Rattle.rv_rows.specs.Changes.{same_row}
use Rattle.rv_rows.specs.EffectLaws.{same_row-Decides, replaced-key}
use Rattle.rv_mutators.specs.declared.staged.Staged.{Staged}
use Rattle.rv_mutators.specs.Staging.{staged, written_if, removed_if}
use Rattle.rv_mutators.proofs.Picked.{by_flag, by_found, find-key, filter-at, any-at}
use Rattle.rv_mutators.proofs.Changed.{changes, both, changes-none, changes-push, changes-filter, changes-map}

-- what a call gave is also what equals it
pub ok_is : {A E : Type 0} (r : Result A E) (x y : A) → IfOk r (λ s. s ≡ x) → x ≡ y → IfOk r (λ s. s ≡ y)
ok_is (Ok s) x y h e = h ∙ e
ok_is (Err f) x y h e = tt

-- a row that stays as it is is not written
pub stays_same : (row : Row) → written_if (not (same_row row row)) row ≡ record { rows = []; keys = [] }
stays_same row = ap (λ (b : Bool). written_if (not b) row) ((same_row-Decides row row).1 refl)

-- the one of two that a test picks
pub then_is : {A : Type 0} (b : Bool) (x y z : A) → b ≡ true → cond b x y ≡ z → x ≡ z
then_is b x y z e h = subst (λ (b : Bool). cond b x y ≡ z) e h

pub else_is : {A : Type 0} (b : Bool) (x y z : A) → b ≡ false → cond b x y ≡ z → y ≡ z
else_is b x y z e h = subst (λ (b : Bool). cond b x y ≡ z) e h

-- what a look-up in the tables says of the rows
pub row_in : (k : List ℕ) (stored : List Stored) → is_some (find k stored) ≡ has_row k (rows_in stored)
row_in k stored = found-map row_text (λ s. s.0) k stored ∙ found-any row_text k (rows_in stored)

pub row_there : {X : Type 0} (view : X → Stored) (o : Option X) (k : List ℕ) (stored : List Stored) → option_map view o ≡ find k stored → is_some o ≡ has_row k (rows_in stored)
row_there view o k stored e = seen view o ∙ ap is_some e ∙ row_in k stored
  where
    seen : {X : Type 0} (view : X → Stored) (o : Option X) → is_some o ≡ is_some (option_map view o)
    seen view None = refl
    seen view (Some x) = refl

pub row_found : (k : List ℕ) (stored : List Stored) (s : Stored) → Some s ≡ find k stored → find_by row_text k (rows_in stored) ≡ Some s.0
row_found k stored s e = sym (find-map row_text (λ s. s.0) k stored) ∙ ap (option_map (λ s. s.0)) (sym e)

pub row_absent : (k : List ℕ) (stored : List Stored) → None ≡ find k stored → find_by row_text k (rows_in stored) ≡ None
row_absent k stored e = sym (find-map row_text (λ s. s.0) k stored) ∙ ap (option_map (λ s. s.0)) (sym e)

module _ (rows : List Row) (h : InOrder row_text rows) where
  -- a row is added where the test holds
  push_if : (test : Bool) (r : Row) → (test ≡ true → has_row (row_text r) rows ≡ false) → written_if test r ≡ changes rows (cond test (rows ++ r ∷ []) rows)
  push_if true r free = sym (changes-push rows r h (none_found row_text (row_text r) rows (found-any row_text (row_text r) rows ∙ free refl)))
  push_if false r free = sym (changes-none rows h)

  pub free_first : (b c : Bool) → (not b && c) ≡ true → b ≡ false
  free_first true c e = absurd (cc)
  free_first false c e = refl

  pub free_second : (a b c d : Bool) → (a && not b && c && d) ≡ true → b ≡ false
  free_second true true c d e = absurd (cc)
  free_second false true c d e = absurd (cc)
  free_second a false c d e = refl

  pub create_list-is : (user id name owner : List ℕ)
      → written_if (not (has_row (key_text (record { kind = kinds.List; id = id })) rows) && bytes_eq owner user) (variants.List (record { id = id; name = name; owner = owner })) ≡ staged rows user (CreateList id name owner)
  create_list-is user id name owner =
      push_if (not (has_row (key_text (record { kind = kinds.List; id = id })) rows) && bytes_eq owner user) (variants.List (record { id = id; name = name; owner = owner }))
      (free_first (has_row (key_text (record { kind = kinds.List; id = id })) rows) (bytes_eq owner user))

  pub create_share-is : (user id list other : List ℕ) (role : Role)
      → written_if (list_any (owns user list) rows && not (has_row (key_text (record { kind = kinds.Share; id = id })) rows) && not (bytes_eq other user) && not (list_any (shares other list) rows)) (variants.Share (record { id = id; list = list; user = other; role = role }))
      ≡ staged rows user (CreateShare id list other role)
  create_share-is user id list other role =
      push_if (list_any (owns user list) rows && not (has_row (key_text (record { kind = kinds.Share; id = id })) rows) && not (bytes_eq other user) && not (list_any (shares other list) rows)) (variants.Share (record { id = id; list = list; user = other; role = role }))
      (free_second (list_any (owns user list) rows) (has_row (key_text (record { kind = kinds.Share; id = id })) rows) (not (bytes_eq other user)) (not (list_any (shares other list) rows)))

  pub create_todo-is : (user id list text : List ℕ) (complete : Bool)
      → written_if (not (has_row (key_text (record { kind = kinds.Todo; id = id })) rows) && may_edit user list rows) (variants.Todo (record { id = id; list = list; text = text; complete = complete; sort = next_sort list rows }))
      ≡ staged rows user (CreateTodo id list text complete)
  create_todo-is user id list text complete =
      push_if (not (has_row (key_text (record { kind = kinds.Todo; id = id })) rows) && may_edit user list rows) (variants.Todo (record { id = id; list = list; text = text; complete = complete; sort = next_sort list rows }))
      (free_first (has_row (key_text (record { kind = kinds.Todo; id = id })) rows) (may_edit user list rows))

  -- rows that a test picks are removed
  twice : (b : Bool) → not (not b) ≡ b
  twice true = refl
  twice false = refl

  pub delete_list-is : (user id : List ℕ)
      → cond {A = Staged} (list_any (owns user id) rows) (record { rows = []; keys = map row_key (filter (belongs id) rows) }) (record { rows = []; keys = [] }) ≡ staged rows user (DeleteList id)
  delete_list-is user id = each (list_any (owns user id) rows)
    where
      each : (b : Bool) → cond {A = Staged} b (record { rows = []; keys = map row_key (filter (belongs id) rows) }) (record { rows = []; keys = [] }) ≡ changes rows (cond b (filter (is_outside id) rows) rows)
      each true = sym (changes-filter rows (is_outside id) h ∙ both [] [] _ _ refl (ap (map row_key) (filter_agree (λ x. not (is_outside id x)) (belongs id) (λ x. twice (belongs id x)) rows)))
      each false = sym (changes-none rows h)

  -- the row that is found at a key is removed where the test holds
  removed : (k : List ℕ) (q p : Row → Bool) → ((x : Row) → not (p x) ≡ (bytes_eq k (row_text x) && q x))
      → option_map_or (λ x. removed_if (q x) x) (find_by row_text k rows) (record { rows = []; keys = [] }) ≡ changes rows (filter p rows)
  removed k q p same =
      picked (find_by row_text k rows)
      ∙ both [] [] _ _ refl (ap (map row_key) (sym (filter_agree (λ x. not (p x)) (λ x. bytes_eq k (row_text x) && q x) same rows ∙ filter-at row_text k q rows h)))
      ∙ sym (changes-filter rows p h)
    where
      one : (b : Bool) (x : Row) → removed_if b x ≡ record { rows = []; keys = map row_key (cond b (x ∷ []) []) }
      one true x = refl
      one false x = refl

      picked : (o : Option Row) → option_map_or (λ x. removed_if (q x) x) o (record { rows = []; keys = [] }) ≡ record { rows = []; keys = map row_key (option_map_or (λ x. cond (q x) (x ∷ []) []) o []) }
      picked None = refl
      picked (Some x) = one (q x) x

  delete_share-is : (user id : List ℕ)
      → option_map_or (λ x. removed_if (may_end user rows x) x) (find_by row_text (key_text (record { kind = kinds.Share; id = id })) rows) (record { rows = []; keys = [] }) ≡ staged rows user (DeleteShare id)
  unfolding ends
  delete_share-is user id =
      let k = key_text (record { kind = kinds.Share; id = id }) in
      rw (any-at row_text k (may_end user rows) rows h)
      (by_found (λ o. find_by row_text k rows ≡ o → option_map_or (λ x. removed_if (may_end user rows x) x) o (record { rows = []; keys = [] }) ≡ changes rows (cond (option_map_or (may_end user rows) o false) (filter (is_other kinds.Share id) rows) rows)) (find_by row_text k rows)
      (λ e f. sym (changes-none rows h))
      (λ x e f. by_flag (λ b. removed_if b x ≡ changes rows (cond b (filter (is_other kinds.Share id) rows) rows)) (may_end user rows x)
      (λ t. sym (ap (λ (o : Option Row). option_map_or (λ x. removed_if true x) o (record { rows = []; keys = [] })) f) ∙ removed k (λ _. true) (is_other kinds.Share id) (λ y. still (bytes_eq k (row_text y))))
      (λ t. sym (changes-none rows h))) refl)
    where
      still : (b : Bool) → not (not b) ≡ (b && true)
      still true = refl
      still false = refl

  pub delete_share-found : (user id : List ℕ) (row : Row) → find_by row_text (key_text (record { kind = kinds.Share; id = id })) rows ≡ Some row → removed_if (may_end user rows row) row ≡ staged rows user (DeleteShare id)
  delete_share-found user id row e = sym (ap (λ (o : Option Row). option_map_or (λ x. removed_if (may_end user rows x) x) o (record { rows = []; keys = [] })) e) ∙ delete_share-is user id

  pub delete_share-absent : (user id : List ℕ) → find_by row_text (key_text (record { kind = kinds.Share; id = id })) rows ≡ None → ◌≡◌ {A = Staged} (record { rows = []; keys = [] }) (staged rows user (DeleteShare id))
  delete_share-absent user id e = sym (ap (λ (o : Option Row). option_map_or (λ x. removed_if (may_end user rows x) x) o (record { rows = []; keys = [] })) e) ∙ delete_share-is user id

  delete_todo-is : (user id : List ℕ)
      → option_map_or (λ x. removed_if (list_passes (λ list. may_edit user list rows) x) x) (find_by row_text (key_text (record { kind = kinds.Todo; id = id })) rows) (record { rows = []; keys = [] }) ≡ staged rows user (DeleteTodo id)
  unfolding may_change
  delete_todo-is user id =
      let k = key_text (record { kind = kinds.Todo; id = id }) in
      removed k (list_passes (λ list. may_edit user list rows)) (is_unchanged user rows id) (λ x. twice (bytes_eq k (row_text x) && list_passes (λ list. may_edit user list rows) x))

  pub delete_todo-found : (user id : List ℕ) (row : Row) → find_by row_text (key_text (record { kind = kinds.Todo; id = id })) rows ≡ Some row → removed_if (list_passes (λ list. may_edit user list rows) row) row ≡ staged rows user (DeleteTodo id)
  delete_todo-found user id row e = sym (ap (λ (o : Option Row). option_map_or (λ x. removed_if (list_passes (λ list. may_edit user list rows) x) x) o (record { rows = []; keys = [] })) e) ∙ delete_todo-is user id

  pub delete_todo-absent : (user id : List ℕ) → find_by row_text (key_text (record { kind = kinds.Todo; id = id })) rows ≡ None → ◌≡◌ {A = Staged} (record { rows = []; keys = [] }) (staged rows user (DeleteTodo id))
  delete_todo-absent user id e = sym (ap (λ (o : Option Row). option_map_or (λ x. removed_if (list_passes (λ list. may_edit user list rows) x) x) o (record { rows = []; keys = [] })) e) ∙ delete_todo-is user id

  -- a row at a key is replaced where a test allows it and the new one differs
  module _ (k : List ℕ) (allowed : Row → Bool) (new : Row → Row) (keeps_key : (x : Row) → row_text (new x) ≡ row_text x) where
    abbrev pub set_at : Row → Row
    set_at x = cond (bytes_eq k (row_text x) && allowed x) (new x) x

    pub keeps : (x : Row) → row_text (set_at x) ≡ row_text x
    keeps x = elim (bytes_eq k (row_text x) && allowed x) as (λ b. row_text (cond b (new x) x) ≡ row_text x) [ true ↦ keeps_key x | false ↦ refl ]

    abbrev pub set_if : Row → Bool
    set_if x = allowed x && not (same_row (new x) x)

    differs : (x : Row) → not (same_row (set_at x) x) ≡ (bytes_eq k (row_text x) && set_if x)
    differs x = each (bytes_eq k (row_text x)) (allowed x)
      where
        each : (a b : Bool) → not (same_row (cond (a && b) (new x) x) x) ≡ (a && (b && not (same_row (new x) x)))
        each true true = refl
        each true false = ap not ((same_row-Decides x x).1 refl)
        each false b = ap not ((same_row-Decides x x).1 refl)

    pub set-is : option_map_or (λ x. written_if (set_if x) (new x)) (find_by row_text k rows) (record { rows = []; keys = [] }) ≡ changes rows (map set_at rows)
    set-is =
        by_found (λ o. option_map_or (λ x. written_if (set_if x) (new x)) o (record { rows = []; keys = [] }) ≡ record { rows = map set_at (option_map_or (λ x. cond (set_if x) (x ∷ []) []) o []); keys = [] }) (find_by row_text k rows)
        (λ e. refl)
        (λ x e. one set_at x (new x) (allowed x) (not (same_row (new x) x))
        (λ may. let at : bytes_eq k (row_text x) ≡ true = subst (λ (t : List ℕ). bytes_eq t (row_text x) ≡ true) (sym (find-key row_text k rows x e)) (equals (row_text x)) in rw (at, may) refl))
        ∙ both _ _ [] [] (ap (map set_at) (sym (filter_agree (λ x. not (same_row (set_at x) x)) (λ x. bytes_eq k (row_text x) && set_if x) differs rows ∙ filter-at row_text k set_if rows h))) refl
        ∙ sym (changes-map rows set_at keeps h)
      where
        one : (f : Row → Row) (x w : Row) (b c : Bool) → (b ≡ true → f x ≡ w) → written_if (b && c) w ≡ record { rows = map f (cond (b && c) (x ∷ []) []); keys = [] }
        one f x w true true e = both (w ∷ []) (f x ∷ []) [] [] (ap (λ (r : Row). r ∷ []) (sym (e refl))) refl
        one f x w true false e = refl
        one f x w false c e = refl

    set-found : (row : Row) → find_by row_text k rows ≡ Some row → written_if (set_if row) (new row) ≡ changes rows (map set_at rows)
    set-found row e = sym (ap (λ (o : Option Row). option_map_or (λ x. written_if (set_if x) (new x)) o (record { rows = []; keys = [] })) e) ∙ set-is

    set-allowed : (row : Row) → find_by row_text k rows ≡ Some row → allowed row ≡ true → written_if (not (same_row (new row) row)) (new row) ≡ changes rows (map set_at rows)
    set-allowed row e may = ap (λ (b : Bool). written_if (b && not (same_row (new row) row)) (new row)) (sym may) ∙ set-found row e

    set-refused : (row : Row) → find_by row_text k rows ≡ Some row → allowed row ≡ false → ◌≡◌ {A = Staged} (record { rows = []; keys = [] }) (changes rows (map set_at rows))
    set-refused row e may_not = ap (λ (b : Bool). written_if (b && not (same_row (new row) row)) (new row)) (sym may_not) ∙ set-found row e

    set-absent : find_by row_text k rows ≡ None → ◌≡◌ {A = Staged} (record { rows = []; keys = [] }) (changes rows (map set_at rows))
    set-absent e = sym (ap (λ (o : Option Row). option_map_or (λ x. written_if (set_if x) (new x)) o (record { rows = []; keys = [] })) e) ∙ set-is

  pub fields-keep : (text : Option (List ℕ)) (complete : Option Bool) (sort : Option ℕ) (x : Row) → row_text (with_fields text complete sort x) ≡ row_text x
  fields-keep text complete sort (variants.Extent x) = refl
  fields-keep text complete sort (variants.List x) = refl
  fields-keep text complete sort (variants.Share x) = refl
  fields-keep text complete sort (variants.Todo x) = refl

  pub role-keeps : (role : Role) (x : Row) → row_text (with_role role x) ≡ row_text x
  role-keeps role (variants.Extent x) = refl
  role-keeps role (variants.List x) = refl
  role-keeps role (variants.Share x) = refl
  role-keeps role (variants.Todo x) = refl

  -- a todo's fields are set where one of them differs
  module _ (user id : List ℕ) (text : Option (List ℕ)) (complete : Option Bool) (sort : Option ℕ) where
    pub update_todo-allowed : (row : Row) → find_by row_text (key_text (record { kind = kinds.Todo; id = id })) rows ≡ Some row → list_passes (λ list. may_edit user list rows) row ≡ true
        → written_if (not (same_row (with_fields text complete sort row) row)) (with_fields text complete sort row) ≡ staged rows user (UpdateTodo id text complete sort)
    unfolding may_change
    update_todo-allowed row e may = set-allowed (key_text (record { kind = kinds.Todo; id = id })) (list_passes (λ list. may_edit user list rows)) (with_fields text complete sort) (fields-keep text complete sort) row e may

    pub update_todo-refused : (row : Row) → find_by row_text (key_text (record { kind = kinds.Todo; id = id })) rows ≡ Some row → list_passes (λ list. may_edit user list rows) row ≡ false
        → ◌≡◌ {A = Staged} (record { rows = []; keys = [] }) (staged rows user (UpdateTodo id text complete sort))
    unfolding may_change
    update_todo-refused row e may_not = set-refused (key_text (record { kind = kinds.Todo; id = id })) (list_passes (λ list. may_edit user list rows)) (with_fields text complete sort) (fields-keep text complete sort) row e may_not

    pub update_todo-absent : find_by row_text (key_text (record { kind = kinds.Todo; id = id })) rows ≡ None → ◌≡◌ {A = Staged} (record { rows = []; keys = [] }) (staged rows user (UpdateTodo id text complete sort))
    unfolding may_change
    update_todo-absent e = set-absent (key_text (record { kind = kinds.Todo; id = id })) (list_passes (λ list. may_edit user list rows)) (with_fields text complete sort) (fields-keep text complete sort) e

  -- a share's role is set where it is another
  module _ (user id : List ℕ) (role : Role) where
    pub update_share-allowed : (row : Row) → find_by row_text (key_text (record { kind = kinds.Share; id = id })) rows ≡ Some row → list_passes (λ list. list_any (owns user list) rows) row ≡ true
        → written_if (not (same_row (with_role role row) row)) (with_role role row) ≡ staged rows user (UpdateShare id role)
    unfolding may_set_role
    update_share-allowed row e may = set-allowed (key_text (record { kind = kinds.Share; id = id })) (list_passes (λ list. list_any (owns user list) rows)) (with_role role) (role-keeps role) row e may

    pub update_share-refused : (row : Row) → find_by row_text (key_text (record { kind = kinds.Share; id = id })) rows ≡ Some row → list_passes (λ list. list_any (owns user list) rows) row ≡ false
        → ◌≡◌ {A = Staged} (record { rows = []; keys = [] }) (staged rows user (UpdateShare id role))
    unfolding may_set_role
    update_share-refused row e may_not = set-refused (key_text (record { kind = kinds.Share; id = id })) (list_passes (λ list. list_any (owns user list) rows)) (with_role role) (role-keeps role) row e may_not

    pub update_share-absent : find_by row_text (key_text (record { kind = kinds.Share; id = id })) rows ≡ None → ◌≡◌ {A = Staged} (record { rows = []; keys = [] }) (staged rows user (UpdateShare id role))
    unfolding may_set_role
    update_share-absent e = set-absent (key_text (record { kind = kinds.Share; id = id })) (list_passes (λ list. list_any (owns user list) rows)) (with_role role) (role-keeps role) e

  -- a user's extent is set where it is another, and goes where there is to be none
  module _ (user : List ℕ) where
    abbrev pub extent_key : List ℕ
    extent_key = key_text (record { kind = kinds.Extent; id = user })

    -- the user's extent of these lists
    abbrev pub extent_of : List (List ℕ) → Row
    extent_of lists = variants.Extent (record { user = user; lists = lists })

    pub replaces : (new x : Row) → set_at (row_text new) (λ _. true) (replaced new) (replaced-key new) x ≡ replaced new x
    replaces new x = each (bytes_eq (row_text new) (row_text x))
      where
        each : (b : Bool) → cond (b && true) (cond b new x) x ≡ cond b new x
        each true = refl
        each false = refl

    pub set_extent-found : (lists : List (List ℕ)) (row : Row) → find_by row_text extent_key rows ≡ Some row → written_if (not (same_row (extent_of lists) row)) (extent_of lists) ≡ staged rows user (SetExtent (Some lists))
    set_extent-found lists row e =
        let new = extent_of lists in
        let at : bytes_eq extent_key (row_text row) ≡ true = subst (λ (t : List ℕ). bytes_eq t (row_text row) ≡ true) (sym (find-key row_text extent_key rows row e)) (equals (row_text row)) in
        let there : has_row extent_key rows ≡ true = sym (found-any row_text extent_key rows) ∙ ap is_some e in
        ap (λ (x : Row). written_if (not (same_row x row)) x) (sym (ap (λ (b : Bool). cond b new row) at))
        ∙ set-allowed extent_key (λ _. true) (replaced new) (replaced-key new) row e refl
        ∙ (λ i. changes rows (map (λ x. replaces new x i) rows))
        ∙ ap (λ (b : Bool). changes rows (cond b (map (replaced new) rows) (rows ++ new ∷ []))) (sym there)

    pub set_extent-absent : (lists : List (List ℕ)) → find_by row_text extent_key rows ≡ None → ◌≡◌ {A = Staged} (record { rows = extent_of lists ∷ []; keys = [] }) (staged rows user (SetExtent (Some lists)))
    set_extent-absent lists e =
        let new = extent_of lists in
        let free : has_row extent_key rows ≡ false = sym (found-any row_text extent_key rows) ∙ ap is_some e in
        sym (changes-push rows new h e) ∙ ap (λ (b : Bool). changes rows (cond b (map (replaced new) rows) (rows ++ new ∷ []))) (sym free)

    remove_extent-is : option_map_or (λ x. removed_if true x) (find_by row_text extent_key rows) (record { rows = []; keys = [] }) ≡ staged rows user (SetExtent None)
    remove_extent-is = removed extent_key (λ _. true) (is_other kinds.Extent user) (λ x. still (bytes_eq extent_key (row_text x)))
      where
        still : (b : Bool) → not (not b) ≡ (b && true)
        still true = refl
        still false = refl

    pub remove_extent-found : (row : Row) → find_by row_text extent_key rows ≡ Some row → removed_if true row ≡ staged rows user (SetExtent None)
    remove_extent-found row e = sym (ap (λ (o : Option Row). option_map_or (λ x. removed_if true x) o (record { rows = []; keys = [] })) e) ∙ remove_extent-is

    pub remove_extent-absent : find_by row_text extent_key rows ≡ None → ◌≡◌ {A = Staged} (record { rows = []; keys = [] }) (staged rows user (SetExtent None))
    remove_extent-absent e = sym (ap (λ (o : Option Row). option_map_or (λ x. removed_if true x) o (record { rows = []; keys = [] })) e) ∙ remove_extent-is
