-- Laws of the users who see a list, collected row by row and list by list.
use Rattle.std.proofs.Common.{◌≡◌, ℕ, ◌+◌, ◌<◌, ◌≤◌, Bool, true, false, cond, List, [], ◌∷◌, take, get_or, length, Option, Some, None, Result, Ok, Err, refl, sym, subst, ap, ◌∙◌, ◌||◌, ◌&&◌}
use Rattle.std.specs.Prelude.{IfOk}
use Rattle.std.specs.declared.cmp.Ordering.TheVariants.{Less, Greater}
use Rattle.std.specs.List.{filter, list_any}
use Rattle.std.specs.Option.{option_map, option_map_or}
use Rattle.std.specs.Str.{bytes_eq}
use Rattle.std.proofs.lemmas.List.{take_all}
use Rattle.std.proofs.lemmas.List.Folds.{list_any_more}
use Rattle.rv_base.specs.PositionLaws.{Above}
use Rattle.rv_base.specs.ArrangedLaws.{find-map}
use Rattle.rv_rows.specs.declared.key.Key.{Key}
use Rattle.rv_rows.specs.declared.row.Row.{Row}
use Rattle.rv_rows.specs.declared.row.TodoRow.{TodoRow}
use Rattle.rv_rows.specs.declared.row.Row.TheVariants as variants
use Rattle.rv_rows.specs.Keys.{key_text, row_text, row_at}
use Rattle.rv_rows.specs.Held.{Stored, rows_in, find, stored_key, AreRows}
use Rattle.rv_rows.specs.Sharing.{belongs, shares, is_synced, is_extent, sees_list, sees_row, lets_edit, list_of, list_passes, user_of}
use Rattle.rv_sharing.specs.Owners.{owner_of}
use Rattle.rv_sharing.specs.SameTextLaws.{same_either_way, at_same}
use Rattle.rv_sharing.proofs.OwnerLaws.{picked, may_see-owned, may_see-absent}
use Rattle.rv_sharing.specs.Extents.{row_extent}
use Rattle.rv_sharing.specs.Texts.{AreInOrder, AddsText, AddsTextIf}
use Rattle.rv_sharing.proofs.TextLaws.{or_moved, or_false}
use Rattle.rv_sharing.specs.Opened.{key_passes, key_extends, AreListsOf, AreUsersOf}
use Rattle.rv_sharing.specs.Sharers.{sharer, AddsSharers}
use Rattle.rv_sharing.specs.Affected.{sees_key, AreAffected, AddsViewers}

-- the users so far, with those whom the rest of the rows names and who sync the list
pub record Adding (list : List ℕ) (rows : List Row) (before users : List (List ℕ)) (rest : List Stored) : Type 0 where
  pub order : AreInOrder users
  pub rest_order : AreRows rest
  pub each : (user : List ℕ) → (list_any (bytes_eq user) users || (list_any (shares user list) (rows_in rest) && is_synced user list rows)) ≡ (list_any (bytes_eq user) before || (list_any (shares user list) rows && is_synced user list rows))

sharer_is : (user list : List ℕ) (rows : List Row) (row : Row) → option_map_or (bytes_eq user) (sharer list rows row) false ≡ (shares user list row && is_synced user list rows)
sharer_is user list rows (variants.Extent row) = refl
sharer_is user list rows (variants.List row) = refl
sharer_is user list rows (variants.Share row) =
    picked user row.user (bytes_eq row.list list && is_synced row.user list rows)
    ∙ at_same (λ u. bytes_eq row.list list && is_synced u list rows) user row.user
    ∙ ap (λ (b : Bool). (bytes_eq row.list list && is_synced user list rows) && b) (same_either_way user row.user)
    ∙ flags (bytes_eq row.list list) (is_synced user list rows) (bytes_eq row.user user)
  where
    flags : (t y e : Bool) → ((t && y) && e) ≡ ((t && e) && y)
    flags true true true = refl
    flags true true false = refl
    flags true false true = refl
    flags true false false = refl
    flags false y e = refl
sharer_is user list rows (variants.Todo row) = refl

-- one more row, with those whom it names and who sync the list
spread : (a b y : Bool) → ((a && y) || (b && y)) ≡ ((a || b) && y)
spread true true true = refl
spread true true false = refl
spread true false true = refl
spread true false false = refl
spread false b y = refl

-- the rows of the list have all shares of it
not_sharing : (user list : List ℕ) (row : Row) → belongs list row ≡ false → shares user list row ≡ false
not_sharing user list (variants.Extent row) e = refl
not_sharing user list (variants.List row) e = refl
not_sharing user list (variants.Share row) e = ap (λ (b : Bool). b && bytes_eq row.user user) e
not_sharing user list (variants.Todo row) e = refl

pub shares-own : (user list : List ℕ) (stored : List Stored) → list_any (shares user list) (rows_in (filter (λ s. belongs list s.0) stored)) ≡ list_any (shares user list) (rows_in stored)
shares-own user list [] = refl
shares-own user list (s ∷ stored) =
    elim (belongs list s.0) as (λ b. belongs list s.0 ≡ b → list_any (shares user list) (rows_in (cond b (s ∷ filter (λ s. belongs list s.0) stored) (filter (λ s. belongs list s.0) stored))) ≡ (shares user list s.0 || list_any (shares user list) (rows_in stored))) [
      | true ↦ λ e. ap (λ (b : Bool). shares user list s.0 || b) (shares-own user list stored)
      | false ↦ λ e. shares-own user list stored ∙ ap (λ (b : Bool). b || list_any (shares user list) (rows_in stored)) (sym (not_sharing user list s.0 e))
    ] refl

-- and so have the rows that name the user
not_naming : (user list : List ℕ) (row : Row) → bytes_eq (user_of row) user ≡ false → shares user list row ≡ false
not_naming user list (variants.Extent row) e = refl
not_naming user list (variants.List row) e = refl
not_naming user list (variants.Share row) e = rw e (neither (bytes_eq row.list list))
  where
    neither : (b : Bool) → (b && false) ≡ false
    neither true = refl
    neither false = refl
not_naming user list (variants.Todo row) e = refl

-- what is so of rows that name the user alone is told by those
any-named : (test : Row → Bool) (user : List ℕ) → ((row : Row) → bytes_eq (user_of row) user ≡ false → test row ≡ false) → (stored : List Stored)
    → list_any test (rows_in (filter (λ s. bytes_eq (user_of s.0) user) stored)) ≡ list_any test (rows_in stored)
any-named test user alone [] = refl
any-named test user alone (s ∷ stored) =
    elim (bytes_eq (user_of s.0) user) as (λ b. bytes_eq (user_of s.0) user ≡ b → list_any test (rows_in (cond b (s ∷ filter (λ s. bytes_eq (user_of s.0) user) stored) (filter (λ s. bytes_eq (user_of s.0) user) stored))) ≡ (test s.0 || list_any test (rows_in stored))) [
      | true ↦ λ e. ap (λ (b : Bool). test s.0 || b) (any-named test user alone stored)
      | false ↦ λ e. any-named test user alone stored ∙ ap (λ (b : Bool). b || list_any test (rows_in stored)) (sym (alone s.0 e))
    ] refl

pub shares-named : (user list : List ℕ) (stored : List Stored) → list_any (shares user list) (rows_in (filter (λ s. bytes_eq (user_of s.0) user) stored)) ≡ list_any (shares user list) (rows_in stored)
shares-named user list stored = any-named (shares user list) user (not_naming user list) stored

not_letting : (user list : List ℕ) (row : Row) → bytes_eq (user_of row) user ≡ false → lets_edit user list row ≡ false
not_letting user list (variants.Extent row) e = refl
not_letting user list (variants.List row) e = refl
not_letting user list (variants.Share row) e = rw (e, neither (bytes_eq row.list list)) refl
  where
    neither : (b : Bool) → (b && false) ≡ false
    neither true = refl
    neither false = refl
not_letting user list (variants.Todo row) e = refl

pub lets_edit-named : (user list : List ℕ) (stored : List Stored) → list_any (lets_edit user list) (rows_in (filter (λ s. bytes_eq (user_of s.0) user) stored)) ≡ list_any (lets_edit user list) (rows_in stored)
lets_edit-named user list stored = any-named (lets_edit user list) user (not_letting user list) stored

-- after a todo come no shares, since rows stand in the order of their keys
no_shares : (user list : List ℕ) (todo : TodoRow) (rest : List Stored) → Above stored_key (row_text (variants.Todo todo)) rest → list_any (shares user list) (rows_in rest) ≡ false
no_shares user list todo [] all = refl
no_shares user list todo ((variants.Extent row, version) ∷ rest) all = absurd (let below : Less ≡ Greater = sym all.0 in cc)
no_shares user list todo ((variants.List row, version) ∷ rest) all = absurd (let below : Less ≡ Greater = sym all.0 in cc)
no_shares user list todo ((variants.Share row, version) ∷ rest) all = absurd (let below : Less ≡ Greater = sym all.0 in cc)
no_shares user list todo ((variants.Todo row, version) ∷ rest) all = no_shares user list todo rest all.1

pub none_behind : (user list : List ℕ) (rows : List Row) (rest next : List Stored) (s : Stored) (todo : TodoRow) → rest ≡ s ∷ next → s.0 ≡ variants.Todo todo → AreRows rest → list_any (shares user list) (rows_in rest) ≡ list_any (shares user list) rows
    → false ≡ list_any (shares user list) rows
none_behind user list rows rest next s todo first is order told = sym (subst (λ (rs : List Stored). list_any (shares user list) (rows_in rs) ≡ false) (sym first) (nothing s is (rw first at order))) ∙ told
  where
    nothing : (s : Stored) → s.0 ≡ variants.Todo todo → AreRows (s ∷ next) → (shares user list s.0 || list_any (shares user list) (rows_in next)) ≡ false
    nothing s is order = rw is (no_shares user list todo next (subst (λ (row : Row). Above stored_key (row_text row) next) is order.0))

pub adding_begins : (list : List ℕ) (rows : List Row) (rest got : List Stored) (before users : List (List ℕ)) → AreRows rest → AreInOrder before → users ≡ before → got ≡ rest → ((user : List ℕ) → list_any (shares user list) (rows_in rest) ≡ list_any (shares user list) rows)
    → Adding list rows before users got
adding_begins list rows rest got before users sorted order same same_rest shared =
    rw (same, same_rest) (record { order = order; rest_order = sorted; each = λ user. ap (λ (b : Bool). list_any (bytes_eq user) before || (b && is_synced user list rows)) (shared user) })

pub adding_more : (list : List ℕ) (rows : List Row) (rest next : List Stored) (s : Stored) (user : List ℕ) (before users after : List (List ℕ)) → rest ≡ s ∷ next → Some user ≡ sharer list rows s.0 → AddsText user users after
    → Adding list rows before users rest → Adding list rows before after next
adding_more list rows rest next s user before users after first is adds adding =
    let adding = rw first at adding in
    record {
      order = adds.order;
      rest_order = adding.rest_order.1;
      each = λ u.
          ap (λ (b : Bool). b || (list_any (shares u list) (rows_in next) && is_synced u list rows)) (adds.each (bytes_eq u))
          ∙ or_moved (bytes_eq u user) (list_any (bytes_eq u) users) (list_any (shares u list) (rows_in next) && is_synced u list rows)
          ∙ ap (λ (b : Bool). list_any (bytes_eq u) users || (b || (list_any (shares u list) (rows_in next) && is_synced u list rows))) (ap (λ (o : Option (List ℕ)). option_map_or (bytes_eq u) o false) is ∙ sharer_is u list rows s.0)
          ∙ ap (λ (b : Bool). list_any (bytes_eq u) users || b) (spread (shares u list s.0) (list_any (shares u list) (rows_in next)) (is_synced u list rows))
          ∙ adding.each u;
    }

pub adding_same : (list : List ℕ) (rows : List Row) (rest next : List Stored) (s : Stored) (before users : List (List ℕ)) → rest ≡ s ∷ next → None ≡ sharer list rows s.0
    → Adding list rows before users rest → Adding list rows before users next
adding_same list rows rest next s before users first is adding =
    let adding = rw first at adding in
    record {
      order = adding.order;
      rest_order = adding.rest_order.1;
      each = λ u.
          ap (λ (b : Bool). list_any (bytes_eq u) users || (b || (list_any (shares u list) (rows_in next) && is_synced u list rows))) (ap (λ (o : Option (List ℕ)). option_map_or (bytes_eq u) o false) is ∙ sharer_is u list rows s.0)
          ∙ ap (λ (b : Bool). list_any (bytes_eq u) users || b) (spread (shares u list s.0) (list_any (shares u list) (rows_in next)) (is_synced u list rows))
          ∙ adding.each u;
    }

pub adding_ends : (list : List ℕ) (rows : List Row) (before users after : List (List ℕ)) (rest : List Stored) → rest ≡ [] → after ≡ users → Adding list rows before users rest → AddsSharers rows list before after
adding_ends list rows before users after rest none same adding =
    let adding = rw none at adding in
    rw same (record { order = adding.order; each = λ u. or_false (list_any (bytes_eq u) users) ∙ adding.each u })

pub adding_stops : (list : List ℕ) (rows : List Row) (before users after : List (List ℕ)) (rest next : List Stored) (s : Stored) (todo : TodoRow) → rest ≡ s ∷ next → s.0 ≡ variants.Todo todo → after ≡ users → Adding list rows before users rest → AddsSharers rows list before after
adding_stops list rows before users after rest next s todo first is same adding =
    let adding = rw first at adding in
    rw same (record {
      order = adding.order;
      each = λ u. or_false (list_any (bytes_eq u) users) ∙ ap (λ (b : Bool). list_any (bytes_eq u) users || (b && is_synced u list rows)) (sym (nothing u s is adding.rest_order)) ∙ adding.each u;
    })
  where
    nothing : (u : List ℕ) (s : Stored) → s.0 ≡ variants.Todo todo → AreRows (s ∷ next) → (shares u list s.0 || list_any (shares u list) (rows_in next)) ≡ false
    nothing u s is order = rw is (no_shares u list todo next (subst (λ (row : Row). Above stored_key (row_text row) next) is order.0))

-- the owner and the shares' users, where they sync the list, are those who see it
pub viewers_owned : (list owner : List ℕ) (stored : List Stored) (before owned after : List (List ℕ)) → AreRows stored → Some owner ≡ owner_of list (rows_in stored) → AddsTextIf (is_synced owner list (rows_in stored)) owner before owned → AddsSharers (rows_in stored) list owned after
    → AddsViewers (rows_in stored) list before after
viewers_owned list owner stored before owned after rows is adds shared = record {
  order = shared.order;
  each = λ u.
      shared.each u
      ∙ ap (λ (b : Bool). b || (list_any (shares u list) (rows_in stored) && is_synced u list (rows_in stored)))
      (adds.each (bytes_eq u) ∙ ap (λ (b : Bool). b || list_any (bytes_eq u) before) (at_same (λ x. is_synced x list (rows_in stored)) u owner ∙ ap (λ (b : Bool). is_synced u list (rows_in stored) && b) (same_either_way u owner)))
      ∙ flags (is_synced u list (rows_in stored)) (bytes_eq owner u) (list_any (bytes_eq u) before) (list_any (shares u list) (rows_in stored))
      ∙ ap (λ (b : Bool). list_any (bytes_eq u) before || (b && is_synced u list (rows_in stored))) (sym (may_see-owned u list owner stored rows is));
}
  where
    flags : (y o b s : Bool) → (((y && o) || b) || (s && y)) ≡ (b || ((o || s) && y))
    flags true true true s = refl
    flags true true false s = refl
    flags true false true s = refl
    flags true false false s = refl
    flags false o true s = refl
    flags false true false true = refl
    flags false true false false = refl
    flags false false false true = refl
    flags false false false false = refl

pub viewers_shared : {E : Type 0} (list owner : List ℕ) (stored : List Stored) (before owned : List (List ℕ)) (r : Result (List (List ℕ)) E) → AreRows stored → Some owner ≡ owner_of list (rows_in stored) → AddsTextIf (is_synced owner list (rows_in stored)) owner before owned
    → IfOk r (AddsSharers (rows_in stored) list owned) → IfOk r (AddsViewers (rows_in stored) list before)
viewers_shared list owner stored before owned (Ok after) rows is adds shared = viewers_owned list owner stored before owned after rows is adds shared
viewers_shared list owner stored before owned (Err e) rows is adds shared = tt

pub viewers_absent : (list : List ℕ) (stored : List Stored) (before : List (List ℕ)) → AreRows stored → None ≡ owner_of list (rows_in stored) → AreInOrder before → AddsViewers (rows_in stored) list before before
viewers_absent list stored before rows is order = record {
  order = order;
  each = λ u. or_false (list_any (bytes_eq u) before) ∙ ap (λ (b : Bool). list_any (bytes_eq u) before || (b && is_synced u list (rows_in stored))) (sym (may_see-absent u list stored rows is));
}

-- the lists of keys, key by key
swapped : (a b : Bool) → (a || b) ≡ (b || a)
swapped true true = refl
swapped true false = refl
swapped false true = refl
swapped false false = refl

pub lists_more : (stored : List Stored) (keys : List Key) (i : ℕ) (key : Key) (s : Stored) (list : List ℕ) (before after : List (List ℕ)) → i < length keys → key ≡ get_or keys i key
    → Some s ≡ find (key_text key) stored → Some list ≡ list_of s.0 → AddsText list before after → AreListsOf (rows_in stored) (take i keys) before → AreListsOf (rows_in stored) (take (i + 1) keys) after
lists_more stored keys i key s list before after lt at is of adds lists = record {
  order = adds.order;
  each = λ p.
      adds.each p
      ∙ swapped (p list) (list_any p before)
      ∙ ap (λ (b : Bool). b || p list) (lists.each p)
      ∙ ap (λ (o : Option (List ℕ)). list_any (key_passes p (rows_in stored)) (take i keys) || option_map_or p o false) of
      ∙ ap (λ (o : Option Row). list_any (key_passes p (rows_in stored)) (take i keys) || option_map_or (list_passes p) o false) (ap (option_map (λ (t : Stored). t.0)) is ∙ find-map row_text (λ (t : Stored). t.0) (key_text key) stored)
      ∙ ap (λ (k : Key). list_any (key_passes p (rows_in stored)) (take i keys) || key_passes p (rows_in stored) k) at
      ∙ sym (list_any_more (key_passes p (rows_in stored)) keys i key lt);
}

-- where the row has no list, no list comes
pub lists_alone : (stored : List Stored) (keys : List Key) (i : ℕ) (key : Key) (s : Stored) (lists : List (List ℕ)) → i < length keys → key ≡ get_or keys i key
    → Some s ≡ find (key_text key) stored → None ≡ list_of s.0 → AreListsOf (rows_in stored) (take i keys) lists → AreListsOf (rows_in stored) (take (i + 1) keys) lists
lists_alone stored keys i key s lists lt at is of are = record {
  order = are.order;
  each = λ p.
      are.each p
      ∙ or_false (list_any (key_passes p (rows_in stored)) (take i keys))
      ∙ ap (λ (o : Option (List ℕ)). list_any (key_passes p (rows_in stored)) (take i keys) || option_map_or p o false) of
      ∙ ap (λ (o : Option Row). list_any (key_passes p (rows_in stored)) (take i keys) || option_map_or (list_passes p) o false) (ap (option_map (λ (t : Stored). t.0)) is ∙ find-map row_text (λ (t : Stored). t.0) (key_text key) stored)
      ∙ ap (λ (k : Key). list_any (key_passes p (rows_in stored)) (take i keys) || key_passes p (rows_in stored) k) at
      ∙ sym (list_any_more (key_passes p (rows_in stored)) keys i key lt);
}

pub lists_same : (stored : List Stored) (keys : List Key) (i : ℕ) (key : Key) (lists : List (List ℕ)) → i < length keys → key ≡ get_or keys i key
    → None ≡ find (key_text key) stored → AreListsOf (rows_in stored) (take i keys) lists → AreListsOf (rows_in stored) (take (i + 1) keys) lists
lists_same stored keys i key lists lt at is are = record {
  order = are.order;
  each = λ p.
      are.each p
      ∙ or_false (list_any (key_passes p (rows_in stored)) (take i keys))
      ∙ ap (λ (o : Option Row). list_any (key_passes p (rows_in stored)) (take i keys) || option_map_or (list_passes p) o false) (ap (option_map (λ (t : Stored). t.0)) is ∙ find-map row_text (λ (t : Stored). t.0) (key_text key) stored)
      ∙ ap (λ (k : Key). list_any (key_passes p (rows_in stored)) (take i keys) || key_passes p (rows_in stored) k) at
      ∙ sym (list_any_more (key_passes p (rows_in stored)) keys i key lt);
}

-- a test of the keys' rows, key by key
abbrev key_is : (Row → Bool) → List Row → Key → Bool
key_is p rows key = option_map_or p (row_at (key_text key) rows) false

tests_more : (p : Row → Bool) (stored : List Stored) (keys : List Key) (i : ℕ) (key : Key) (s : Stored) → i < length keys → key ≡ get_or keys i key → Some s ≡ find (key_text key) stored
    → (list_any (key_is p (rows_in stored)) (take i keys) || p s.0) ≡ list_any (key_is p (rows_in stored)) (take (i + 1) keys)
tests_more p stored keys i key s lt at is =
    ap (λ (o : Option Row). list_any (key_is p (rows_in stored)) (take i keys) || option_map_or p o false) (ap (option_map (λ (t : Stored). t.0)) is ∙ find-map row_text (λ (t : Stored). t.0) (key_text key) stored)
    ∙ ap (λ (k : Key). list_any (key_is p (rows_in stored)) (take i keys) || key_is p (rows_in stored) k) at
    ∙ sym (list_any_more (key_is p (rows_in stored)) keys i key lt)

tests_same : (p : Row → Bool) (stored : List Stored) (keys : List Key) (i : ℕ) (key : Key) → i < length keys → key ≡ get_or keys i key → None ≡ find (key_text key) stored
    → list_any (key_is p (rows_in stored)) (take i keys) ≡ list_any (key_is p (rows_in stored)) (take (i + 1) keys)
tests_same p stored keys i key lt at is =
    or_false (list_any (key_is p (rows_in stored)) (take i keys))
    ∙ ap (λ (o : Option Row). list_any (key_is p (rows_in stored)) (take i keys) || option_map_or p o false) (ap (option_map (λ (t : Stored). t.0)) is ∙ find-map row_text (λ (t : Stored). t.0) (key_text key) stored)
    ∙ ap (λ (k : Key). list_any (key_is p (rows_in stored)) (take i keys) || key_is p (rows_in stored) k) at
    ∙ sym (list_any_more (key_is p (rows_in stored)) keys i key lt)

-- the users whose extents the keys' rows are, key by key
extends_is : (user : List ℕ) (row : Row) → option_map_or (bytes_eq user) (row_extent row) false ≡ is_extent user row
extends_is user (variants.Extent row) = same_either_way user row.user
extends_is user (variants.List row) = refl
extends_is user (variants.Share row) = refl
extends_is user (variants.Todo row) = refl

pub users_begin : (rows : List Row) (keys : List Key) (users : List (List ℕ)) → users ≡ [] → AreUsersOf rows (take 0 keys) users
users_begin rows keys users none = rw none (record { order = tt; each = λ u. refl })

pub users_more : (stored : List Stored) (keys : List Key) (i : ℕ) (key : Key) (s : Stored) (user : List ℕ) (before after : List (List ℕ)) → i < length keys → key ≡ get_or keys i key
    → Some s ≡ find (key_text key) stored → Some user ≡ row_extent s.0 → AddsText user before after → AreUsersOf (rows_in stored) (take i keys) before → AreUsersOf (rows_in stored) (take (i + 1) keys) after
users_more stored keys i key s user before after lt at is of adds are = record {
  order = adds.order;
  each = λ u.
      adds.each (bytes_eq u)
      ∙ swapped (bytes_eq u user) (list_any (bytes_eq u) before)
      ∙ ap (λ (b : Bool). b || bytes_eq u user) (are.each u)
      ∙ ap (λ (b : Bool). list_any (key_extends u (rows_in stored)) (take i keys) || b) (ap (λ (o : Option (List ℕ)). option_map_or (bytes_eq u) o false) of ∙ extends_is u s.0)
      ∙ tests_more (is_extent u) stored keys i key s lt at is;
}

pub users_alone : (stored : List Stored) (keys : List Key) (i : ℕ) (key : Key) (s : Stored) (users : List (List ℕ)) → i < length keys → key ≡ get_or keys i key
    → Some s ≡ find (key_text key) stored → None ≡ row_extent s.0 → AreUsersOf (rows_in stored) (take i keys) users → AreUsersOf (rows_in stored) (take (i + 1) keys) users
users_alone stored keys i key s users lt at is of are = record {
  order = are.order;
  each = λ u.
      are.each u
      ∙ or_false (list_any (key_extends u (rows_in stored)) (take i keys))
      ∙ ap (λ (b : Bool). list_any (key_extends u (rows_in stored)) (take i keys) || b) (ap (λ (o : Option (List ℕ)). option_map_or (bytes_eq u) o false) of ∙ extends_is u s.0)
      ∙ tests_more (is_extent u) stored keys i key s lt at is;
}

pub users_same : (stored : List Stored) (keys : List Key) (i : ℕ) (key : Key) (users : List (List ℕ)) → i < length keys → key ≡ get_or keys i key
    → None ≡ find (key_text key) stored → AreUsersOf (rows_in stored) (take i keys) users → AreUsersOf (rows_in stored) (take (i + 1) keys) users
users_same stored keys i key users lt at is are = record { order = are.order; each = λ u. are.each u ∙ tests_same (is_extent u) stored keys i key lt at is }

pub users_end : (rows : List Row) (keys : List Key) (i : ℕ) (users all : List (List ℕ)) → length keys ≤ i → all ≡ users → AreUsersOf rows (take i keys) users → AreUsersOf rows keys all
users_end rows keys i users all le same are = rw same (record { order = are.order; each = λ u. are.each u ∙ ap (list_any (key_extends u rows)) (take_all i keys le) })

-- the users whose extents the keys' rows are, and those who see one of some lists, list by list
pub record Viewing (rows : List Row) (keys : List Key) (lists users : List (List ℕ)) : Type 0 where
  pub order : AreInOrder users
  pub each : (user : List ℕ) → list_any (bytes_eq user) users ≡ (list_any (key_extends user rows) keys || list_any (λ list. sees_list user list rows) lists)

pub viewing_begins : (rows : List Row) (keys : List Key) (lists users : List (List ℕ)) → AreUsersOf rows keys users → Viewing rows keys (take 0 lists) users
viewing_begins rows keys lists users are = record { order = are.order; each = λ u. are.each u ∙ or_false (list_any (key_extends u rows) keys) }

pub viewing_more : (rows : List Row) (keys : List Key) (lists : List (List ℕ)) (i : ℕ) (list : List ℕ) (before after : List (List ℕ)) → i < length lists → list ≡ get_or lists i list
    → AddsViewers rows list before after → Viewing rows keys (take i lists) before → Viewing rows keys (take (i + 1) lists) after
viewing_more rows keys lists i list before after lt at adds viewing = record {
  order = adds.order;
  each = λ u.
      adds.each u
      ∙ ap (λ (b : Bool). b || sees_list u list rows) (viewing.each u)
      ∙ grouped (list_any (key_extends u rows) keys) (list_any (λ list. sees_list u list rows) (take i lists)) (sees_list u list rows)
      ∙ ap (λ (l : List ℕ). list_any (key_extends u rows) keys || (list_any (λ list. sees_list u list rows) (take i lists) || sees_list u l rows)) at
      ∙ ap (λ (b : Bool). list_any (key_extends u rows) keys || b) (sym (list_any_more (λ list. sees_list u list rows) lists i list lt));
}
  where
    grouped : (a b c : Bool) → ((a || b) || c) ≡ (a || (b || c))
    grouped true b c = refl
    grouped false b c = refl

-- they see one of the keys
any-either : (p q : Key → Bool) (keys : List Key) → (list_any p keys || list_any q keys) ≡ list_any (λ key. p key || q key) keys
any-either p q [] = refl
any-either p q (key ∷ keys) = dealt (p key) (q key) (list_any p keys) (list_any q keys) ∙ ap (λ (b : Bool). (p key || q key) || b) (any-either p q keys)
  where
    dealt : (a b c d : Bool) → ((a || c) || (b || d)) ≡ ((a || b) || (c || d))
    dealt true b c d = refl
    dealt false true true d = refl
    dealt false true false d = refl
    dealt false false c d = refl

sees_either : (user : List ℕ) (rows : List Row) (key : Key) → (key_extends user rows key || key_passes (λ list. sees_list user list rows) rows key) ≡ sees_key rows user key
sees_either user rows key = found (row_at (key_text key) rows)
  where
    found : (o : Option Row) → (option_map_or (is_extent user) o false || option_map_or (list_passes (λ list. sees_list user list rows)) o false) ≡ option_map_or (sees_row user rows) o false
    found None = refl
    found (Some (variants.Extent row)) = sym (or_false (bytes_eq row.user user))
    found (Some (variants.List row)) = refl
    found (Some (variants.Share row)) = refl
    found (Some (variants.Todo row)) = refl

pub viewing_ends : (rows : List Row) (keys : List Key) (lists users : List (List ℕ)) (i : ℕ) → length lists ≤ i → AreListsOf rows keys lists → Viewing rows keys (take i lists) users → AreAffected rows keys users
viewing_ends rows keys lists users i le are viewing = record {
  order = viewing.order;
  each = λ u.
      viewing.each u
      ∙ ap (λ (ls : List (List ℕ)). list_any (key_extends u rows) keys || list_any (λ list. sees_list u list rows) ls) (take_all i lists le)
      ∙ ap (λ (b : Bool). list_any (key_extends u rows) keys || b) (are.each (λ list. sees_list u list rows))
      ∙ any-either (key_extends u rows) (key_passes (λ list. sees_list u list rows) rows) keys
      ∙ (λ k. list_any (λ key. sees_either u rows key k) keys);
}
