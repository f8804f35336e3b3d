-- The users who see rows that are written.
use Rattle.std.proofs.Common.{◌≡◌, ℕ, ◌+◌, ◌<◌, Bool, true, false, ◌&&◌, ◌||◌, List, [], ◌∷◌, ◌++◌, length, take, get_or, Result, Ok, Err, refl, sym, ap, ◌∙◌}
use Rattle.std.specs.Prelude.{IfOk}
use Rattle.std.specs.Str.{bytes_eq}
use Rattle.std.specs.List.{list_any}
use Rattle.std.proofs.lemmas.List.{take_more}
use Rattle.rv_base.specs.PositionLaws.{equals}
use Rattle.rv_rows.specs.declared.row.Row.{Row}
use Rattle.rv_rows.specs.declared.row.ExtentRow.{ExtentRow}
use Rattle.rv_rows.specs.declared.row.ListRow.{ListRow}
use Rattle.rv_rows.specs.declared.row.ShareRow.{ShareRow}
use Rattle.rv_rows.specs.declared.row.TodoRow.{TodoRow}
use Rattle.rv_rows.specs.declared.row.Row.TheVariants as variants
use Rattle.rv_rows.specs.Sharing.{may_see, is_synced, is_list, owns, shares}
use Rattle.rv_sharing.specs.Texts.{AddsText, AddsTextIf}
use Rattle.rv_sharing.specs.SameTextLaws.{same_either_way, at_same}
use Rattle.rv_sharing.specs.Sharers.{AddsSharers}
use Rattle.rv_sharing.specs.Affected.{AddsViewers}
use Rattle.rv_mutators.specs.Touched.{sees_with, AddsReaders, AddsReadersOf}

pub list_any-push : {X : Type 0} (p : X → Bool) (xs : List X) (x : X) → list_any p (xs ++ x ∷ []) ≡ (p x || list_any p xs)
list_any-push p [] x = refl
list_any-push p (y ∷ ys) x = ap (λ (b : Bool). p y || b) (list_any-push p ys x) ∙ swapped (p y) (p x) (list_any p ys)
  where
    swapped : (a b c : Bool) → (a || (b || c)) ≡ (b || (a || c))
    swapped true true c = refl
    swapped true false c = refl
    swapped false true c = refl
    swapped false false c = refl

-- an extent's reader is its user
pub readers_extent : {E : Type 0} (rows : List Row) (row : ExtentRow) (users : List (List ℕ)) (result : Result (List (List ℕ)) E) → IfOk result (AddsText row.user users) → IfOk result (AddsReadersOf rows (variants.Extent row) users)
readers_extent rows row users (Err e) own = tt
readers_extent rows row users (Ok after) own = record {
  order = own.order;
  each = λ user. own.each (bytes_eq user) ∙ ap (λ (b : Bool). b || list_any (bytes_eq user) users) (same_either_way user row.user) ∙ swapped (bytes_eq row.user user) (list_any (bytes_eq user) users);
}
  where
    swapped : (a b : Bool) → (a || b) ≡ (b || a)
    swapped true true = refl
    swapped true false = refl
    swapped false true = refl
    swapped false false = refl

-- a list's readers are those of the list before, its owner, and whom shares of it name, where they sync it
pub readers_list : {E : Type 0} (rows : List Row) (row : ListRow) (users viewers owned : List (List ℕ)) (result : Result (List (List ℕ)) E)
    → AddsViewers rows row.id users viewers → AddsTextIf (is_synced row.owner row.id rows) row.owner viewers owned → IfOk result (AddsSharers rows row.id owned) → IfOk result (AddsReadersOf rows (variants.List row) users)
unfolding may_see is_synced
readers_list rows row users viewers owned (Err e) seen own shared = tt
readers_list rows row users viewers owned (Ok after) seen own shared = record {
  order = shared.order;
  each = λ user. shared.each user ∙ ap (λ (b : Bool). b || (list_any (shares user row.id) rows && is_synced user row.id rows)) (own.each (bytes_eq user) ∙ (λ k. owner user k || seen.each user k))
      ∙ rw (equals row.id) (flags (list_any (bytes_eq user) users) (bytes_eq row.owner user) (list_any (owns user row.id) rows) (list_any (is_list row.id) rows) (list_any (shares user row.id) rows) (is_synced user row.id rows));
}
  where
    owner : (user : List ℕ) → (is_synced row.owner row.id rows && bytes_eq user row.owner) ≡ (is_synced user row.id rows && bytes_eq row.owner user)
    owner user = at_same (λ u. is_synced u row.id rows) user row.owner ∙ ap (λ (b : Bool). is_synced user row.id rows && b) (same_either_way user row.owner)

    flags : (u w o i s y : Bool) → (((y && w) || (u || ((o || (i && s)) && y))) || (s && y)) ≡ (u || (((w || o) || s) && y))
    flags true true o i s true = refl
    flags true true o i s false = refl
    flags true false o i s true = refl
    flags true false o i s false = refl
    flags false true o i s true = refl
    flags false false true i s true = refl
    flags false false false true true true = refl
    flags false false false true false true = refl
    flags false false false false true true = refl
    flags false false false false false true = refl
    flags false w o i s false = never (o || (i && s)) s ∙ sym (alone ((w || o) || s))
      where
        alone : (a : Bool) → (a && false) ≡ false
        alone true = refl
        alone false = refl

        never : (a s : Bool) → ((a && false) || (s && false)) ≡ false
        never a s = rw (alone a, alone s) refl

-- a share's readers are those of the list before, and whom it names where the list is there and that user syncs it
pub readers_share : {E : Type 0} (rows : List Row) (row : ShareRow) (users viewers : List (List ℕ)) (result : Result (List (List ℕ)) E)
    → list_any (is_list row.list) rows ≡ true → AddsViewers rows row.list users viewers → IfOk result (AddsTextIf (is_synced row.user row.list rows) row.user viewers) → IfOk result (AddsReadersOf rows (variants.Share row) users)
unfolding may_see is_synced
readers_share rows row users viewers (Err e) there seen named = tt
readers_share rows row users viewers (Ok after) there seen named = record {
  order = named.order;
  each = λ user. named.each (bytes_eq user) ∙ (λ k. other user k || seen.each user k)
      ∙ rw (there, equals row.list) (flags (list_any (bytes_eq user) users) (bytes_eq row.user user) (list_any (owns user row.list) rows) (list_any (shares user row.list) rows) (is_synced user row.list rows));
}
  where
    other : (user : List ℕ) → (is_synced row.user row.list rows && bytes_eq user row.user) ≡ (is_synced user row.list rows && bytes_eq row.user user)
    other user = at_same (λ u. is_synced u row.list rows) user row.user ∙ ap (λ (b : Bool). is_synced user row.list rows && b) (same_either_way user row.user)

    flags : (u w o s y : Bool) → ((y && w) || (u || ((o || s) && y))) ≡ (u || ((o || (w || s)) && y))
    flags true true o s true = refl
    flags true true o s false = refl
    flags true false o s true = refl
    flags true false o s false = refl
    flags false true true s true = refl
    flags false true false s true = refl
    flags false false o s true = refl
    flags false w o s false = alone (o || s) ∙ sym (alone (o || (w || s)))
      where
        alone : (a : Bool) → (a && false) ≡ false
        alone true = refl
        alone false = refl

pub readers_lost : (rows : List Row) (row : ShareRow) (users viewers : List (List ℕ)) → list_any (is_list row.list) rows ≡ false → AddsViewers rows row.list users viewers → AddsReadersOf rows (variants.Share row) users viewers
unfolding may_see is_synced
readers_lost rows row users viewers absent seen = record { order = seen.order; each = λ user. seen.each user ∙ rw absent refl }

pub readers_todo : {E : Type 0} (rows : List Row) (row : TodoRow) (users : List (List ℕ)) (result : Result (List (List ℕ)) E) → IfOk result (AddsViewers rows row.list users) → IfOk result (AddsReadersOf rows (variants.Todo row) users)
unfolding may_see is_synced
readers_todo rows row users (Err e) seen = tt
readers_todo rows row users (Ok after) seen = record { order = seen.order; each = seen.each }

-- one more row
pub readers_more : (rows added : List Row) (i : ℕ) (row : Row) (users readers after : List (List ℕ)) → i < length added → row ≡ get_or added i row
    → AddsReadersOf rows row readers after → AddsReaders rows (take i added) users readers → AddsReaders rows (take (i + 1) added) users after
readers_more rows added i row users readers after lt is seen before = record {
  order = seen.order;
  each = λ user. seen.each user ∙ ap (λ (b : Bool). b || sees_with rows user row) (before.each user) ∙ moved (list_any (bytes_eq user) users) (list_any (sees_with rows user) (take i added)) (sees_with rows user row)
      ∙ ap (λ (b : Bool). list_any (bytes_eq user) users || b) (sym (list_any-push (sees_with rows user) (take i added) row) ∙ ap (list_any (sees_with rows user)) (sym (take_more added i row lt ∙ ap (λ y. take i added ++ y ∷ []) (sym is))));
}
  where
    moved : (a b c : Bool) → ((a || b) || c) ≡ (a || (c || b))
    moved true b c = refl
    moved false true true = refl
    moved false true false = refl
    moved false false true = refl
    moved false false false = refl
