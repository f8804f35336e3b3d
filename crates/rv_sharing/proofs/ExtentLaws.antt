-- Laws of extents: among rows of which no two have one key, a user's extent is found by its key.
use Rattle.std.proofs.Common.{◌≡◌, ℕ, Bool, true, false, cond, List, [], ◌∷◌, Option, Some, None, refl, sym, ap, ◌∙◌, subst, not, ◌||◌, ◌&&◌}
use Rattle.std.specs.List.{list_any}
use Rattle.std.specs.Option.{option_map, option_and_then}
use Rattle.std.specs.Str.{bytes_eq}
use Rattle.std.proofs.lemmas.Slice.Eq.{bytes_eq-Decides}
use Rattle.std.proofs.lemmas.Option.{none-some, same_Some}
use Rattle.rv_base.specs.Sorted.{Distinct}
use Rattle.rv_base.specs.ArrangedLaws.{find-map, distinct-in_order}
use Rattle.rv_rows.specs.declared.key.Kind.TheVariants as kinds
use Rattle.rv_rows.specs.declared.row.Row.{Row}
use Rattle.rv_rows.specs.declared.row.Row.TheVariants as variants
use Rattle.rv_rows.specs.Keys.{key_text, row_text, row_at}
use Rattle.rv_rows.specs.Held.{Stored, rows_in, find, stored_key, AreRows}
use Rattle.rv_rows.specs.HeldLaws.{distinct-rows}
use Rattle.rv_rows.specs.Sharing.{is_extent, names, is_synced}
use Rattle.rv_sharing.specs.Extents.{row_lists, extent_of, is_named}
use Rattle.rv_sharing.specs.Gathered.{extents}
use Rattle.rv_sharing.specs.SameTextLaws.{same_either_way}
use Rattle.rv_sharing.proofs.OwnerLaws.{or_none}

-- the text of an extent's key
abbrev pub extent_key : List ℕ → List ℕ
extent_key user = key_text (record { kind = kinds.Extent; id = user })

-- where none is found there is none, and none names a list
none_names : (user list : List ℕ) (rows : List Row) → row_at (extent_key user) rows ≡ None → list_any (names user list) rows ≡ false
none_names user list [] h = refl
none_names user list (variants.Extent row ∷ rows) h =
    ap (λ (b : Bool). (b && list_any (bytes_eq list) row.lists) || list_any (names user list) rows) (same_either_way row.user user)
    ∙ elim (bytes_eq user row.user) as (λ b. cond b (Some (variants.Extent row)) (row_at (extent_key user) rows) ≡ None → ((b && list_any (bytes_eq list) row.lists) || list_any (names user list) rows) ≡ false) [
      | true ↦ λ e. absurd (cc)
      | false ↦ λ e. none_names user list rows e
    ] h
none_names user list (variants.List row ∷ rows) h = none_names user list rows h
none_names user list (variants.Share row ∷ rows) h = none_names user list rows h
none_names user list (variants.Todo row ∷ rows) h = none_names user list rows h

-- a user syncs a list by what the user's extent names
pub synced_is : (user list : List ℕ) (rows : List Row) → Distinct row_text rows → is_synced user list rows ≡ is_named (extent_of user rows) list
unfolding is_synced
synced_is user list [] apart = refl
synced_is user list (variants.Extent row ∷ rows) apart =
    ap (λ (b : Bool). not (b || list_any (is_extent user) rows) || ((b && list_any (bytes_eq list) row.lists) || list_any (names user list) rows)) (same_either_way row.user user)
    ∙ elim (bytes_eq user row.user) as (λ b. bytes_eq user row.user ≡ b → (not (b || list_any (is_extent user) rows) || ((b && list_any (bytes_eq list) row.lists) || list_any (names user list) rows)) ≡ is_named (option_and_then row_lists (cond b (Some (variants.Extent row)) (row_at (extent_key user) rows))) list) [
      | true ↦ λ e. or_none (list_any (bytes_eq list) row.lists) _ (none_names user list rows (subst (λ (id : List ℕ). row_at (extent_key id) rows ≡ None) (sym ((bytes_eq-Decides user row.user).0 e)) apart.0))
      | false ↦ λ e. synced_is user list rows apart.1
    ] refl
synced_is user list (variants.List row ∷ rows) apart = synced_is user list rows apart.1
synced_is user list (variants.Share row ∷ rows) apart = synced_is user list rows apart.1
synced_is user list (variants.Todo row ∷ rows) apart = synced_is user list rows apart.1

-- and in a table
pub synced-found : (user list : List ℕ) (stored : List Stored) (extent : Option (List (List ℕ))) → AreRows stored → extent ≡ extent_of user (rows_in stored) → is_named extent list ≡ is_synced user list (rows_in stored)
synced-found user list stored extent order is = ap (λ (o : Option (List (List ℕ))). is_named o list) is ∙ sym (synced_is user list (rows_in stored) (distinct-rows stored order))

-- the lists of an extent, by what is found in a table
pub extent-found : (user : List ℕ) (stored : List Stored) → option_and_then (λ (s : Stored). row_lists s.0) (find (extent_key user) stored) ≡ extent_of user (rows_in stored)
extent-found user stored = joined (find (extent_key user) stored) ∙ ap (λ (o : Option Row). option_and_then row_lists o) (find-map row_text (λ (s : Stored). s.0) (extent_key user) stored)
  where
    joined : (o : Option Stored) → option_and_then (λ (s : Stored). row_lists s.0) o ≡ option_and_then row_lists (option_map (λ (s : Stored). s.0) o)
    joined None = refl
    joined (Some s) = refl

-- the extents of the user among the rows are the one that is found, if any
extents_none : (user : List ℕ) (stored : List Stored) → find (extent_key user) stored ≡ None → extents user stored ≡ []
extents_none user [] h = refl
extents_none user ((variants.Extent row, version) ∷ stored) h =
    ap (λ (b : Bool). cond b ((variants.Extent row, version) ∷ extents user stored) (extents user stored)) (same_either_way row.user user)
    ∙ elim (bytes_eq user row.user) as (λ b. cond b (Some (variants.Extent row, version)) (find (extent_key user) stored) ≡ None → cond b ((variants.Extent row, version) ∷ extents user stored) (extents user stored) ≡ []) [
      | true ↦ λ e. absurd (none-some _ (sym e))
      | false ↦ λ e. extents_none user stored e
    ] h
extents_none user ((variants.List row, version) ∷ stored) h = extents_none user stored h
extents_none user ((variants.Share row, version) ∷ stored) h = extents_none user stored h
extents_none user ((variants.Todo row, version) ∷ stored) h = extents_none user stored h

extents_one : (user : List ℕ) (stored : List Stored) (s : Stored) → Distinct stored_key stored → find (extent_key user) stored ≡ Some s → extents user stored ≡ s ∷ []
extents_one user [] s apart h = absurd (none-some s h)
extents_one user ((variants.Extent row, version) ∷ stored) s apart h =
    ap (λ (b : Bool). cond b ((variants.Extent row, version) ∷ extents user stored) (extents user stored)) (same_either_way row.user user)
    ∙ elim (bytes_eq user row.user) as (λ b. bytes_eq user row.user ≡ b → cond b (Some (variants.Extent row, version)) (find (extent_key user) stored) ≡ Some s → cond b ((variants.Extent row, version) ∷ extents user stored) (extents user stored) ≡ s ∷ []) [
      | true ↦ λ e f.
          let alone : extents user stored ≡ [] = extents_none user stored (subst (λ (id : List ℕ). find (extent_key id) stored ≡ None) (sym ((bytes_eq-Decides user row.user).0 e)) apart.0) in
          (λ i. same_Some (variants.Extent row, version) s f i ∷ alone i)
      | false ↦ λ e f. extents_one user stored s apart.1 f
    ] refl h
extents_one user ((variants.List row, version) ∷ stored) s apart h = extents_one user stored s apart.1 h
extents_one user ((variants.Share row, version) ∷ stored) s apart h = extents_one user stored s apart.1 h
extents_one user ((variants.Todo row, version) ∷ stored) s apart h = extents_one user stored s apart.1 h

pub extents-absent : (user : List ℕ) (stored : List Stored) → None ≡ find (extent_key user) stored → extents user stored ≡ []
extents-absent user stored none = extents_none user stored (sym none)

pub extents-found : (user : List ℕ) (stored : List Stored) (s : Stored) → AreRows stored → Some s ≡ find (extent_key user) stored → extents user stored ≡ s ∷ []
extents-found user stored s order is = extents_one user stored s (distinct-in_order stored_key stored order) (sym is)
