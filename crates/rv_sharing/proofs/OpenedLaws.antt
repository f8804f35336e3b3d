-- Laws of the lists that a user sees, collected row by row.
use Rattle.std.proofs.Common.{◌≡◌, ℕ, ◌+◌, ◌<◌, ◌≤◌, Bool, true, false, cond, List, [], ◌∷◌, length, take, get_or, Option, Some, None, refl, sym, ap, ◌∙◌, ◌||◌, ◌&&◌}
use Rattle.std.proofs.lemmas.List.{take_all}
use Rattle.std.proofs.lemmas.List.Folds.{list_any_more}
use Rattle.std.specs.List.{filter, list_any}
use Rattle.std.specs.Option.{option_map_or}
use Rattle.std.specs.Str.{bytes_eq}
use Rattle.rv_rows.specs.declared.row.Row.{Row}
use Rattle.rv_rows.specs.declared.row.Row.TheVariants as variants
use Rattle.rv_rows.specs.Held.{Stored, rows_in, AreRows}
use Rattle.rv_rows.specs.Sharing.{is_list, owns, shares, may_see, user_of}
use Rattle.rv_sharing.specs.SameTextLaws.{same_either_way, at_same}
use Rattle.rv_sharing.proofs.OwnerLaws.{picked}
use Rattle.rv_sharing.proofs.ExtentLaws.{synced-found}
use Rattle.rv_sharing.specs.Extents.{extent_of}
use Rattle.rv_sharing.specs.Texts.{AreInOrder, AddsText}
use Rattle.rv_sharing.proofs.TextLaws.{or_moved, or_false}
use Rattle.rv_sharing.specs.Opened.{opened, AreOpened, AreAmong, AreSeen}

-- the row lets the user see this list
unfoldable pub opens : List ℕ → List Row → List ℕ → Row → Bool
opens user rows list row = option_map_or (bytes_eq list) (opened user rows row) false

nothing : (c : Bool) → false ≡ (c && false)
nothing true = refl
nothing false = refl

-- it does exactly where the user owns it by this row, or it is there and shared by this row
opens_is : (user : List ℕ) (rows : List Row) (list : List ℕ) (row : Row) → opens user rows list row ≡ (owns user list row || (list_any (is_list list) rows && shares user list row))
unfolding opens
opens_is user rows list (variants.Extent row) = nothing (list_any (is_list list) rows)
opens_is user rows list (variants.List row) =
    picked list row.id (bytes_eq row.owner user)
    ∙ ap (λ (b : Bool). bytes_eq row.owner user && b) (same_either_way list row.id)
    ∙ flags (bytes_eq row.owner user) (bytes_eq row.id list) (list_any (is_list list) rows)
  where
    flags : (o e c : Bool) → (o && e) ≡ ((e && o) || (c && false))
    flags true true c = refl
    flags true false c = nothing c
    flags false true c = nothing c
    flags false false c = nothing c
opens_is user rows list (variants.Share row) =
    picked list row.list (bytes_eq row.user user && list_any (is_list row.list) rows)
    ∙ at_same (λ id. bytes_eq row.user user && list_any (is_list id) rows) list row.list
    ∙ ap (λ (b : Bool). (bytes_eq row.user user && list_any (is_list list) rows) && b) (same_either_way list row.list)
    ∙ flags (bytes_eq row.user user) (list_any (is_list list) rows) (bytes_eq row.list list)
  where
    flags : (u c e : Bool) → ((u && c) && e) ≡ (c && (e && u))
    flags true true true = refl
    flags true true false = refl
    flags true false e = refl
    flags false true true = refl
    flags false true false = refl
    flags false false e = refl
opens_is user rows list (variants.Todo row) = nothing (list_any (is_list list) rows)

-- some row lets the user see a list exactly where the user may see it
pub opens-may_see : (user : List ℕ) (list : List ℕ) (rows : List Row) → list_any (opens user rows list) rows ≡ may_see user list rows
unfolding may_see
opens-may_see user list rows = each rows
  where
    joined : (a b s c d : Bool) → ((a || (b && s)) || (c || (b && d))) ≡ ((a || c) || (b && (s || d)))
    joined true b s c d = refl
    joined false true true true d = refl
    joined false true true false d = refl
    joined false true false c d = refl
    joined false false s c d = refl

    each : (xs : List Row) → list_any (opens user rows list) xs ≡ (list_any (owns user list) xs || (list_any (is_list list) rows && list_any (shares user list) xs))
    each [] = nothing (list_any (is_list list) rows)
    each (row ∷ xs) =
        ap (λ (b : Bool). b || list_any (opens user rows list) xs) (opens_is user rows list row)
        ∙ ap (λ (b : Bool). (owns user list row || (list_any (is_list list) rows && shares user list row)) || b) (each xs)
        ∙ joined (owns user list row) (list_any (is_list list) rows) (shares user list row) (list_any (owns user list) xs) (list_any (shares user list) xs)

-- the lists that the rows so far let the user see, with what the rest lets the user see, are all that the user may see
pub record Opening (user : List ℕ) (rows : List Row) (lists : List (List ℕ)) (rest : List Stored) : Type 0 where
  pub order : AreInOrder lists
  pub each : (list : List ℕ) → (list_any (bytes_eq list) lists || list_any (opens user rows list) (rows_in rest)) ≡ may_see user list rows

-- a row that names another lets the user see nothing
names_another : (user : List ℕ) (rows : List Row) (list : List ℕ) (row : Row) → bytes_eq (user_of row) user ≡ false → opens user rows list row ≡ false
unfolding opens
names_another user rows list (variants.Extent row) e = refl
names_another user rows list (variants.List row) e = rw e refl
names_another user rows list (variants.Share row) e = rw e refl
names_another user rows list (variants.Todo row) e = refl

opens-named : (user : List ℕ) (rows : List Row) (list : List ℕ) (stored : List Stored) → list_any (opens user rows list) (rows_in (filter (λ s. bytes_eq (user_of s.0) user) stored)) ≡ list_any (opens user rows list) (rows_in stored)
opens-named user rows list [] = refl
opens-named user rows list (s ∷ stored) =
    elim (bytes_eq (user_of s.0) user) as (λ b. bytes_eq (user_of s.0) user ≡ b → list_any (opens user rows list) (rows_in (cond b (s ∷ filter (λ s. bytes_eq (user_of s.0) user) stored) (filter (λ s. bytes_eq (user_of s.0) user) stored))) ≡ (opens user rows list s.0 || list_any (opens user rows list) (rows_in stored))) [
      | true ↦ λ e. ap (λ (b : Bool). opens user rows list s.0 || b) (opens-named user rows list stored)
      | false ↦ λ e. rw (names_another user rows list s.0 e) (opens-named user rows list stored)
    ] refl

pub opening_begins : (user : List ℕ) (stored rest : List Stored) (lists : List (List ℕ)) → lists ≡ [] → rest ≡ filter (λ s. bytes_eq (user_of s.0) user) stored → Opening user (rows_in stored) lists rest
opening_begins user stored rest lists none all = rw (none, all) (record { order = tt; each = λ list. opens-named user (rows_in stored) list stored ∙ opens-may_see user list (rows_in stored) })

pub opening_more : (user : List ℕ) (rows : List Row) (rest next : List Stored) (s : Stored) (id : List ℕ) (before after : List (List ℕ)) → rest ≡ s ∷ next → Some id ≡ opened user rows s.0 → AddsText id before after
    → Opening user rows before rest → Opening user rows after next
unfolding opens
opening_more user rows rest next s id before after first is adds opening =
    let opening = rw first at opening in
    record {
      order = adds.order;
      each = λ list.
          ap (λ (b : Bool). b || list_any (opens user rows list) (rows_in next)) (adds.each (bytes_eq list))
          ∙ or_moved (bytes_eq list id) (list_any (bytes_eq list) before) (list_any (opens user rows list) (rows_in next))
          ∙ ap (λ (o : Option (List ℕ)). list_any (bytes_eq list) before || (option_map_or (bytes_eq list) o false || list_any (opens user rows list) (rows_in next))) is
          ∙ opening.each list;
    }

pub opening_same : (user : List ℕ) (rows : List Row) (rest next : List Stored) (s : Stored) (lists : List (List ℕ)) → rest ≡ s ∷ next → None ≡ opened user rows s.0
    → Opening user rows lists rest → Opening user rows lists next
unfolding opens
opening_same user rows rest next s lists first is opening =
    let opening = rw first at opening in
    record {
      order = opening.order;
      each = λ list. ap (λ (o : Option (List ℕ)). list_any (bytes_eq list) lists || (option_map_or (bytes_eq list) o false || list_any (opens user rows list) (rows_in next))) is ∙ opening.each list;
    }

pub opening_ends : (user : List ℕ) (rows : List Row) (lists : List (List ℕ)) (rest : List Stored) → rest ≡ [] → Opening user rows lists rest → AreOpened user rows lists
opening_ends user rows lists rest none opening =
    let opening = rw none at opening in
    record { order = opening.order; each = λ list. or_false (list_any (bytes_eq list) lists) ∙ opening.each list }

-- the lists that an extent names, one by one
pub among_begins : (user : List ℕ) (rows : List Row) (named lists : List (List ℕ)) → lists ≡ [] → AreAmong user rows (take 0 named) lists
among_begins user rows named lists none = rw none (record { order = tt; each = λ list. nothing (may_see user list rows) })

kept_apart : (m a e : Bool) → ((m && e) || (m && a)) ≡ (m && (a || e))
kept_apart true true true = refl
kept_apart true true false = refl
kept_apart true false true = refl
kept_apart true false false = refl
kept_apart false a e = refl

module _ (user : List ℕ) (rows : List Row) (named : List (List ℕ)) (i : ℕ) (next : List ℕ) (lt : i < length named) (at : next ≡ get_or named i next) where
  -- what one more list adds
  one_more : (list : List ℕ) (seen : Bool) → seen ≡ may_see user next rows → (before after : Bool) → before ≡ (may_see user list rows && list_any (bytes_eq list) (take i named)) → after ≡ ((seen && bytes_eq list next) || before)
      → after ≡ (may_see user list rows && list_any (bytes_eq list) (take (i + 1) named))
  one_more list seen seen_is before after before_is after_is =
      after_is
      ∙ (λ k. (seen_is k && bytes_eq list next) || before_is k)
      ∙ ap (λ (b : Bool). b || (may_see user list rows && list_any (bytes_eq list) (take i named))) (at_same (λ l. may_see user l rows) list next)
      ∙ kept_apart (may_see user list rows) (list_any (bytes_eq list) (take i named)) (bytes_eq list next)
      ∙ ap (λ (l : List ℕ). may_see user list rows && (list_any (bytes_eq list) (take i named) || bytes_eq list l)) at
      ∙ ap (λ (b : Bool). may_see user list rows && b) (sym (list_any_more (bytes_eq list) named i next lt))

  pub among_more : (before after : List (List ℕ)) → may_see user next rows ≡ true → AddsText next before after → AreAmong user rows (take i named) before → AreAmong user rows (take (i + 1) named) after
  among_more before after may adds are = record { order = adds.order; each = λ list. one_more list true (sym may) _ _ (are.each list) (adds.each (bytes_eq list)) }

  pub among_same : (lists : List (List ℕ)) → may_see user next rows ≡ false → AreAmong user rows (take i named) lists → AreAmong user rows (take (i + 1) named) lists
  among_same lists may_not are = record { order = are.order; each = λ list. one_more list false (sym may_not) _ _ (are.each list) refl }

pub among_ends : (user : List ℕ) (rows : List Row) (named lists : List (List ℕ)) (i : ℕ) → length named ≤ i → AreAmong user rows (take i named) lists → AreAmong user rows named lists
among_ends user rows named lists i le are = record { order = are.order; each = λ list. are.each list ∙ ap (λ (ls : List (List ℕ)). may_see user list rows && list_any (bytes_eq list) ls) (take_all i named le) }

-- the lists that the user sees: all that the user may see, where there is no extent; else of those that it names
pub seen_all : (user : List ℕ) (stored : List Stored) (lists : List (List ℕ)) → AreRows stored → None ≡ extent_of user (rows_in stored) → AreOpened user (rows_in stored) lists → AreSeen user (rows_in stored) lists
seen_all user stored lists rows none are = record {
  order = are.order;
  each = λ list. are.each list ∙ alone (may_see user list (rows_in stored)) ∙ ap (λ (b : Bool). may_see user list (rows_in stored) && b) (synced-found user list stored None rows none);
}
  where
    alone : (b : Bool) → b ≡ (b && true)
    alone true = refl
    alone false = refl

pub seen_named : (user : List ℕ) (stored : List Stored) (named lists : List (List ℕ)) → AreRows stored → Some named ≡ extent_of user (rows_in stored) → AreAmong user (rows_in stored) named lists → AreSeen user (rows_in stored) lists
seen_named user stored named lists rows is are = record {
  order = are.order;
  each = λ list. are.each list ∙ ap (λ (b : Bool). may_see user list (rows_in stored) && b) (synced-found user list stored (Some named) rows is);
}
