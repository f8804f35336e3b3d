-- What a user sees changes from some rows to others exactly where the user sees a key that is touched, before or after.
use Rattle.std.proofs.Common.{◌≡◌, ℕ, Bool, true, false, cond, ◌&&◌, ◌||◌, not, List, [], ◌∷◌, ◌++◌, map, Option, Some, None, refl, sym, ap, ◌∙◌, subst}
use Rattle.std.specs.List.{filter, list_any}
use Rattle.std.specs.Option.{is_some, option_map_or}
use Rattle.std.specs.Str.{bytes_eq}
use Rattle.std.proofs.lemmas.Slice.Eq.{bytes_eq-Decides}
use Rattle.std.proofs.lemmas.List.Folds.{list_any-append}
use Rattle.std.proofs.lemmas.Map.Entries.{option_filter}
use Rattle.std.proofs.lemmas.Option.{none-some, same_Some}
use Rattle.rv_base.specs.Sorted.{find_by, InOrder, Distinct}
use Rattle.rv_base.specs.PositionLaws.{equals, in_order-filter, in_order-sorted, found-any}
use Rattle.rv_base.specs.ArrangedLaws.{distinct-in_order, distinct-sorted, in_order-same, find-sorted, sorted-sorted, list_any-sorted, find-filter}
use Rattle.rv_rows.specs.declared.key.Key.{Key}
use Rattle.rv_rows.specs.declared.row.Row.{Row}
use Rattle.rv_rows.specs.declared.row.Row.TheVariants as variants
use Rattle.rv_rows.specs.Keys.{key_text, row_key, row_text, row_at, has_row, in_key_order}
use Rattle.rv_rows.specs.Sharing.{is_list, is_extent, names, owns, shares, may_see, is_synced, sees_list, sees_row, list_of, seen}
use Rattle.rv_rows.specs.Changes.{same_row, is_new, is_gone, written, lost}
use Rattle.rv_rows.specs.EffectLaws.{sees_row-sorted, same_row-Decides}
use Rattle.rv_sharing.specs.Affected.{sees_key}

-- the keys that are touched from the rows before to those after: the keys that are lost, and those of the rows that are written
abbrev pub touched_from : List Row → List Row → List Key
touched_from before after = lost before after ++ map row_key (written before after)

-- the user sees one of the touched keys, before or after
abbrev pub sees_touched : List ℕ → List Row → List Row → Bool
sees_touched user before after = list_any (sees_key before user) (touched_from before after) || list_any (sees_key (in_key_order after) user) (touched_from before after)

-- by cases on a test, with what it says
by_flag : (P : Bool → Type 0) (b : Bool) → (b ≡ true → P true) → (b ≡ false → P false) → P b
by_flag P true t f = t refl
by_flag P false t f = f refl

-- by cases on what is found
by_found : {X : Type 0} (P : Option X → Type 0) (o : Option X) → (o ≡ None → P None) → ((x : X) → o ≡ Some x → P (Some x)) → P o
by_found P None n s = n refl
by_found P (Some x) n s = s x refl

-- what tests say, and what they say together
contrary : (b : Bool) → b ≡ true → b ≡ false → ⊥
contrary b t f = let both : true ≡ false = sym t ∙ f in cc

not_true : (b : Bool) → (b ≡ true → ⊥) → b ≡ false
not_true true never = absurd (never refl)
not_true false never = refl

not-false : (b : Bool) → not b ≡ false → b ≡ true
not-false true e = refl
not-false false e = absurd (cc)

and-both : (a b : Bool) → (a && b) ≡ true → (a ≡ true) × (b ≡ true)
and-both true true e = (refl, refl)
and-both true false e = absurd (cc)
and-both false b e = absurd (cc)

and-from : (a b : Bool) → a ≡ true → b ≡ true → (a && b) ≡ true
and-from a b e f = rw (e, f) refl

or-neither : (a b : Bool) → (a || b) ≡ false → (a ≡ false) × (b ≡ false)
or-neither false false e = (refl, refl)
or-neither false true e = absurd (cc)
or-neither true b e = absurd (cc)

or-false : (a b : Bool) → a ≡ false → b ≡ false → (a || b) ≡ false
or-false a b e f = rw (e, f) refl

or-true : (b : Bool) → (b || true) ≡ true
or-true true = refl
or-true false = refl

-- the tests that make a list seen pass again, where each that passed does
shown_again : (a b c x y z : Bool) → (a ≡ true → x ≡ true) → (b ≡ true → y ≡ true) → (c ≡ true → z ≡ true) → (a || (b && c)) ≡ true → (x || (y && z)) ≡ true
shown_again true b c x y z f g h e = rw (f refl) refl
shown_again false true true x y z f g h e = rw (g refl, h refl) (or-true x)
shown_again false true false x y z f g h e = absurd (cc)
shown_again false false c x y z f g h e = absurd (cc)

-- two places hold the same where what stands in each stands in the other
same_options : {X : Type 0} (o p : Option X) → ((x : X) → o ≡ Some x → p ≡ Some x) → ((x : X) → p ≡ Some x → o ≡ Some x) → o ≡ p
same_options None None there back = refl
same_options None (Some x) there back = back x refl
same_options (Some x) p there back = sym (there x refl)

-- what is left by a test passed it
passed : {X : Type 0} (p : X → Bool) (o : Option X) (x : X) → option_filter p o ≡ Some x → (o ≡ Some x) × (p x ≡ true)
passed p None x e = absurd (none-some x e)
passed p (Some y) x e =
    by_flag (λ b. p y ≡ b → cond b (Some y) None ≡ Some x → (Some y ≡ Some x) × (p x ≡ true)) (p y)
    (λ t is f. (f, subst (λ (z : _). p z ≡ true) (same_Some y x f) is))
    (λ t is f. absurd (none-some x f)) refl e

-- a test of what is picked and then mapped
any-picked : {X Y : Type 0} (p : Y → Bool) (f : X → Y) (q : X → Bool) (xs : List X) → list_any p (map f (filter q xs)) ≡ list_any (λ x. q x && p (f x)) xs
any-picked p f q [] = refl
any-picked p f q (x ∷ xs) =
    elim (q x) as (λ b. list_any p (map f (cond b (x ∷ filter q xs) (filter q xs))) ≡ ((b && p (f x)) || list_any (λ x. q x && p (f x)) xs)) [
      | true ↦ ap (λ (b : Bool). p (f x) || b) (any-picked p f q xs)
      | false ↦ any-picked p f q xs
    ]

module _ {X : Type 0} (key : X → List ℕ) where
  -- what is found has the key
  find-key : (k : List ℕ) (xs : List X) (x : X) → find_by key k xs ≡ Some x → k ≡ key x
  find-key k [] x e = absurd (none-some x e)
  find-key k (y ∷ ys) x e =
      by_flag (λ b. cond b (Some y) (find_by key k ys) ≡ Some x → k ≡ key x) (bytes_eq k (key y))
      (λ t f. (bytes_eq-Decides k (key y)).0 t ∙ ap key (same_Some y x f))
      (λ t f. find-key k ys x f) e

  -- and is found at its own
  at_own : (k : List ℕ) (xs : List X) (x : X) → find_by key k xs ≡ Some x → find_by key (key x) xs ≡ Some x
  at_own k xs x e = subst (λ (t : List ℕ). find_by key t xs ≡ Some x) (find-key k xs x e) e

  -- where some item passes a test, one that passes is found at its key
  any-found : (p : X → Bool) (xs : List X) → Distinct key xs → list_any p xs ≡ true → (y : X) × (find_by key (key y) xs ≡ Some y) × (p y ≡ true)
  any-found p [] h e = absurd (cc)
  any-found p (x ∷ xs) h e =
      by_flag (λ b. p x ≡ b → (b || list_any p xs) ≡ true → (y : X) × (find_by key (key y) (x ∷ xs) ≡ Some y) × (p y ≡ true)) (p x)
      (λ t is f. (x, rw (equals (key x)) refl, is))
      (λ t is f. let rest = any-found p xs h.1 f in (rest.0, later rest.0 rest.1, rest.2)) refl e
    where
      later : (y : X) → find_by key (key y) xs ≡ Some y → find_by key (key y) (x ∷ xs) ≡ Some y
      later y found =
          by_flag (λ b. cond b (Some x) (find_by key (key y) xs) ≡ Some y) (bytes_eq (key y) (key x))
          (λ t. absurd (none-some y (sym (subst (λ (k : List ℕ). find_by key k xs ≡ None) (sym ((bytes_eq-Decides (key y) (key x)).0 t)) h.0) ∙ found)))
          (λ t. found)

  -- where an item that passes a test is found, some item passes it
  found-passes : (p : X → Bool) (k : List ℕ) (xs : List X) (x : X) → find_by key k xs ≡ Some x → p x ≡ true → list_any p xs ≡ true
  found-passes p k [] x e is = absurd (none-some x e)
  found-passes p k (y ∷ ys) x e is =
      by_flag (λ b. cond b (Some y) (find_by key k ys) ≡ Some x → (p y || list_any p ys) ≡ true) (bytes_eq k (key y))
      (λ t f. rw (ap p (same_Some y x f) ∙ is) refl)
      (λ t f. rw (found-passes p k ys x f is) (or-true (p y))) e

-- a key is there exactly where a row is found at it
row_there : (k : List ℕ) (rows : List Row) (row : Row) → row_at k rows ≡ Some row → has_row k rows ≡ true
row_there k rows row e = sym (found-any row_text k rows) ∙ ap is_some e

row_found : (k : List ℕ) (rows : List Row) → has_row k rows ≡ true → (row : Row) × (row_at k rows ≡ Some row)
row_found k rows e =
    by_found (λ o. is_some o ≡ true → (row : Row) × (o ≡ Some row)) (row_at k rows) (λ n f. absurd (cc)) (λ row s f. (row, refl)) (found-any row_text k rows ∙ e)

-- a row is not new exactly where it stood so before
not_new : (before : List Row) (row : Row) → Distinct row_text before → is_new before row ≡ false → row_at (row_text row) before ≡ Some row
unfolding is_new
not_new before row h e =
    let same = any-found row_text (same_row row) before h (not-false _ e) in
    subst (λ (r : Row). row_at (row_text r) before ≡ Some r) (sym ((same_row-Decides row same.0).0 same.2)) same.1

was_there : (before : List Row) (row : Row) → row_at (row_text row) before ≡ Some row → is_new before row ≡ false
unfolding is_new
was_there before row e = ap not (found-passes row_text (same_row row) (row_text row) before row e ((same_row-Decides row row).1 refl))

-- a row is not gone exactly where one is found at its key afterwards
not_gone : (after : List Row) (row : Row) → is_gone after row ≡ false → (r : Row) × (row_at (row_text row) after ≡ Some r)
unfolding is_gone
not_gone after row e = row_found (row_text row) after (not-false _ e)

is_there : (after : List Row) (row r : Row) → row_at (row_text row) after ≡ Some r → is_gone after row ≡ false
unfolding is_gone
is_there after row r e = ap not (row_there (row_text row) after r e)

-- some touched key passes a test exactly where a row before that is gone has such a key, or a row afterwards that is new
any-touched : (q : List ℕ → Bool) (before after : List Row) → Distinct row_text after
    → list_any (λ key. q (key_text key)) (touched_from before after) ≡ (list_any (λ row. is_gone after row && q (row_text row)) before || list_any (λ row. is_new before row && q (row_text row)) after)
any-touched q before after h =
    let p : Key → Bool = λ key. q (key_text key) in
    list_any-append p (lost before after) (map row_key (written before after))
    ∙ ap (λ (b : Bool). b || list_any p (map row_key (written before after))) (any-picked p row_key (is_gone after) before)
    ∙ ap (λ (b : Bool). list_any (λ row. is_gone after row && q (row_text row)) before || b) (any-picked p row_key (is_new before) (in_key_order after) ∙ list_any-sorted row_text (λ row. is_new before row && q (row_text row)) after h)

-- where no touched key passes a test, a row afterwards whose key passes it stood so before
stood : (q : List ℕ → Bool) (before after : List Row) → Distinct row_text before → Distinct row_text after → list_any (λ key. q (key_text key)) (touched_from before after) ≡ false
    → (row : Row) → row_at (row_text row) after ≡ Some row → q (row_text row) ≡ true → row_at (row_text row) before ≡ Some row
stood q before after g h none row e is =
    let apart = or-neither _ _ (sym (any-touched q before after h) ∙ none) in
    not_new before row g (not_true (is_new before row) (λ t. contrary _ (found-passes row_text (λ row. is_new before row && q (row_text row)) (row_text row) after row e (and-from _ _ t is)) apart.1))

-- and a row before whose key passes it stands so afterwards
stays : (q : List ℕ → Bool) (before after : List Row) → Distinct row_text before → Distinct row_text after → list_any (λ key. q (key_text key)) (touched_from before after) ≡ false
    → (row : Row) → row_at (row_text row) before ≡ Some row → q (row_text row) ≡ true → row_at (row_text row) after ≡ Some row
stays q before after g h none row e is =
    let apart = or-neither _ _ (sym (any-touched q before after h) ∙ none) in
    let there = not_gone after row (not_true (is_gone after row) (λ t. contrary _ (found-passes row_text (λ row. is_gone after row && q (row_text row)) (row_text row) before row e (and-from _ _ t is)) apart.0)) in
    let one : row_text row ≡ row_text there.0 = find-key row_text (row_text row) after there.0 there.1 in
    let earlier : row_at (row_text there.0) before ≡ Some there.0 = stood q before after g h none there.0 (at_own row_text (row_text row) after there.0 there.1) (subst (λ (k : List ℕ). q k ≡ true) one is) in
    let same : there.0 ≡ row = same_Some there.0 row (sym (subst (λ (k : List ℕ). row_at k before ≡ Some there.0) (sym one) earlier) ∙ e) in
    there.1 ∙ ap Some same

-- where what is found at each key that passes a test is the same before and after, no touched key passes it
none_touched : (q : List ℕ → Bool) (before after : List Row) → Distinct row_text before → Distinct row_text after
    → ((k : List ℕ) → q k ≡ true → (row : Row) × (row_at k before ≡ Some row) × (row_at k after ≡ Some row)) → list_any (λ key. q (key_text key)) (touched_from before after) ≡ false
none_touched q before after g h same = any-touched q before after h ∙ or-false _ _ (not_true _ none_gone) (not_true _ none_new)
  where
    none_gone : list_any (λ row. is_gone after row && q (row_text row)) before ≡ true → ⊥
    none_gone t =
        let gone = any-found row_text (λ row. is_gone after row && q (row_text row)) before g t in
        let tests = and-both _ _ gone.2 in
        let stands = same (row_text gone.0) tests.1 in
        contrary _ tests.0 (is_there after gone.0 stands.0 stands.2)

    none_new : list_any (λ row. is_new before row && q (row_text row)) after ≡ true → ⊥
    none_new t =
        let new = any-found row_text (λ row. is_new before row && q (row_text row)) after h t in
        let tests = and-both _ _ new.2 in
        let stands = same (row_text new.0) tests.1 in
        contrary _ tests.0 (was_there before new.0 (stands.1 ∙ sym stands.2 ∙ new.1))

-- the user sees what is found at the key
abbrev sees_at : List ℕ → List Row → List ℕ → Bool
sees_at user rows k = option_map_or (sees_row user rows) (row_at k rows) false

sees_at-row : (user : List ℕ) (rows : List Row) (k : List ℕ) → sees_at user rows k ≡ true → (row : Row) × (row_at k rows ≡ Some row) × (sees_row user rows row ≡ true)
sees_at-row user rows k e =
    by_found (λ o. option_map_or (sees_row user rows) o false ≡ true → (row : Row) × (o ≡ Some row) × (sees_row user rows row ≡ true)) (row_at k rows)
    (λ n f. absurd (cc)) (λ row s f. (row, refl, f)) e

sees_at-from : (user : List ℕ) (rows : List Row) (k : List ℕ) (row : Row) → row_at k rows ≡ Some row → sees_row user rows row ≡ true → sees_at user rows k ≡ true
sees_at-from user rows k row e is = rw e is

sees_at-sorted : (user : List ℕ) (rows : List Row) (k : List ℕ) → Distinct row_text rows → sees_at user (in_key_order rows) k ≡ sees_at user rows k
sees_at-sorted user rows k h = λ i. option_map_or (λ row. sees_row-sorted user rows h row i) (find-sorted row_text k rows h i) false

-- some touched key is seen before or after, with the rows afterwards in any order
sees_touched-is : (user : List ℕ) (before after : List Row) → Distinct row_text after
    → sees_touched user before after ≡ (list_any (λ key. sees_at user before (key_text key)) (touched_from before after) || list_any (λ key. sees_at user after (key_text key)) (touched_from before after))
sees_touched-is user before after h = λ i. list_any (sees_key before user) (touched_from before after) || list_any (λ key. sees_at-sorted user after (key_text key) h i) (touched_from before after)

-- What a user sees does not depend on the order of the rows.
pub seen-sorted : (user : List ℕ) (rows : List Row) → Distinct row_text rows → seen user (in_key_order rows) ≡ seen user rows
seen-sorted user rows h = λ i. filter (λ row. sees_row-sorted user rows h row i) (sorted-sorted row_text rows i)

-- what is found among the rows that the user sees
find-seen : (user : List ℕ) (rows : List Row) (k : List ℕ) → Distinct row_text rows → row_at k (seen user rows) ≡ option_filter (sees_row user rows) (row_at k rows)
find-seen user rows k h =
    let p : Row → Bool = sees_row user rows in
    find-filter row_text p k (in_key_order rows) (distinct-sorted row_text rows) ∙ ap (option_filter p) (find-sorted row_text k rows h)

-- what the user sees at a key stands there, and the user sees the row
pub seen-found : (user : List ℕ) (rows : List Row) (k : List ℕ) (row : Row) → Distinct row_text rows → row_at k (seen user rows) ≡ Some row → (row_at k rows ≡ Some row) × (sees_row user rows row ≡ true)
seen-found user rows k row h e = passed (sees_row user rows) (row_at k rows) row (sym (find-seen user rows k h) ∙ e)

found-seen : (user : List ℕ) (rows : List Row) (k : List ℕ) (row : Row) → Distinct row_text rows → row_at k rows ≡ Some row → sees_row user rows row ≡ true → row_at k (seen user rows) ≡ Some row
found-seen user rows k row h e is = find-seen user rows k h ∙ rw (e, is) refl

seen_in_order : (user : List ℕ) (rows : List Row) → InOrder row_text (seen user rows)
seen_in_order user rows = in_order-filter row_text (sees_row user rows) (in_key_order rows) (in_order-sorted row_text rows)

-- each row that the user sees among the first rows stands among the others
abbrev Keeps : List ℕ → List Row → List Row → Type 0
Keeps user rows others = (row : Row) → row_at (row_text row) rows ≡ Some row → sees_row user rows row ≡ true → row_at (row_text row) others ≡ Some row

-- what is there passes another test too
passes_again : {X : Type 0} (p q : X → Bool) (none : Bool) → ((x : X) → p x ≡ true → q x ≡ true) → (o : Option X) → option_map_or p o none ≡ true → option_map_or q o none ≡ true
passes_again p q none too None e = e
passes_again p q none too (Some x) e = too x e

-- the rows that show a list to a user belong to it
owns-list : (user list : List ℕ) (row : Row) → owns user list row ≡ true → list_of row ≡ Some list
owns-list user list (variants.Extent row) e = absurd (cc)
owns-list user list (variants.List row) e = ap Some ((bytes_eq-Decides row.id list).0 (and-both _ _ e).0)
owns-list user list (variants.Share row) e = absurd (cc)
owns-list user list (variants.Todo row) e = absurd (cc)

is_list-list : (list : List ℕ) (row : Row) → is_list list row ≡ true → list_of row ≡ Some list
is_list-list list (variants.Extent row) e = absurd (cc)
is_list-list list (variants.List row) e = ap Some ((bytes_eq-Decides row.id list).0 e)
is_list-list list (variants.Share row) e = absurd (cc)
is_list-list list (variants.Todo row) e = absurd (cc)

shares-list : (user list : List ℕ) (row : Row) → shares user list row ≡ true → list_of row ≡ Some list
shares-list user list (variants.Extent row) e = absurd (cc)
shares-list user list (variants.List row) e = absurd (cc)
shares-list user list (variants.Share row) e = ap Some ((bytes_eq-Decides row.list list).0 (and-both _ _ e).0)
shares-list user list (variants.Todo row) e = absurd (cc)

-- and the user sees them where the user sees the list
list-seen : (p : Row → Bool) (user list : List ℕ) (rows : List Row) → sees_list user list rows ≡ true → ((row : Row) → p row ≡ true → list_of row ≡ Some list) → (row : Row) → p row ≡ true → sees_row user rows row ≡ true
list-seen p user list rows is of row e = ap (λ (o : Option (List ℕ)). option_map_or (λ l. sees_list user l rows) o (is_extent user row)) (of row e) ∙ is

-- the user sees the user's extent
extent-seen : (user : List ℕ) (rows : List Row) (row : Row) → is_extent user row ≡ true → sees_row user rows row ≡ true
extent-seen user rows (variants.Extent row) e = e
extent-seen user rows (variants.List row) e = absurd (cc)
extent-seen user rows (variants.Share row) e = absurd (cc)
extent-seen user rows (variants.Todo row) e = absurd (cc)

names-extent : (user list : List ℕ) (row : Row) → names user list row ≡ true → is_extent user row ≡ true
names-extent user list (variants.Extent row) e = (and-both _ _ e).0
names-extent user list (variants.List row) e = absurd (cc)
names-extent user list (variants.Share row) e = absurd (cc)
names-extent user list (variants.Todo row) e = absurd (cc)

-- so where the rows that a user sees are kept, those that pass a test are
any-kept : (p : Row → Bool) (user : List ℕ) (rows others : List Row) → Distinct row_text rows → Keeps user rows others → ((row : Row) → p row ≡ true → sees_row user rows row ≡ true) → list_any p rows ≡ true → list_any p others ≡ true
any-kept p user rows others h keeps sees e =
    let found = any-found row_text p rows h e in
    found-passes row_text p (row_text found.0) others found.0 (keeps found.0 found.1 (sees found.0 found.2)) found.2

-- the lists that the user sees may still be seen
may_see-kept : (user list : List ℕ) (rows others : List Row) → Distinct row_text rows → Keeps user rows others → sees_list user list rows ≡ true → may_see user list others ≡ true
unfolding may_see
may_see-kept user list rows others h keeps is =
    shown_again _ _ _ _ _ _
    (any-kept (owns user list) user rows others h keeps (list-seen (owns user list) user list rows is (owns-list user list)))
    (any-kept (is_list list) user rows others h keeps (list-seen (is_list list) user list rows is (is_list-list list)))
    (any-kept (shares user list) user rows others h keeps (list-seen (shares user list) user list rows is (shares-list user list)))
    (and-both _ _ is).0

-- and are synced, where no extent came either
synced-kept : (user list : List ℕ) (rows others : List Row) → Distinct row_text rows → Distinct row_text others → Keeps user rows others → Keeps user others rows → is_synced user list rows ≡ true → is_synced user list others ≡ true
unfolding is_synced
synced-kept user list rows others g h keeps back is =
    by_flag (λ b. list_any (names user list) rows ≡ b → (not (list_any (is_extent user) others) || list_any (names user list) others) ≡ true) (list_any (names user list) rows)
    (λ t e. rw (any-kept (names user list) user rows others g keeps (λ row named. extent-seen user rows row (names-extent user list row named)) e) (or-true (not (list_any (is_extent user) others))))
    (λ t e.
    let gone : list_any (is_extent user) rows ≡ false = none (list_any (is_extent user) rows) (list_any (names user list) rows) e is in
    let still : list_any (is_extent user) others ≡ false = not_true _ (λ came. contrary _ (any-kept (is_extent user) user others rows h back (extent-seen user others) came) gone) in
    rw still refl)
    refl
  where
    none : (a b : Bool) → b ≡ false → (not a || b) ≡ true → a ≡ false
    none true b e f = absurd (contrary b f e)
    none false b e f = refl

sees_list-kept : (user list : List ℕ) (rows others : List Row) → Distinct row_text rows → Distinct row_text others → Keeps user rows others → Keeps user others rows → sees_list user list rows ≡ true → sees_list user list others ≡ true
sees_list-kept user list rows others g h keeps back is = and-from _ _ (may_see-kept user list rows others g keeps is) (synced-kept user list rows others g h keeps back (and-both _ _ is).1)

-- and what is found among the rows that the user sees is found again
seen-kept : (user : List ℕ) (rows others : List Row) → Distinct row_text rows → Distinct row_text others → Keeps user rows others → Keeps user others rows
    → (k : List ℕ) (row : Row) → row_at k (seen user rows) ≡ Some row → row_at k (seen user others) ≡ Some row
seen-kept user rows others g h keeps back k row e =
    let found = seen-found user rows k row g e in
    let one : k ≡ row_text row = find-key row_text k rows row found.0 in
    let stands : row_at k others ≡ Some row = subst (λ (t : List ℕ). row_at t others ≡ Some row) (sym one) (keeps row (at_own row_text k rows row found.0) found.1) in
    found-seen user others k row h stands (passes_again (λ list. sees_list user list rows) (λ list. sees_list user list others) (is_extent user row) (λ list. sees_list-kept user list rows others g h keeps back) (list_of row) found.1)

-- Where a user sees no touched key, before or after, the user sees the same.
pub untouched_seen : (user : List ℕ) (before after : List Row) → InOrder row_text before → Distinct row_text after → sees_touched user before after ≡ false → seen user after ≡ seen user before
untouched_seen user before after order h none =
    let g = distinct-in_order row_text before order in
    let neither = or-neither _ _ (sym (sees_touched-is user before after h) ∙ none) in
    let kept : Keeps user before after = λ row e is. stays (sees_at user before) before after g h neither.0 row e (sees_at-from user before (row_text row) row e is) in
    let came : Keeps user after before = λ row e is. stood (sees_at user after) before after g h neither.1 row e (sees_at-from user after (row_text row) row e is) in
    in_order-same row_text (seen user after) (seen user before) (seen_in_order user after) (seen_in_order user before)
    (λ k. same_options (row_at k (seen user after)) (row_at k (seen user before)) (seen-kept user after before h g came kept k) (seen-kept user before after g h kept came k))

-- where what the user sees is the same, what the user sees at a key is found among the other rows
seen_there : (user : List ℕ) (rows others : List Row) → Distinct row_text rows → Distinct row_text others → seen user rows ≡ seen user others
    → (k : List ℕ) → sees_at user rows k ≡ true → (row : Row) × (row_at k rows ≡ Some row) × (row_at k others ≡ Some row)
seen_there user rows others g h same k e =
    let found = sees_at-row user rows k e in
    let also : row_at k (seen user others) ≡ Some found.0 = subst (λ (shown : List Row). row_at k shown ≡ Some found.0) same (found-seen user rows k found.0 g found.1 found.2) in
    (found.0, found.1, (seen-found user others k found.0 h also).0)

-- Where a user sees a touched key, before or after, the user sees something else.
pub touched_seen : (user : List ℕ) (before after : List Row) → InOrder row_text before → Distinct row_text after → sees_touched user before after ≡ true → ¬ (seen user after ≡ seen user before)
touched_seen user before after order h some same =
    let g = distinct-in_order row_text before order in
    contrary _ (sym (sees_touched-is user before after h) ∙ some)
    (or-false _ _
    (none_touched (sees_at user before) before after g h (seen_there user before after g h (sym same)))
    (none_touched (sees_at user after) before after g h (λ k e. let found = seen_there user after before h g same k e in (found.0, found.2, found.1))))

-- Where what a user sees is the same, a key that the user sees afterwards has the same row before and after.
pub seen_same_row : (user : List ℕ) (before after : List Row) → InOrder row_text before → Distinct row_text after → seen user after ≡ seen user before
    → (key : Key) → sees_key (in_key_order after) user key ≡ true → row_at (key_text key) after ≡ row_at (key_text key) before
seen_same_row user before after order h same key e =
    let found = seen_there user after before h (distinct-in_order row_text before order) same (key_text key) (sym (sees_at-sorted user after (key_text key) h) ∙ e) in
    found.1 ∙ sym found.2
