-- Laws of the keys that a user sees, collected row by row.
use Rattle.std.proofs.Common.{◌≡◌, ℕ, ◌+◌, ◌<◌, ◌≤◌, Bool, true, false, cond, ◌||◌, List, [], ◌∷◌, ◌++◌, map, length, get_or, take, Some, refl, sym, ap, ◌∙◌, subst}
use Rattle.std.specs.List.{AllByRecursion, filter, list_any}
use Rattle.std.specs.Borrow.{Bor}
use Rattle.std.specs.Str.{bytes_eq}
use Rattle.std.proofs.lemmas.List.{take_more, take_all}
use Rattle.rv_base.specs.Sorted.{InOrder}
use Rattle.rv_base.specs.PositionLaws.{Above, differs_back, equals, in_order-filter}
use Rattle.rv_rows.specs.declared.key.Key.{Key}
use Rattle.rv_rows.specs.declared.row.Row.{Row}
use Rattle.rv_rows.specs.declared.row.Row.TheVariants as variants
use Rattle.rv_rows.specs.Keys.{key_text, row_key}
use Rattle.rv_rows.specs.Held.{Stored, AreRows, find, stored_key, rows_in}
use Rattle.rv_rows.specs.Sharing.{belongs, is_extent, list_passes, sees_row}
use Rattle.rv_sharing.specs.Opened.{AreSeen}
use Rattle.rv_sharing.specs.Gathered.{rows_at, keys_at, extents, merged, Stand}
use Rattle.rv_sharing.specs.Visible.{visible}
use Rattle.rv_sharing.proofs.GatheredLaws.{among_passes, merged-filter}
use Rattle.rv_sharing.proofs.TextLaws.{or_false}

-- rows behind references
abbrev Item : Type 0
Item = Bor Row × ℕ

keys_at-rows : (rows : List Item) → keys_at rows ≡ map (λ (s : Stored). (row_key s.0, s.1)) (rows_at rows)
keys_at-rows [] = refl
keys_at-rows (x ∷ xs) = ap (λ (t : List (Key × ℕ)). (row_key x.0.now, x.1) ∷ t) (keys_at-rows xs)

-- a user sees the rows of the lists that the user sees, and the user's extent
pub sees_either : (user : List ℕ) (rows : List Row) (lists : List (List ℕ)) → AreSeen user rows lists → (row : Row) → (is_extent user row || list_any (λ list. belongs list row) lists) ≡ sees_row user rows row
sees_either user rows lists are row = ap (λ (b : Bool). is_extent user row || b) (among_passes lists row) ∙ each row
  where
    each : (row : Row) → (is_extent user row || list_passes (λ text. list_any (bytes_eq text) lists) row) ≡ sees_row user rows row
    each (variants.Extent row) = sym (or_false (bytes_eq row.user user))
    each (variants.List row) = are.each row.id
    each (variants.Share row) = are.each row.list
    each (variants.Todo row) = are.each row.list

-- so both together are those that the user sees
pub seen_rows : (user : List ℕ) (stored : List Stored) (held lists : List (List ℕ)) (rows all : List Stored) → AreRows stored → held ≡ lists → AreSeen user (rows_in stored) lists
    → rows ≡ filter (λ s. list_any (λ list. belongs list s.0) held) stored → all ≡ merged (extents user stored) rows → all ≡ filter (λ s. sees_row user (rows_in stored) s.0) stored
seen_rows user stored held lists rows all order same are is both =
    both
    ∙ ap (merged (extents user stored)) (is ∙ (λ k. filter (λ s. list_any (λ list. belongs list s.0) (same k)) stored))
    ∙ merged-filter (λ s. is_extent user s.0) (λ s. list_any (λ list. belongs list s.0) lists) stored order
    ∙ (λ k. filter (λ s. sees_either user (rows_in stored) lists are s.0 k) stored)

pub seen_keys : (user : List ℕ) (stored : List Stored) (rows : List Item) → rows_at rows ≡ filter (λ s. sees_row user (rows_in stored) s.0) stored → keys_at rows ≡ visible user stored
seen_keys user stored rows is = keys_at-rows rows ∙ ap (map (λ (s : Stored). (row_key s.0, s.1))) is

-- one more key
keys_at-append : (rows more : List Item) → keys_at (rows ++ more) ≡ keys_at rows ++ keys_at more
keys_at-append [] more = refl
keys_at-append (x ∷ xs) more = ap (λ (t : List (Key × ℕ)). (row_key x.0.now, x.1) ∷ t) (keys_at-append xs more)

pub keys_more : (rows : List Item) (i : ℕ) (item : Item) (keys new : List (Key × ℕ)) (key : Key) → i < length rows → item ≡ get_or rows i item → key ≡ row_key item.0.now → new ≡ keys ++ (key, item.1) ∷ [] → keys ≡ keys_at (take i rows) → new ≡ keys_at (take (i + 1) rows)
keys_more rows i item keys new key lt is key_is new_is so_far =
    new_is ∙ (λ k. so_far k ++ (key_is k, item.1) ∷ []) ∙ sym (keys_at-append (take i rows) (item ∷ [])) ∙ ap keys_at (sym (take_more rows i item lt ∙ ap (λ (y : Item). take i rows ++ y ∷ []) (sym is)))

pub keys_end : (rows : List Item) (i : ℕ) (keys : List (Key × ℕ)) → length rows ≤ i → keys ≡ keys_at (take i rows) → keys ≡ keys_at rows
keys_end rows i keys le so_far = so_far ∙ ap keys_at (take_all i rows le)

-- each row of some lists stands under its key
all_filter : (P : Stored → Type 0) (p : Stored → Bool) (xs : List Stored) → AllByRecursion P xs → AllByRecursion P (filter p xs)
all_filter P p [] all = tt
all_filter P p (x ∷ xs) all = elim (p x) as (λ b. AllByRecursion P (cond b (x ∷ filter p xs) (filter p xs))) [ true ↦ (all.0, all_filter P p xs all.1) | false ↦ all_filter P p xs all.1 ]

found_own : (xs : List Stored) → AreRows xs → AllByRecursion (λ s. find (stored_key s) xs ≡ Some s) xs
found_own [] h = tt
found_own (x ∷ xs) h = (rw (equals (stored_key x)) refl, behind xs h.0 (found_own xs h.1))
  where
    behind : (ys : List Stored) → Above stored_key (stored_key x) ys → AllByRecursion (λ s. find (stored_key s) xs ≡ Some s) ys → AllByRecursion (λ s. find (stored_key s) (x ∷ xs) ≡ Some s) ys
    behind [] low all = tt
    behind (y ∷ ys) low all = (rw (differs_back (stored_key x) (stored_key y) low.0) all.0, behind ys low.1 all.1)

pub all_stand : (p : Stored → Bool) (stored rows : List Stored) → rows ≡ filter p stored → AreRows stored → Stand stored rows
all_stand p stored rows is h = subst (Stand stored) (sym is) (all_filter (λ (s : Stored). find (stored_key s) stored ≡ Some s) p stored (found_own stored h))

-- keys with versions, of stored rows in the order of their keys
abbrev pair : Stored → Key × ℕ
pair s = (row_key s.0, s.1)

above-pairs : (k : List ℕ) (xs : List Stored) → Above stored_key k xs → Above (λ (p : Key × ℕ). key_text p.0) k (map pair xs)
above-pairs k [] all = tt
above-pairs k (x ∷ xs) all = (all.0, above-pairs k xs all.1)

in_order-pairs : (xs : List Stored) → AreRows xs → InOrder (λ (p : Key × ℕ). key_text p.0) (map pair xs)
in_order-pairs [] h = tt
in_order-pairs (x ∷ xs) h = (above-pairs (stored_key x) xs h.0, in_order-pairs xs h.1)

pub visible_in_order : (user : List ℕ) (stored : List Stored) (keys : List (Key × ℕ)) → keys ≡ visible user stored → AreRows stored → InOrder (λ (p : Key × ℕ). key_text p.0) keys
visible_in_order user stored keys is h = rw is (in_order-pairs _ (in_order-filter stored_key (λ s. sees_row user (rows_in stored) s.0) stored h))
