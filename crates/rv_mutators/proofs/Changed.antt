-- Which rows are written and which keys are lost, where rows in the order of their keys stay, get one more, are filtered,
-- or change and keep their keys.
use Rattle.std.proofs.Common.{◌≡◌, ℕ, Bool, true, false, cond, ◌||◌, List, [], ◌∷◌, ◌++◌, map, Option, Some, None, refl, sym, ap, ◌∙◌, subst, not}
use Rattle.std.specs.Str.{bytes_eq}
use Rattle.std.specs.List.{filter, list_any}
use Rattle.std.specs.Option.{option_map_or, is_some}
use Rattle.std.proofs.lemmas.Map.Entries.{option_filter}
use Rattle.rv_base.specs.Sorted.{find_by, put_by, InOrder}
use Rattle.rv_base.specs.PositionLaws.{equals, find_put, in_order-put, in_order-filter, found-sorted}
use Rattle.rv_base.specs.ArrangedLaws.{distinct-in_order, in_order-same, sorted-in_order, sorted-push, find-filter, find-changed, in_order-map}
use Rattle.rv_rows.specs.declared.key.Key.{Key}
use Rattle.rv_rows.specs.declared.row.Row.{Row}
use Rattle.rv_rows.specs.Keys.{row_key, row_text, in_key_order}
use Rattle.rv_rows.specs.Changes.{same_row, is_new, is_gone, written, lost}
use Rattle.rv_mutators.specs.declared.staged.Staged.{Staged}
use Rattle.rv_rows.specs.EffectLaws.{same_row-Decides}
use Rattle.rv_mutators.proofs.Picked.{by_flag, by_found, filter-none, filter-map, find-key, none_after, filter-same}

-- what is written and lost from the first rows to the second
abbrev pub changes : List Row → List Row → Staged
changes before after = record { rows = written before after; keys = lost before after }

pub both : (rows others : List Row) (keys more : List Key) → rows ≡ others → keys ≡ more → ◌≡◌ {A = Staged} (record { rows = rows; keys = keys }) (record { rows = others; keys = more })
both rows others keys more e f = λ i. record { rows = e i; keys = f i }

or_false : (b : Bool) → (b || false) ≡ b
or_false true = refl
or_false false = refl

-- rows with two keys are not the same
apart : (r x : Row) → bytes_eq (row_text r) (row_text x) ≡ false → same_row r x ≡ false
apart r x e =
    by_flag (λ b. b ≡ false) (same_row r x)
    (λ f. let same : r ≡ x = (same_row-Decides r x).0 f in let one : bytes_eq (row_text r) (row_text x) ≡ true = subst (λ (y : Row). bytes_eq (row_text r) (row_text y) ≡ true) same (equals (row_text r)) in sym one ∙ e)
    (λ f. refl)

-- a row stood so before exactly where the row that is found at its key is the same
pub any_same : (before : List Row) (r : Row) → InOrder row_text before → list_any (same_row r) before ≡ option_map_or (same_row r) (find_by row_text (row_text r) before) false
any_same [] r h = refl
any_same (x ∷ xs) r h =
    by_flag (λ b. (same_row r x || list_any (same_row r) xs) ≡ option_map_or (same_row r) (cond b (Some x) (find_by row_text (row_text r) xs)) false) (bytes_eq (row_text r) (row_text x))
    (λ e. rw (any_same xs r h.1, none_after row_text (row_text r) x xs h e) (or_false (same_row r x)))
    (λ e. rw (apart r x e) (any_same xs r h.1))

pub new_row : (before : List Row) (r : Row) → InOrder row_text before → find_by row_text (row_text r) before ≡ None → is_new before r ≡ true
unfolding is_new
new_row before r h none = rw (any_same before r h, none) refl

pub old_row : (before : List Row) (r : Row) → InOrder row_text before → find_by row_text (row_text r) before ≡ Some r → is_new before r ≡ false
unfolding is_new
old_row before r h found = rw (any_same before r h, found, (same_row-Decides r r).1 refl) refl

pub gone_at : (after : List Row) (r : Row) → is_gone after r ≡ not (is_some (find_by row_text (row_text r) (in_key_order after)))
unfolding is_gone
gone_at after r = ap not (sym (found-sorted row_text (row_text r) after))

-- rows that all stood so before
none_new : (before after : List Row) → InOrder row_text before → InOrder row_text after
    → ((x : Row) → find_by row_text (row_text x) after ≡ Some x → find_by row_text (row_text x) before ≡ Some x) → filter (is_new before) after ≡ []
none_new before after h g inside = filter-same row_text (is_new before) (λ _. false) after g (λ x e. old_row before x h (inside x e)) ∙ filter-none after

-- rows whose keys are all there afterwards
none_gone : (before after : List Row) → InOrder row_text before
    → ((x : Row) → find_by row_text (row_text x) before ≡ Some x → is_some (find_by row_text (row_text x) (in_key_order after)) ≡ true) → filter (is_gone after) before ≡ []
none_gone before after h inside = filter-same row_text (is_gone after) (λ _. false) before h (λ x e. gone_at after x ∙ ap not (inside x e)) ∙ filter-none before

-- the rows stay
pub changes-none : (before : List Row) → InOrder row_text before → changes before before ≡ record { rows = []; keys = [] }
changes-none before h =
    both (written before before) [] (lost before before) []
    (ap (filter (is_new before)) (sorted-in_order row_text before h) ∙ none_new before before h h (λ x e. e))
    (ap (map row_key) (none_gone before before h (λ x e. rw (sorted-in_order row_text before h, e) refl)))

-- the row that is found at a key is found at its own
pub at_own : (k : List ℕ) (before : List Row) (x : Row) → find_by row_text k before ≡ Some x → find_by row_text (row_text x) before ≡ Some x
at_own k before x e = subst (λ (t : List ℕ). find_by row_text t before ≡ Some x) (find-key row_text k before x e) e

-- one more row
pub changes-push : (before : List Row) (r : Row) → InOrder row_text before → find_by row_text (row_text r) before ≡ None → changes before (before ++ r ∷ []) ≡ record { rows = r ∷ []; keys = [] }
changes-push before r h none =
    both (written before (before ++ r ∷ [])) (r ∷ []) (lost before (before ++ r ∷ [])) []
    (ap (filter (is_new before)) sorted ∙ in_order-same row_text (filter (is_new before) (put_by row_text r before)) (r ∷ []) (in_order-filter row_text (is_new before) (put_by row_text r before) after) (tt, tt)
    (λ k. find-filter row_text (is_new before) k (put_by row_text r before) (distinct-in_order row_text (put_by row_text r before) after) ∙ ap (option_filter (is_new before)) (find_put row_text k r before) ∙ at k))
    (ap (map row_key) (none_gone before (before ++ r ∷ []) h (λ x e. rw (sorted, find_put row_text (row_text x) r before, e) (there (bytes_eq (row_text x) (row_text r)) r x))))
  where
    sorted : in_key_order (before ++ r ∷ []) ≡ put_by row_text r before
    sorted = sorted-push row_text r before ∙ ap (put_by row_text r) (sorted-in_order row_text before h)

    after : InOrder row_text (put_by row_text r before)
    after = in_order-put row_text r before h

    at : (k : List ℕ) → option_filter (is_new before) (cond (bytes_eq k (row_text r)) (Some r) (find_by row_text k before)) ≡ cond (bytes_eq k (row_text r)) (Some r) None
    at k =
        by_flag (λ b. option_filter (is_new before) (cond b (Some r) (find_by row_text k before)) ≡ cond b (Some r) None) (bytes_eq k (row_text r))
        (λ e. rw (new_row before r h none) refl)
        (λ e. by_found (λ o. option_filter (is_new before) o ≡ None) (find_by row_text k before) (λ f. refl) (λ x f. rw (old_row before x h (at_own k before x f)) refl))

    there : (b : Bool) (r x : Row) → is_some (cond b (Some r) (Some x)) ≡ true
    there true r x = refl
    there false r x = refl

-- some rows go
pub changes-filter : (before : List Row) (p : Row → Bool) → InOrder row_text before → changes before (filter p before) ≡ record { rows = []; keys = map row_key (filter (λ x. not (p x)) before) }
changes-filter before p h =
    both (written before (filter p before)) [] (lost before (filter p before)) (map row_key (filter (λ x. not (p x)) before))
    (ap (filter (is_new before)) sorted ∙ none_new before (filter p before) h after (λ x e. passed (find_by row_text (row_text x) before) x (sym (find-filter row_text p (row_text x) before (distinct-in_order row_text before h)) ∙ e)))
    (ap (map row_key) (filter-same row_text (is_gone (filter p before)) (λ x. not (p x)) before h (λ x e. gone_at (filter p before) x ∙ ap not (rw (sorted, find-filter row_text p (row_text x) before (distinct-in_order row_text before h), e) (is_kept (p x) x)))))
  where
    after : InOrder row_text (filter p before)
    after = in_order-filter row_text p before h

    sorted : in_key_order (filter p before) ≡ filter p before
    sorted = sorted-in_order row_text (filter p before) after

    passed : (o : Option Row) (x : Row) → option_filter p o ≡ Some x → o ≡ Some x
    passed None x e = e
    passed (Some y) x e = by_flag (λ b. cond b (Some y) None ≡ Some x → Some y ≡ Some x) (p y) (λ t f. f) (λ t f. absurd (cc)) e

    is_kept : (b : Bool) (x : Row) → is_some (cond b (Some x) None) ≡ b
    is_kept true x = refl
    is_kept false x = refl

-- rows change and keep their keys
pub changes-map : (before : List Row) (f : Row → Row) → ((x : Row) → row_text (f x) ≡ row_text x) → InOrder row_text before
    → changes before (map f before) ≡ record { rows = map f (filter (λ x. not (same_row (f x) x)) before); keys = [] }
unfolding is_new
changes-map before f keeps h =
    both (written before (map f before)) (map f (filter (λ x. not (same_row (f x) x)) before)) (lost before (map f before)) []
    (ap (filter (is_new before)) sorted ∙ filter-map (is_new before) f before ∙ ap (map f) (filter-same row_text (λ x. is_new before (f x)) (λ x. not (same_row (f x) x)) before h is_other))
    (ap (map row_key) (none_gone before (map f before) h (λ x e. rw (sorted, find-changed row_text f (row_text x) before keeps, e) refl)))
  where
    sorted : in_key_order (map f before) ≡ map f before
    sorted = sorted-in_order row_text (map f before) (in_order-map row_text f before keeps h)

    is_other : (x : Row) → find_by row_text (row_text x) before ≡ Some x → is_new before (f x) ≡ not (same_row (f x) x)
    is_other x e = rw (any_same before (f x) h, keeps x, e) refl
