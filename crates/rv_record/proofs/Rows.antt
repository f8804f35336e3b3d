-- A row more on a sound page: which rows may stand behind those that are there.
use Rattle.std.proofs.Common.{◌≡◌, ℕ, Bool, true, false, not, List, [], ◌∷◌, ◌++◌, ◌||◌, ◌&&◌, refl, sym, ap, ◌∙◌, subst}
use Rattle.std.specs.List.{list_any, AllByRecursion}
use Rattle.std.specs.Str.{bytes_eq}
use Rattle.std.proofs.Math.Bool.{or-false, or-true}
use Rattle.std.proofs.lemmas.List.Folds.{list_any-append}
use Rattle.std.proofs.lemmas.Slice.Eq.{bytes_eq-Decides}
use Rattle.rv_base.specs.PositionLaws.{differs_back, equals}
use Rattle.rv_base.specs.Sorted.{Below}
use Rattle.rv_rows.specs.declared.key.Kind.TheVariants as kinds
use Rattle.rv_rows.specs.declared.row.Row.{Row}
use Rattle.rv_rows.specs.declared.row.ExtentRow.{ExtentRow}
use Rattle.rv_rows.specs.declared.row.ListRow.{ListRow}
use Rattle.rv_rows.specs.declared.row.ShareRow.{ShareRow}
use Rattle.rv_rows.specs.declared.row.TodoRow.{TodoRow}
use Rattle.rv_rows.specs.declared.row.Row.TheVariants as variants
use Rattle.rv_rows.specs.Keys.{key_text, row_text, has_row}
use Rattle.rv_rows.specs.Held.{Stored, rows_in, stored_key}
use Rattle.rv_rows.specs.Sharing.{is_list, owns, shares}
use Rattle.rv_book.specs.SoundPages.{has_its_list, share_alike, shared_with_owner, AreSharedOnce}
use Rattle.rv_history.specs.WholeRowLaws.{push_whole, AreWhole}
use Rattle.rv_record.specs.PageReads.{stands_with}
use Rattle.rv_record.specs.ListLaws.{all-last}

pub rows_push : (stored : List Stored) (s : Stored) → rows_in (stored ++ s ∷ []) ≡ rows_in stored ++ s.0 ∷ []
rows_push [] s = refl
rows_push (t ∷ stored) s = ap (λ (rows : List Row). t.0 ∷ rows) (rows_push stored s)

-- a row above all others has a key of its own
pub absent : (stored : List Stored) (s : Stored) → AllByRecursion (λ t. Below (stored_key t) (stored_key s)) stored → has_row (row_text s.0) (rows_in stored) ≡ false
absent [] s below = refl
absent (t ∷ stored) s below = (λ i. differs_back (stored_key t) (stored_key s) below.0 i || absent stored s below.1 i)

all_of : {X : Type 0} (P : X → Type 0) (xs : List X) → ((x : X) → P x) → AllByRecursion P xs
all_of P [] each = tt
all_of P (x ∷ xs) each = (each x, all_of P xs each)

either_false : (a b : Bool) → (a || b) ≡ false → (a ≡ false) × (b ≡ false)
either_false true b is = absurd (cc)
either_false false b is = (refl, is)

both_true : (a b : Bool) → (a && b) ≡ true → (a ≡ true) × (b ≡ true)
both_true true b is = (refl, is)
both_true false b is = absurd (cc)

not_true : (a : Bool) → not a ≡ true → a ≡ false
not_true true is = absurd (cc)
not_true false is = refl

all_three : (a b c : Bool) → a ≡ true → b ≡ false → c ≡ false → (a && (not b && not c)) ≡ true
all_three true false false is none also = refl
all_three false b c is none also = absurd (cc)
all_three true true c is none also = absurd (cc)
all_three true false true is none also = absurd (cc)

-- a row at the end that is no such list leaves what is there
any_before : (p : Row → Bool) (rows : List Row) (row : Row) → p row ≡ false → list_any p (rows ++ row ∷ []) ≡ list_any p rows
any_before p rows row none = list_any-append p rows (row ∷ []) ∙ ap (λ (b : Bool). list_any p rows || (b || false)) none ∙ or-false (list_any p rows)

-- a list that is there has its key among the rows
listed_key : (id : List ℕ) (rows : List Row) → list_any (is_list id) rows ≡ true → has_row (key_text (record { kind = kinds.List; id = id })) rows ≡ true
listed_key id [] is = is
listed_key id (variants.Extent row ∷ rows) is = ap (λ (b : Bool). bytes_eq (key_text (record { kind = kinds.List; id = id })) (row_text (variants.Extent row)) || b) (listed_key id rows is) ∙ or-true (bytes_eq (key_text (record { kind = kinds.List; id = id })) (row_text (variants.Extent row)))
listed_key id (variants.List row ∷ rows) is = by (bytes_eq row.id id) refl is (listed_key id rows)
  where
    by : (b : Bool) → bytes_eq row.id id ≡ b → (b || list_any (is_list id) rows) ≡ true → (list_any (is_list id) rows ≡ true → has_row (key_text (record { kind = kinds.List; id = id })) rows ≡ true)
        → has_row (key_text (record { kind = kinds.List; id = id })) (variants.List row ∷ rows) ≡ true
    by true same any rest =
        ap (λ (b : Bool). b || has_row (key_text (record { kind = kinds.List; id = id })) rows)
        ((bytes_eq-Decides _ _).1 (ap (λ (name : List ℕ). key_text (record { kind = kinds.List; id = name })) (sym ((bytes_eq-Decides row.id id).0 same))))
    by false other any rest = ap (λ (b : Bool). bytes_eq (key_text (record { kind = kinds.List; id = id })) (row_text (variants.List row)) || b) (rest any) ∙ or-true _
listed_key id (variants.Share row ∷ rows) is = ap (λ (b : Bool). bytes_eq (key_text (record { kind = kinds.List; id = id })) (row_text (variants.Share row)) || b) (listed_key id rows is) ∙ or-true (bytes_eq (key_text (record { kind = kinds.List; id = id })) (row_text (variants.Share row)))
listed_key id (variants.Todo row ∷ rows) is = ap (λ (b : Bool). bytes_eq (key_text (record { kind = kinds.List; id = id })) (row_text (variants.Todo row)) || b) (listed_key id rows is) ∙ or-true (bytes_eq (key_text (record { kind = kinds.List; id = id })) (row_text (variants.Todo row)))

-- ---- A row that may stand behind the others keeps them whole.

module _ (rows : List Row) (whole : AreWhole rows) where
  still_others : (row : Row) → ((user list : List ℕ) → owns user list row ≡ false) → (those : List Row) → AllByRecursion (λ other. shared_with_owner rows other ≡ false) those → AllByRecursion (λ other. shared_with_owner (rows ++ row ∷ []) other ≡ false) those
  still_others row none [] all = tt
  still_others row none (variants.Extent other ∷ those) all = (refl, still_others row none those all.1)
  still_others row none (variants.List other ∷ those) all = (refl, still_others row none those all.1)
  still_others row none (variants.Share other ∷ those) all = (any_before (owns other.user other.list) rows row (none other.user other.list) ∙ all.0, still_others row none those all.1)
  still_others row none (variants.Todo other ∷ those) all = (refl, still_others row none those all.1)

  list_more : (row : ListRow) → has_row (row_text (variants.List row)) rows ≡ false → AreWhole (rows ++ variants.List row ∷ [])
  list_more row new = push_whole rows (variants.List row) whole listed (all_of _ rows apart) (others rows whole.listed whole.others) refl
    where
      listed : list_any (is_list row.id) (rows ++ variants.List row ∷ []) ≡ true
      listed = list_any-append (is_list row.id) rows (variants.List row ∷ []) ∙ ap (λ (b : Bool). list_any (is_list row.id) rows || (b || false)) (equals row.id) ∙ or-true (list_any (is_list row.id) rows)

      apart : (other : Row) → share_alike other (variants.List row) ≡ false
      apart (variants.Extent other) = refl
      apart (variants.List other) = refl
      apart (variants.Share other) = refl
      apart (variants.Todo other) = refl

      not_owned : (user list : List ℕ) → list_any (is_list list) rows ≡ true → owns user list (variants.List row) ≡ false
      not_owned user list there = by (bytes_eq row.id list) refl
        where
          by : (b : Bool) → bytes_eq row.id list ≡ b → (b && bytes_eq row.owner user) ≡ false
          by true same = absurd (
              let held : has_row (row_text (variants.List row)) rows ≡ true = subst (λ (name : List ℕ). has_row (key_text (record { kind = kinds.List; id = name })) rows ≡ true) (sym ((bytes_eq-Decides row.id list).0 same)) (listed_key list rows there) in
              let both : true ≡ false = sym held ∙ new in
              cc
              )
          by false other = refl

      others : (those : List Row) → AllByRecursion (λ other. has_its_list rows other ≡ true) those → AllByRecursion (λ other. shared_with_owner rows other ≡ false) those → AllByRecursion (λ other. shared_with_owner (rows ++ variants.List row ∷ []) other ≡ false) those
      others [] there all = tt
      others (variants.Extent other ∷ those) there all = (refl, others those there.1 all.1)
      others (variants.List other ∷ those) there all = (refl, others those there.1 all.1)
      others (variants.Share other ∷ those) there all = (any_before (owns other.user other.list) rows (variants.List row) (not_owned other.user other.list there.0) ∙ all.0, others those there.1 all.1)
      others (variants.Todo other ∷ those) there all = (refl, others those there.1 all.1)

  share_more : (row : ShareRow) → stands_with (variants.Share row) rows ≡ true → AreWhole (rows ++ variants.Share row ∷ [])
  share_more row stands =
      let facts = both_true (list_any (is_list row.list) rows) _ stands in
      let rest = both_true (not (list_any (owns row.user row.list) rows)) (not (list_any (shares row.user row.list) rows)) facts.1 in
      push_whole rows (variants.Share row) whole
      (any_before (is_list row.list) rows (variants.Share row) refl ∙ facts.0)
      (apart rows (not_true _ rest.1))
      (still_others (variants.Share row) (λ user list. refl) rows whole.others)
      (any_before (owns row.user row.list) rows (variants.Share row) refl ∙ not_true _ rest.0)
    where
      apart : (those : List Row) → list_any (shares row.user row.list) those ≡ false → AllByRecursion (λ other. share_alike other (variants.Share row) ≡ false) those
      apart [] none = tt
      apart (variants.Extent other ∷ those) none = (refl, apart those none)
      apart (variants.List other ∷ those) none = (refl, apart those none)
      apart (variants.Share other ∷ those) none = let parts = either_false _ _ none in (parts.0, apart those parts.1)
      apart (variants.Todo other ∷ those) none = (refl, apart those none)

  todo_more : (row : TodoRow) → list_any (is_list row.list) rows ≡ true → AreWhole (rows ++ variants.Todo row ∷ [])
  todo_more row listed =
      push_whole rows (variants.Todo row) whole (any_before (is_list row.list) rows (variants.Todo row) refl ∙ listed) (all_of _ rows apart) (still_others (variants.Todo row) (λ user list. refl) rows whole.others) refl
    where
      apart : (other : Row) → share_alike other (variants.Todo row) ≡ false
      apart (variants.Extent other) = refl
      apart (variants.List other) = refl
      apart (variants.Share other) = refl
      apart (variants.Todo other) = refl

  extent_more : (row : ExtentRow) → AreWhole (rows ++ variants.Extent row ∷ [])
  extent_more row = push_whole rows (variants.Extent row) whole refl (all_of _ rows apart) (still_others (variants.Extent row) (λ user list. refl) rows whole.others) refl
    where
      apart : (other : Row) → share_alike other (variants.Extent row) ≡ false
      apart (variants.Extent other) = refl
      apart (variants.List other) = refl
      apart (variants.Share other) = refl
      apart (variants.Todo other) = refl

  pub whole_more : (row : Row) → has_row (row_text row) rows ≡ false → stands_with row rows ≡ true → AreWhole (rows ++ row ∷ [])
  whole_more (variants.Extent row) new stands = extent_more row
  whole_more (variants.List row) new stands = list_more row new
  whole_more (variants.Share row) new stands = share_more row stands
  whole_more (variants.Todo row) new stands = todo_more row stands

-- ---- The last of whole rows may stand behind the others.

not_shared : (rows : List Row) (row : ShareRow) → AreSharedOnce (rows ++ variants.Share row ∷ []) → list_any (shares row.user row.list) rows ≡ false
not_shared [] row once = refl
not_shared (variants.Extent other ∷ rows) row once = not_shared rows row once.1
not_shared (variants.List other ∷ rows) row once = not_shared rows row once.1
not_shared (variants.Share other ∷ rows) row once = (λ i. all-last (λ later. share_alike (variants.Share other) later ≡ false) rows (variants.Share row) once.0 i || not_shared rows row once.1 i)
not_shared (variants.Todo other ∷ rows) row once = not_shared rows row once.1

pub whole_last : (rows : List Row) (row : Row) → AreWhole (rows ++ row ∷ []) → stands_with row rows ≡ true
whole_last rows (variants.Extent row) whole = refl
whole_last rows (variants.List row) whole = refl
whole_last rows (variants.Share row) whole =
    all_three (list_any (is_list row.list) rows) (list_any (owns row.user row.list) rows) (list_any (shares row.user row.list) rows)
    (sym (any_before (is_list row.list) rows (variants.Share row) refl) ∙ all-last (λ other. has_its_list (rows ++ variants.Share row ∷ []) other ≡ true) rows (variants.Share row) whole.listed)
    (sym (any_before (owns row.user row.list) rows (variants.Share row) refl) ∙ all-last (λ other. shared_with_owner (rows ++ variants.Share row ∷ []) other ≡ false) rows (variants.Share row) whole.others)
    (not_shared rows row whole.once)
whole_last rows (variants.Todo row) whole =
    sym (any_before (is_list row.list) rows (variants.Todo row) refl) ∙ all-last (λ other. has_its_list (rows ++ variants.Todo row ∷ []) other ≡ true) rows (variants.Todo row) whole.listed
