-- Laws of how many rows are read of several lists.
use Rattle.std.proofs.Common.{◌≡◌, ℕ, suc, ◌+◌, Bool, true, false, cond, ◌||◌, List, [], ◌∷◌, ◌++◌, length, take, drop, Option, Some, None, Result, Ok, Err, refl, sym, ap, ◌∙◌, subst, arith, zero-add, length-append}
use Rattle.std.specs.Prelude.{OnOk}
use Rattle.std.specs.declared.cmp.Ordering.TheVariants.{Less, Equal}
use Rattle.std.specs.Ordering.{nat_cmp}
use Rattle.std.specs.Cmp.Lexicographic.{slice_cmp}
use Rattle.std.specs.List.{filter, list_any}
use Rattle.std.specs.Option.{option_map_or}
use Rattle.std.specs.Str.{bytes_eq}
use Rattle.std.proofs.lemmas.Cmp.{nat_list_cmp_total, tied_itself}
use Rattle.std.proofs.lemmas.List.{length-map, take-append-drop}
use Rattle.std.proofs.lemmas.List.Sums.{sum_by-append}
use Rattle.std.proofs.lemmas.Slice.Eq.{bytes_eq-Decides}
use Rattle.rv_base.specs.PositionLaws.{Above}
use Rattle.rv_rows.specs.declared.row.Row.{Row}
use Rattle.rv_rows.specs.declared.row.Row.TheVariants as variants
use Rattle.rv_rows.specs.Held.{Stored, rows_in}
use Rattle.rv_rows.specs.Keys.{row_key}
use Rattle.rv_rows.specs.Sharing.{belongs, is_extent, list_of, sees_row}
use Rattle.rv_sharing.specs.Texts.{AreInOrder}
use Rattle.rv_sharing.specs.Opened.{AreSeen}
use Rattle.rv_sharing.specs.Gathered.{extents, of_list, rows_at, rows_in_lists}
use Rattle.rv_sharing.proofs.GatheredLaws.{Item, among_passes}
use Rattle.rv_sharing.proofs.VisibleLaws.{sees_either}
use Rattle.rv_sharing.specs.Visible.{visible}

-- of rows that pass at most one of two tests there are as many as pass the one and as pass the other
either : (p q : Stored → Bool) (xs : List Stored) → ((s : Stored) → p s ≡ true → q s ≡ false) → length (filter (λ s. p s || q s) xs) ≡ length (filter p xs) + length (filter q xs)
either p q [] apart = omega arith
either p q (x ∷ xs) apart =
    elim (p x) as (λ b. p x ≡ b → length (cond (b || q x) (x ∷ filter (λ s. p s || q s) xs) (filter (λ s. p s || q s) xs)) ≡ length (cond b (x ∷ filter p xs) (filter p xs)) + length (cond (q x) (x ∷ filter q xs) (filter q xs))) [
      | true ↦ λ one. rw (apart x one) (omega (arith, either p q xs apart))
      | false ↦ λ _. elim (q x) as (λ c. length (cond c (x ∷ filter (λ s. p s || q s) xs) (filter (λ s. p s || q s) xs)) ≡ length (filter p xs) + length (cond c (x ∷ filter q xs) (filter q xs))) [
        | true ↦ omega (arith, either p q xs apart)
        | false ↦ either p q xs apart
      ]
    ] refl

-- a text is not among texts that are all above it
not_among : (text : List ℕ) (texts : List (List ℕ)) → Above (λ t. t) text texts → list_any (bytes_eq text) texts ≡ false
not_among text [] all = refl
not_among text (t ∷ ts) all =
    elim (bytes_eq text t) as (λ b. bytes_eq text t ≡ b → (b || list_any (bytes_eq text) ts) ≡ false) [
      | true ↦ λ same. absurd (other ((bytes_eq-Decides text t).0 same))
      | false ↦ λ _. not_among text ts all.1
    ] refl
  where
    other : text ≡ t → ⊥
    other same = let tied : Equal ≡ Less = sym (tied_itself nat_list_cmp_total text) ∙ ap (slice_cmp nat_cmp text) same ∙ all.0 in cc

first_and_others : (l : List ℕ) (ls : List (List ℕ)) (stored : List Stored) → rows_in_lists (l ∷ ls) stored ≡ length (of_list l stored) + rows_in_lists ls stored
first_and_others l ls stored =
    sum_by-append (λ list. length (of_list list stored)) (l ∷ []) ls
    ∙ ap (λ (n : ℕ). n + rows_in_lists ls stored) (zero-add (length (of_list l stored)))

-- of several lists, each once, as many rows are read as belong to one of them
lists_apart : (lists : List (List ℕ)) (stored : List Stored) → AreInOrder lists → rows_in_lists lists stored ≡ length (filter (λ s. list_any (λ list. belongs list s.0) lists) stored)
lists_apart [] stored order = none stored
  where
    none : (xs : List Stored) → 0 ≡ length (filter (λ s. false) xs)
    none [] = refl
    none (x ∷ xs) = none xs
lists_apart (l ∷ ls) stored order =
    first_and_others l ls stored
    ∙ ap (λ (n : ℕ). length (of_list l stored) + n) (lists_apart ls stored order.1)
    ∙ sym (either (λ s. belongs l s.0) (λ s. list_any (λ list. belongs list s.0) ls) stored apart)
  where
    apart : (s : Stored) → belongs l s.0 ≡ true → list_any (λ list. belongs list s.0) ls ≡ false
    apart s same = each (list_of s.0) same
      where
        each : (o : Option (List ℕ)) → option_map_or (λ text. bytes_eq text l) o false ≡ true → list_any (λ list. option_map_or (λ text. bytes_eq text list) o false) ls ≡ false
        each None same = absurd (cc)
        each (Some text) same = subst (λ (text : List ℕ). list_any (bytes_eq text) ls ≡ false) (sym ((bytes_eq-Decides text l).0 same)) (not_among l ls order.0)

same_count : (p q : Stored → Bool) (xs : List Stored) → ((s : Stored) → p s ≡ q s) → length (filter p xs) ≡ length (filter q xs)
same_count p q xs same = λ i. length (filter (λ s. same s i) xs)

-- an extent belongs to no list
belongs_nowhere : (user : List ℕ) (lists : List (List ℕ)) (row : Row) → is_extent user row ≡ true → list_any (λ list. belongs list row) lists ≡ false
belongs_nowhere user lists (variants.Extent row) e = among_passes lists (variants.Extent row)
belongs_nowhere user lists (variants.List row) e = absurd (cc)
belongs_nowhere user lists (variants.Share row) e = absurd (cc)
belongs_nowhere user lists (variants.Todo row) e = absurd (cc)

-- as many rows are read as the user sees: the user's extent, and the rows of the lists
pub read_seen : (user : List ℕ) (stored : List Stored) (held lists : List (List ℕ)) → held ≡ lists → AreSeen user (rows_in stored) lists → length (extents user stored) + rows_in_lists held stored ≡ length (visible user stored)
read_seen user stored held lists same are =
    ap (λ (ls : List (List ℕ)). length (extents user stored) + rows_in_lists ls stored) same
    ∙ ap (λ (n : ℕ). length (extents user stored) + n) (lists_apart lists stored are.order)
    ∙ sym (either (λ s. is_extent user s.0) (λ s. list_any (λ list. belongs list s.0) lists) stored (λ s e. belongs_nowhere user lists s.0 e))
    ∙ same_count (λ s. is_extent user s.0 || list_any (λ list. belongs list s.0) lists) (λ s. sees_row user (rows_in stored) s.0) stored (λ s. sees_either user (rows_in stored) lists are s.0)
    ∙ sym (length-map (filter (λ s. sees_row user (rows_in stored) s.0) stored) (λ s. (row_key s.0, s.1)))

-- the steps of both, one after the other
pub steps_of_both : {T E : Type 0} (r : Result T E) (before mid after lists own all : ℕ) → mid ≡ before + lists → own + lists ≡ all → OnOk r (after ≡ mid + own) → OnOk r (after ≡ before + all)
steps_of_both (Ok x) before mid after lists own all first sum second = omega (arith, first, sum, second)
steps_of_both (Err e) before mid after lists own all first sum second = tt

length_at : (rows : List Item) → length (rows_at rows) ≡ length rows
length_at [] = refl
length_at (x ∷ xs) = ap suc (length_at xs)

-- rows that were read and those that are left are all of them
pub all_read : (rows : List Item) (left all : List Stored) → rows_at rows ++ left ≡ all → length rows + length left ≡ length all
all_read rows left all so_far = omega (arith, ap length so_far, length-append (rows_at rows) left, length_at rows)

-- as many rows are read of all lists as of the front ones and of the others
pub read_parts : (n : ℕ) (lists front back : List (List ℕ)) (stored : List Stored) → front ≡ take n lists → back ≡ drop n lists → rows_in_lists front stored + rows_in_lists back stored ≡ rows_in_lists lists stored
read_parts n lists front back stored front_is back_is =
    (λ i. rows_in_lists (front_is i) stored + rows_in_lists (back_is i) stored)
    ∙ sym (sum_by-append (λ list. length (of_list list stored)) (take n lists) (drop n lists))
    ∙ ap (λ (ls : List (List ℕ)). rows_in_lists ls stored) (take-append-drop n lists)
