-- The rows of every lawful book are whole: each share and each todo names a list of them, no two shares have the same list and user, and no
-- share names its list's owner. Each call keeps them so.
use Rattle.std.proofs.Common.{◌≡◌, ℕ, Bool, true, false, cond, not, List, [], ◌∷◌, ◌++◌, ◌||◌, ◌&&◌, map, Option, Some, None, refl, sym, ap, ◌∙◌, subst}
use Rattle.std.specs.List.{filter, list_any, AllByRecursion}
use Rattle.std.specs.Option.{option_map_or}
use Rattle.std.specs.Str.{bytes_eq}
use Rattle.std.proofs.Math.Bool.{or-false, or-true}
use Rattle.std.proofs.lemmas.List.Folds.{list_any-append}
use Rattle.std.proofs.lemmas.Slice.Eq.{bytes_eq-Decides}
use Rattle.rv_base.specs.Sorted.{find_by, Distinct}
use Rattle.rv_base.specs.PositionLaws.{equals, not_same}
use Rattle.rv_rows.specs.declared.key.Kind.TheVariants as kinds
use Rattle.rv_rows.specs.declared.role.Role.{Role}
use Rattle.rv_rows.specs.declared.row.Row.{Row}
use Rattle.rv_rows.specs.declared.row.Row.TheVariants as variants
use Rattle.rv_rows.specs.declared.call.Call.{Call}
use Rattle.rv_rows.specs.declared.call.Call.TheVariants.{CreateList, DeleteList, CreateShare, UpdateShare, DeleteShare, CreateTodo, UpdateTodo, DeleteTodo, SetExtent, Void}
use Rattle.rv_rows.specs.Keys.{key_text, row_text, has_row}
use Rattle.rv_rows.specs.Sharing.{is_list, list_of, list_passes, owns, shares, lets_edit, may_edit}
use Rattle.rv_rows.specs.Effects.{after_role, after_update, effect, ends, is_at, is_other, is_outside, is_unchanged, may_change, may_end, may_set_role, may_share, next_sort, replaced, with_extent, with_fields, with_role}
use Rattle.rv_book.specs.SoundPages.{has_its_list, share_alike, shared_with_owner, AreSharedOnce}

-- ---- Lists.

all_weaker : {X : Type 0} (P Q : X → Type 0) (xs : List X) → ((x : X) → P x → Q x) → AllByRecursion P xs → AllByRecursion Q xs
all_weaker P Q [] weaker all = tt
all_weaker P Q (x ∷ xs) weaker all = (weaker x all.0, all_weaker P Q xs weaker all.1)

all_push : {X : Type 0} (P : X → Type 0) (xs : List X) (y : X) → AllByRecursion P xs → P y → AllByRecursion P (xs ++ y ∷ [])
all_push P [] y all last = (last, tt)
all_push P (x ∷ xs) y all last = (all.0, all_push P xs y all.1 last)

all_filter : {X : Type 0} (f : X → Bool) (P Q : X → Type 0) (xs : List X) → ((x : X) → f x ≡ true → P x → Q x) → AllByRecursion P xs → AllByRecursion Q (filter f xs)
all_filter f P Q [] weaker all = tt
all_filter f P Q (x ∷ xs) weaker all =
    elim (f x) as (λ b. f x ≡ b → AllByRecursion Q (cond b (x ∷ filter f xs) (filter f xs))) [
      | true ↦ λ is. (weaker x is all.0, all_filter f P Q xs weaker all.1)
      | false ↦ λ is. all_filter f P Q xs weaker all.1
    ] refl

all_through : {X : Type 0} (g : X → X) (P Q : X → Type 0) (xs : List X) → ((x : X) → P x → Q (g x)) → AllByRecursion P xs → AllByRecursion Q (map g xs)
all_through g P Q [] weaker all = tt
all_through g P Q (x ∷ xs) weaker all = (weaker x all.0, all_through g P Q xs weaker all.1)

all_of : {X : Type 0} (P : X → Type 0) (xs : List X) → ((x : X) → P x) → AllByRecursion P xs
all_of P [] each = tt
all_of P (x ∷ xs) each = (each x, all_of P xs each)

none_all : {X : Type 0} (p : X → Bool) (xs : List X) → list_any p xs ≡ false → AllByRecursion (λ x. p x ≡ false) xs
none_all p [] none = tt
none_all p (x ∷ xs) none = (first (p x) (list_any p xs) none, none_all p xs (second (p x) (list_any p xs) none))
  where
    first : (a b : Bool) → (a || b) ≡ false → a ≡ false
    first true b is = is
    first false b is = refl

    second : (a b : Bool) → (a || b) ≡ false → b ≡ false
    second true b is = absurd (cc)
    second false b is = is

any_weaker : {X : Type 0} (p q : X → Bool) (xs : List X) → ((x : X) → p x ≡ true → q x ≡ true) → list_any p xs ≡ true → list_any q xs ≡ true
any_weaker p q [] weaker is = is
any_weaker p q (x ∷ xs) weaker is = by (p x) refl is (any_weaker p q xs weaker)
  where
    by : (b : Bool) → p x ≡ b → (b || list_any p xs) ≡ true → (list_any p xs ≡ true → list_any q xs ≡ true) → (q x || list_any q xs) ≡ true
    by true here any rest = ap (λ (b : Bool). b || list_any q xs) (weaker x here)
    by false here any rest = ap (λ (b : Bool). q x || b) (rest any) ∙ or-true (q x)

any_filter : {X : Type 0} (p f : X → Bool) (xs : List X) → ((x : X) → p x ≡ true → f x ≡ true) → list_any p xs ≡ true → list_any p (filter f xs) ≡ true
any_filter p f [] kept is = is
any_filter p f (x ∷ xs) kept is = by (f x) refl (p x) refl is (any_filter p f xs kept)
  where
    by : (b : Bool) → f x ≡ b → (c : Bool) → p x ≡ c → (c || list_any p xs) ≡ true → (list_any p xs ≡ true → list_any p (filter f xs) ≡ true) → list_any p (cond b (x ∷ filter f xs) (filter f xs)) ≡ true
    by true stays true here any rest = ap (λ (b : Bool). b || list_any p (filter f xs)) here
    by true stays false here any rest = ap (λ (b : Bool). p x || b) (rest any) ∙ or-true (p x)
    by false goes true here any rest = absurd (let both : true ≡ false = sym (kept x here) ∙ goes in cc)
    by false goes false here any rest = rest any

none_filter : {X : Type 0} (p f : X → Bool) (xs : List X) → list_any p xs ≡ false → list_any p (filter f xs) ≡ false
none_filter p f [] none = none
none_filter p f (x ∷ xs) none = by (f x) (p x) refl none (none_filter p f xs)
  where
    by : (b c : Bool) → p x ≡ c → (c || list_any p xs) ≡ false → (list_any p xs ≡ false → list_any p (filter f xs) ≡ false) → list_any p (cond b (x ∷ filter f xs) (filter f xs)) ≡ false
    by b true here any rest = absurd (cc)
    by true false here any rest = (λ i. here i || rest any i)
    by false false here any rest = rest any

any_through : {X : Type 0} (p : X → Bool) (g : X → X) (xs : List X) → ((x : X) → p (g x) ≡ p x) → list_any p (map g xs) ≡ list_any p xs
any_through p g [] same = refl
any_through p g (x ∷ xs) same = (λ i. same x i || any_through p g xs same i)

-- ---- What holds of the rows.

pub record AreWhole (rows : List Row) : Type 0 where
  pub listed : AllByRecursion (λ row. has_its_list rows row ≡ true) rows
  pub once : AreSharedOnce rows
  pub others : AllByRecursion (λ row. shared_with_owner rows row ≡ false) rows

whole_if : (b : Bool) (new rows : List Row) → (b ≡ true → AreWhole new) → AreWhole rows → AreWhole (cond b new rows)
whole_if true new rows made whole = made refl
whole_if false new rows made whole = whole

-- ---- A row more.

once_push : (rows : List Row) (row : Row) → AllByRecursion (λ other. share_alike other row ≡ false) rows → AreSharedOnce rows → AreSharedOnce (rows ++ row ∷ [])
once_push [] row apart once = (tt, tt)
once_push (other ∷ rows) row apart once = (all_push _ rows row once.0 apart.0, once_push rows row apart.1 once.1)

-- what holds of a row's list, where it has one
its_list_too : (p q : List ℕ → Bool) → ((list : List ℕ) → p list ≡ true → q list ≡ true) → (o : Option (List ℕ)) → option_map_or p o true ≡ true → option_map_or q o true ≡ true
its_list_too p q too None is = refl
its_list_too p q too (Some list) is = too list is

pub push_whole : (rows : List Row) (row : Row) → AreWhole rows → has_its_list (rows ++ row ∷ []) row ≡ true → AllByRecursion (λ other. share_alike other row ≡ false) rows
    → AllByRecursion (λ other. shared_with_owner (rows ++ row ∷ []) other ≡ false) rows → shared_with_owner (rows ++ row ∷ []) row ≡ false → AreWhole (rows ++ row ∷ [])
push_whole rows row whole listed apart others own = record {
  listed = all_push _ rows row (all_weaker _ _ rows (λ other is. its_list_too _ _ (λ list is. list_any-append (is_list list) rows (row ∷ []) ∙ ap (λ (b : Bool). b || list_any (is_list list) (row ∷ [])) is) (list_of other) is) whole.listed) listed;
  once = once_push rows row apart whole.once;
  others = all_push _ rows row others own;
}

-- a row that owns no list leaves the others as they are
still_others : (rows : List Row) (row : Row) → ((user list : List ℕ) → owns user list row ≡ false) → AllByRecursion (λ other. shared_with_owner rows other ≡ false) rows → AllByRecursion (λ other. shared_with_owner (rows ++ row ∷ []) other ≡ false) rows
still_others rows row none all = all_weaker _ _ rows each all
  where
    each : (other : Row) → shared_with_owner rows other ≡ false → shared_with_owner (rows ++ row ∷ []) other ≡ false
    each (variants.Extent other) is = refl
    each (variants.List other) is = refl
    each (variants.Share other) is = list_any-append (owns other.user other.list) rows (row ∷ []) ∙ (λ i. is i || (none other.user other.list i || false))
    each (variants.Todo other) is = refl

-- a list that is there has its key among the rows
has_list : (id : List ℕ) (rows : List Row) → list_any (is_list id) rows ≡ true → has_row (key_text (record { kind = kinds.List; id = id })) rows ≡ true
has_list id rows is = any_weaker (is_list id) (λ row. bytes_eq (key_text (record { kind = kinds.List; id = id })) (row_text row)) rows each is
  where
    each : (row : Row) → is_list id row ≡ true → bytes_eq (key_text (record { kind = kinds.List; id = id })) (row_text row) ≡ true
    each (variants.Extent row) here = absurd (cc)
    each (variants.List row) here = (bytes_eq-Decides _ _).1 (ap (λ (name : List ℕ). key_text (record { kind = kinds.List; id = name })) (sym ((bytes_eq-Decides row.id id).0 here)))
    each (variants.Share row) here = absurd (cc)
    each (variants.Todo row) here = absurd (cc)

both_first : (a b : Bool) → (a && b) ≡ true → a ≡ true
both_first true b is = refl
both_first false b is = is

both_second : (a b : Bool) → (a && b) ≡ true → b ≡ true
both_second true b is = is
both_second false b is = absurd (cc)

not_true : (a : Bool) → not a ≡ true → a ≡ false
not_true true is = absurd (cc)
not_true false is = refl

-- who owns a list finds it there
owned_there : (user list : List ℕ) (rows : List Row) → list_any (owns user list) rows ≡ true → list_any (is_list list) rows ≡ true
owned_there user list rows is = any_weaker (owns user list) (is_list list) rows each is
  where
    each : (row : Row) → owns user list row ≡ true → is_list list row ≡ true
    each (variants.Extent row) here = absurd (cc)
    each (variants.List row) here = both_first (bytes_eq row.id list) (bytes_eq row.owner user) here
    each (variants.Share row) here = absurd (cc)
    each (variants.Todo row) here = absurd (cc)

-- who may edit a list finds it there
edited_there : (user list : List ℕ) (rows : List Row) → may_edit user list rows ≡ true → list_any (is_list list) rows ≡ true
unfolding may_edit
edited_there user list rows is = by (list_any (owns user list) rows) refl is
  where
    by : (b : Bool) → list_any (owns user list) rows ≡ b → (b || (list_any (is_list list) rows && list_any (lets_edit user list) rows)) ≡ true → list_any (is_list list) rows ≡ true
    by true owned any = owned_there user list rows owned
    by false owned any = both_first (list_any (is_list list) rows) (list_any (lets_edit user list) rows) any

-- ---- Fewer rows.

once_filter : (f : Row → Bool) (rows : List Row) → AreSharedOnce rows → AreSharedOnce (filter f rows)
once_filter f [] once = tt
once_filter f (row ∷ rows) once =
    elim (f row) as (λ b. AreSharedOnce (cond b (row ∷ filter f rows) (filter f rows))) [
      | true ↦ (all_filter f _ _ rows (λ later kept is. is) once.0, once_filter f rows once.1)
      | false ↦ once_filter f rows once.1
    ]

-- a row that is no list is no row's list
pub names_none : (o : Option (List ℕ)) → option_map_or (λ id. false) o false ≡ true → ⊥
names_none None here = cc
names_none (Some id) here = cc

pub filter_whole : (f : Row → Bool) (rows : List Row) → ((row list : Row) → f row ≡ true → list_passes (λ id. is_list id list) row ≡ true → f list ≡ true) → AreWhole rows → AreWhole (filter f rows)
filter_whole f rows lists whole = record {
  listed = all_filter f _ _ rows (λ row stays is. left row stays (list_of row) refl is) whole.listed;
  once = once_filter f rows whole.once;
  others = all_filter f _ _ rows (λ row stays is. each row is) whole.others;
}
  where
    left : (row : Row) → f row ≡ true → (o : Option (List ℕ)) → list_of row ≡ o → option_map_or (λ list. list_any (is_list list) rows) o true ≡ true → option_map_or (λ list. list_any (is_list list) (filter f rows)) o true ≡ true
    left row stays None of is = refl
    left row stays (Some id) of is = any_filter (is_list id) f rows (λ list here. lists row list stays (ap (λ (o : Option (List ℕ)). option_map_or (λ id. is_list id list) o false) of ∙ here)) is

    each : (row : Row) → shared_with_owner rows row ≡ false → shared_with_owner (filter f rows) row ≡ false
    each (variants.Extent row) is = refl
    each (variants.List row) is = refl
    each (variants.Share row) is = none_filter (owns row.user row.list) f rows is
    each (variants.Todo row) is = refl

-- ---- Rows whose other fields are set.

-- the row keeps its list, its users and what it is
record Keeps (g : Row → Row) : Type 0 where
  pub listed : (row : Row) → list_of (g row) ≡ list_of row
  pub is : (list : List ℕ) (row : Row) → is_list list (g row) ≡ is_list list row
  pub owned : (user list : List ℕ) (row : Row) → owns user list (g row) ≡ owns user list row
  pub alike : (row other : Row) → share_alike (g row) (g other) ≡ share_alike row other
  pub shared : (rows : List Row) (row : Row) → shared_with_owner rows (g row) ≡ shared_with_owner rows row

once_through : (g : Row → Row) (rows : List Row) → Keeps g → AreSharedOnce rows → AreSharedOnce (map g rows)
once_through g [] keeps once = tt
once_through g (row ∷ rows) keeps once = (all_through g _ _ rows (λ later is. keeps.alike row later ∙ is) once.0, once_through g rows keeps once.1)

through_whole : (g : Row → Row) (rows : List Row) → Keeps g → AreWhole rows → AreWhole (map g rows)
through_whole g rows keeps whole = record {
  listed = all_through g _ _ rows (λ row is. ap (λ (o : Option (List ℕ)). option_map_or (λ list. list_any (is_list list) (map g rows)) o true) (keeps.listed row) ∙ (λ i. option_map_or (λ list. any_through (is_list list) g rows (keeps.is list) i) (list_of row) true) ∙ is) whole.listed;
  once = once_through g rows keeps whole.once;
  others = all_through g _ _ rows (λ row is. keeps.shared (map g rows) row ∙ each row is) whole.others;
}
  where
    each : (row : Row) → shared_with_owner rows row ≡ false → shared_with_owner (map g rows) row ≡ false
    each (variants.Extent row) is = refl
    each (variants.List row) is = refl
    each (variants.Share row) is = any_through (owns row.user row.list) g rows (keeps.owned row.user row.list) ∙ is
    each (variants.Todo row) is = refl

-- ---- Who owns a list.

owned_key : (user list : List ℕ) (row : Row) → owns user list row ≡ true → row_text row ≡ key_text (record { kind = kinds.List; id = list })
owned_key user list (variants.Extent row) own = absurd (cc)
owned_key user list (variants.List row) own = ap (λ (name : List ℕ). key_text (record { kind = kinds.List; id = name })) ((bytes_eq-Decides row.id list).0 (both_first (bytes_eq row.id list) (bytes_eq row.owner user) own))
owned_key user list (variants.Share row) own = absurd (cc)
owned_key user list (variants.Todo row) own = absurd (cc)

-- where no row has a list's key nobody owns the list
no_owner : (user list : List ℕ) (rows : List Row) → find_by row_text (key_text (record { kind = kinds.List; id = list })) rows ≡ None → list_any (owns user list) rows ≡ false
no_owner user list [] none = refl
no_owner user list (row ∷ rows) none = by (bytes_eq key (row_text row)) refl (owns user list row) refl none (no_owner user list rows)
  where
    key : List ℕ
    key = key_text (record { kind = kinds.List; id = list })

    by : (b : Bool) → bytes_eq key (row_text row) ≡ b → (c : Bool) → owns user list row ≡ c → cond b (Some row) (find_by row_text key rows) ≡ None → (find_by row_text key rows ≡ None → list_any (owns user list) rows ≡ false) → (owns user list row || list_any (owns user list) rows) ≡ false
    by true there c own absent rest = absurd (cc)
    by false there true own absent rest = absurd (let same : bytes_eq key (row_text row) ≡ true = (bytes_eq-Decides key (row_text row)).1 (sym (owned_key user list row own)) in let both : true ≡ false = sym same ∙ there in cc)
    by false there false own absent rest = (λ i. own i || rest absent i)

and_false : (a b : Bool) → b ≡ false → (a && b) ≡ false
and_false true b is = is
and_false false b is = refl

other_owner : (user other list : List ℕ) (row : Row) → bytes_eq other user ≡ false → owns user list row ≡ true → owns other list row ≡ false
other_owner user other list (variants.Extent row) apart own = refl
other_owner user other list (variants.List row) apart own =
    let same : row.owner ≡ user = (bytes_eq-Decides row.owner user).0 (both_second (bytes_eq row.id list) (bytes_eq row.owner user) own) in
    and_false (bytes_eq row.id list) (bytes_eq row.owner other) (ap (λ (name : List ℕ). bytes_eq name other) same ∙ not_same other user apart)
other_owner user other list (variants.Share row) apart own = refl
other_owner user other list (variants.Todo row) apart own = refl

-- a list has one owner
pub sole_owner : (user other list : List ℕ) (rows : List Row) → Distinct row_text rows → bytes_eq other user ≡ false → list_any (owns user list) rows ≡ true → list_any (owns other list) rows ≡ false
sole_owner user other list [] distinct apart any = refl
sole_owner user other list (row ∷ rows) distinct apart any = by (owns user list row) refl (owns other list row) refl any (sole_owner user other list rows distinct.1 apart)
  where
    alone : (u v : List ℕ) → owns u list row ≡ true → list_any (owns v list) rows ≡ false
    alone u v own = no_owner v list rows (subst (λ (k : List ℕ). find_by row_text k rows ≡ None) (owned_key u list row own) distinct.0)

    by : (b : Bool) → owns user list row ≡ b → (c : Bool) → owns other list row ≡ c → (b || list_any (owns user list) rows) ≡ true → (list_any (owns user list) rows ≡ true → list_any (owns other list) rows ≡ false) → (owns other list row || list_any (owns other list) rows) ≡ false
    by true mine c theirs some rest = (λ i. other_owner user other list row apart mine i || alone user other mine i)
    by false mine true theirs some rest = absurd (let both : true ≡ false = sym some ∙ alone other user theirs in cc)
    by false mine false theirs some rest = (λ i. theirs i || rest some i)

-- ---- What each call makes of them.

pub with_list : (rows : List Row) (user id name owner : List ℕ) → AreWhole rows → AreWhole (effect rows user (CreateList id name owner))
with_list rows user id name owner whole =
    whole_if (not (has_row (key_text (record { kind = kinds.List; id = id })) rows) && bytes_eq owner user) (rows ++ new ∷ []) rows (λ is. push_whole rows new whole listed (all_of _ rows apart) (others (not_true _ (both_first _ _ is)) rows whole.listed whole.others) refl) whole
  where
    new : Row
    new = variants.List (record { id = id; name = name; owner = owner })

    listed : list_any (is_list id) (rows ++ new ∷ []) ≡ true
    listed = list_any-append (is_list id) rows (new ∷ []) ∙ ap (λ (b : Bool). list_any (is_list id) rows || (b || false)) (equals id) ∙ or-true (list_any (is_list id) rows)

    apart : (other : Row) → share_alike other new ≡ false
    apart (variants.Extent other) = refl
    apart (variants.List other) = refl
    apart (variants.Share other) = refl
    apart (variants.Todo other) = refl

    not_owned : has_row (key_text (record { kind = kinds.List; id = id })) rows ≡ false → (user list : List ℕ) → list_any (is_list list) rows ≡ true → owns user list new ≡ false
    not_owned absent user list there =
        elim (bytes_eq id list) as (λ b. bytes_eq id list ≡ b → (b && bytes_eq owner user) ≡ false) [
          | true ↦ λ same. absurd (let held : has_row (key_text (record { kind = kinds.List; id = id })) rows ≡ true = subst (λ (name : List ℕ). has_row (key_text (record { kind = kinds.List; id = name })) rows ≡ true) (sym ((bytes_eq-Decides id list).0 same)) (has_list list rows there) in let both : true ≡ false = sym held ∙ absent in cc)
          | false ↦ λ same. refl
        ] refl

    others : has_row (key_text (record { kind = kinds.List; id = id })) rows ≡ false → (those : List Row) → AllByRecursion (λ row. has_its_list rows row ≡ true) those → AllByRecursion (λ row. shared_with_owner rows row ≡ false) those → AllByRecursion (λ row. shared_with_owner (rows ++ new ∷ []) row ≡ false) those
    others absent [] there all = tt
    others absent (variants.Extent row ∷ those) there all = (refl, others absent those there.1 all.1)
    others absent (variants.List row ∷ those) there all = (refl, others absent those there.1 all.1)
    others absent (variants.Share row ∷ those) there all =
        (list_any-append (owns row.user row.list) rows (new ∷ []) ∙ (λ i. all.0 i || (not_owned absent row.user row.list there.0 i || false)), others absent those there.1 all.1)
    others absent (variants.Todo row ∷ those) there all = (refl, others absent those there.1 all.1)

share_facts : (a b c d : Bool) → (a && not b && not c && not d) ≡ true → (a ≡ true) × (b ≡ false) × (c ≡ false) × (d ≡ false)
share_facts true false false false is = (refl, refl, refl, refl)
share_facts false b c d is = absurd (cc)
share_facts true true c d is = absurd (cc)
share_facts true false true d is = absurd (cc)
share_facts true false false true is = absurd (cc)

pub with_share : (rows : List Row) (user id list other : List ℕ) (role : Role) → Distinct row_text rows → AreWhole rows → AreWhole (effect rows user (CreateShare id list other role))
with_share rows user id list other role distinct whole =
    whole_if (may_share user rows id list other) (rows ++ new ∷ []) rows (λ is. made (share_facts (list_any (owns user list) rows) (has_row (key_text (record { kind = kinds.Share; id = id })) rows) (bytes_eq other user) (list_any (shares other list) rows) is)) whole
  where
    new : Row
    new = variants.Share (record { id = id; list = list; user = other; role = role })

    apart : (row : Row) → shares other list row ≡ false → share_alike row new ≡ false
    apart (variants.Extent row) is = refl
    apart (variants.List row) is = refl
    apart (variants.Share row) is = is
    apart (variants.Todo row) is = refl

    made : (list_any (owns user list) rows ≡ true) × (has_row (key_text (record { kind = kinds.Share; id = id })) rows ≡ false) × (bytes_eq other user ≡ false) × (list_any (shares other list) rows ≡ false) → AreWhole (rows ++ new ∷ [])
    made facts = push_whole rows new whole
        (list_any-append (is_list list) rows (new ∷ []) ∙ ap (λ (b : Bool). b || list_any (is_list list) (new ∷ [])) (owned_there user list rows facts.0))
        (all_weaker _ _ rows apart (none_all (shares other list) rows facts.3))
        (still_others rows new (λ user list. refl) whole.others)
        (list_any-append (owns other list) rows (new ∷ []) ∙ ap (λ (b : Bool). b || false) (sole_owner user other list rows distinct facts.2 facts.0))

pub with_todo : (rows : List Row) (user id list text : List ℕ) (complete : Bool) → AreWhole rows → AreWhole (effect rows user (CreateTodo id list text complete))
with_todo rows user id list text complete whole =
    whole_if (not (has_row (key_text (record { kind = kinds.Todo; id = id })) rows) && may_edit user list rows) (rows ++ new ∷ []) rows (λ is. push_whole rows new whole (listed (both_second _ _ is)) (all_of _ rows apart) (still_others rows new (λ user list. refl) whole.others) refl) whole
  where
    new : Row
    new = variants.Todo (record { id = id; list = list; text = text; complete = complete; sort = next_sort list rows })

    listed : may_edit user list rows ≡ true → list_any (is_list list) (rows ++ new ∷ []) ≡ true
    listed edits = list_any-append (is_list list) rows (new ∷ []) ∙ ap (λ (b : Bool). b || list_any (is_list list) (new ∷ [])) (edited_there user list rows edits)

    apart : (other : Row) → share_alike other new ≡ false
    apart (variants.Extent other) = refl
    apart (variants.List other) = refl
    apart (variants.Share other) = refl
    apart (variants.Todo other) = refl

pub without_list : (rows : List Row) (user id : List ℕ) → AreWhole rows → AreWhole (effect rows user (DeleteList id))
without_list rows user id whole = whole_if (list_any (owns user id) rows) (filter (is_outside id) rows) rows (λ is. filter_whole (is_outside id) rows lists whole) whole
  where
    own : (name : List ℕ) (o : Option (List ℕ)) → not (option_map_or (λ text. bytes_eq text id) o false) ≡ true → option_map_or (λ text. bytes_eq name text) o false ≡ true → not (bytes_eq name id) ≡ true
    own name None outside here = absurd (cc)
    own name (Some text) outside here = ap (λ (other : List ℕ). not (bytes_eq other id)) ((bytes_eq-Decides name text).0 here) ∙ outside

    lists : (row list : Row) → is_outside id row ≡ true → list_passes (λ id. is_list id list) row ≡ true → is_outside id list ≡ true
    lists row (variants.Extent list) outside here = absurd (names_none (list_of row) here)
    lists row (variants.List list) outside here = own list.id (list_of row) outside here
    lists row (variants.Share list) outside here = absurd (names_none (list_of row) here)
    lists row (variants.Todo list) outside here = absurd (names_none (list_of row) here)

pub without_share : (rows : List Row) (user id : List ℕ) → AreWhole rows → AreWhole (effect rows user (DeleteShare id))
without_share rows user id whole = whole_if (list_any (ends user rows id) rows) (filter (is_other kinds.Share id) rows) rows (λ is. filter_whole (is_other kinds.Share id) rows lists whole) whole
  where
    lists : (row list : Row) → is_other kinds.Share id row ≡ true → list_passes (λ id. is_list id list) row ≡ true → is_other kinds.Share id list ≡ true
    lists row (variants.Extent list) other here = absurd (names_none (list_of row) here)
    lists row (variants.List list) other here = refl
    lists row (variants.Share list) other here = absurd (names_none (list_of row) here)
    lists row (variants.Todo list) other here = absurd (names_none (list_of row) here)

pub without_todo : (rows : List Row) (user id : List ℕ) → AreWhole rows → AreWhole (effect rows user (DeleteTodo id))
unfolding may_change
without_todo rows user id whole = filter_whole (is_unchanged user rows id) rows lists whole
  where
    lists : (row list : Row) → is_unchanged user rows id row ≡ true → list_passes (λ id. is_list id list) row ≡ true → is_unchanged user rows id list ≡ true
    lists row (variants.Extent list) other here = absurd (names_none (list_of row) here)
    lists row (variants.List list) other here = refl
    lists row (variants.Share list) other here = absurd (names_none (list_of row) here)
    lists row (variants.Todo list) other here = absurd (names_none (list_of row) here)

-- a row whose role, or whose other fields, are set
record KeepsRow (row new : Row) : Type 0 where
  pub listed : list_of new ≡ list_of row
  pub is : (list : List ℕ) → is_list list new ≡ is_list list row
  pub owned : (user list : List ℕ) → owns user list new ≡ owns user list row
  pub left : (other : Row) → share_alike new other ≡ share_alike row other
  pub right : (other : Row) → share_alike other new ≡ share_alike other row
  pub shared : (rows : List Row) → shared_with_owner rows new ≡ shared_with_owner rows row

same_kept : (row : Row) → KeepsRow row row
same_kept row = record { listed = refl; is = λ list. refl; owned = λ user list. refl; left = λ other. refl; right = λ other. refl; shared = λ rows. refl }

kept_if : (b : Bool) (row new : Row) → KeepsRow row new → KeepsRow row (cond b new row)
kept_if true row new keeps = keeps
kept_if false row new keeps = same_kept row

all_kept : (g : Row → Row) → ((row : Row) → KeepsRow row (g row)) → Keeps g
all_kept g each = record {
  listed = λ row. (each row).listed;
  is = λ list row. (each row).is list;
  owned = λ user list row. (each row).owned user list;
  alike = λ row other. (each row).left (g other) ∙ (each other).right row;
  shared = λ rows row. (each row).shared rows;
}

role_kept : (role : Role) (row : Row) → KeepsRow row (with_role role row)
role_kept role (variants.Extent row) = same_kept (variants.Extent row)
role_kept role (variants.List row) = same_kept (variants.List row)
role_kept role (variants.Share row) = record { listed = refl; is = λ list. refl; owned = λ user list. refl; left = left; right = right; shared = λ rows. refl }
  where
    left : (other : Row) → share_alike (with_role role (variants.Share row)) other ≡ share_alike (variants.Share row) other
    left (variants.Extent other) = refl
    left (variants.List other) = refl
    left (variants.Share other) = refl
    left (variants.Todo other) = refl

    right : (other : Row) → share_alike other (with_role role (variants.Share row)) ≡ share_alike other (variants.Share row)
    right (variants.Extent other) = refl
    right (variants.List other) = refl
    right (variants.Share other) = refl
    right (variants.Todo other) = refl
role_kept role (variants.Todo row) = same_kept (variants.Todo row)

fields_kept : (text : Option (List ℕ)) (complete : Option Bool) (sort : Option ℕ) (row : Row) → KeepsRow row (with_fields text complete sort row)
fields_kept text complete sort (variants.Extent row) = same_kept (variants.Extent row)
fields_kept text complete sort (variants.List row) = same_kept (variants.List row)
fields_kept text complete sort (variants.Share row) = same_kept (variants.Share row)
fields_kept text complete sort (variants.Todo row) = record { listed = refl; is = λ list. refl; owned = λ user list. refl; left = λ other. refl; right = right; shared = λ rows. refl }
  where
    right : (other : Row) → share_alike other (with_fields text complete sort (variants.Todo row)) ≡ share_alike other (variants.Todo row)
    right (variants.Extent other) = refl
    right (variants.List other) = refl
    right (variants.Share other) = refl
    right (variants.Todo other) = refl

-- an extent has no list and is no share, as the one in whose place it comes
extent_kept : (user : List ℕ) (lists : List (List ℕ)) (row : Row) → KeepsRow row (replaced (variants.Extent (record { user = user; lists = lists })) row)
extent_kept user lists (variants.Extent row) =
    kept_if (bytes_eq (row_text (variants.Extent (record { user = user; lists = lists }))) (row_text (variants.Extent row))) (variants.Extent row) (variants.Extent (record { user = user; lists = lists }))
    (record { listed = refl; is = λ list. refl; owned = λ user list. refl; left = λ other. refl; right = right; shared = λ rows. refl })
  where
    right : (other : Row) → share_alike other (variants.Extent (record { user = user; lists = lists })) ≡ share_alike other (variants.Extent row)
    right (variants.Extent other) = refl
    right (variants.List other) = refl
    right (variants.Share other) = refl
    right (variants.Todo other) = refl
extent_kept user lists (variants.List row) = same_kept (variants.List row)
extent_kept user lists (variants.Share row) = same_kept (variants.Share row)
extent_kept user lists (variants.Todo row) = same_kept (variants.Todo row)

extent_more : (rows : List Row) (user : List ℕ) (lists : List (List ℕ)) → AreWhole rows → AreWhole (rows ++ variants.Extent (record { user = user; lists = lists }) ∷ [])
extent_more rows user lists whole = push_whole rows (variants.Extent (record { user = user; lists = lists })) whole refl (all_of _ rows apart) (still_others rows (variants.Extent (record { user = user; lists = lists })) (λ user list. refl) whole.others) refl
  where
    apart : (other : Row) → share_alike other (variants.Extent (record { user = user; lists = lists })) ≡ false
    apart (variants.Extent other) = refl
    apart (variants.List other) = refl
    apart (variants.Share other) = refl
    apart (variants.Todo other) = refl

extent_whole : (rows : List Row) (user : List ℕ) (lists : Option (List (List ℕ))) → AreWhole rows → AreWhole (with_extent user lists rows)
extent_whole rows user (Some lists) whole =
    elim (has_row (row_text new) rows) as (λ b. AreWhole (cond b (map (replaced new) rows) (rows ++ new ∷ []))) [
      | true ↦ through_whole (replaced new) rows (all_kept (replaced new) (extent_kept user lists)) whole
      | false ↦ extent_more rows user lists whole
    ]
  where
    new : Row
    new = variants.Extent (record { user = user; lists = lists })
extent_whole rows user None whole = filter_whole (is_other kinds.Extent user) rows lists whole
  where
    lists : (row list : Row) → is_other kinds.Extent user row ≡ true → list_passes (λ id. is_list id list) row ≡ true → is_other kinds.Extent user list ≡ true
    lists row (variants.Extent list) other here = absurd (names_none (list_of row) here)
    lists row (variants.List list) other here = refl
    lists row (variants.Share list) other here = absurd (names_none (list_of row) here)
    lists row (variants.Todo list) other here = absurd (names_none (list_of row) here)

-- so each call keeps rows whole
pub effect_whole : (rows : List Row) (user : List ℕ) (call : Call) → Distinct row_text rows → AreWhole rows → AreWhole (effect rows user call)
effect_whole rows user (CreateList id name owner) distinct whole = with_list rows user id name owner whole
effect_whole rows user (DeleteList id) distinct whole = without_list rows user id whole
effect_whole rows user (CreateShare id list other role) distinct whole = with_share rows user id list other role distinct whole
effect_whole rows user (UpdateShare id role) distinct whole =
    through_whole (after_role user rows id role) rows (all_kept (after_role user rows id role) (λ row. kept_if (may_set_role user rows id row) row (with_role role row) (role_kept role row))) whole
effect_whole rows user (DeleteShare id) distinct whole = without_share rows user id whole
effect_whole rows user (CreateTodo id list text complete) distinct whole = with_todo rows user id list text complete whole
effect_whole rows user (UpdateTodo id text complete sort) distinct whole =
    through_whole (after_update user rows id text complete sort) rows (all_kept (after_update user rows id text complete sort) (λ row. kept_if (may_change user rows id row) row (with_fields text complete sort row) (fields_kept text complete sort row))) whole
effect_whole rows user (DeleteTodo id) distinct whole = without_todo rows user id whole
effect_whole rows user (SetExtent lists) distinct whole = extent_whole rows user lists whole
effect_whole rows user (Void reason) distinct whole = whole
