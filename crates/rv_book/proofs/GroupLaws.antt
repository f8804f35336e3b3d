-- Laws of the group index: the rows when one more entry follows.
use Rattle.std.proofs.Common.{◌≡◌, ℕ, suc, ◌+◌, ◌<◌, ◌≤◌, ◌||◌, length, Bool, true, false, cond, List, [], ◌∷◌, ◌++◌, get_or, set, Option, Some, None, Ok, Err, take, drop, refl, sym, ap, ◌∙◌, subst, arith}
use Rattle.std.specs.List.{slice_get, count_by, fold, list_any, AllByRecursion}
use Rattle.std.specs.Option.{option_map, option_or, option_map_or, option_and_then, unwrap_or}
use Rattle.std.specs.Str.{bytes_eq}
use Rattle.std.proofs.lemmas.List.{length_push}
use Rattle.std.proofs.lemmas.List.Folds.{list_any-append}
use Rattle.std.proofs.lemmas.List.Sums.{count_by-le-length}
use Rattle.std.proofs.lemmas.Option.{same_Some}
use Rattle.rv_base.specs.Sorted.{IsPositionOf}
use Rattle.rv_book.specs.declared.entry.Entry.{Entry}
use Rattle.rv_book.specs.declared.entry.Entry.TheVariants.{Act, Look, Retire}
use Rattle.rv_book.specs.declared.groups.GroupRow.{GroupRow}
use Rattle.rv_book.specs.Entries.{order_after, retires, bound_in, retired_in}
use Rattle.rv_book.specs.Book.{Book, bound, last_order, page_group, retired, size, with_entry, empty_book}
use Rattle.rv_book.specs.BookWordLaws.{bytes_eq_back, count-push, at_before, at_end, last_order-with_entry, retired-with_entry}
use Rattle.rv_book.specs.Kept.{is_look_of, last_look}
use Rattle.rv_book.specs.LookWalkLaws.{last_look-with_entry, no_look}
use Rattle.rv_book.specs.Indexes.{first_where, named_in, naming, names_group, binds, user_of, group_of_row, group_row, new_row, row_after, AreGroupRows}
use Rattle.rv_book.proofs.IndexLaws.{index-again, index-first, Changes}
use Rattle.rv_book.proofs.BookLaws.{read_later, first-push, none_counted, none_later}
use Rattle.rv_book.proofs.PageLaws.{naming-with_entry, bound-naming, none_on_page}

-- what names a group before an entry is there after it, and the entry stands at the end
pub read_before : (book : Book) (e : Entry) (i : ℕ) → i < length (naming book) → slice_get (naming (with_entry book e)) i ≡ slice_get (naming book) i
read_before book e i lt = ap (λ (xs : List Entry). slice_get xs i) (naming-with_entry book e) ∙ at_before (naming book) e i lt

pub read_end : (book : Book) (e : Entry) → slice_get (naming (with_entry book e)) (length (naming book)) ≡ Some e
read_end book e = ap (λ (xs : List Entry). slice_get xs (length (naming book))) (naming-with_entry book e) ∙ at_end (naming book) e

pub naming_more : (book : Book) (e : Entry) → length (naming (with_entry book e)) ≡ length (naming book) + 1
naming_more book e = ap length (naming-with_entry book e) ∙ length_push (naming book) e

pub group_of_row-before : (book : Book) (e : Entry) (row : GroupRow) → row.named < length (naming book) → group_of_row book row ≡ group_of_row (with_entry book e) row
unfolding group_of_row
group_of_row-before book e row lt = ap (λ (o : Option Entry). option_map_or named_in o []) (sym (read_before book e row.named lt))

-- the row of a group, by the index of an entry that names it
abbrev pub group_row_at : Book → List ℕ → ℕ → GroupRow
group_row_at book k index = record { named = index; bound = first_where (binds k) (naming book); order = last_order k book; looks = count_by (is_look_of k) book.entries; last_look = last_look k book; retired = retired k book }

-- what an entry leaves as it is where it names another group
record LeavesGroup (k : List ℕ) (e : Entry) : Type 0 where
  binds : binds k e ≡ false
  order : (before : ℕ) → order_after k before e ≡ before
  looks : is_look_of k e ≡ false
  retires : retires k e ≡ false

leaves : (k : List ℕ) (e : Entry) → names_group k e ≡ false → LeavesGroup k e
leaves k (Act user group client id call) h = record { binds = h; order = λ before. refl; looks = refl; retires = refl }
leaves k (Look user group order base) h = record { binds = h; order = λ before. ap (λ (b : Bool). cond b order before) h; looks = h; retires = refl }
leaves k (Retire group) h = record { binds = refl; order = λ before. refl; looks = refl; retires = h }

none_names : (k : List ℕ) (entries : List Entry) → first_where (names_group k) entries ≡ None → AllByRecursion (λ e. names_group k e ≡ false) entries
none_names k [] h = tt
none_names k (e ∷ entries) h =
    elim (names_group k e) as (λ b. names_group k e ≡ b → cond b (Some 0) (option_map suc (first_where (names_group k) entries)) ≡ None → AllByRecursion (λ e. names_group k e ≡ false) (e ∷ entries)) [
      | true ↦ λ f g. absurd (cc)
      | false ↦ λ f g. (f, none_names k entries (none_later (first_where (names_group k) entries) g))
    ] refl h

none_first : (p : Entry → Bool) (entries : List Entry) → AllByRecursion (λ e. p e ≡ false) entries → first_where p entries ≡ None
none_first p [] h = refl
none_first p (e ∷ entries) h = rw h.0 (ap (option_map suc) (none_first p entries h.1))

none_any : (p : Entry → Bool) (entries : List Entry) → AllByRecursion (λ e. p e ≡ false) entries → list_any p entries ≡ false
none_any p [] h = refl
none_any p (e ∷ entries) h = rw h.0 (none_any p entries h.1)

all_leave : (k : List ℕ) (P : Entry → Type 0) (entries : List Entry) → ((e : Entry) → LeavesGroup k e → P e) → AllByRecursion (λ e. names_group k e ≡ false) entries → AllByRecursion P entries
all_leave k P [] each h = tt
all_leave k P (e ∷ entries) each h = (each e (leaves k e h.0), all_leave k P entries each h.1)

none_order : (k : List ℕ) (before : ℕ) (entries : List Entry) → AllByRecursion (λ e. names_group k e ≡ false) entries → fold (order_after k) before entries ≡ before
none_order k before [] h = refl
none_order k before (e ∷ entries) h = ap (λ (n : ℕ). fold (order_after k) n entries) ((leaves k e h.0).order before) ∙ none_order k before entries h.1

-- the row of a group that nothing names
unnamed : (book : Book) (k : List ℕ) (index : ℕ) → first_where (names_group k) (naming book) ≡ None → group_row_at book k index ≡ new_row index
unnamed book k index h =
    let all = none_names k (naming book) h in
    let rest = none_on_page k book all in
    let w = none_first (binds k) (naming book) (all_leave k (λ e. binds k e ≡ false) (naming book) (λ e l. l.binds) all) in
    let order : last_order k book ≡ 0 = none_order k (option_map_or (λ g. g.2) (page_group k book.page) 0) book.entries rest.1 ∙ ap (λ o. option_map_or (λ g. g.2) o 0) rest.0 in
    let looks = none_counted (is_look_of k) book.entries (none_first (is_look_of k) book.entries (all_leave k (λ e. is_look_of k e ≡ false) book.entries (λ e l. l.looks) rest.1)) in
    let last = no_look k book looks in
    let gone : retired k book ≡ false = (λ i. option_map_or (λ g. g.3) (rest.0 i) false || none_any (retires k) book.entries (all_leave k (λ e. retires k e ≡ false) book.entries (λ e l. l.retires) rest.1) i) in
    (λ i. record { named = index; bound = w i; order = order i; looks = looks i; last_look = last i; retired = gone i })

or_false : (b : Bool) → (b || false) ≡ b
or_false true = refl
or_false false = refl

or_true : (b : Bool) → (b || true) ≡ true
or_true true = refl
or_true false = refl

or_none : (o : Option ℕ) → option_or o None ≡ o
or_none None = refl
or_none (Some i) = refl

-- the fields after one more entry
row_at-push : (book : Book) (e : Entry) (k : List ℕ) (index : ℕ) → group_row_at (with_entry book e) k index
    ≡ record { named = index; bound = option_or (first_where (binds k) (naming book)) (cond (binds k e) (Some (length (naming book))) None); order = order_after k (last_order k book) e; looks = count_by (is_look_of k) book.entries + cond (is_look_of k e) 1 0; last_look = cond (is_look_of k e) (Some (size book + 1)) (last_look k book); retired = retired k book || retires k e }
row_at-push book e k index =
    let w = ap (first_where (binds k)) (naming-with_entry book e) ∙ first-push (binds k) (naming book) e in
    let order = last_order-with_entry k book e in
    let looks = count-push (is_look_of k) book.entries e in
    let last = last_look-with_entry k book e in
    let gone = retired-with_entry k book e in
    (λ i. record { named = index; bound = w i; order = order i; looks = looks i; last_look = last i; retired = gone i })

row_at-same : (book : Book) (e : Entry) (k : List ℕ) (index : ℕ) → names_group k e ≡ false → group_row_at (with_entry book e) k index ≡ group_row_at book k index
row_at-same book e k index h =
    let l = leaves k e h in
    let w : option_or (first_where (binds k) (naming book)) (cond (binds k e) (Some (length (naming book))) None) ≡ first_where (binds k) (naming book) = rw l.binds (or_none (first_where (binds k) (naming book))) in
    let looks : count_by (is_look_of k) book.entries + cond (is_look_of k e) 1 0 ≡ count_by (is_look_of k) book.entries = rw l.looks (omega arith) in
    let last : cond (is_look_of k e) (Some (size book + 1)) (last_look k book) ≡ last_look k book = rw l.looks refl in
    let gone : (retired k book || retires k e) ≡ retired k book = rw l.retires (or_false (retired k book)) in
    row_at-push book e k index ∙ (λ i. record { named = index; bound = w i; order = l.order (last_order k book) i; looks = looks i; last_look = last i; retired = gone i })

row_at-more : (book : Book) (e : Entry) (k : List ℕ) (index : ℕ) → names_group k e ≡ true → group_row_at (with_entry book e) k index ≡ row_after (length (naming book)) (size book + 1) e (group_row_at book k index)
row_at-more book (Act user group client id call) k index h =
    let w : option_or (first_where (binds k) (naming book)) (cond (bytes_eq group k) (Some (length (naming book))) None) ≡ option_or (first_where (binds k) (naming book)) (Some (length (naming book))) = rw h refl in
    let looks : count_by (is_look_of k) book.entries + 0 ≡ count_by (is_look_of k) book.entries = omega arith in
    let gone = or_false (retired k book) in
    row_at-push book (Act user group client id call) k index ∙ (λ i. record { named = index; bound = w i; order = last_order k book; looks = looks i; last_look = last_look k book; retired = gone i })
row_at-more book (Look user group order base) k index h =
    let w : option_or (first_where (binds k) (naming book)) (cond (bytes_eq group k) (Some (length (naming book))) None) ≡ option_or (first_where (binds k) (naming book)) (Some (length (naming book))) = rw h refl in
    let o : cond (bytes_eq group k) order (last_order k book) ≡ order = rw h refl in
    let looks : count_by (is_look_of k) book.entries + cond (bytes_eq group k) 1 0 ≡ count_by (is_look_of k) book.entries + 1 = rw h refl in
    let last : cond (bytes_eq group k) (Some (size book + 1)) (last_look k book) ≡ Some (size book + 1) = rw h refl in
    let gone = or_false (retired k book) in
    row_at-push book (Look user group order base) k index ∙ (λ i. record { named = index; bound = w i; order = o i; looks = looks i; last_look = last i; retired = gone i })
row_at-more book (Retire group) k index h =
    let w = or_none (first_where (binds k) (naming book)) in
    let looks : count_by (is_look_of k) book.entries + 0 ≡ count_by (is_look_of k) book.entries = omega arith in
    let gone : (retired k book || bytes_eq group k) ≡ true = rw h (or_true (retired k book)) in
    row_at-push book (Retire group) k index ∙ (λ i. record { named = index; bound = w i; order = last_order k book; looks = looks i; last_look = last_look k book; retired = gone i })

-- one more entry, over plain values: the first index that names the group, whether the entry does, and the row by an index
change : (o : Option ℕ) (b : Bool) (index : ℕ) (before after : ℕ → GroupRow) (left : GroupRow → GroupRow)
    → (b ≡ false → (i : ℕ) → after i ≡ before i) → (b ≡ true → (i : ℕ) → after i ≡ left (before i)) → (o ≡ None → before index ≡ new_row index)
    → option_map after (option_or o (cond b (Some index) None)) ≡ cond b (Some (left (unwrap_or (option_map before o) (new_row index)))) (option_map before o)
change (Some i) true index before after left same more none = ap Some (more refl i)
change (Some i) false index before after left same more none = ap Some (same refl i)
change None true index before after left same more none = ap Some (more refl index ∙ ap left (none refl))
change None false index before after left same more none = refl

-- the row that an entry leaves of its group
abbrev pub left_row : ℕ → ℕ → Entry → Option GroupRow → GroupRow
left_row index place e o = row_after index place e (unwrap_or o (new_row index))

group_row-push : (book : Book) (e : Entry) (k : List ℕ) → group_row (with_entry book e) k ≡ cond (names_group k e) (Some (left_row (length (naming book)) (size book + 1) e (group_row book k))) (group_row book k)
unfolding group_row
group_row-push book e k =
    ap (λ (xs : List Entry). option_map (group_row_at (with_entry book e) k) (first_where (names_group k) xs)) (naming-with_entry book e)
    ∙ ap (option_map (group_row_at (with_entry book e) k)) (first-push (names_group k) (naming book) e)
    ∙ change (first_where (names_group k) (naming book)) (names_group k e) (length (naming book)) (group_row_at book k) (group_row_at (with_entry book e) k) (row_after (length (naming book)) (size book + 1) e)
    (λ h i. row_at-same book e k i h) (λ h i. row_at-more book e k i h) (λ h. unnamed book k (length (naming book)) h)

left_row-named : (index place : ℕ) (e : Entry) (row : GroupRow) → (row_after index place e row).named ≡ row.named
left_row-named index place (Act user group client id call) row = refl
left_row-named index place (Look user group order base) row = refl
left_row-named index place (Retire group) row = refl

-- the row that one more entry leaves of the book's
abbrev pub next_row : Book → Entry → Option GroupRow → GroupRow
next_row book e = left_row (length (naming book)) (size book + 1) e

enter_changes : (book : Book) (e : Entry) → Changes (group_of_row book) (group_of_row (with_entry book e)) (λ (row : GroupRow). row.named) (length (naming book)) (length (naming (with_entry book e))) (group_row book) (group_row (with_entry book e)) (named_in e) (next_row book e)
unfolding group_of_row
enter_changes book e =
    let new = left_row-named (length (naming book)) (size book + 1) e (new_row (length (naming book))) in
    record {
      same = group_of_row-before book e;
      grows = omega (arith, naming_more book e);
      by_name = λ x y same. ap (λ (i : ℕ). option_map_or named_in (slice_get (naming (with_entry book e)) i) []) same;
      keeps = λ row. left_row-named (length (naming book)) (size book + 1) e row;
      fresh = λ none. ap (λ (i : ℕ). option_map_or named_in (slice_get (naming (with_entry book e)) i) []) new ∙ ap (λ (o : Option Entry). option_map_or named_in o []) (read_end book e);
      fresh_within = omega (arith, new, naming_more book e);
      next = λ q. group_row-push book e q ∙ ap (λ (b : Bool). cond b (Some (next_row book e (group_row book q))) (group_row book q)) (bytes_eq_back (named_in e) q);
    }

pub enter_again : (book : Book) (e : Entry) (k : List ℕ) (rows seen : List GroupRow) (at : ℕ) (row left : GroupRow) → k ≡ named_in e → AreGroupRows book rows → seen ≡ rows → IsPositionOf (group_of_row (with_entry book e)) k seen (Ok at) → row ≡ get_or rows at row
    → left ≡ row_after (length (naming book)) (size book + 1) e row → AreGroupRows (with_entry book e) (set rows at left)
enter_again book e k rows seen at row left is h same there read after =
    let settled = subst (λ (t : List ℕ). IsPositionOf (group_of_row (with_entry book e)) t seen (Ok at)) is there in
    subst (λ (r : GroupRow). AreGroupRows (with_entry book e) (set rows at r)) (sym after) (index-again _ _ _ _ _ _ _ (named_in e) (next_row book e) rows seen at row (enter_changes book e) h same settled read)

pub enter_first : (book : Book) (e : Entry) (k : List ℕ) (rows seen : List GroupRow) (at : ℕ) (row left : GroupRow) → k ≡ named_in e → AreGroupRows book rows → seen ≡ rows → IsPositionOf (group_of_row (with_entry book e)) k seen (Err at) → row ≡ new_row (length (naming book))
    → left ≡ row_after (length (naming book)) (size book + 1) e row → AreGroupRows (with_entry book e) (take at rows ++ left ∷ drop at rows)
enter_first book e k rows seen at row left is h same there new after =
    let settled = subst (λ (t : List ℕ). IsPositionOf (group_of_row (with_entry book e)) t seen (Err at)) is there in
    subst (λ (r : GroupRow). AreGroupRows (with_entry book e) (take at rows ++ r ∷ drop at rows)) (sym (after ∙ ap (row_after (length (naming book)) (size book + 1) e) new)) (index-first _ _ _ _ _ _ _ (named_in e) (next_row book e) rows seen at (enter_changes book e) h same settled)

pub none_named : AreGroupRows empty_book []
unfolding group_row
none_named = record { order = tt; within = tt; found = λ k. refl }

-- what a row says of its group, and what a new row says of a group that no entry names
pub record GivesGroup (book : Book) (k : List ℕ) (row : GroupRow) : Type 0 where
  pub bound : row.bound ≡ first_where (binds k) (naming book)
  pub order : row.order ≡ last_order k book
  pub looks : row.looks ≡ count_by (is_look_of k) book.entries
  pub last_look : row.last_look ≡ last_look k book
  pub retired : row.retired ≡ retired k book

gives : (book : Book) (k : List ℕ) (index : ℕ) (row : GroupRow) → group_row_at book k index ≡ row → GivesGroup book k row
gives book k index row is = record { bound = sym (ap (λ (r : GroupRow). r.bound) is); order = sym (ap (λ (r : GroupRow). r.order) is); looks = sym (ap (λ (r : GroupRow). r.looks) is); last_look = sym (ap (λ (r : GroupRow). r.last_look) is); retired = sym (ap (λ (r : GroupRow). r.retired) is) }

pub row_gives : (book : Book) (k : List ℕ) (row : GroupRow) → Some row ≡ group_row book k → GivesGroup book k row
unfolding group_row
row_gives book k row is =
    elim (first_where (names_group k) (naming book)) as (λ o. Some row ≡ option_map (group_row_at book k) o → GivesGroup book k row) [
      | None ↦ λ f. absurd (cc)
      | Some i ↦ λ f. gives book k i row (same_Some (group_row_at book k i) row (sym f))
    ] is

pub none_gives : (book : Book) (k : List ℕ) (index : ℕ) → None ≡ group_row book k → GivesGroup book k (new_row index)
unfolding group_row
none_gives book k index is =
    elim (first_where (names_group k) (naming book)) as (λ o. first_where (names_group k) (naming book) ≡ o → None ≡ option_map (group_row_at book k) o → GivesGroup book k (new_row index)) [
      | None ↦ λ e f. gives book k index (new_row index) (unnamed book k index e)
      | Some i ↦ λ e f. absurd (cc)
    ] refl is

-- a row counts no more looks than there are entries
pub looks_bound : (book : Book) (k : List ℕ) (rows seen : List GroupRow) (at : ℕ) (row : GroupRow) → AreGroupRows book rows → seen ≡ rows → IsPositionOf (group_of_row book) k seen (Ok at) → row ≡ get_or rows at row → row.looks ≤ length book.entries
looks_bound book k rows seen at row h same there read =
    let settled = subst (λ (xs : List GroupRow). IsPositionOf (group_of_row book) k xs (Ok at)) same there in
    omega (arith, (row_gives book k row (ap Some read ∙ sym (settled.found row) ∙ h.found k)).looks, count_by-le-length (is_look_of k) book.entries)

-- the user of a group is that of its first act or look
bound-first : (k : List ℕ) (entries : List Entry) → bound_in k entries ≡ option_and_then (λ i. option_and_then user_of (slice_get entries i)) (first_where (binds k) entries)
bound-first k [] = refl
bound-first k (Act user group client id call ∷ entries) =
    elim (bytes_eq group k) as (λ b. cond b (Some user) (bound_in k entries) ≡ option_and_then (λ i. option_and_then user_of (slice_get (Act user group client id call ∷ entries) i)) (cond b (Some 0) (option_map suc (first_where (binds k) entries)))) [
      | true ↦ refl
      | false ↦ bound-first k entries ∙ sym (read_later user_of (Act user group client id call) entries (first_where (binds k) entries))
    ]
bound-first k (Look user group order base ∷ entries) =
    elim (bytes_eq group k) as (λ b. cond b (Some user) (bound_in k entries) ≡ option_and_then (λ i. option_and_then user_of (slice_get (Look user group order base ∷ entries) i)) (cond b (Some 0) (option_map suc (first_where (binds k) entries)))) [
      | true ↦ refl
      | false ↦ bound-first k entries ∙ sym (read_later user_of (Look user group order base) entries (first_where (binds k) entries))
    ]
bound-first k (Retire group ∷ entries) = bound-first k entries ∙ sym (read_later user_of (Retire group) entries (first_where (binds k) entries))

pub bound-found : (k : List ℕ) (book : Book) (o : Option ℕ) → o ≡ first_where (binds k) (naming book) → option_and_then (λ i. option_and_then user_of (slice_get (naming book) i)) o ≡ bound k book
bound-found k book o is = ap (option_and_then (λ i. option_and_then user_of (slice_get (naming book) i))) is ∙ sym (bound-first k (naming book)) ∙ sym (bound-naming k book)
