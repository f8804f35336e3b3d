-- The patch since a base, applied to what the user saw there, gives what the user sees now.
use Rattle.std.proofs.Common.{◌≡◌, ℕ, Bool, true, false, cond, not, ◌||◌, List, [], ◌∷◌, map, Option, Some, None, refl, sym, ap, ◌∙◌, subst}
use Rattle.std.specs.declared.cmp.Ordering.TheVariants.{Less}
use Rattle.std.specs.Ordering.{nat_cmp}
use Rattle.std.specs.Cmp.Lexicographic.{slice_cmp}
use Rattle.std.specs.List.{AllByRecursion, filter, fold}
use Rattle.std.specs.Option.{is_some, option_map, option_map_or, option_or}
use Rattle.std.specs.Str.{bytes_eq}
use Rattle.std.proofs.lemmas.Option.{same_Some}
use Rattle.std.proofs.lemmas.List.Sums.{fold-append}
use Rattle.std.proofs.lemmas.Map.Entries.{option_filter}
use Rattle.std.proofs.lemmas.Slice.Eq.{bytes_eq-Decides}
use Rattle.rv_base.specs.Sorted.{find_by, put_by, without, InOrder, Distinct}
use Rattle.rv_base.specs.PositionLaws.{equals, not_same, find_put, find_without, found-any, in_order-put, in_order-without, in_order-sorted, in_order-filter}
use Rattle.rv_base.specs.ArrangedLaws.{in_order-same, distinct-in_order, distinct-sorted, distinct-filter, find-filter, find-sorted, find-map}
use Rattle.rv_rows.specs.declared.row.Row.{Row}
use Rattle.rv_rows.specs.Keys.{row_key, key_text, row_text, row_at, has_row, in_key_order}
use Rattle.rv_rows.specs.Sharing.{sees_row, seen}
use Rattle.rv_rows.specs.Changes.{same_row}
use Rattle.rv_rows.specs.EffectLaws.{same_row-Decides}
use Rattle.rv_turns.specs.declared.op.Op.{Op}
use Rattle.rv_turns.specs.declared.op.Op.TheVariants.{Clear, Del, Put}
use Rattle.rv_book.specs.declared.entry.Entry.{Entry}
use Rattle.rv_book.specs.Book.{Book, since, up_to}
use Rattle.rv_book.specs.BookWordLaws.{up_to-since}
use Rattle.rv_history.specs.Replay.{page_rows, rows_after, rows_of}
use Rattle.rv_history.specs.Patches.{ClientView, KeyValue, key_value, client_view, applied}
use Rattle.rv_history.specs.History.{is_written, is_touched, is_absent, is_news, patch_since}
use Rattle.rv_history.specs.ReplayLaws.{distinct-rows_of}

abbrev key : KeyValue → List ℕ
key item = item.0

pub first_false : (a b : Bool) → (a || b) ≡ false → a ≡ false
first_false true b e = absurd (cc)
first_false false b e = refl

pub second_false : (a b : Bool) → (a || b) ≡ false → b ≡ false
second_false true b e = absurd (cc)
second_false false b e = e

not_false : (b : Bool) → not b ≡ false → b ≡ true
not_false true e = refl
not_false false e = absurd (cc)

pub bytes_eq-sym : (a b : List ℕ) → bytes_eq a b ≡ bytes_eq b a
bytes_eq-sym a b =
    elim (bytes_eq a b) as (λ t. bytes_eq a b ≡ t → t ≡ bytes_eq b a) [
      | true ↦ λ e. subst (λ (x : List ℕ). true ≡ bytes_eq x a) ((bytes_eq-Decides a b).0 e) (sym (equals a))
      | false ↦ λ e. sym (not_same a b e)
    ] refl

-- an item that is found by a key has it
pub found_key : {X : Type 0} (key : X → List ℕ) (k : List ℕ) (xs : List X) (x : X) → find_by key k xs ≡ Some x → k ≡ key x
found_key key k [] x e = absurd (cc)
found_key key k (y ∷ ys) x e =
    elim (bytes_eq k (key y)) as (λ b. bytes_eq k (key y) ≡ b → cond b (Some y) (find_by key k ys) ≡ Some x → k ≡ key x) [
      | true ↦ λ f g. (bytes_eq-Decides k (key y)).0 f ∙ ap key (same_Some y x g)
      | false ↦ λ f g. found_key key k ys x g
    ] refl e

-- what is found is not written: it was the same before
unwritten_by : (before : Option Row) (row : Row) → option_map_or (λ (was : Row). not (same_row was row)) before true ≡ false → before ≡ Some row
unwritten_by None row e = absurd (cc)
unwritten_by (Some was) row e = ap (λ (r : Row). Some r) ((same_row-Decides was row).0 (not_false (same_row was row) e))

unwritten : (k : List ℕ) (before after : List Row) (row : Row) → row_at k after ≡ Some row → is_written k before after ≡ false → row_at k before ≡ Some row
unwritten k before after row is e =
    unwritten_by (row_at k before) row (subst (λ (o : Option Row). option_map_or (λ (r : Row). option_map_or (λ (was : Row). not (same_row was r)) (row_at k before) true) o false ≡ false) is e)

-- a row that stands after entries that do not touch its key stood before them
pub untouched : (k : List ℕ) (rows : List Row) (since : List Entry) (row : Row) → row_at k (fold rows_after rows since) ≡ Some row → is_touched k rows since ≡ false → row_at k rows ≡ Some row
unfolding is_touched
untouched k rows [] row is e = is
untouched k rows (entry ∷ since) row is e =
    unwritten k rows (rows_after rows entry) row
    (untouched k (rows_after rows entry) since row is (second_false (is_written k rows (rows_after rows entry)) (is_touched k (rows_after rows entry) since) e))
    (first_false (is_written k rows (rows_after rows entry)) (is_touched k (rows_after rows entry) since) e)

-- what is found after dels
nested : {X : Type 0} (a b : Bool) (o : Option X) → cond b None (cond a None o) ≡ cond (a || b) None o
nested true true o = refl
nested true false o = refl
nested false b o = refl

found_dels : (k : List ℕ) (view : ClientView) (rows : List Row) → find_by key k (fold applied view (map (λ row. Del (row_key row)) rows)) ≡ cond (has_row k rows) None (find_by key k view)
found_dels k view [] = refl
found_dels k view (row ∷ rows) =
    found_dels k (without key (row_text row) view) rows
    ∙ ap (cond (has_row k rows) None) (find_without key k (row_text row) view ∙ ap (λ (b : Bool). cond b None (find_by key k view)) (bytes_eq-sym (row_text row) k))
    ∙ nested (bytes_eq k (row_text row)) (has_row k rows) (find_by key k view)

-- what is found after puts
shadows : {X Y : Type 0} (f : X → Y) (b : Bool) (x : X) (o : Option X) (p : Option Y) → (b ≡ true → o ≡ None) → option_or (option_map f o) (cond b (Some (f x)) p) ≡ option_or (option_map f (cond b (Some x) o)) p
shadows f true x o p none = rw (none refl) refl
shadows f false x o p none = refl

found_puts : (k : List ℕ) (view : ClientView) (rows : List Row) → Distinct row_text rows → find_by key k (fold applied view (map (λ row. Put row) rows)) ≡ option_or (option_map key_value (row_at k rows)) (find_by key k view)
found_puts k view [] h = refl
found_puts k view (row ∷ rows) h =
    found_puts k (put_by key (key_value row) view) rows h.1
    ∙ ap (option_or (option_map key_value (row_at k rows))) (find_put key k (key_value row) view)
    ∙ shadows key_value (bytes_eq k (row_text row)) row (row_at k rows) (find_by key k view) (λ e. subst (λ (t : List ℕ). row_at t rows ≡ None) (sym ((bytes_eq-Decides k (row_text row)).0 e)) h.0)

-- a view stays in key order
applied_in_order : (view : ClientView) (ops : List Op) → InOrder key view → InOrder key (fold applied view ops)
applied_in_order view [] h = h
applied_in_order view (Clear ∷ ops) h = applied_in_order [] ops tt
applied_in_order view (Del k ∷ ops) h = applied_in_order (without key (key_text k) view) ops (in_order-without key (key_text k) view h)
applied_in_order view (Put row ∷ ops) h = applied_in_order (put_by key (key_value row) view) ops (in_order-put key (key_value row) view h)

above_shown : (k : List ℕ) (rows : List Row) → AllByRecursion (λ r. slice_cmp nat_cmp k (row_text r) ≡ Less) rows → AllByRecursion (λ y. slice_cmp nat_cmp k (key y) ≡ Less) (map key_value rows)
above_shown k [] all = tt
above_shown k (row ∷ rows) all = (all.0, above_shown k rows all.1)

shown_in_order : (rows : List Row) → InOrder row_text rows → InOrder key (map key_value rows)
shown_in_order [] sorted = tt
shown_in_order (row ∷ rows) sorted = (above_shown (row_text row) rows sorted.0, shown_in_order rows sorted.1)

-- the rows that a user sees are among the rows, in key order
pub seen_in_order : (user : List ℕ) (rows : List Row) → InOrder row_text (seen user rows)
seen_in_order user rows = in_order-filter row_text (sees_row user rows) (in_key_order rows) (in_order-sorted row_text rows)

pub seen_distinct : (user : List ℕ) (rows : List Row) → Distinct row_text (seen user rows)
seen_distinct user rows = distinct-in_order row_text (seen user rows) (seen_in_order user rows)

pub passed : {X : Type 0} (p : X → Bool) (o : Option X) (x : X) → option_filter p o ≡ Some x → o ≡ Some x
passed p None x e = e
passed p (Some y) x e = elim (p y) as (λ b. cond b (Some y) None ≡ Some x → Some y ≡ Some x) [ true ↦ λ f. f | false ↦ λ f. absurd (cc) ] e

row_of_seen : (user : List ℕ) (rows : List Row) (k : List ℕ) (row : Row) → Distinct row_text rows → row_at k (seen user rows) ≡ Some row → row_at k rows ≡ Some row
row_of_seen user rows k row h is =
    passed (sees_row user rows) (row_at k rows) row
    (ap (option_filter (sees_row user rows)) (sym (find-sorted row_text k rows h)) ∙ sym (find-filter row_text (sees_row user rows) k (in_key_order rows) (distinct-sorted row_text rows)) ∙ is)

-- a row is absent where none is found by its key
pub absent_is : (rows : List Row) (row : Row) (k : List ℕ) (o : Option Row) → row_at k rows ≡ o → k ≡ row_text row → is_absent rows row ≡ not (is_some o)
unfolding is_absent
absent_is rows row k o is same =
    ap (λ (t : List ℕ). not (has_row t rows)) (sym same) ∙ ap not (sym (found-any row_text k rows)) ∙ ap (λ (p : Option Row). not (is_some p)) is

pub news_absent : (base rows : List Row) (since : List Entry) (row : Row) → is_absent base row ≡ true → is_news base rows since row ≡ true
unfolding is_news
news_absent base rows since row e = rw e refl

pub news_present : (base rows : List Row) (since : List Entry) (row : Row) → is_absent base row ≡ false → is_news base rows since row ≡ is_touched (row_text row) rows since
unfolding is_news
news_present base rows since row e = rw e refl

-- Of one key: what is found after the dels and the puts is what is found now. The dels are of the items that are absent now,
-- the puts of those that are news.
chosen : {X Y : Type 0} (f : X → Y) (news absent : X → Bool) (o p : Option X)
    → ((x : X) → o ≡ None → p ≡ Some x → news x ≡ true)
    → ((x : X) → o ≡ Some x → p ≡ None → absent x ≡ true)
    → ((x y : X) → o ≡ Some x → p ≡ Some y → (absent x ≡ false) × (news y ≡ false → x ≡ y))
    → option_or (option_map f (option_filter news p)) (cond (is_some (option_filter absent o)) None (option_map f o)) ≡ option_map f p
chosen f news absent None None new old same = refl
chosen f news absent None (Some y) new old same = rw (new y refl refl) refl
chosen f news absent (Some x) None new old same = rw (old x refl refl) refl
chosen {X = X} f news absent (Some x) (Some y) new old same =
    let both = same x y refl refl in
    rw both.0 (elim (news y) as (λ b. news y ≡ b → option_or (option_map f (cond b (Some y) None)) (Some (f x)) ≡ Some (f y)) [
      | true ↦ λ e. refl
      | false ↦ λ e. ap (λ (z : X). Some (f z)) (both.1 e)
    ] refl)

difference_finds : (k : List ℕ) (base now rows : List Row) (since : List Entry) → Distinct row_text base → Distinct row_text now
    → ((row : Row) → row_at k base ≡ Some row → row_at k rows ≡ Some row)
    → ((row : Row) → row_at k now ≡ Some row → row_at k (fold rows_after rows since) ≡ Some row)
    → find_by key k (fold applied (fold applied (map key_value base) (map (λ row. Del (row_key row)) (filter (is_absent now) base))) (map (λ row. Put row) (filter (is_news base rows since) now))) ≡ find_by key k (map key_value now)
difference_finds k base now rows since h g was stands =
    let news : Row → Bool = is_news base rows since in
    let absent : Row → Bool = is_absent now in
    let gone : has_row k (filter absent base) ≡ is_some (option_filter absent (row_at k base)) = sym (found-any row_text k (filter absent base)) ∙ ap is_some (find-filter row_text absent k base h) in
    found_puts k (fold applied (map key_value base) (map (λ row. Del (row_key row)) (filter absent base))) (filter news now) (distinct-filter row_text news now g)
    ∙ ap (option_or (option_map key_value (row_at k (filter news now)))) (found_dels k (map key_value base) (filter absent base))
    ∙ (λ i. option_or (option_map key_value (find-filter row_text news k now g i)) (cond (gone i) None (sym (find-map key key_value k base) i)))
    ∙ chosen key_value news absent (row_at k base) (row_at k now)
    (λ y none some. news_absent base rows since y (absent_is base y k None none (found_key row_text k now y some)))
    (λ x some none. absent_is now x k None none (found_key row_text k base x some))
    (λ x y at_base at_now. (
      absent_is now x k (Some y) at_now (found_key row_text k base x at_base),
      λ quiet. same_Some x y (sym (was x at_base) ∙ untouched k rows since y (stands y at_now) (
          subst (λ (t : List ℕ). is_touched t rows since ≡ false) (sym (found_key row_text k now y at_now))
          (sym (news_present base rows since y (absent_is base y k (Some x) at_base (found_key row_text k now y at_now))) ∙ quiet)
          )),
    ))
    ∙ find-map key key_value k now

-- the rows at a place, and the entries after it, make the rows of the book
pub replayed : (book : Book) (place : ℕ) → fold rows_after (rows_of (up_to place book)) (since place book) ≡ rows_of book
replayed book place = sym (fold-append rows_after (page_rows book.page) (up_to place book).entries (since place book)) ∙ ap rows_of (up_to-since place book)

pub patch_applies : (user : List ℕ) (book : Book) (place : ℕ) → fold applied (client_view user (up_to place book)) (patch_since user book (Some place)) ≡ client_view user book
patch_applies user book place =
    let front : Book = up_to place book in
    let base : List Row = seen user (rows_of front) in
    let now : List Row = seen user (rows_of book) in
    let dels : List Op = map (λ row. Del (row_key row)) (filter (is_absent now) base) in
    let puts : List Op = map (λ row. Put row) (filter (is_news base (rows_of front) (since place book)) now) in
    fold-append applied (client_view user front) dels puts
    ∙ in_order-same key (fold applied (fold applied (client_view user front) dels) puts) (client_view user book)
    (applied_in_order (fold applied (client_view user front) dels) puts (applied_in_order (client_view user front) dels (shown_in_order base (seen_in_order user (rows_of front)))))
    (shown_in_order now (seen_in_order user (rows_of book)))
    (λ k. difference_finds k base now (rows_of front) (since place book) (seen_distinct user (rows_of front)) (seen_distinct user (rows_of book))
    (λ row is. row_of_seen user (rows_of front) k row (distinct-rows_of front) is)
    (λ row is. ap (row_at k) (replayed book place) ∙ row_of_seen user (rows_of book) k row (distinct-rows_of book) is))

or_nothing : {X : Type 0} (o : Option X) → option_or o None ≡ o
or_nothing None = refl
or_nothing (Some x) = refl

pub patch_anew : (user : List ℕ) (book : Book) (view : ClientView) → fold applied view (patch_since user book None) ≡ client_view user book
patch_anew user book view =
    let now : List Row = seen user (rows_of book) in
    let puts : List Op = map (λ row. Put row) now in
    in_order-same key (fold applied [] puts) (client_view user book) (applied_in_order [] puts tt) (shown_in_order now (seen_in_order user (rows_of book)))
    (λ k. found_puts k [] now (seen_distinct user (rows_of book)) ∙ or_nothing (option_map key_value (row_at k now)) ∙ find-map key key_value k now)
