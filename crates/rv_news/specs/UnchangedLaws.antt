-- A pull whose base is a look of the pull's own group, at the user's mark or after it, has nothing to tell.
use Rattle.std.proofs.Common.{◌≡◌, ℕ, ◌+◌, ◌-◌, ◌<◌, ◌≤◌, zero, suc, length, Bool, true, false, not, cond, get_or, List, [], ◌∷◌, ◌++◌, map, Option, Some, None, refl, sym, ap, ◌∙◌, subst, arith, inl, inr, append-nil}
use Rattle.std.specs.List.{AllByRecursion, cons_option, filter, filter_map}
use Rattle.std.specs.Option.{option_and_then, option_map, option_map_or, option_or}
use Rattle.std.specs.Str.{bytes_eq}
use Rattle.std.proofs.lemmas.List.Elements.{filter_map-append}
use Rattle.std.proofs.lemmas.Option.{same_Some, slice_get-get_or}
use Rattle.std.proofs.lemmas.Slice.Eq.{bytes_eq-Decides}
use Rattle.rv_base.specs.PositionLaws.{equals}
use Rattle.rv_base.specs.Sorted.{sorted_by}
use Rattle.rv_rows.specs.declared.row.Row.{Row}
use Rattle.rv_rows.specs.declared.call.Call.{Call}
use Rattle.rv_rows.specs.Keys.{row_at, row_key, row_text}
use Rattle.rv_rows.specs.Sharing.{seen}
use Rattle.rv_turns.specs.declared.op.Op.TheVariants.{Del, Put}
use Rattle.rv_turns.specs.declared.pull.PullRequest.{PullRequest}
use Rattle.rv_views.specs.Difference.{is_among as is_among_views}
use Rattle.rv_views.specs.DifferenceLaws.{difference-same}
use Rattle.rv_views.specs.declared.diff.Diff.{Diff}
use Rattle.rv_book.specs.declared.entry.Entry.{Entry}
use Rattle.rv_book.specs.declared.entry.Entry.TheVariants.{Act, Look, Retire}
use Rattle.rv_book.specs.Entries.{is_act_of}
use Rattle.rv_book.specs.Members.{acting_group}
use Rattle.rv_book.specs.Book.{Book, acting_client, belongs, bound, client_in, clients_named, entry_at, group_of, ids, last, since, size, up_to, with_entries, with_entry}
use Rattle.rv_book.specs.BookWordLaws.{clients_named-with_entry, size-up_to, entry_at-index, entry_at-within, last-with_entry, since-entry, size-with_entry, up_to-all, up_to-since, up_to-with_entries, with_entry-more}
use Rattle.rv_book.specs.Kept.{is_look_at, kept, look_at, look_of}
use Rattle.rv_book.specs.LookLaws.{look_at-within}
use Rattle.rv_book.specs.RegisterLaws.{NoneBut, group_of-push, none_but}
use Rattle.rv_history.specs.Bases.{base_group, base_of}
use Rattle.rv_history.specs.BasedLaws.{base_look}
use Rattle.rv_history.specs.GroupLaws.{owner_is}
use Rattle.rv_history.specs.Groups.{is_elsewhere}
use Rattle.rv_history.specs.History.{ids_since, is_absent, is_among, is_news, is_touched, patch_since}
use Rattle.rv_history.specs.Lawful.{IsLawful, IsLawfulAfter}
use Rattle.rv_history.specs.Machine.{IsUnchanged, cookie_order}
use Rattle.rv_history.specs.Marks.{IsMark}
use Rattle.rv_history.specs.PatchLaws.{absent_is, news_present, seen_in_order}
use Rattle.rv_history.specs.Replay.{rows_of, Wrote}
use Rattle.rv_history.specs.ReplayLaws.{each_found}
use Rattle.rv_news.specs.SinceMarkLaws.{acts_since, seen_since, write_concerns}
use Rattle.rv_news.specs.TouchLaws.{IsWrittenAfter, touched_after}

-- a filter leaves nothing where nothing passes
none_pass : {X : Type 0} (p : X → Bool) (xs : List X) → AllByRecursion (λ x. p x ≡ false) xs → filter p xs ≡ []
none_pass p [] all = refl
none_pass p (x ∷ xs) all = rw all.0 (none_pass p xs all.1)

all_to : {X : Type 0} (P Q : X → Type 0) (xs : List X) → ((x : X) → P x → Q x) → AllByRecursion P xs → AllByRecursion Q xs
all_to P Q [] to all = tt
all_to P Q (x ∷ xs) to all = (to x all.0, all_to P Q xs to all.1)

-- each row that a user sees is found among them by its key
abbrev IsFound : List Row → Row → Type 0
IsFound rows row = row_at (row_text row) rows ≡ Some row

all_seen : (user : List ℕ) (rows : List Row) → AllByRecursion (IsFound (seen user rows)) (seen user rows)
all_seen user rows = each_found row_text (seen user rows) (seen_in_order user rows)

stands : (rows : List Row) (row : Row) → IsFound rows row → is_absent rows row ≡ false
stands rows row found = absent_is rows row (row_text row) (Some row) found refl

-- a row that the user sees is not touched since a place from the mark on
quiet : (user : List ℕ) (book : Book) (mark place : ℕ) → IsMark user book mark → mark ≤ place → place ≤ size book → (row : Row) → IsFound (seen user (rows_of book)) row
    → is_touched (row_text row) (rows_of (up_to place book)) (since place book) ≡ false
quiet user book mark place is low within row shown =
    let front : Book = up_to place book in
    let key : List ℕ = row_text row in
    let rest : List Entry = since place book in
    elim (is_touched key (rows_of front) rest) as (λ b. is_touched key (rows_of front) rest ≡ b → b ≡ false) [
      | true ↦ λ touched. absurd (written (touched_after front rest key touched))
      | false ↦ λ _. refl
    ] refl
  where
    written : IsWrittenAfter (with_entries (up_to place book) (since place book)) (row_text row) (size (up_to place book)) → ⊥
    written after =
        let wrote : Wrote book (row_text row) after.place = subst (λ (b : Book). Wrote b (row_text row) after.place) (up_to-since place book) after.wrote in
        let above : mark < after.place = omega (arith, low, after.above, size-up_to place book (omega (arith, is.least, low)) within) in
        let later : mark ≤ after.place = omega (arith, above) in
        is.last after.place above (write_concerns user book (row_text row) row after.place wrote (ap (row_at (row_text row)) (sym (seen_since user book mark after.place is later wrote.within)) ∙ shown))

-- the patch since a place from the mark on is empty
no_patch : (user : List ℕ) (book : Book) (mark place : ℕ) → IsMark user book mark → mark ≤ place → place ≤ size book → patch_since user book (Some place) ≡ []
no_patch user book mark place is low within =
    let rows : List Row = rows_of (up_to place book) in
    let base : List Row = seen user rows in
    let now : List Row = seen user (rows_of book) in
    let same : now ≡ base = seen_since user book mark place is low within in
    let gone : filter (is_absent now) base ≡ [] =
    ap (λ (n : List Row). filter (is_absent n) base) same ∙ none_pass (is_absent base) base (all_to (IsFound base) (λ row. is_absent base row ≡ false) base (stands base) (all_seen user rows)) in
    let news : Row → Bool = is_news base rows (since place book) in
    let new : filter news now ≡ [] =
    none_pass news now (all_to (IsFound now) (λ row. news row ≡ false) now (λ row found.
    news_present base rows (since place book) row (stands base row (ap (row_at (row_text row)) (sym same) ∙ found)) ∙ quiet user book mark place is low within row found) (all_seen user (rows_of book))) in
    (λ i. map (λ row. Del (row_key row)) (gone i) ++ map (λ row. Put row) (new i))

-- of a client: whether it is of the group, with its last mutation id
abbrev told : List ℕ → List ℕ → Book → Option (List ℕ × ℕ)
told client group book = cond (belongs client group book) (Some (client, last client book)) None

or_none : {X : Type 0} (o : Option X) → option_or o None ≡ o
or_none None = refl
or_none (Some x) = refl

-- an entry that is no act of the client leaves that
told_other : (client group : List ℕ) (book : Book) (e : Entry) → is_act_of client e ≡ false → told client group (with_entry book e) ≡ told client group book
told_other client group book e other =
    let home : group_of client (with_entry book e) ≡ group_of client book = group_of-push client book e ∙ ap (λ (b : Bool). option_or (group_of client book) (cond b (Some (acting_group e)) None)) other ∙ or_none (group_of client book) in
    let none : last client book + 0 ≡ last client book = omega arith in
    let count : last client (with_entry book e) ≡ last client book = last-with_entry client book e ∙ ap (λ (b : Bool). last client book + cond b 1 0) other ∙ none in
    (λ i. cond (option_map_or (λ (g : List ℕ). bytes_eq g group) (home i) false) (Some (client, count i)) None)

-- a client of no other group than one is not of another
elsewhere : (home group : List ℕ) (o : Option (List ℕ)) → NoneBut home o → bytes_eq home group ≡ false → option_map_or (λ (g : List ℕ). bytes_eq g group) o false ≡ false
elsewhere home group o (inl none) apart = ap (λ (p : Option (List ℕ)). option_map_or (λ (g : List ℕ). bytes_eq g group) p false) none
elsewhere home group o (inr some) apart = ap (λ (p : Option (List ℕ)). option_map_or (λ (g : List ℕ). bytes_eq g group) p false) some ∙ apart

or_home : (home : List ℕ) (o : Option (List ℕ)) → NoneBut home o → NoneBut home (option_or o (Some home))
or_home home o (inl none) = inr (ap (λ (p : Option (List ℕ)). option_or p (Some home)) none)
or_home home o (inr some) = inr (ap (λ (p : Option (List ℕ)). option_or p (Some home)) some)

-- an act of another group leaves it too
told_act : (client group : List ℕ) (book : Book) (user home actor : List ℕ) (id : ℕ) (call : Call) → is_elsewhere actor home book ≡ false → bytes_eq home group ≡ false
    → told client group (with_entry book (Act user home actor id call)) ≡ told client group book
told_act client group book user home actor id call own apart =
    elim (bytes_eq actor client) as (λ b. bytes_eq actor client ≡ b → told client group (with_entry book act) ≡ told client group book) [
      | true ↦ λ same. subst (λ (c : List ℕ). told c group (with_entry book act) ≡ told c group book) ((bytes_eq-Decides actor client).0 same) by_actor
      | false ↦ λ other. told_other client group book act other
    ] refl
  where
    act : Entry
    act = Act user home actor id call

    only : NoneBut home (group_of actor book)
    only = none_but home (group_of actor book) own

    pushed : group_of actor (with_entry book act) ≡ option_or (group_of actor book) (Some home)
    pushed = group_of-push actor book act ∙ ap (λ (b : Bool). option_or (group_of actor book) (cond b (Some home) None)) (equals actor)

    before : belongs actor group book ≡ false
    before = elsewhere home group (group_of actor book) only apart

    after : belongs actor group (with_entry book act) ≡ false
    after = elsewhere home group (group_of actor (with_entry book act)) (subst (λ (o : Option (List ℕ)). NoneBut home o) (sym pushed) (or_home home (group_of actor book) only)) apart

    by_actor : told actor group (with_entry book act) ≡ told actor group book
    by_actor = ap (λ (b : Bool). cond b (Some (actor, last actor (with_entry book act))) None) after ∙ sym (ap (λ (b : Bool). cond b (Some (actor, last actor book)) None) before)

filter_map-same : {X Y : Type 0} (f g : X → Option Y) (xs : List X) → ((x : X) → f x ≡ g x) → filter_map f xs ≡ filter_map g xs
filter_map-same f g [] same = refl
filter_map-same f g (x ∷ xs) same = (λ i. cons_option (same x i) (filter_map-same f g xs same i))

-- the last mutation ids of a group are the same where each client's are, and the entry adds no client
ids_same : (group : List ℕ) (book : Book) (e : Entry) → ((client : List ℕ) → told client group (with_entry book e) ≡ told client group book) → option_and_then (client_in group book) (acting_client e) ≡ None → ids group (with_entry book e) ≡ ids group book
ids_same group book e same none =
    let new : Book = with_entry book e in
    ap (sorted_by (λ (pair : List ℕ × ℕ). pair.0))
    (ap (filter_map (client_in group new)) (clients_named-with_entry book e)
    ∙ filter_map-append (client_in group new) (clients_named book) (cons_option (acting_client e) [])
    ∙ ap (λ (pairs : List (List ℕ × ℕ)). filter_map (client_in group new) (clients_named book) ++ pairs) (adds_none (acting_client e) none)
    ∙ append-nil (filter_map (client_in group new) (clients_named book))
    ∙ filter_map-same (client_in group new) (client_in group book) (clients_named book) same)
  where
    adds_none : (o : Option (List ℕ)) → option_and_then (client_in group book) o ≡ None → filter_map (client_in group (with_entry book e)) (cons_option o []) ≡ []
    adds_none None none = refl
    adds_none (Some client) none = ap (λ (o : Option (List ℕ × ℕ)). cons_option o []) (same client ∙ none)

-- the entry is an act of the group
abbrev is_act_in : List ℕ → Entry → Bool
is_act_in group (Act user other client id call) = bytes_eq other group
is_act_in group (Look user other order base) = false
is_act_in group (Retire other) = false

ids_next : (group : List ℕ) (book : Book) (e : Entry) → IsLawfulAfter book e → is_act_in group e ≡ false → ids group (with_entry book e) ≡ ids group book
ids_next group book (Act user home actor id call) admitted apart =
    ids_same group book (Act user home actor id call) (λ client. told_act client group book user home actor id call admitted.1 apart)
    (ap (λ (b : Bool). cond b (Some (actor, last actor book)) None) (elsewhere home group (group_of actor book) (none_but home (group_of actor book) admitted.1) apart))
ids_next group book (Look user other order base) admitted apart = ids_same group book (Look user other order base) (λ client. told_other client group book (Look user other order base) refl) refl
ids_next group book (Retire other) admitted apart = ids_same group book (Retire other) (λ client. told_other client group book (Retire other) refl) refl

-- the entry at a place, and the book up to it
entry_within : (place : ℕ) (book : Book) → book.page.at < place → place ≤ size book → (e : Entry) × (entry_at place book ≡ Some e)
entry_within place book first within =
    let lt : place - (book.page.at + 1) < length book.entries = omega (arith, first, within) in
    (get_or book.entries (place - (book.page.at + 1)) (Retire []), entry_at-index place book first ∙ slice_get-get_or book.entries (place - (book.page.at + 1)) (Retire []) lt)

split : (place : ℕ) (book : Book) (e : Entry) → entry_at place book ≡ Some e → book ≡ with_entries (up_to (place - 1) book) (e ∷ since place book)
split place book e there = sym (up_to-since (place - 1) book) ∙ ap (with_entries (up_to (place - 1) book)) (since-entry place book e there)

up_to-next : (place : ℕ) (book : Book) (e : Entry) → entry_at place book ≡ Some e → up_to place book ≡ with_entry (up_to (place - 1) book) e
up_to-next place book e there =
    let within = entry_at-within place book e there in
    let front : Book = up_to (place - 1) book in
    let long : size front ≡ place - 1 = size-up_to (place - 1) book (omega (arith, within.0)) (omega (arith, within.1)) in
    let ends : size (with_entry front e) ≡ place = omega (arith, within.0, long, size-with_entry front e) in
    let whole : book ≡ with_entries (with_entry front e) (since place book) = split place book e there ∙ sym (with_entry-more front e (since place book)) in
    ap (up_to place) whole ∙ up_to-with_entries place (with_entry front e) (since place book) (omega (arith, ends)) ∙ up_to-all place (with_entry front e) (omega (arith, ends))

-- no entry after the mark is an act of a group of the user
not_in : (user group : List ℕ) (book : Book) (mark place : ℕ) (e : Entry) → IsLawful book → IsMark user book mark → bound group book ≡ Some user → mark < place → entry_at place book ≡ Some e → is_act_in group e ≡ false
not_in user group book mark place (Act by other client id call) lawful is owned above there =
    elim (bytes_eq other group) as (λ b. bytes_eq other group ≡ b → b ≡ false) [
      | true ↦ λ same. absurd (acts_since user book mark place lawful is above by other client id call there (ap (λ (g : List ℕ). bound g book) ((bytes_eq-Decides other group).0 same) ∙ owned))
      | false ↦ λ _. refl
    ] refl
not_in user group book mark place (Look by other order base) lawful is owned above there = refl
not_in user group book mark place (Retire other) lawful is owned above there = refl

ids_on : (user group : List ℕ) (book : Book) (mark place more : ℕ) → IsLawful book → IsMark user book mark → bound group book ≡ Some user → mark ≤ place → place + more ≤ size book → ids group (up_to (place + more) book) ≡ ids group (up_to place book)
ids_on user group book mark place zero lawful is owned low within = let same : place + 0 ≡ place = omega arith in ap (λ (n : ℕ). ids group (up_to n book)) same
ids_on user group book mark place (suc more) lawful is owned low within =
    let first : book.page.at < place + suc more = omega (arith, is.least, low) in
    let above : mark < place + suc more = omega (arith, low) in
    let (e, there) = entry_within (place + suc more) book first within in
    let admitted : IsLawfulAfter (up_to ((place + suc more) - 1) book) e = lawful.each (up_to ((place + suc more) - 1) book) (since (place + suc more) book) e (split (place + suc more) book e there) in
    let before : (place + suc more) - 1 ≡ place + more = omega arith in
    ap (ids group) (up_to-next (place + suc more) book e there)
    ∙ ids_next group (up_to ((place + suc more) - 1) book) e admitted (not_in user group book mark (place + suc more) e lawful is owned above there)
    ∙ ap (λ (n : ℕ). ids group (up_to n book)) before
    ∙ ids_on user group book mark place more lawful is owned low (omega (arith, within))

-- A group of the user has the same last mutation ids at any place from the mark on as at the end.
pub ids_from_mark : (user group : List ℕ) (book : Book) (mark place : ℕ) → IsLawful book → IsMark user book mark → bound group book ≡ Some user → mark ≤ place → place ≤ size book → ids group book ≡ ids group (up_to place book)
ids_from_mark user group book mark place lawful is owned low within =
    let sum : place + (size book - place) ≡ size book = omega (arith, within) in
    ap (ids group) (sym (up_to-all (size book) book (omega arith)))
    ∙ ap (λ (n : ℕ). ids group (up_to n book)) (sym sum) ∙ ids_on user group book mark place (size book - place) lawful is owned low (omega (arith, within))

-- ids are among themselves
none_new : (pairs : List (List ℕ × ℕ)) → filter (λ pair. not (is_among pairs pair)) pairs ≡ []
unfolding is_among is_among_views
none_new pairs = ap (λ (diff : Diff). diff.ids) (difference-same (record { rows = []; clients = pairs }))

-- the group of a look is its user's
look_entry : (o : Option Entry) (look : List ℕ × List ℕ × ℕ) → option_and_then look_of o ≡ Some look → (base : Option ℕ) × (o ≡ Some (Look look.0 look.1 look.2 base))
look_entry None look is = absurd (cc)
look_entry (Some (Act user group client id call)) look is = absurd (cc)
look_entry (Some (Look user group order base)) look is =
    let same : (user, group, order) ≡ look = same_Some (user, group, order) look is in
    (base, λ i. Some (Look (same i).0 (same i).1 (same i).2 base))
look_entry (Some (Retire group)) look is = absurd (cc)

look_owner : (user group : List ℕ) (order place : ℕ) (book : Book) → IsLawful book → look_at place book ≡ Some (user, group, order) → bound group book ≡ Some user
look_owner user group order place book lawful looked =
    let (base, there) = look_entry (entry_at place book) (user, group, order) looked in
    let look : Entry = Look user group order base in
    let admitted = lawful.each (up_to (place - 1) book) (since place book) look (split place book look there) in
    ap (bound group) (split place book look there) ∙ owner_is user group (up_to (place - 1) book) (look ∷ since place book) admitted.0.own (rw (equals group) refl)

-- A pull whose base is a look of the pull's own group, at the user's mark or after it, has nothing to tell.
pub unchanged_since : (user : List ℕ) (request : PullRequest) (book : Book) (mark place : ℕ) → IsLawful book → IsMark user book mark
    → base_of user request.cookie book ≡ Some place → is_look_at request.group book place ≡ true → mark ≤ place → IsUnchanged user request book
unchanged_since user request book mark place lawful is named own low = go (base_look user request.cookie book place named)
  where
    go : (group : List ℕ) × (look_at place book ≡ Some (user, group, cookie_order request.cookie)) × (kept place book ≡ true) → IsUnchanged user request book
    go (group, looked, stays) =
        let in_group : bytes_eq group request.group ≡ true = ap (λ (o : Option (List ℕ × List ℕ × ℕ)). option_map_or (λ (look : List ℕ × List ℕ × ℕ). bytes_eq look.1 request.group) o false) (sym looked) ∙ own in
        let same : group ≡ request.group = (bytes_eq-Decides group request.group).0 in_group in
        let here : look_at place book ≡ Some (user, request.group, cookie_order request.cookie) = looked ∙ ap (λ (g : List ℕ). Some (user, g, cookie_order request.cookie)) same in
        let within = look_at-within place book (user, request.group, cookie_order request.cookie) here in
        let owned = look_owner user request.group (cookie_order request.cookie) place book lawful here in (
          ap (patch_since user book) named ∙ no_patch user book mark place is low within.1,
          ap (λ (o : Option ℕ). ids_since request.group book (option_and_then (base_group book) o)) named
              ∙ ap (λ (o : Option (List ℕ × List ℕ × ℕ)). ids_since request.group book (option_map (λ (look : List ℕ × List ℕ × ℕ). (place, look.1)) o)) here
              ∙ ap (λ (now : List (List ℕ × ℕ)). filter (λ pair. not (is_among (ids request.group (up_to place book)) pair)) now) (ids_from_mark user request.group book mark place lawful is owned low within.1)
              ∙ none_new (ids request.group (up_to place book)),
        )
