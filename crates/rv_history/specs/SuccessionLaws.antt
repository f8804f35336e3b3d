-- Laws of books that go on from one another by entries and by closings.
use Rattle.std.proofs.Common.{◌≡◌, ℕ, ◌+◌, ◌<◌, ◌≤◌, inl, inr, List, [], ◌∷◌, ◌++◌, cond, Bool, Some, None, refl, sym, ap, ◌∙◌, subst, arith}
use Rattle.std.specs.List.{AllByRecursion, Contains}
use Rattle.std.proofs.lemmas.List.Elements.{Contains-append_left}
use Rattle.rv_base.specs.PositionLaws.{equals}
use Rattle.rv_rows.specs.declared.call.Call.{Call}
use Rattle.rv_turns.specs.Asks.{Sender}
use Rattle.rv_turns.specs.declared.mutation.Mutation.{Mutation}
use Rattle.rv_book.specs.declared.entry.Entry.{Entry}
use Rattle.rv_book.specs.declared.entry.Entry.TheVariants.{Act}
use Rattle.rv_book.specs.Entries.{last_in}
use Rattle.rv_book.specs.Book.{Book, book_from, bound, group_of, last, opening, size, Extends}
use Rattle.rv_book.specs.BookWordLaws.{extends_same, extends_on}
use Rattle.rv_history.specs.Closing.{Closes, GoesOnBy, GoesOnFrom}
use Rattle.rv_history.specs.ClosingLaws.{closed_bound, closed_group_of, closed_last}
use Rattle.rv_history.specs.GroupLaws.{bound_stays, clients_have_one_group, group_stays, groups_have_one_user, split_at}
use Rattle.rv_history.specs.Lawful.{IsLawful}
use Rattle.rv_history.specs.LawfulBookLaws.{last_append, last_cons}
use Rattle.rv_history.specs.Properties.{HasRun, IsEntered}
use Rattle.rv_history.specs.Succession.{books_of, ClosedBooksAreSuccessive, MutationsStay}

-- ---- A book goes on from itself, and from what a book that it goes on from goes on from.

pub goes_on_same : (old new : Book) → new ≡ old → GoesOnFrom old new
goes_on_same old new same = ([], extends_same new old same)

goes_on_more : (old middle new : Book) (closings : List (Book × Book)) → Extends middle old → GoesOnBy middle closings new → GoesOnBy old closings new
goes_on_more old middle new [] before goes = extends_on new middle old goes before
goes_on_more old middle new (closing ∷ closings) before (goes, closes, rest) = (extends_on closing.0 middle old goes before, closes, rest)

pub goes_on_by : (old middle new : Book) (closings more : List (Book × Book)) → GoesOnBy old closings middle → GoesOnBy middle more new → GoesOnBy old (closings ++ more) new
goes_on_by old middle new [] more before later = goes_on_more old middle new more before later
goes_on_by old middle new (closing ∷ closings) more (goes, closes, rest) later = (goes, closes, goes_on_by closing.1 middle new closings more rest later)

pub goes_on_through : (old middle new : Book) → GoesOnFrom old middle → GoesOnFrom middle new → GoesOnFrom old new
goes_on_through old middle new (closings, before) (more, later) = (closings ++ more, goes_on_by old middle new closings more before later)

-- ---- Their pages stand at higher and higher places.

same_page : (old new : Book) → Extends new old → new.page.at ≡ old.page.at
same_page old new (more, is) = ap (λ (b : Book). b.page.at) is

closed_page : (old new : Book) → Closes old new → new.page.at ≡ size old + 1
closed_page old new closes = ap (λ (b : Book). b.page.at) closes.is ∙ closes.sums.at

pages_rise : (low : ℕ) (old new : Book) (closings : List (Book × Book)) → low < old.page.at → GoesOnBy old closings new → AllByRecursion (λ later. low < later.page.at) (books_of closings new)
pages_rise low old new [] above goes = (omega (arith, same_page old new goes), tt)
pages_rise low old new (closing ∷ closings) above (goes, closes, rest) =
    let page = same_page old closing.0 goes in
    let next = closed_page closing.0 closing.1 closes in
    (omega (arith, page), pages_rise low closing.1 new closings (omega (arith, page, next)) rest)

pub closed_books_are_successive : ClosedBooksAreSuccessive
closed_books_are_successive old new [] goes = (tt, tt)
closed_books_are_successive old new (closing ∷ closings) (goes, closes, rest) =
    let next = closed_page closing.0 closing.1 closes in
    (pages_rise (size closing.0) closing.1 new closings (omega (arith, next)) rest, closed_books_are_successive closing.1 new closings rest)

-- ---- What was entered stays entered.

pub entered_on : (from : Sender) (m : Mutation) (old new : Book) → Extends new old → IsEntered from old m → IsEntered from new m
entered_on from m old new (more, is) (inr early) = inr (subst (λ (b : Book). HasRun from (opening b) m) (sym is) early)
entered_on from m old new (more, is) (inl (call, there)) =
    let e : Entry = Act from.user from.group m.client m.id call in
    inl (call, subst (λ (b : Book). Contains b.entries e) (sym is) (Contains-append_left old.entries more e there))

-- an act of a lawful book has an id up to its client's last
act_within : (book : Book) (user group client : List ℕ) (id : ℕ) (call : Call) → IsLawful book → Contains book.entries (Act user group client id call) → id ≤ last client book
act_within book user group client id call lawful there =
    let e : Entry = Act user group client id call in
    let (before, after, is) = split_at book e there in
    let next : id ≡ last client before + 1 = (lawful.each before after e is).2 in
    let whole : last client book ≡ last client before + last_in client (e ∷ after) = ap (last client) is ∙ last_append client before (e ∷ after) in
    let first : last_in client (e ∷ after) ≡ 1 + last_in client after = last_cons client after e ∙ ap (λ (b : Bool). cond b 1 0 + last_in client after) (equals client) in
    omega (arith, next, whole, first)

-- what has run has run in each book that goes on by entries, and so on the page that sums it up
ran_on : (from : Sender) (m : Mutation) (old new : Book) → Extends new old → HasRun from old m → HasRun from new m
ran_on from m old new (more, is) ran =
    let whole : last m.client new ≡ last m.client old + last_in m.client more = ap (last m.client) is ∙ last_append m.client old more in
    let id = ran.id in
    record {
      id = omega (arith, id, whole);
      home = ap (group_of m.client) is ∙ group_stays m.client from.group old more ran.home;
      owner = ap (bound from.group) is ∙ bound_stays from.group from.user old more ran.owner;
    }

ran_closed : (from : Sender) (m : Mutation) (old new : Book) → Closes old new → HasRun from old m → HasRun from (opening new) m
ran_closed from m old new closes ran =
    let page : opening new ≡ book_from closes.page [] = ap (λ (b : Book). opening b) closes.is in
    subst (λ (b : Book). HasRun from b m) (sym page) (record {
      id = subst (λ (n : ℕ). m.id ≤ n) (sym (closed_last old closes.page closes.sums m.client)) ran.id;
      home = closed_group_of old closes.page closes.sums m.client ∙ ran.home;
      owner = closed_bound old closes.page closes.sums from.group ∙ ran.owner;
    })

-- what is entered in a lawful book has run there
pub entered_ran : (from : Sender) (m : Mutation) (book : Book) → IsLawful book → IsEntered from book m → HasRun from book m
entered_ran from m book lawful (inl (call, there)) =
    let e : Entry = Act from.user from.group m.client m.id call in record {
      id = act_within book from.user from.group m.client m.id call lawful there;
      home = clients_have_one_group book m.client from.group e lawful there (ap (λ (b : Bool). cond b (Some from.group) None) (equals m.client));
      owner = groups_have_one_user book from.group from.user e lawful there (ap (λ (b : Bool). cond b (Some from.user) None) (equals from.group));
    }
entered_ran from m book lawful (inr early) = ran_on from m (opening book) book (book.entries, refl) early

-- and what a page says stays said
stays_said : (from : Sender) (m : Mutation) (old new : Book) (closings : List (Book × Book)) → GoesOnBy old closings new → HasRun from (opening old) m → HasRun from (opening new) m
stays_said from m old new [] (more, is) early = subst (λ (b : Book). HasRun from (opening b) m) (sym is) early
stays_said from m old new (closing ∷ closings) (goes, closes, rest) early =
    let before : HasRun from old m = ran_on from m (opening old) old (old.entries, refl) early in
    stays_said from m closing.1 new closings rest (ran_closed from m closing.0 closing.1 closes (ran_on from m old closing.0 goes before))

pub mutations_stay : MutationsStay
mutations_stay from m old new lawful ([], goes) entered = entered_on from m old new goes entered
mutations_stay from m old new lawful (closing ∷ closings, (goes, closes, rest)) entered =
    let before : HasRun from closing.0 m = ran_on from m old closing.0 goes (entered_ran from m old lawful entered) in
    inr (stays_said from m closing.1 new closings rest (ran_closed from m closing.0 closing.1 closes before))
