-- One turn of a run: the run before it, its step, and that the book goes on from there, in one of the books of the run.
use Rattle.std.proofs.Common.{◌≡◌, ℕ, ◌≤◌, ◌<◌, List, [], ◌∷◌, ◌++◌, length, map, true, Option, Some, refl, ap, arith}
use Rattle.std.specs.List.{AllByRecursion, Contains}
use Rattle.std.proofs.lemmas.List.Elements.{Contains-append_right}
use Rattle.rv_book.specs.Book.{Book, size, Extends}
use Rattle.rv_history.specs.Clients.{AreSuccessive}
use Rattle.rv_history.specs.Closing.{GoesOnBy, GoesOnFrom}
use Rattle.rv_history.specs.Served.{IsSound, Served}
use Rattle.rv_history.specs.Properties.{IsEntered}
use Rattle.rv_history.specs.Lawful.{IsLawful}
use Rattle.rv_history.specs.Succession.{MutationsStay, books_of}
use Rattle.rv_history.specs.SuccessionLaws.{goes_on_by, goes_on_same}
use Rattle.rv_answering.specs.declared.answer.Answer.{Answer}
use Rattle.rv_answering.specs.declared.line.Line.{Line}
use Rattle.rv_answering.specs.declared.line.Line.TheVariants.{Asks}
use Rattle.rv_answering.specs.Requests.{Parsed}
use Rattle.rv_cli.specs.Headline.{BooksAreLawful, Run, TakesLine}
use Rattle.rv_turns.specs.Asks.{Sender}
use Rattle.rv_turns.specs.declared.mutation.Mutation.{Mutation}
use Rattle.rv_wire.specs.declared.push.Push as pushes

-- what is kept is told
abbrev pub Yes : Type 0
Yes = true ≡ true

-- ---- The books of a run.

abbrev pub run_goes : BooksAreLawful → (first now : Served) (lines : List Line) (answers : List (Option Answer)) → Run Yes first lines answers now → IsSound first → GoesOnFrom first.book now.book
run_goes law first now [] [] same sound = goes_on_same first.book now.book (ap (λ (s : Served). s.book) same)
run_goes law first now [] (answer ∷ answers) never sound = absurd never
run_goes law first now (line ∷ lines) [] never sound = absurd never
run_goes law first now (line ∷ lines) (answer ∷ answers) (mid, takes, rest) sound =
    let kept = law true first mid (line ∷ []) (answer ∷ []) (mid, takes, refl) sound in
    let one = kept.more refl in
    let more = run_goes law mid now lines answers rest kept.sound in
    (one.0 ++ more.0, goes_on_by first.book mid.book now.book one.0 more.0 one.1 more.1)

-- the first of the books
abbrev first_of : List (Book × Book) → Book → Book
first_of [] now = now
first_of (closing ∷ closings) now = closing.0

first_goes : (old now : Book) (closings : List (Book × Book)) → GoesOnBy old closings now → Extends (first_of closings now) old
first_goes old now [] goes = goes
first_goes old now (closing ∷ closings) goes = goes.0

first_among : (now : Book) (closings : List (Book × Book)) → Contains (books_of closings now) (first_of closings now)
first_among now [] = (0, omega arith, refl)
first_among now (closing ∷ closings) = (0, omega arith, refl)

-- those of what follows are among all
among_more : (now book : Book) (closings more : List (Book × Book)) → Contains (books_of more now) book → Contains (books_of (closings ++ more) now) book
among_more now book [] more among = among
among_more now book (closing ∷ closings) more among = Contains-append_right (closing.0 ∷ []) (books_of (closings ++ more) now) book (among_more now book closings more among)

-- none of the books is longer than the last
last_of : {X : Type 0} (P : X → Type 0) (xs : List X) (x : X) → AllByRecursion P (xs ++ x ∷ []) → P x
last_of P [] x all = all.0
last_of P (y ∷ xs) x all = last_of P xs x all.1

pub each_shorter : (now : Book) (closings : List (Book × Book)) → AreSuccessive (books_of closings now) → AllByRecursion (λ book. size book ≤ size now) (books_of closings now)
each_shorter now [] successive = (omega arith, tt)
each_shorter now (closing ∷ closings) (before, successive) =
    let last = last_of (λ (later : Book). size closing.0 < later.page.at) (map (λ (c : Book × Book). c.0) closings) now before in
    (omega (arith, last), each_shorter now closings successive)

-- ---- A turn.

pub record At (first now : Served) (before : List Line) (answered : List (Option Answer)) (asked : Parsed) (answer : Answer) (closings : List (Book × Book)) : Type 0 where
  pub point : Served
  pub new : Served
  pub run : Run Yes first before answered point
  pub sound : IsSound point
  pub takes : TakesLine Yes point (Asks asked) (Some answer) new
  pub lawful : IsLawful new.book
  pub more : GoesOnFrom new.book now.book
  pub book : Book
  pub among : Contains (books_of closings now.book) book
  pub within : Extends book new.book

pub turn_at : (law : BooksAreLawful) (first now : Served) (before after : List Line) (answered others : List (Option Answer)) (asked : Parsed) (answer : Answer) (sound : IsSound first) → length before ≡ length answered
    → (run : Run Yes first (before ++ Asks asked ∷ after) (answered ++ Some answer ∷ others) now) → At first now before answered asked answer (run_goes law first now (before ++ Asks asked ∷ after) (answered ++ Some answer ∷ others) run sound).0
turn_at law first now [] after [] others asked answer sound same (mid, takes, rest) =
    let kept = law true first mid (Asks asked ∷ []) (Some answer ∷ []) (mid, takes, refl) sound in
    let more = run_goes law mid now after others rest kept.sound in
    record {
      point = first;
      new = mid;
      run = refl;
      sound = sound;
      takes = takes;
      lawful = kept.sound.lawful;
      more = more;
      book = first_of more.0 now.book;
      among = among_more now.book (first_of more.0 now.book) (kept.more refl).0 more.0 (first_among now.book more.0);
      within = first_goes mid.book now.book more.0 more.1;
    }
turn_at law first now [] after (x ∷ answered) others asked answer sound same run = absurd (omega (arith, same))
turn_at law first now (a ∷ before) after [] others asked answer sound same run = absurd (omega (arith, same))
turn_at law first now (a ∷ before) after (x ∷ answered) others asked answer sound same (mid, takes, rest) =
    let kept = law true first mid (a ∷ []) (x ∷ []) (mid, takes, refl) sound in
    let at = turn_at law mid now before after answered others asked answer kept.sound (omega (arith, same)) rest in
    record {
      point = at.point;
      new = at.new;
      run = (mid, takes, at.run);
      sound = at.sound;
      takes = at.takes;
      lawful = at.lawful;
      more = at.more;
      book = at.book;
      among = among_more now.book at.book (kept.more refl).0 (run_goes law mid now (before ++ Asks asked ∷ after) (answered ++ Some answer ∷ others) rest kept.sound).0 at.among;
      within = at.within;
    }

-- ---- What is entered stays so.

pub all_stay : MutationsStay → (from : Sender) (ms : List Mutation) (old new : Book) → IsLawful old → GoesOnFrom old new → AllByRecursion (λ m. 1 ≤ m.id → IsEntered from old m) ms → AllByRecursion (λ m. 1 ≤ m.id → IsEntered from new m) ms
all_stay stay from [] old new lawful goes all = tt
all_stay stay from (m ∷ ms) old new lawful goes (one, all) = (λ first. stay from m old new lawful goes (one first), all_stay stay from ms old new lawful goes all)

abbrev pub AllStand : List ℕ → pushes.Push → Book → Type 0
AllStand user push book = AllByRecursion (λ m. 1 ≤ m.id → IsEntered (record { user = user; group = push.group }) book m) push.mutations
