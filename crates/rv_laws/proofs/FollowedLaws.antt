-- What holds of each run of a follower that is told the lines of a book.
use Rattle.std.proofs.Common.{◌≡◌, ℕ, ◌+◌, ◌-◌, ◌^◌, ◌≤◌, ◌==◌, inl, inr, Bool, cond, false, List, [], ◌∷◌, ◌++◌, length, Option, Some, None, Ok, refl, sym, ap, ◌∙◌, subst, arith}
use Rattle.std.proofs.lemmas.Bool.Decides.{nat_tests}
use Rattle.rv_book.specs.Book.{Book, empty_book}
use Rattle.rv_history.specs.Bases.{base_of}
use Rattle.rv_history.specs.Properties.{IsBaseView, ReplyTells}
use Rattle.rv_history.specs.Patches.{ClientView, apply, client_view}
use Rattle.rv_keeper.specs.declared.cell.Cell.{Cell}
use Rattle.rv_record.specs.PageCells.{page_cells}
use Rattle.rv_store.specs.Opening.{IsSoundBook}
use Rattle.rv_store.specs.StoreCells.{entry_cells}
use Rattle.rv_views.specs.declared.cookie.Cookie.{Cookie}
use Rattle.rv_views.specs.declared.cookie.Cookie.TheVariants.{Null, Bare, Named}
use Rattle.rv_wire.specs.Answers.{pull_json}
use Rattle.rv_turns.specs.declared.pushing.Outcome.{Outcome}
use Rattle.rv_turns.specs.declared.pushing.Outcome.TheVariants as outcomes
use Rattle.rv_turns.specs.declared.pull.PullReply.{PullReply}
use Rattle.rv_turns.specs.declared.pull.PullRequest.{PullRequest}
use Rattle.rv_answering.specs.declared.answer.Answer.{Answer}
use Rattle.rv_answering.specs.declared.answer.Answer.TheVariants.{Pulled}
use Rattle.rv_answering.specs.Steps.{answer_of}
use Rattle.rv_standby.specs.Following.{Answers}
use Rattle.rv_standby.proofs.Fronts.{answers_tell, fronts_are_shown}
use Rattle.rv_following.specs.declared.follow_line.FollowLine.{FollowLine}
use Rattle.rv_following.specs.declared.follow_line.FollowLine.TheVariants as lines
use Rattle.rv_following.specs.FollowProperties.{StandsAt, TakesEach, book_says, cells_say, follows, gathers}
use Rattle.rv_following.specs.FollowSteps.{AnswersOrNot, Following, Follows}
use Rattle.rv_following.proofs.Followed.{lines_are_followed}
use Rattle.rv_cli.specs.FollowPromise.{no_line_yet}
use Rattle.rv_cli.specs.Following.{follow_lines}
use Rattle.rv_cli.specs.LineRuns.{Run}
use Rattle.rv_laws.specs.Follows.{FollowRun, FollowedBooksAreFronts, FollowedPullsAreShown, IsFrontOf, begun, of_book, untold}

abbrev Runs : Following → List FollowLine → List (Option Answer) → Following → Type 0
Runs = Run follow_lines (Unit {0})

-- ---- The lines that tell of the book are taken one after another, as if no pull stood among them.

-- a line but a pull has no answer
line_taken : (old mid : Following) (line : FollowLine) (more : List FollowLine) (answer : Option Answer) (new : Following) → Follows old line (Ok answer) mid → TakesEach mid (of_book more) new
    → TakesEach old (of_book (line ∷ more)) new
line_taken old mid (lines.Cell cell) more None new step rest = (mid, step, rest)
line_taken old mid (lines.Cell cell) more (Some answer) new never rest = absurd never
line_taken old mid lines.Page more None new step rest = (mid, step, rest)
line_taken old mid lines.Page more (Some answer) new never rest = absurd never
line_taken old mid (lines.Pull user pull) more (Some answer) new (idle, answers, same) rest = subst (λ (f : Following). TakesEach f (of_book more) new) same rest
line_taken old mid (lines.Pull user pull) more None new never rest = absurd never

each_taken : (taken : List FollowLine) (answers : List (Option Answer)) (old new : Following) → Runs old taken answers new → TakesEach old (of_book taken) new
each_taken [] [] old new same = same
each_taken [] (answer ∷ answers) old new never = absurd never
each_taken (line ∷ taken) [] old new never = absurd never
each_taken (line ∷ taken) (answer ∷ answers) old new (mid, step, rest) = line_taken old mid line taken answer new step (each_taken taken answers mid new rest)

-- ---- A follower that has begun no page is at a front.

abbrev limit : ℕ
limit = 2 ^ 32 - 1

is_at_page : (n : ℕ) → 1 ≤ n → (n == 0) ≡ false
is_at_page n from = grind (arith, nat_tests)

front_of : (book : Book) (state : Following) (rest : List FollowLine) → StandsAt limit book state rest → state.gathered ≡ [] → IsFrontOf book rest state.book
front_of book state rest (follows front more is same says) idle = subst (λ (b : Book). IsFrontOf book rest b) (sym (ap (λ (f : Following). f.book) same)) (begun more is says)
front_of book state rest (gathers front back from cells same says) idle =
    let none : front ≡ [] = sym (ap (λ (f : Following). f.gathered) same) ∙ idle in
    let are : page_cells book.page ≡ back = cells ∙ ap (λ (cs : List Cell). cs ++ back) none in
    untold (ap (λ (f : Following). f.book) same)
    (says ∙ ap (λ (cs : List Cell). cells_say cs ++ lines.Page ∷ cells_say (entry_cells (book.page.at + 1) book.entries)) (sym are)
    ∙ sym (ap (λ (b : Bool). cells_say (page_cells book.page) ++ (cond b [] (lines.Page ∷ []) ++ cells_say (entry_cells (book.page.at + 1) book.entries))) (is_at_page book.page.at from)))

front_at : (book : Book) (taken rest : List FollowLine) (answers : List (Option Answer)) (now : Following) → IsSoundBook limit book → book_says book ≡ of_book taken ++ rest
    → FollowRun taken answers now → now.gathered ≡ [] → IsFrontOf book rest now.book
front_at book taken rest answers now sound are run idle =
    front_of book now rest (lines_are_followed limit book (of_book taken) rest now (omega arith) sound are (each_taken taken answers no_line_yet now run)) idle

pub books_are_fronts : FollowedBooksAreFronts
books_are_fronts = front_at

-- ---- A pull among the lines.

-- a run, cut at a line
record IsCutAt (old : Following) (before : List FollowLine) (line : FollowLine) (answered : List (Option Answer)) (answer : Option Answer) : Type 0 where
  point : Following
  next : Following
  first : Runs old before answered point
  step : Follows point line (Ok answer) next

cut_at : (before after : List FollowLine) (line : FollowLine) (answered answers : List (Option Answer)) (answer : Option Answer) (old new : Following) → length before ≡ length answered
    → Runs old (before ++ line ∷ after) (answered ++ answer ∷ answers) new → IsCutAt old before line answered answer
cut_at [] after line [] answers answer old new same (mid, step, rest) = record { point = old; next = mid; first = refl; step = step }
cut_at [] after line (a ∷ answered) answers answer old new same run = absurd (omega (arith, same))
cut_at (l ∷ before) after line [] answers answer old new same run = absurd (omega (arith, same))
cut_at (l ∷ before) after line (a ∷ answered) answers answer old new same (mid, step, rest) =
    let cut = cut_at before after line answered answers answer mid new (omega (arith, same)) rest in
    record { point = cut.point; next = cut.next; first = (mid, step, cut.first); step = cut.step }

-- an answer that is a pull's comes of an outcome that is
outcome_is : (outcome : Outcome) (reply : PullReply) → Pulled reply ≡ answer_of outcome → outcome ≡ outcomes.Pulled reply
outcome_is (outcomes.Pulled other) reply is = cc
outcome_is (outcomes.Acted place) reply is = absurd (cc)
outcome_is (outcomes.Skipped number) reply is = absurd (cc)
outcome_is (outcomes.Retired place) reply is = absurd (cc)
outcome_is (outcomes.Closed place) reply is = absurd (cc)
outcome_is (outcomes.Refused refusal) reply is = absurd (cc)

pulled : (book : Book) (user : List ℕ) (request : PullRequest) (reply : PullReply) → AnswersOrNot book user (Ok request) (Pulled reply) → Answers book user request (outcomes.Pulled reply)
pulled book user request reply (inl (outcome, answers, is)) = subst (λ (o : Outcome). Answers book user request o) (outcome_is outcome reply is) answers
pulled book user request reply (inr refused) = absurd (cc)

-- in a book of which nothing was told no cookie names a base
no_base : (user : List ℕ) (cookie : Cookie) (view : ClientView) → IsBaseView user empty_book (base_of user cookie empty_book) view
no_base user Null view = tt
no_base user (Bare order) view = tt
no_base user (Named text order) view = tt

-- what a reply tells at the point, it shows of the followed book
shown : (book point : Book) (rest : List FollowLine) (user : List ℕ) (request : PullRequest) (reply : PullReply) → IsFrontOf book rest point → Answers point user request (outcomes.Pulled reply)
    → ReplyTells pull_json user request point reply → (view : ClientView) → IsBaseView user book (base_of user request.cookie point) view → apply reply.ops view ≡ client_view user point
shown book point rest user request reply (begun more is says) answers tells view based = fronts_are_shown book point user request reply view (more, is) answers based
shown book point rest user request reply (untold none says) answers tells view based =
    tells.shows view (subst (λ (b : Book). IsBaseView user b (base_of user request.cookie b) view) (sym none) (no_base user request.cookie view))

pub pulls_are_shown : FollowedPullsAreShown
pulls_are_shown book before after rest answered answers now user request reply sound same are run =
    let cut = cut_at before after (lines.Pull user (Ok request)) answered answers (Some (Pulled reply)) no_line_yet now same run in
    let (idle, told, stays) = cut.step in
    let answers = pulled cut.point.book user request reply told in
    let front = front_at book before rest answered cut.point sound are cut.first idle in
    let tells = answers_tell cut.point.book user request (outcomes.Pulled reply) answers reply refl in
    record { point = cut.point; run = cut.first; front = front; tells = tells; shows = shown book cut.point.book rest user request reply front answers tells }
