-- What follows of a run of `follow` that is told the lines of a book: its promise is in `FollowPromise.antt` of rv_cli, which tells of such a run.
use Rattle.std.specs.Prelude.{◌≡◌, ℕ, ◌+◌, ◌-◌, ◌^◌, List, [], ◌∷◌, ◌++◌, length, Option, Some, Ok}
use Rattle.rv_book.specs.declared.entry.Entry.{Entry}
use Rattle.rv_book.specs.Book.{Book, empty_book, size, with_entries}
use Rattle.rv_history.specs.Bases.{base_of}
use Rattle.rv_history.specs.Properties.{IsBaseView, ReplyTells}
use Rattle.rv_history.specs.Patches.{ClientView, apply, client_view}
use Rattle.rv_store.specs.Opening.{IsSoundBook}
use Rattle.rv_store.specs.StoreCells.{entry_cells}
use Rattle.rv_wire.specs.Answers.{pull_json}
use Rattle.rv_turns.specs.declared.pull.PullReply.{PullReply}
use Rattle.rv_turns.specs.declared.pull.PullRequest.{PullRequest}
use Rattle.rv_answering.specs.declared.answer.Answer.{Answer}
use Rattle.rv_answering.specs.declared.answer.Answer.TheVariants.{Pulled}
use Rattle.rv_following.specs.declared.follow_line.FollowLine.{FollowLine}
use Rattle.rv_following.specs.declared.follow_line.FollowLine.TheVariants as lines
use Rattle.rv_following.specs.FollowProperties.{book_says, cells_say}
use Rattle.rv_following.specs.FollowSteps.{Following}
use Rattle.rv_cli.specs.FollowPromise.{no_line_yet}
use Rattle.rv_cli.specs.Following.{follow_lines}
use Rattle.rv_cli.specs.LineRuns.{Run}

-- a run of a follower from no line on
abbrev pub FollowRun : List FollowLine → List (Option Answer) → Following → Type 0
FollowRun taken answers now = Run follow_lines (Unit {0}) no_line_yet taken answers now

-- the lines that tell of the followed book; a pull tells nothing of it
abbrev pub of_book : List FollowLine → List FollowLine
of_book [] = []
of_book (lines.Cell cell ∷ more) = lines.Cell cell ∷ of_book more
of_book (lines.Page ∷ more) = lines.Page ∷ of_book more
of_book (lines.Pull user pull ∷ more) = of_book more

-- A book is a front of the followed one, with these of its lines to come: it has some of the entries, and those of all others are to come;
-- or nothing was told of it yet.
pub data IsFrontOf (book : Book) (rest : List FollowLine) (front : Book) : Type 0 where
  begun : (more : List Entry) → book ≡ with_entries front more → rest ≡ cells_say (entry_cells (size front + 1) more) → IsFrontOf book rest front
  untold : front ≡ empty_book → rest ≡ book_says book → IsFrontOf book rest front

-- A pull that is answered in a run: the follower that the lines before it leave has a front of the book. What is answered is what a reply
-- tells there: its patch, applied to the view that the cookie names, gives exactly what its user sees of that front, the ids are those of its
-- group there, and the order is not below the request's. The view may be one of the followed book, whoever answered with the cookie.
pub record IsShownFront (book : Book) (rest before : List FollowLine) (answered : List (Option Answer)) (user : List ℕ) (request : PullRequest) (reply : PullReply) : Type 0 where
  pub point : Following
  pub run : FollowRun before answered point
  pub front : IsFrontOf book rest point.book
  pub tells : ReplyTells pull_json user request point.book reply
  pub shows : (view : ClientView) → IsBaseView user book (base_of user request.cookie point.book) view → apply reply.ops view ≡ client_view user point.book

-- So is each, where the lines before it that tell of the book are the first of a sound book's.
abbrev pub FollowedPullsAreShown : Type 0
FollowedPullsAreShown = (book : Book) (before after rest : List FollowLine) (answered answers : List (Option Answer)) (now : Following) (user : List ℕ) (request : PullRequest) (reply : PullReply)
    → IsSoundBook (2 ^ 32 - 1) book → length before ≡ length answered → book_says book ≡ of_book before ++ rest
    → FollowRun (before ++ lines.Pull user (Ok request) ∷ after) (answered ++ Some (Pulled reply) ∷ answers) now
    → IsShownFront book rest before answered user request reply

-- Where the lines that tell of the book are the first of a sound book's, and no page is begun, the book is such a front too at their end:
-- that of which `entries N` is the length.
abbrev pub FollowedBooksAreFronts : Type 0
FollowedBooksAreFronts = (book : Book) (taken rest : List FollowLine) (answers : List (Option Answer)) (now : Following)
    → IsSoundBook (2 ^ 32 - 1) book → book_says book ≡ of_book taken ++ rest → FollowRun taken answers now → now.gathered ≡ [] → IsFrontOf book rest now.book
