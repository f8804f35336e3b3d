-- How many entries the walks of a pull have: the rows and clients of its base's view, and those of what is seen now.
use Rattle.std.specs.Prelude.{ℕ, ◌+◌, List, length, Option, Some, None, option_and_then}
use Rattle.rv_rows.specs.Sharing.{seen}
use Rattle.rv_book.specs.Book.{Book, ids, up_to}
use Rattle.rv_turns.specs.Asks.{Ask}
use Rattle.rv_turns.specs.declared.pull.PullRequest.{PullRequest}
use Rattle.rv_history.specs.Bases.{base_group, base_of}
use Rattle.rv_history.specs.Replay.{rows_of}

-- the rows that a user sees at a book, and the clients of a group
abbrev pub view_steps : List ℕ → List ℕ → Book → ℕ
view_steps user group book = length (seen user (rows_of book)) + length (ids group book)

-- the same at the look of a base, of that look's own group; none without a base
abbrev pub base_steps : List ℕ → Book → Option (ℕ × List ℕ) → ℕ
base_steps user book None = 0
base_steps user book (Some base) = view_steps user base.1 (up_to base.0 book)

-- the entries of the view at the pull's base, and of the view now
abbrev pub pull_steps : List ℕ → PullRequest → Book → ℕ
pull_steps user request book = base_steps user book (option_and_then (base_group book) (base_of user request.cookie book)) + view_steps user request.group book

-- the same of a turn: what is asked for otherwise walks none of this
abbrev pub turn_steps : Ask → Book → ℕ
turn_steps (Ask.pull user request) book = pull_steps user request book
turn_steps ask book = 0
