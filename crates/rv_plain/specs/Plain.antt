-- The plain server, as contracts see it: a book under a limit, without a keeper.
use Rattle.std.specs.Prelude.{◌≡◌, ◌+◌, ◌<◌, ℕ, List, [], Option, Some, None}
use Rattle.rv_rows.specs.declared.call.Call.{Call}
use Rattle.rv_rows.specs.Changes.{after}
use Rattle.rv_rows.specs.Held.{Stored}
use Rattle.rv_turns.specs.Asks.{Ask, Sender}
use Rattle.rv_turns.specs.declared.pushing.Outcome.{Outcome}
use Rattle.rv_book.specs.declared.entry.Entry.{Entry}
use Rattle.rv_book.specs.declared.entry.Entry.TheVariants.{Act, Look, Retire}
use Rattle.rv_book.specs.declared.page.Page.{Page}
use Rattle.rv_book.specs.Book.{Book, book_from, last, size}
use Rattle.rv_book.specs.Indexes.{LastsFit}
use Rattle.rv_history.specs.Machine.{Step, TakesMutation}
use Rattle.rv_history.specs.Replay.{IsReplay}
use Rattle.rv_wire.specs.Answers.{pull_json}

-- the book, and how long it may be
pub record Plain : Type 0 where
  pub book : Book
  pub limit : ℕ

-- A page on which a book may go on: its rows stand in the order of their keys, with versions up to its place; and no last mutation id is above it.
pub record PageFits (page : Page) : Type 0 where
  pub rows : IsReplay (book_from page []) page.rows
  pub lasts : LastsFit page

-- A mutation of a client with this id, whatever it calls: it is the next and it is within the limit; or this comes of it, and the book stays.
abbrev pub Hinders : Plain → Sender → List ℕ → ℕ → Option Outcome → Type 0
Hinders plain from client id None = TakesMutation from client plain.book × (id ≡ last client plain.book + 1) × (size plain.book < plain.limit)
Hinders plain from client id (Some outcome) = (call : Call) → Step pull_json plain.limit plain.book (Ask.mutation from (record { client = client; id = id; call = call })) outcome plain.book

-- the rows with their versions after one more entry, at this place
abbrev pub stored_after : ℕ → List Stored → Entry → List Stored
stored_after place stored (Act user group client id call) = after stored user call place
stored_after place stored (Look user group order base) = stored
stored_after place stored (Retire group) = stored
