-- What follows of listeners that are served side by side.
use Rattle.std.specs.Prelude.{ℕ, ◌≤◌, ◌<◌, ◌^◌, List, Ok, Contains}
use Rattle.std.specs.List.{AllByRecursion}
use Rattle.rv_base.specs.declared.outside.Source.{Ghosts as SourceGhosts}
use Rattle.rv_base.specs.declared.outside.Sink.{Ghosts as SinkGhosts}
use Rattle.rv_accounts.specs.File.{AccountsServed}
use Rattle.rv_book.specs.Book.{Book, size, Extends}
use Rattle.rv_keeper.specs.declared.keeper.Keeper.{Ghosts}
use Rattle.rv_history.specs.Clients.{ClientPull, IsClient, IsCurrent, held_then}
use Rattle.rv_wire.specs.Answers.{pull_json}
use Rattle.rv_history.specs.Properties.{IsEntered, ReplyShows}
use Rattle.rv_history.specs.Served.{IsSound}
use Rattle.rv_desk.specs.DeskStates.{DeskState, served}
use Rattle.rv_answering.specs.declared.answer.Answer.{Answer}
use Rattle.rv_answering.specs.declared.answer.Answer.TheVariants.{Pushed, Pulled}
use Rattle.rv_answering.specs.declared.request.Request.TheVariants.{Push, Pull}
use Rattle.rv_answering.specs.Requests.{Parsed}
use Rattle.rv_answering.specs.Steps.{Handles}
use Rattle.rv_net.specs.declared.listen.Listen.{Ghosts as ListenGhosts}
use Rattle.rv_room.specs.declared.view.SeatView.{SeatView}
use Rattle.rv_room.specs.Views.{newcomer}
use Rattle.rv_workers.specs.Serving.{ServesTogether}
use Rattle.rv_cli.specs.Serving.{Serves, StandsIn, turns_served}
use Rattle.rv_laws.specs.Reads.{AllRead}
use Rattle.rv_room.specs.SeatTurns.{IsSeatTurn}
use Rattle.rv_wire.specs.declared.push.Push as pushes

-- A pull was answered by a turn of a seat, at a point of the book at the end that goes on from what the seat had seen.
pub record IsServedPull {K : Type 0} (G : Ghosts K) (book : Book) (user : List ℕ) (pull : ClientPull) : Type 0 where
  pub old : SeatView K
  pub new : SeatView K
  pub step : Handles (IsSeatTurn G) old (Ok (Pull user pull.request)) (Pulled pull.reply) new
  pub point : Book
  pub since : Extends point old.seen
  pub tells : ReplyShows pull_json user pull.request point new.seen pull.reply
  pub within : Extends book new.seen

-- and it left the client with what its user sees there
pub record FollowsIn {K : Type 0} (G : Ghosts K) (book : Book) (user : List ℕ) (pull : ClientPull) : Type 0 where
  pub served : IsServedPull G book user pull
  pub current : IsCurrent user pull.request.group served.point (held_then pull)

-- The push was answered at the end of a turn of a seat, and the pull at a point of the book at the end; where that point is not before that
-- end, the pull reads the push there.
pub record ReadsIn {K : Type 0} (G : Ghosts K) (book : Book) (user reader : List ℕ) (push : pushes.Push) (pull : ClientPull) : Type 0 where
  pub wrote : StandsIn G book (Ok (Push user push), Pushed)
  pub served : IsServedPull G book reader pull
  pub reads : size wrote.new.seen ≤ size served.point → AllRead user push served.point

module _ {K L I O : Type 0} (G : Ghosts K) (listen : ListenGhosts L I O) (source : SourceGhosts I) (sink : SinkGhosts O) (accounts : AccountsServed) where
  -- these listeners were served at the desk that was opened, which was closed as this one
  abbrev pub Together : DeskState K → List L → DeskState K → List L → Type 0
  Together opened givens now backs = ServesTogether G (Serves G listen source sink accounts) opened givens now backs

  -- all that was asked, with its answers
  abbrev pub turns_in : (opened : DeskState K) (givens : List L) (now : DeskState K) (backs : List L) → Together opened givens now backs → List (Parsed × Answer)
  turns_in opened givens now backs together =
      turns_served G listen source sink accounts (newcomer 1 opened) givens together.views backs together.serves

  -- something holds of all that were served so, where the desk that was closed is sound, by all that was asked
  abbrev pub OfAllSound : (DeskState K → List (Parsed × Answer) → Type 0) → Type 0
  OfAllSound Holds = (opened now : DeskState K) (givens backs : List L) (together : Together opened givens now backs) → IsSound (served G.faults now) → Holds now (turns_in opened givens now backs together)

  -- Each mutation of a push that was not refused stands in the book at the end; but for an id of 0, which is skipped and stands nowhere.
  abbrev pub ServedPushesStand : Type 0
  ServedPushesStand = OfAllSound (λ now turns. (user : List ℕ) (push : pushes.Push) → Contains turns (Ok (Push user push), Pushed)
      → AllByRecursion (λ m. 1 ≤ m.id → IsEntered (record { user = user; group = push.group }) now.book m) push.mutations)

  -- A client that begins with nothing, and whose pulls were answered over any of the connections, holds after each of them what its user
  -- sees at a point of the book at the end.
  abbrev pub ServedClientsFollow : Type 0
  ServedClientsFollow = OfAllSound (λ now turns. size now.book < 2 ^ 64 → (user : List ℕ) (pulls : List ClientPull) → IsClient pulls
      → AllByRecursion (λ pull. Contains turns (Ok (Pull user pull.request), Pulled pull.reply)) pulls → AllByRecursion (FollowsIn G now.book user) pulls)

  -- What one seat answered to a push each seat reads that answers a pull at the book as it was then, or at a longer one.
  abbrev pub ServedWritesAreRead : Type 0
  ServedWritesAreRead = OfAllSound (λ now turns. (user reader : List ℕ) (push : pushes.Push) (pull : ClientPull) → Contains turns (Ok (Push user push), Pushed) → Contains turns (Ok (Pull reader pull.request), Pulled pull.reply)
      → ReadsIn G now.book user reader push pull)
