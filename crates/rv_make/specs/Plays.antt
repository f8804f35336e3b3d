-- Runs of the requests that a seed makes, over a server whose book was empty.
use Rattle.std.specs.Prelude.{◌≡◌, ℕ, ◌-◌, ◌^◌, List, [], ◌∷◌, None, false, length}
use Rattle.rv_rows.specs.Held.{Stored}
use Rattle.rv_book.specs.Book.{Book, empty_book, size}
use Rattle.rv_turns.specs.Outcomes.{trouble_of}
use Rattle.rv_turns.specs.declared.pushing.Outcome.{Outcome}
use Rattle.rv_wire.specs.Answers.{pull_json}
use Rattle.rv_history.specs.Replay.{IsReplay}
use Rattle.rv_history.specs.Served.{Served, TakesTurn}
use Rattle.rv_make.specs.declared.counts.AnswerCounts.{AnswerCounts}
use Rattle.rv_make.specs.declared.devices.Device.{Device}
use Rattle.rv_make.specs.declared.made.MadeRequest.{MadeRequest}
use Rattle.rv_make.specs.declared.summary.Summary.{Summary}
use Rattle.rv_make.specs.declared.three.Three.{Three}
use Rattle.rv_make.specs.Answered.{answers_of, lacked_memory}
use Rattle.rv_make.specs.Asking.{ask_for, devices_after}
use Rattle.rv_make.specs.Devices.{first_devices}
use Rattle.rv_make.specs.Requests.{requests}

-- a server, and the devices of those who ask it
pub record Scene : Type 0 where
  pub server : Served
  pub devices : Three Device

-- A request is taken in one turn, with this outcome. Memory is not refused, and there is no trouble with what keeps the book.
pub record TakesRequest (old : Scene) (request : MadeRequest) (outcome : Outcome) (new : Scene) : Type 0 where
  pub turn : TakesTurn pull_json old.server (ask_for request old.devices) outcome new.server
  pub memory : lacked_memory outcome ≡ false
  pub trouble : trouble_of outcome ≡ None
  pub devices : new.devices ≡ devices_after request outcome old.devices

-- requests are taken in order, each with its outcome
abbrev pub TakesRequests : Scene → List MadeRequest → List Outcome → Scene → Type 0
TakesRequests old [] [] new = new ≡ old
TakesRequests old (request ∷ requests) (outcome ∷ outcomes) new = (mid : Scene) × TakesRequest old request outcome mid × TakesRequests mid requests outcomes new
TakesRequests old [] (outcome ∷ outcomes) new = ⊥
TakesRequests old (request ∷ requests) [] new = ⊥

-- The book is empty and takes as many entries as a book may, nothing is in doubt, and no fault came.
abbrev pub fresh : Served
fresh = record { book = empty_book; limit = 2 ^ 32 - 1; doubt = None; faults = 0 }

-- nothing was asked yet
abbrev pub first_scene : Scene
first_scene = record { server = fresh; devices = first_devices }

-- The summary of so many requests, of which so many were answered how: the last book has these entries, and leaves these rows.
pub record IsSummary (requests : ℕ) (counts : AnswerCounts) (last : Book) (summary : Summary) : Type 0 where
  pub all : summary.requests ≡ requests
  pub acted : summary.acted ≡ counts.acted
  pub skipped : summary.skipped ≡ counts.skipped
  pub looks : summary.looks ≡ counts.looks
  pub same : summary.same ≡ counts.same
  pub entries : summary.entries ≡ size last
  pub stored : List Stored
  pub replay : IsReplay last stored
  pub rows : summary.rows ≡ length stored

-- A run takes the first requests that the seed makes, from a fresh server, and this is its summary.
pub record Plays (seed n : ℕ) (summary : Summary) : Type 0 where
  pub outcomes : List Outcome
  pub last : Scene
  pub run : TakesRequests first_scene (requests seed n) outcomes last
  pub told : IsSummary n (answers_of outcomes) last.server.book summary
