-- One request of a run at a desk, and all of them.
use Rattle.std.specs.Prelude.{◌≡◌, ℕ, List, false}
use Rattle.rv_desk.specs.DeskStates.{DeskTakes, DeskState, served}
use Rattle.rv_keeper.specs.declared.keeper.Keeper.{Ghosts}
use Rattle.rv_turns.specs.declared.pushing.Outcome.{Outcome}
use Rattle.rv_make.specs.declared.counts.AnswerCounts.{AnswerCounts}
use Rattle.rv_make.specs.declared.devices.Device.{Device}
use Rattle.rv_make.specs.declared.made.MadeRequest.{MadeRequest}
use Rattle.rv_make.specs.declared.three.Three.{Three}
use Rattle.rv_make.specs.Answered.{answers_of, counts_after, lacked_memory}
use Rattle.rv_make.specs.Asking.{ask_for, devices_after}
use Rattle.rv_make.specs.Plays.{first_scene, TakesRequests}
use Rattle.rv_make.specs.Requests.{requests}

-- The desk takes its turn, what came of it is counted, and its device keeps the cookie that was answered.
pub record PlaysOne {K : Type 0} (G : Ghosts K) (old : DeskState K) (devices : Three Device) (counts : AnswerCounts) (request : MadeRequest) (new : DeskState K) (later : Three Device) (more : AnswerCounts) : Type 0 where
  pub outcome : Outcome
  pub turn : DeskTakes G old (ask_for request devices) outcome new
  pub memory : lacked_memory outcome ≡ false
  pub counted : more ≡ counts_after counts outcome
  pub kept : later ≡ devices_after request outcome devices

-- The desk took the turns of the first requests that the seed makes, from the first scene on, and these are the counts of what came of them.
pub record PlaysAll {K : Type 0} (G : Ghosts K) (seed n : ℕ) (devices : Three Device) (counts : AnswerCounts) (desk : DeskState K) : Type 0 where
  pub outcomes : List Outcome
  pub run : TakesRequests first_scene (requests seed n) outcomes (record { server = served G.faults desk; devices = devices })
  pub counted : counts ≡ answers_of outcomes
