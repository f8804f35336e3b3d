-- One line, and its answer.
use Rattle.std.specs.Prelude.{◌≡◌, Some}
use Rattle.std.specs.Io.KnownBytes.{Appends}
use Rattle.rv_base.specs.Causes.{Rose}
use Rattle.rv_base.specs.Outside.{OutputState}
use Rattle.rv_base.specs.Writes.{AppendsFront}
use Rattle.rv_keeper.specs.declared.keeper.Keeper.{Ghosts}
use Rattle.rv_history.specs.Served.{Served}
use Rattle.rv_desk.specs.DeskStates.{DeskState, served}
use Rattle.rv_answering.specs.declared.answer.Answer.{Answer}
use Rattle.rv_answering.specs.declared.line.Line.{Line}
use Rattle.rv_cli.specs.declared.ending.Ending.{Ending}
use Rattle.rv_cli.specs.declared.ending.Ending.TheVariants.{Done, Write}
use Rattle.rv_cli.specs.Texts.{text_of}
use Rattle.rv_cli.specs.Headline.{TakesLine}
use Rattle.rv_cli.specs.Feeding.{IsLeftWith}

-- the answer to one line, and the keeper that is left
pub record Replies {K : Type 0} (G : Ghosts K) (old : DeskState K) (line : Line) (told : Answer × K) : Type 0 where
  pub new : Served
  pub step : TakesLine (G.tells told.1) (served G.faults old) line (Some told.0) new
  pub left : IsLeftWith G new told.1
  pub before : G.tells told.1 → G.tells old.keeper

-- the answer was written, or a front of it
abbrev pub WritesReply : OutputState → OutputState → Answer → Ending → Type 0
WritesReply before now answer Done = Appends before.written now.written (text_of answer) × (now.faults ≡ before.faults)
WritesReply before now answer Write = AppendsFront before.written now.written (text_of answer) × Rose before.faults now.faults
WritesReply before now answer ending = ⊥
