-- Laws of runs of a server: what is told later was told before, so a run is one of what is told later.
use Rattle.std.proofs.Common.{ℕ, List, Option, Some, None, refl, arith}
use Rattle.rv_history.specs.Served.{Served}
use Rattle.rv_desk.specs.DeskStates.{DeskState, served}
use Rattle.rv_answering.specs.declared.answer.Answer.{Answer}
use Rattle.rv_answering.specs.declared.line.Line.{Line}
use Rattle.rv_answering.specs.declared.line.Line.TheVariants.{Asks, Stop}
use Rattle.rv_answering.specs.Requests.{Parsed}
use Rattle.rv_cli.specs.Headline.{TakesLine, TakesStep, Reopens, Run, served_lines}
use Rattle.rv_cli.specs.Feeding.{StandsAs}
use Rattle.rv_cli.specs.LineTaking.{TakesLater}
use Rattle.rv_cli.specs.LineRunLaws as line_runs

reopens_later : (Told Now : Type 0) → (Now → Told) → (old new : Served) → Reopens Told old new → Reopens Now old new
reopens_later Told Now then old new r = record { sound = r.sound; limit = r.limit; doubt = r.doubt; faults = r.faults; settled = λ now. r.settled (then now) }

pub step_later : (Told Now : Type 0) → (Now → Told) → (old new : Served) (asked : Parsed) (answer : Answer) → TakesStep Told old asked answer new → TakesStep Now old asked answer new
step_later Told Now then old new asked answer taken = record { step = taken.step; near = λ now. taken.near (then now) }

pub takes_later : (Told Now : Type 0) → (Now → Told) → (old new : Served) (line : Line) (answer : Option Answer) → TakesLine Told old line answer new → TakesLine Now old line answer new
takes_later Told Now then old new (Asks asked) (Some answer) taken = step_later Told Now then old new asked answer taken
takes_later Told Now then old new Stop None taken = reopens_later Told Now then old new taken
takes_later Told Now then old new (Asks asked) None taken = absurd taken
takes_later Told Now then old new Stop (Some answer) taken = absurd taken

pub run_later : (Told Now : Type 0) → (Now → Told) → (lines : List Line) (answers : List (Option Answer)) (first new : Served) → Run Told first lines answers new → Run Now first lines answers new
run_later Told Now then = line_runs.run_later served_lines Told Now (takes_later Told Now then)

-- ---- Of a desk that takes lines.

pub desk_takes_later : {K : Type 0} (tells : K → Type 0) (old new : DeskState K) → (tells new.keeper → tells old.keeper) → TakesLater served_lines (tells old.keeper) (tells new.keeper)
desk_takes_later tells old new then = takes_later (tells old.keeper) (tells new.keeper) then

pub desk_stands : {K : Type 0} (faults : K → ℕ) (desk : DeskState K) → StandsAs faults (served faults desk) desk
desk_stands faults desk = record { book = refl; limit = refl; doubt = refl; later = omega arith }
