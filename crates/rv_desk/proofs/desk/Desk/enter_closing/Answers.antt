use Rattle.std.proofs.Common.{rules, ◌≡◌, Result, Ok, Err, ◌<◌, ◌+◌, refl, sym, subst}
use Rattle.rv_base.specs.declared.fault.Fault.{Fault}
use Rattle.rv_book.specs.Book.{size}
use Rattle.rv_state.specs.Ready.{next_of}
use Rattle.rv_turns.specs.Asks.{Ask}
use Rattle.rv_turns.specs.declared.pushing.Outcome.{Outcome}
use Rattle.rv_turns.specs.declared.pushing.Outcome.TheVariants.{Closed}
use Rattle.rv_wire.specs.Answers.{pull_json}
use Rattle.rv_history.specs.Machine.{Step}
use Rattle.rv_history.specs.Served.{with_next}
use Rattle.rv_doubt.specs.Kept.{parts_served}
use Rattle.rv_desk.specs.DeskStates.{DeskState, served}
use Rattle.rv_desk.specs.Stepping.{HasStepped}
use Rattle.rv_desk.proofs.Settled.{closing_steps, kept_ok, not_kept}
use Rattle.rv_desk.proofs.desk.Desk.enter_closing.Goals.{in-Ok, in-Err}
use Rattle.rv_desk.proofs.desk.Desk.enter_closing.Goals as goal

pub returns-clause-stepped : goal.returns-clause-stepped
returns-clause-stepped g c =
    let state = c.self.inside.state in
    let old = parts_served state c.self.inside.doubt (g.K.Keeper.faults c.self.inside.keeper) in
    let new = parts_served c.keep.new.state c.keep.new.doubt (g.K.Keeper.faults c.keep.new.keeper) in
    let below : size state.book < state.limit = subst (λ (desk : DeskState g.row.K.Denot). size desk.book < desk.limit) (sym c.self.view_is) c.requires.within_limit in
    let next = next_of c.in_ok-prepared.prepared in
    let place = c.len-place.result + 1 in
    let at : place ≡ size state.book + 1 = search rules in
    let step : Step pull_json old.limit old.book Ask.closing (Closed place) (with_next old.book next) = closing_steps old next place c.in_ok-prepared.ensures.closes c.in_ok-prepared.ensures.prepared.lawful below at in
    subst (λ (desk : DeskState g.row.K.Denot). HasStepped (served g.K.Keeper.faults desk) Ask.closing c.match-keep.result new) c.self.view_is
    (elim c.match-keep.branch [
      | in-Ok w ↦ subst (λ (result : Result Outcome Fault). HasStepped old Ask.closing result new) (sym w.result-is) (kept_ok Ask.closing (Closed place) next old new tt refl step w.in-Ok.ensures.kept)
      | in-Err w ↦ subst (λ (result : Result Outcome Fault). HasStepped old Ask.closing result new) (sym w.result-is) (not_kept Ask.closing (Closed place) next old new w.in-Err.fault refl c.in_ok-prepared.ensures.closes step below w.in-Err.ensures.kept)
    ])
