use Rattle.std.proofs.Common.{rules, ◌≡◌, Result, Ok, Err, ◌+◌, refl, sym, ap, ◌∙◌, subst}
use Rattle.rv_base.specs.declared.fault.Fault.{Fault}
use Rattle.rv_book.specs.declared.entry.Entry.TheVariants.{Act}
use Rattle.rv_book.specs.Book.{size}
use Rattle.rv_history.specs.Machine.{Step}
use Rattle.rv_history.specs.Served.{Next, Served, with_next}
use Rattle.rv_turns.specs.Asks.{Ask, Sender}
use Rattle.rv_turns.specs.declared.mutation.Mutation.{Mutation}
use Rattle.rv_turns.specs.declared.pushing.Outcome.{Outcome}
use Rattle.rv_turns.specs.declared.pushing.Outcome.TheVariants.{Acted}
use Rattle.rv_state.specs.Ready.{next_of}
use Rattle.rv_wire.specs.Answers.{pull_json}
use Rattle.rv_doubt.specs.Keeping.{IsKept}
use Rattle.rv_doubt.specs.Kept.{parts_served}
use Rattle.rv_desk.specs.DeskStates.{DeskState, served}
use Rattle.rv_desk.specs.Stepping.{HasStepped}
use Rattle.rv_desk.proofs.Settled.{in_step_after, kept_after, kept_ok, not_kept}
use Rattle.rv_desk.proofs.desk.Desk.act.Goals.{in-Ok, in-Err}
use Rattle.rv_desk.proofs.desk.Desk.act.Goals as goal

pub keep-requires-clause-in_step : goal.keep-requires-clause-in_step
keep-requires-clause-in_step g c =
    let none = ap (λ (desk : DeskState g.row.K.Denot). desk.doubt) c.self.view_is ∙ c.requires.settled in
    in_step_after c.self.inside.state c.prepare_act.new.self c.self.inside.doubt (g.K.Keeper.tells c.self.inside.keeper) (g.K.Keeper.holds c.self.inside.keeper) none c.prepare_act.ensures.book c.self.invariant.0

pub returns-clause-stepped : goal.returns-clause-stepped
returns-clause-stepped g c =
    let from : Sender = record { user = c.args.user.now; group = c.args.group.now } in
    let m : Mutation = record { client = c.args.client.now; id = c.args.id; call = c.args.call } in
    let next = Next.entry (Act from.user from.group m.client m.id m.call) in
    let old = served g.K.Keeper.faults c.args.self.now in
    let new = parts_served c.keep.new.state c.keep.new.doubt (g.K.Keeper.faults c.keep.new.keeper) in
    let entered = Acted (c.len-place.result + 1) in
    let step : Step pull_json old.limit old.book (Ask.mutation from m) entered (with_next old.book next) = (c.requires.takes, search rules, search rules, search rules, refl) in
    let kept : (result : Result (Unit {0}) Fault) → IsKept (parts_served c.prepare_act.new.self c.self.inside.doubt (g.K.Keeper.faults c.self.inside.keeper)) (next_of c.in_ok-prepared.prepared) result new → IsKept old next result new = λ result kept.
    subst (λ (old : Served). IsKept old next result new) (ap (served g.K.Keeper.faults) c.self.view_is)
    (kept_after c.self.inside.state c.prepare_act.new.self c.self.inside.doubt (g.K.Keeper.faults c.self.inside.keeper) next (next_of c.in_ok-prepared.prepared) result new c.prepare_act.ensures.book c.prepare_act.ensures.limit c.in_ok-prepared.ensures.entry kept) in
    elim c.match-keep.branch [
      | in-Ok w ↦ subst (λ (result : Result Outcome Fault). HasStepped old (Ask.mutation from m) result new) (sym w.result-is) (kept_ok (Ask.mutation from m) entered next old new tt refl step (kept (Ok tt) w.in-Ok.ensures.kept))
      | in-Err w ↦ subst (λ (result : Result Outcome Fault). HasStepped old (Ask.mutation from m) result new) (sym w.result-is) (not_kept (Ask.mutation from m) entered next old new w.in-Err.fault refl tt step (c.requires.takes, search rules, search rules) (kept (Err w.in-Err.fault) w.in-Err.ensures.kept))
    ]
