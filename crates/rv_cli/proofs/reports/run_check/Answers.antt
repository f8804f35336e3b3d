use Rattle.rv_cli.specs.Change.{change}
use Rattle.rv_cli.specs.ReportPromise.{report_statuses}
use Rattle.rv_cli.proofs.Kept.{as_of, keeps, refused_keeps, sound_among, sound_undamaged}
use Rattle.rv_cli.proofs.Steady.{not_four, sound_is_none}
use Rattle.std.proofs.Common.{inr, sym, ◌∙◌, refl, lit<}
use Rattle.rv_cli.proofs.Reporting.{has_checked}
use Rattle.rv_cli.proofs.Storing.{refused_fails}
use Rattle.rv_cli.proofs.reports.run_check.Goals as goal

pub returns-in-Ok-clause-report : goal.returns-in-Ok-clause-report
returns-in-Ok-clause-report g c = (
  c.report_sound.result,
  c.status.ensures,
  inr (has_checked g.P.Place c.args.store.now c.args.place.now c.check_store.new.place c.in-Ok.entries
      (g.O.Sink.state c.args.out.now) (g.O.Sink.state c.report_sound.new.out) c.report_sound.result c.in-Ok.ensures.checks c.report_sound.ensures.writes),
)

pub returns-in-Ok-clause-keeps : goal.returns-in-Ok-clause-keeps
returns-in-Ok-clause-keeps g c =
    keeps g.P.Place c.args.store.now report_statuses (g.P.Place.has c.args.place.now c.args.store.now) c.args.place.now c.check_store.new.place _ (as_of report_statuses _ c.report_sound.result c.status.ensures (sound_among report_statuses (0, lit< tt, refl) (3, lit< tt, refl) (g.O.Sink.state c.args.out.now) (g.O.Sink.state c.report_sound.new.out) c.in-Ok.entries c.report_sound.result c.report_sound.ensures.writes))
    (λ told kept. sound_undamaged _ (g.O.Sink.state c.args.out.now) (g.O.Sink.state c.report_sound.new.out) c.in-Ok.entries c.report_sound.result c.status.ensures c.report_sound.ensures.writes)
    c.check_store.ensures.others
    (λ steady there.
    let (on, same, free) = c.in-Ok.ensures.steady steady there in
    record { goes_on = on; no_fault = λ is. not_four c.report_sound.result (sound_is_none (g.O.Sink.state c.args.out.now) (g.O.Sink.state c.report_sound.new.out) c.in-Ok.entries c.report_sound.result c.report_sound.ensures.writes) (sym c.status.ensures ∙ is) })

pub returns-in-Err-clause-keeps : goal.returns-in-Err-clause-keeps
returns-in-Err-clause-keeps g c =
    refused_keeps g.P.Place c.args.store.now report_statuses (g.P.Place.has c.args.place.now c.args.store.now) c.args.place.now c.check_store.new.place (1, lit< tt, refl) (2, lit< tt, refl) (4, lit< tt, refl) c.in-Err.ending _ c.in-Err.ensures.checks.0 c.refuse_opening.ensures.status
    c.check_store.ensures.others (λ steady there. let (on, same, never) = c.in-Err.ensures.steady steady there in (on, never))

pub returns-in-Ok-clause-still : goal.returns-in-Ok-clause-still
returns-in-Ok-clause-still g c = λ steady there. let (on, same, free) = c.in-Ok.ensures.steady steady there in same

pub returns-in-Err-clause-still : goal.returns-in-Err-clause-still
returns-in-Err-clause-still g c = λ steady there. let (on, same, never) = c.in-Err.ensures.steady steady there in same

pub returns-in-Ok-clause-none : goal.returns-in-Ok-clause-none
returns-in-Ok-clause-none g c = record {
  there = λ t done. c.in-Ok.ensures.there t refl;
  none_made = λ t has. c.in-Ok.ensures.there t refl;
}

pub returns-in-Err-clause-none : goal.returns-in-Err-clause-none
returns-in-Err-clause-none g c = record {
  there = λ t done. absurd (refused_fails (change g.P.Place c.args.store.now c.args.place.now c.check_store.new.place) c.in-Err.ending _ c.in-Err.ensures.checks.0 c.refuse_opening.ensures.status done);
  none_made = c.in-Err.ensures.none_made;
}
