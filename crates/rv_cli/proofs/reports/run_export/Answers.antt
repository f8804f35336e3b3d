use Rattle.rv_cli.specs.Change.{change}
use Rattle.rv_cli.specs.ReportPromise.{report_statuses}
use Rattle.rv_cli.proofs.Kept.{as_of, keeps, made_among, made_undamaged, refused_keeps}
use Rattle.rv_cli.proofs.Steady.{made_is_none, not_four, taken_up}
use Rattle.rv_keeper.specs.StoreLaws.{others_on}
use Rattle.std.proofs.Common.{inr, ◌≡◌, ◌∙◌, ap, sym, refl, lit<}
use Rattle.rv_cli.specs.Headline.{ReportsView, WritesWhole}
use Rattle.rv_rows.specs.Held.{rows_in}
use Rattle.rv_rows.specs.Sharing.{seen}
use Rattle.rv_csv.specs.Views.{view_text}
use Rattle.rv_cli.proofs.Reporting.{has_reported, if_ok, on_ok, reports_made}
use Rattle.rv_cli.proofs.Storing.{refused_fails}
use Rattle.rv_cli.proofs.reports.run_export.Goals as goal

pub returns-in-Ok-clause-report : goal.returns-in-Ok-clause-report
returns-in-Ok-clause-report g c = (
  c.write_report.result,
  c.status.ensures,
  inr (has_reported g.P.Place g.P.Kept.Keeper c.args.store.now (WritesWhole (ReportsView c.args.user.now)) c.args.place.now c.open_existing_desk.new.place c.close_keeper.new.self c.in-Ok.desk c.close.result
      (g.O.Sink.state c.args.out.now) (g.O.Sink.state c.write_report.new.out) c.write_report.result
      c.in-Ok.ensures.opens c.close.ensures.keeper c.close.ensures.kept c.close.ensures.sound (record { told = c.close_keeper.ensures.tells; honest = c.close_keeper.ensures.honest; held = c.close_keeper.ensures.kept; left = c.close_keeper.ensures.crash; taken = c.close_keeper.ensures.faults })
      (reports_made (ReportsView c.args.user.now c.in-Ok.desk.book) c.export_text-report.result (g.O.Sink.state c.args.out.now) (g.O.Sink.state c.write_report.new.out) c.write_report.result (λ text is. (c.tables.result.now.rows, c.tables.ensures, on_ok _ c.export_text-report.result text c.export_text-report.ensures.view is, if_ok (λ t. t ≡ view_text (seen c.args.user.now (rows_in c.tables.result.now.rows))) c.export_text-report.result text c.export_text-report.ensures.text is)) c.write_report.ensures.writes)),
)

pub returns-in-Ok-clause-keeps : goal.returns-in-Ok-clause-keeps
returns-in-Ok-clause-keeps g c =
    keeps g.P.Place c.args.store.now report_statuses (g.P.Place.has c.args.place.now c.args.store.now) c.args.place.now c.close_keeper.new.self _ (as_of report_statuses _ c.write_report.result c.status.ensures (made_among report_statuses (0, lit< tt, refl) (3, lit< tt, refl) (4, lit< tt, refl) (g.O.Sink.state c.args.out.now) (g.O.Sink.state c.write_report.new.out) c.export_text-report.result c.write_report.result c.write_report.ensures.writes))
    (λ told kept. made_undamaged _ (g.O.Sink.state c.args.out.now) (g.O.Sink.state c.write_report.new.out) c.export_text-report.result c.write_report.result c.status.ensures c.write_report.ensures.writes)
    (λ t. others_on g.P.Place.holds g.P.Place.may_leave g.P.Place.is_out g.P.Place.has g.P.Place.accounts c.args.store.now c.args.place.now c.open_existing_desk.new.place c.close_keeper.new.self (c.open_existing_desk.ensures.others (c.close_keeper.ensures.tells t).0) (c.close_keeper.ensures.others t))
    (λ steady there.
    let (on, same, desk) = c.in-Ok.ensures.steady steady there in
    record { goes_on = c.close_keeper.ensures.steady on; no_fault = λ is. not_four c.write_report.result (made_is_none (g.O.Sink.state c.args.out.now) (g.O.Sink.state c.write_report.new.out) c.export_text-report.result c.write_report.result c.write_report.ensures.writes) (sym c.status.ensures ∙ is) })

pub returns-in-Err-clause-keeps : goal.returns-in-Err-clause-keeps
returns-in-Err-clause-keeps g c =
    refused_keeps g.P.Place c.args.store.now report_statuses (g.P.Place.has c.args.place.now c.args.store.now) c.args.place.now c.open_existing_desk.new.place (1, lit< tt, refl) (2, lit< tt, refl) (4, lit< tt, refl) c.in-Err.ending _ c.in-Err.ensures.opens.0 c.refuse_opening.ensures.status
    c.open_existing_desk.ensures.others (λ steady there. let (on, same, never) = c.in-Err.ensures.steady steady there in (on, never))

pub returns-in-Ok-clause-still : goal.returns-in-Ok-clause-still
returns-in-Ok-clause-still g c = λ steady there.
    let (on, same, (goes, fresh)) = c.in-Ok.ensures.steady steady there in
    taken_up _ _ _ (ap g.P.Kept.Keeper.faults c.close.ensures.keeper ∙ fresh) c.close_keeper.ensures.faults ∙ same

pub returns-in-Err-clause-still : goal.returns-in-Err-clause-still
returns-in-Err-clause-still g c = λ steady there. let (on, same, never) = c.in-Err.ensures.steady steady there in same

pub returns-in-Ok-clause-none : goal.returns-in-Ok-clause-none
returns-in-Ok-clause-none g c = record {
  there = λ t done. c.in-Ok.ensures.there (c.close_keeper.ensures.tells t).0 refl;
  none_made = λ t has. c.in-Ok.ensures.there (c.close_keeper.ensures.tells t).0 refl;
}

pub returns-in-Err-clause-none : goal.returns-in-Err-clause-none
returns-in-Err-clause-none g c = record {
  there = λ t done. absurd (refused_fails (change g.P.Place c.args.store.now c.args.place.now c.open_existing_desk.new.place) c.in-Err.ending _ c.in-Err.ensures.opens.0 c.refuse_opening.ensures.status done);
  none_made = c.in-Err.ensures.none_made;
}
