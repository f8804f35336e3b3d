use Rattle.std.proofs.Common.{ap, map, ◌∙◌}
use Rattle.std.proofs.lemmas.Result.{IfOk-weaker}
use Rattle.rv_rows.specs.Held.{rows_in}
use Rattle.rv_csv.specs.Views.{view_text}
use Rattle.rv_report.proofs.ExportLaws.{rows_seen_are, seen_is_view}
use Rattle.rv_report.proofs.exporting.text_from.Goals as goal

pub returns-clause-text : goal.returns-clause-text
returns-clause-text g c =
    let read = c.in_ok-rows.ensures in
    let same = ap (map (λ pair. pair.0.now)) c.deref.ensures.value ∙ rows_seen_are c.args.user.now c.args.tables.now.rows c.in_ok-rows.rows.items c.fits.ensures read.seen read.stand in
    IfOk-weaker c.view_text.result _ _ (λ text is. is ∙ ap view_text same) c.view_text.ensures.text

pub returns-clause-view : goal.returns-clause-view
returns-clause-view g c =
    let read = c.in_ok-rows.ensures in
    let same = ap (map (λ pair. pair.0.now)) c.deref.ensures.value ∙ rows_seen_are c.args.user.now c.args.tables.now.rows c.in_ok-rows.rows.items c.fits.ensures read.seen read.stand in
    seen_is_view c.args.user.now (rows_in c.args.tables.now.rows) _ c.view_text.result same c.view_text.ensures.view
