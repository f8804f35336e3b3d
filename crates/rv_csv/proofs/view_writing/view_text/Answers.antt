use Rattle.std.proofs.Common.{◌∙◌, refl, [], arith, ap}
use Rattle.rv_csv.proofs.WriterLaws.{fresh_writer, kept, last_row, one_row, row_checked, rows_checked}
use Rattle.rv_csv.proofs.view_writing.view_text.Goals as goal

pub loop-pair-init : goal.loop-pair-init
loop-pair-init c =
    let from = c.from_writer-out.ensures in
    let fresh = fresh_writer (λ v. v.items) c.from_writer-out.result (from.cfg ∙ c.new.ensures) from.fields from.wrote (ap (λ v. v.items) from.wtr ∙ c.new-2.ensures.items) from.empty in
    record { text = (_, c.in_ok-add_record.ensures [] fresh, refl); rows = λ all. all }

pub loop-pair-preserved : goal.loop-pair-preserved
loop-pair-preserved c =
    let inv = c.loop-pair.invariant.text in
    record {
      text = (_, c.in_ok-add_row.ensures.written inv.0 inv.1, one_row c.args.rows.now c.loop-pair.pair-index c.pair-item.result inv.0 _ c.loop-pair-test.true c.pair-item.is inv.2);
      rows = λ later. c.loop-pair.invariant.rows (row_checked c.args.rows.now c.loop-pair.pair-index c.pair-item.result c.loop-pair-test.true c.pair-item.is c.in_ok-add_row.ensures.row later);
    }

pub returns-in-Ok-clause-text : goal.returns-in-Ok-clause-text
returns-in-Ok-clause-text c =
    let inv = c.loop-pair.invariant.text in
    c.from_vec.ensures ∙ kept _ inv.0 _ inv.1.holds c.in-Ok.ensures.ok ∙ last_row c.args.rows.now c.loop-pair.pair-index inv.0 _ (omega arith) inv.2

pub returns-in-Ok-clause-view : goal.returns-in-Ok-clause-view
returns-in-Ok-clause-view c = λ order. (c.loop-pair.invariant.rows (rows_checked c.args.rows.now c.loop-pair.pair-index (omega arith)), order)
