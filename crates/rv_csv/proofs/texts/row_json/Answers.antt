use Rattle.std.proofs.Common.{◌∙◌}
use Rattle.rv_rows.specs.RowTexts.{row_data}
use Rattle.rv_record.proofs.WritingLaws.{text_of}
use Rattle.rv_csv.proofs.texts.row_json.Goals as goal

pub returns : goal.returns
returns c = text_of (row_data c.args.row.now) _ _ _ _ _ c.into_inner.ensures.items c.in_ok-write_row.ensures.0 c.in_ok-write_row.ensures.1 (c.new-out.ensures.before ∙ c.new.ensures.items) c.new-out.ensures.tokens
