use Rattle.std.proofs.Common.{◌∙◌}
use Rattle.rv_record.specs.CellTexts.{view_body}
use Rattle.rv_record.proofs.WritingLaws.{text_of, utf8_of}
use Rattle.rv_record.proofs.cells.view_text.Goals as goal

pub returns-clause-text : goal.returns-clause-text
returns-clause-text c = text_of (view_body c.args.view.now) _ _ _ _ _ (c.from_vec.ensures ∙ c.into_inner.ensures.items) c.in_ok-write_view.ensures.0 c.in_ok-write_view.ensures.1 c.in_ok-out.ensures.before c.in_ok-out.ensures.tokens

pub returns-clause-utf8 : goal.returns-clause-utf8
returns-clause-utf8 c = utf8_of _ _ _ _ (c.from_vec.ensures ∙ c.into_inner.ensures.items) c.in_ok-write_view.ensures.0 c.in_ok-out.ensures.before c.into_inner.ensures.utf8
