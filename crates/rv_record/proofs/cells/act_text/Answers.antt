use Rattle.std.proofs.Common.{◌∙◌}
use Rattle.rv_book.specs.declared.entry.Entry.TheVariants.{Act}
use Rattle.rv_record.specs.EntryTexts.{entry_data}
use Rattle.rv_record.proofs.WritingLaws.{text_of, utf8_of}
use Rattle.rv_record.proofs.cells.act_text.Goals as goal

pub returns-clause-text : goal.returns-clause-text
returns-clause-text c = text_of (entry_data (Act c.args.user.now c.args.group.now c.args.client.now c.args.id c.args.call.now)) _ _ _ _ _ (c.from_vec.ensures ∙ c.into_inner.ensures.items) c.in_ok-write_act.ensures.0 c.in_ok-write_act.ensures.1 c.in_ok-out.ensures.before c.in_ok-out.ensures.tokens

pub returns-clause-utf8 : goal.returns-clause-utf8
returns-clause-utf8 c = utf8_of _ _ _ _ (c.from_vec.ensures ∙ c.into_inner.ensures.items) c.in_ok-write_act.ensures.0 c.in_ok-out.ensures.before c.into_inner.ensures.utf8
