use Rattle.rv_wire.proofs.ErrorTexts.{closed_text_is}
use Rattle.rv_wire.proofs.closing.closed_text.Goals as goal

pub returns-clause-text : goal.returns-clause-text
returns-clause-text c = rw (c.put_last.ensures.text, c.from.ensures) (closed_text_is _)
