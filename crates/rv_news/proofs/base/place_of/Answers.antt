use Rattle.std.proofs.Common.{◌∙◌, sym}
use Rattle.rv_news.proofs.BaseLaws.{read_otherwise, read_never}
use Rattle.rv_news.proofs.base.place_of.Goals as goal

pub returns-else-spells-clause-none : goal.returns-else-spells-clause-none
returns-else-spells-clause-none c = λ place. read_otherwise c.args.text.now c.in-Ok.place place c.parse.result c.in-Ok.is c.parse.ensures.value.0 (sym c.spells.ensures ∙ c.if-spells.false)

pub returns-in-Err-clause-none : goal.returns-in-Err-clause-none
returns-in-Err-clause-none c = λ place. read_never c.args.text.now place c.in-Err.field-0 c.parse.result c.in-Err.is c.parse.ensures.value.0
