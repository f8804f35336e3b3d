use Rattle.rv_import.proofs.Sizes.{group_size}
use Rattle.rv_import.proofs.importing.group_text.Goals as goal

pub returns-clause-fits : goal.returns-clause-fits
returns-clause-fits c = group_size c.args.user.now (c.as_str.ensures.low, c.as_str.ensures.high)
