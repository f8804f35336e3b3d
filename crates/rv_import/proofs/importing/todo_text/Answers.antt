use Rattle.std.proofs.Common.{arith}
use Rattle.rv_import.proofs.Sizes.{todo_size}
use Rattle.rv_import.proofs.importing.todo_text.Goals as goal

pub returns-clause-fits : goal.returns-clause-fits
returns-clause-fits c = todo_size c.args.user.now c.args.name.now c.args.number c.in_ok-text.ensures.fits (omega arith)
