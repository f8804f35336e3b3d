use Rattle.rv_import.proofs.Sizes.{client_size}
use Rattle.rv_import.proofs.importing.client_text.Goals as goal

pub returns-clause-fits : goal.returns-clause-fits
returns-clause-fits c = client_size c.args.user.now c.args.name.now c.in_ok-text.ensures.fits (c.as_str.ensures.low, c.as_str.ensures.high)
