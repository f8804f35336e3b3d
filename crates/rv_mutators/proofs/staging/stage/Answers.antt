use Rattle.std.proofs.Common.{◌∙◌, ap}
use Rattle.rv_rows.specs.Held.{rows_in}
use Rattle.rv_rows.specs.Effects.{effect}
use Rattle.rv_mutators.specs.Staging.{with_staged}
use Rattle.rv_mutators.specs.declared.staged.Staged.{Staged}
use Rattle.rv_mutators.proofs.Applied.{applied-changes}
use Rattle.rv_mutators.proofs.staging.stage.Goals as goal

pub returns-clause-effect : goal.returns-clause-effect
returns-clause-effect c version =
    let stored = c.args.tables.now.rows in
    ap (λ (s : Staged). with_staged version s stored) c.in_ok-staged.ensures ∙ applied-changes version stored (effect (rows_in stored) c.args.user.now c.args.call.now) c.fits.ensures
