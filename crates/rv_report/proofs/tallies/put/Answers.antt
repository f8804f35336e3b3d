use Rattle.std.proofs.Common.{◌∙◌, ap}
use Rattle.rv_report.specs.Shown.{shown_users}
use Rattle.rv_report.proofs.ShownLaws.{users-insert}
use Rattle.rv_report.proofs.tallies.put.Goals as goal

pub returns-in-Ok : goal.returns-in-Ok
returns-in-Ok c = ap shown_users c.in-Ok.ensures.entries ∙ users-insert c.args.tallies.now.entries c.args.user c.args.tally
