use Rattle.std.proofs.Common.{◌∙◌, ap}
use Rattle.rv_report.specs.Shown.{shown_groups}
use Rattle.rv_report.proofs.ShownLaws.{groups-insert}
use Rattle.rv_report.proofs.tallies.put_group.Goals as goal

pub returns-in-Ok : goal.returns-in-Ok
returns-in-Ok c = ap shown_groups c.in-Ok.ensures.keys ∙ groups-insert c.args.groups.now.keys c.args.group
