use Rattle.std.proofs.Common.{Option, ap, ◌∙◌}
use Rattle.std.specs.Option.{unwrap_or}
use Rattle.rv_report.specs.declared.tally.Tally.{Tally}
use Rattle.rv_report.specs.Tallies.{no_entries}
use Rattle.rv_report.proofs.ShownLaws.{tally_read}
use Rattle.rv_report.proofs.tallies.tally.Goals as goal

pub returns-in-Some : goal.returns-in-Some
returns-in-Some c = ap (λ (o : Option Tally). unwrap_or o no_entries) c.in-Some.ensures.value ∙ tally_read c.args.user.now c.args.tallies.now.entries

pub returns-in-None : goal.returns-in-None
returns-in-None c = c.new.ensures ∙ ap (λ (o : Option Tally). unwrap_or o no_entries) c.in-None.ensures.value ∙ tally_read c.args.user.now c.args.tallies.now.entries
