use Rattle.std.proofs.Common.{refl, lit<}
use Rattle.rv_cli.specs.MakePromise.{make_statuses}
use Rattle.rv_cli.proofs.Kept.{as_of, made_among}
use Rattle.rv_cli.proofs.make.run_make.Goals as goal

pub returns-clause-complete : goal.returns-clause-complete
returns-clause-complete g c = as_of make_statuses _ c.write_report.result c.status.ensures (made_among make_statuses (0, lit< tt, refl) (1, lit< tt, refl) (2, lit< tt, refl) (g.O.Sink.state c.args.out.now) (g.O.Sink.state c.write_report.new.out) c.summary_of_run-summary.result c.write_report.result c.write_report.ensures.writes)
