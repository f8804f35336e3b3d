use Rattle.rv_cli.proofs.Taking.{not_restarted, refused_steady, restarted, restarted_steady}
use Rattle.rv_cli.proofs.line.restart.Goals as goal

pub returns-in-Ok-clause-restarts : goal.returns-in-Ok-clause-restarts
returns-in-Ok-clause-restarts g c = restarted g.K.Keeper c.args.desk.now c.reopen.new.self c.in-Ok.ensures

pub returns-in-Err-clause-restarts : goal.returns-in-Err-clause-restarts
returns-in-Err-clause-restarts g c = rw c.of_fault.ensures (not_restarted g.K.Keeper c.args.desk.now c.reopen.new.self c.in-Err.fault c.in-Err.ensures)

pub returns-in-Ok-clause-steady_keeper : goal.returns-in-Ok-clause-steady_keeper
returns-in-Ok-clause-steady_keeper g c = λ f. restarted_steady g.K.Keeper c.args.desk.now c.reopen.new.self c.in-Ok.ensures f

pub returns-in-Err-clause-steady_keeper : goal.returns-in-Err-clause-steady_keeper
returns-in-Err-clause-steady_keeper g c = λ f. rw c.of_fault.ensures (refused_steady g.K.Keeper c.args.desk.now c.reopen.new.self c.in-Err.fault c.in-Err.ensures f)
