use Rattle.rv_workers.proofs.Positions.{each_worked}
use Rattle.rv_workers.proofs.running.run_all.Goals as goal

pub returns-clause-jobs : goal.returns-clause-jobs
returns-clause-jobs g c = each_worked g.J.Job.worked _ _ c.run_by.ensures.jobs

pub returns-clause-waiting : goal.returns-clause-waiting
returns-clause-waiting g c = each_worked g.W.Job.worked _ _ c.run_by.ensures.waiting
