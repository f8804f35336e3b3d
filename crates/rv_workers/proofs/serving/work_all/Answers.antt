use Rattle.std.proofs.Common.{length, drop, sym, ◌∙◌, subst}
use Rattle.rv_workers.specs.Jobs.{EachWorked}
use Rattle.rv_workers.proofs.Turned.{front, worked-length}
use Rattle.rv_workers.proofs.serving.work_all.Goals as goal

pub returns-clause-workers : goal.returns-clause-workers
returns-clause-workers g c =
    let before = c.args.workers in
    let after = c.run_all.new.jobs in
    let worked : EachWorked g.W.Job.worked before.items after = subst (λ l. EachWorked g.W.Job.worked l after) c.as_mut_slice.ensures.value c.run_all.ensures.jobs in
    let whole = front after (drop (length after) before.items) before.len (before.ok.0 ∙ sym (worked-length g.W.Job.worked before.items after worked)) in
    subst (λ l. EachWorked g.W.Job.worked before.items l) (sym whole) worked

pub returns-clause-jobs : goal.returns-clause-jobs
returns-clause-jobs g c =
    let before = c.args.jobs in
    let after = c.run_all.new.waiting in
    let worked : EachWorked g.J.Job.worked before.items after = subst (λ l. EachWorked g.J.Job.worked l after) c.as_mut_slice-2.ensures.value c.run_all.ensures.waiting in
    let whole = front after (drop (length after) before.items) before.len (before.ok.0 ∙ sym (worked-length g.J.Job.worked before.items after worked)) in
    subst (λ l. EachWorked g.J.Job.worked before.items l) (sym whole) worked
