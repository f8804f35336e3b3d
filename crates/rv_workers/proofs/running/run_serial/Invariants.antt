use Rattle.std.proofs.Common.{◌≡◌, ℕ, ◌<◌, ◌≤◌, length, get_or}
use Rattle.rv_workers.proofs.running.run_serial.Given as goal

abbrev pub invariant-loop-job : goal.invariant-loop-job
invariant-loop-job g l = ((k : ℕ) (d : g.row.J.Denot) → k < l.job-index → g.J.Job.worked (get_or l.fn.jobs k d) (get_or l.jobs k d))
    × ((k : ℕ) (d : g.row.J.Denot) → l.job-index ≤ k → k < length l.fn.jobs → get_or l.jobs k d ≡ get_or l.fn.jobs k d)
