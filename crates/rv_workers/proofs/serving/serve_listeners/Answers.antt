use Rattle.std.proofs.Common.{arith}
use Rattle.rv_workers.proofs.Nobody.{serves_none}
use Rattle.rv_workers.proofs.serving.serve_listeners.Goals as goal

pub returns-in-Some-eq0 : goal.returns-in-Some-eq0
returns-in-Some-eq0 g c =
    let none = c.in-Some-eq0.field-0-test in
    let sum = c.in-Some-eq0.ensures.1 in
    let workers = c.len-workers.ensures in
    let jobs = c.len-jobs.ensures in
    let listeners = c.args.listeners.ok.0 in
    let pokes = c.args.pokes.ok.0 in
    serves_none g.K.Keeper _ _ c.args.desk c.args.listeners.items c.args.pokes.items c.requires.settled (omega arith)
