use Rattle.std.proofs.Common.{arith}
use Rattle.rv_cli.proofs.Serving.{all_back}
use Rattle.rv_cli.proofs.serve.serve_net.Goals as goal

pub serve_listeners-served-requires-clause-few : goal.serve_listeners-served-requires-clause-few
serve_listeners-served-requires-clause-few g c κs within =
    let few = c.in-Ok.ensures.few.0 in
    let whole = c.in-Ok.given.0.ok.0 in
    omega arith

pub serve_listeners-served-requires-clause-few_pokes : goal.serve_listeners-served-requires-clause-few_pokes
serve_listeners-served-requires-clause-few_pokes g c κs within =
    let few = c.in-Ok.ensures.few.1 in
    let whole = c.in-Ok.given.1.ok.0 in
    omega arith

pub give_back-requires-clause-listeners : goal.give_back-requires-clause-listeners
give_back-requires-clause-listeners g c κs within = λ told.
    let back = (all_back g.K.Keeper _ _ c.args.desk c.serve_listeners-served.result.desk c.in-Ok.given.0.items c.in-Ok.given.1.items c.serve_listeners-served.result.listeners.items c.serve_listeners-served.result.pokes.items c.serve_listeners-served.result.served c.serve_listeners-served.ensures).0 in
    let out = (c.in-Ok.ensures.given told).0.out in
    omega arith

pub give_back-requires-clause-pokes : goal.give_back-requires-clause-pokes
give_back-requires-clause-pokes g c κs within = λ told.
    let back = (all_back g.K.Keeper _ _ c.args.desk c.serve_listeners-served.result.desk c.in-Ok.given.0.items c.in-Ok.given.1.items c.serve_listeners-served.result.listeners.items c.serve_listeners-served.result.pokes.items c.serve_listeners-served.result.served c.serve_listeners-served.ensures).1 in
    let out = (c.in-Ok.ensures.given told).1.out in
    omega arith
