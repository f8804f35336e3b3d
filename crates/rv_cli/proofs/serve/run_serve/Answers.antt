use Rattle.rv_cli.specs.Commands.{HasFile}
use Rattle.rv_cli.specs.ServePromise.{serve_statuses}
use Rattle.rv_cli.proofs.Kept.{keeps}
use Rattle.rv_cli.proofs.Serving.{serve_facts, serve_sound}
use Rattle.rv_cli.proofs.serve.run_serve.Goals as goal

pub returns-clause-keeper : goal.returns-clause-keeper
returns-clause-keeper g c = (serve_facts g.P.Place g.N.Net.faults c.args.store.now c.args.options.now.accounts c.args.place.now c.serve_all.new.place c.args.net.now c.serve_all.new.net _ _ _ g.P.Kept.Keeper _ c.serve_all.ensures.serve).keeper

pub returns-clause-net : goal.returns-clause-net
returns-clause-net g c = (serve_facts g.P.Place g.N.Net.faults c.args.store.now c.args.options.now.accounts c.args.place.now c.serve_all.new.place c.args.net.now c.serve_all.new.net _ _ _ g.P.Kept.Keeper _ c.serve_all.ensures.serve).net_rose

pub returns-clause-write : goal.returns-clause-write
returns-clause-write g c = (serve_facts g.P.Place g.N.Net.faults c.args.store.now c.args.options.now.accounts c.args.place.now c.serve_all.new.place c.args.net.now c.serve_all.new.net _ _ _ g.P.Kept.Keeper _ c.serve_all.ensures.serve).write

pub returns-clause-write_told : goal.returns-clause-write_told
returns-clause-write_told g c = (serve_facts g.P.Place g.N.Net.faults c.args.store.now c.args.options.now.accounts c.args.place.now c.serve_all.new.place c.args.net.now c.serve_all.new.net _ _ _ g.P.Kept.Keeper _ c.serve_all.ensures.serve).write_told

pub returns-clause-keeps : goal.returns-clause-keeps
returns-clause-keeps g c =
    keeps g.P.Place c.args.store.now serve_statuses (HasFile (g.P.Place.accounts c.args.place.now) c.args.options.now.accounts) c.args.place.now c.serve_all.new.place _ (serve_facts g.P.Place g.N.Net.faults c.args.store.now c.args.options.now.accounts c.args.place.now c.serve_all.new.place c.args.net.now c.serve_all.new.net _ _ _ g.P.Kept.Keeper _ c.serve_all.ensures.serve).complete
    (λ told kept. serve_sound g.P.Place g.P.Kept.Keeper g.N.Net.faults c.args.store.now c.args.options.now.accounts c.args.place.now c.serve_all.new.place c.args.net.now c.serve_all.new.net _ _ _ _ told kept c.serve_all.ensures.serve)
    c.serve_all.ensures.others
    (λ steady there. let (on, never) = c.serve_all.ensures.steady_place steady there in record { goes_on = on; no_fault = never })
