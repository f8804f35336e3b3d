use Rattle.rv_place.proofs.Opening.{opened_crash, opened_fresh, opened_honest, opened_kept, opened_others, opened_out, opened_refused, opened_tells}
use Rattle.rv_place.proofs.run_place.RunPlacePlace.open_existing.Goals as goal

pub returns-clause-tells : goal.returns-clause-tells
returns-clause-tells g c = opened_tells g.K.Keeper g.O.Opener.held c.args.name.now c.args.self.now c.open_found.new.self c.open_found.result c.open_found.ensures.opens

pub returns-clause-kept : goal.returns-clause-kept
returns-clause-kept g c told = opened_kept g.K.Keeper g.O.Opener.held c.args.name.now c.args.self.now c.open_found.new.self c.open_found.result c.open_found.ensures.opens

pub returns-clause-out : goal.returns-clause-out
returns-clause-out g c told = opened_out g.K.Keeper g.O.Opener.held c.args.name.now c.args.self.now c.open_found.new.self c.open_found.result c.open_found.ensures.opens

pub returns-clause-honest : goal.returns-clause-honest
returns-clause-honest g c = opened_honest g.K.Keeper g.O.Opener.held c.args.name.now c.args.self.now c.open_found.new.self c.open_found.result c.open_found.ensures.opens

pub returns-clause-crash : goal.returns-clause-crash
returns-clause-crash g c honest = opened_crash g.K.Keeper g.O.Opener.held c.args.name.now c.args.self.now c.open_found.new.self c.open_found.result c.open_found.ensures.opens

pub returns-clause-fresh : goal.returns-clause-fresh
returns-clause-fresh g c = opened_fresh g.K.Keeper g.O.Opener.held c.args.name.now c.args.self.now c.open_found.new.self c.open_found.result c.open_found.ensures.opens

pub returns-clause-others : goal.returns-clause-others
returns-clause-others g c = opened_others g.K.Keeper g.O.Opener.held c.args.name.now c.args.self.now c.open_found.new.self c.open_found.result c.open_found.ensures.opens

pub returns-clause-refused : goal.returns-clause-refused
returns-clause-refused g c = opened_refused g.K.Keeper g.O.Opener.held c.args.name.now c.args.self.now c.open_found.new.self c.open_found.result c.open_found.ensures.opens
