use Rattle.std.proofs.Common.{ap}
use Rattle.rv_place.proofs.Opening.{closed_crash, closed_honest, closed_kept, closed_others, closed_tells}
use Rattle.rv_place.proofs.run_place.RunPlacePlace.close_keeper.Goals as goal

pub returns-clause-tells : goal.returns-clause-tells
returns-clause-tells g c = closed_tells g.K.Keeper g.O.Opener.held c.args.name.now c.args.self.now c.take_back.new.self c.args.kept (rw (ap (λ place. place.opened) c.count_returned.ensures.rest) at c.take_back.ensures.back)

pub returns-clause-kept : goal.returns-clause-kept
returns-clause-kept g c = closed_kept g.K.Keeper g.O.Opener.held c.args.name.now c.args.self.now c.take_back.new.self c.args.kept (rw (ap (λ place. place.opened) c.count_returned.ensures.rest) at c.take_back.ensures.back)

pub returns-clause-honest : goal.returns-clause-honest
returns-clause-honest g c = closed_honest g.K.Keeper g.O.Opener.held c.args.name.now c.args.self.now c.take_back.new.self c.args.kept (rw (ap (λ place. place.opened) c.count_returned.ensures.rest) at c.take_back.ensures.back)

pub returns-clause-crash : goal.returns-clause-crash
returns-clause-crash g c = closed_crash g.K.Keeper g.O.Opener.held c.args.name.now c.args.self.now c.take_back.new.self c.args.kept (rw (ap (λ place. place.opened) c.count_returned.ensures.rest) at c.take_back.ensures.back)

pub returns-clause-others : goal.returns-clause-others
returns-clause-others g c = closed_others g.K.Keeper g.O.Opener.held c.args.name.now c.args.self.now c.take_back.new.self c.args.kept (rw (ap (λ place. place.opened) c.count_returned.ensures.rest) at c.take_back.ensures.back)
