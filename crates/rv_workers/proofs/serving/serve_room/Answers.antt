use Rattle.std.proofs.Common.{subst, map}
use Rattle.rv_desk.specs.DeskStates.{DeskState}
use Rattle.rv_room.specs.declared.view.SeatView.{SeatView}
use Rattle.rv_room.specs.Closing.{Closes}
use Rattle.rv_room.specs.Seats.{view_of}
use Rattle.rv_room.specs.Views.{newcomer}
use Rattle.rv_workers.specs.Serving.{ServesSeated, IsPoked, IsServed}
use Rattle.rv_workers.proofs.Fronts.{serves_both}
use Rattle.rv_workers.proofs.serving.serve_room.Goals as goal

pub returns : goal.returns
returns g c =
    let is = c.in-Ok-open.ensures.about.1 in
    let Serves : SeatView g.row.K.Denot → g.row.L.Denot → SeatView g.row.K.Denot → g.row.L.Denot → Type 0 = IsServed g.K.Keeper g.L.Listen g.L.In.Source g.L.Out.Sink c.args.accounts.now in
    let Pokes : SeatView g.row.K.Denot → g.row.P.Denot → SeatView g.row.K.Denot → g.row.P.Denot → Type 0 = IsPoked g.K.Keeper g.P.PokeListen g.P.Link.PokeLink c.args.accounts.now in
    let views = map view_of c.serve_in-seats.result.0.list.items in
    serves_both g.K.Keeper Serves Pokes c.args.desk c.close.result c.args.listeners.items c.args.pokes.items views c.serve_in-seats.result.1.items c.serve_in-seats.result.2.items
    (subst (λ (d : DeskState g.row.K.Denot). ServesSeated Serves Pokes (newcomer 1 d) c.args.listeners.items c.args.pokes.items views c.serve_in-seats.result.1.items c.serve_in-seats.result.2.items) is c.serve_in-seats.ensures.serves)
    (subst (λ (d : DeskState g.row.K.Denot). Closes g.K.Keeper d views c.close.result) is c.close.ensures)
