use Rattle.std.proofs.Common.{subst, sym, List, ℕ}
use Rattle.rv_standby.specs.Shipping.{Ships}
use Rattle.rv_standby.proofs.Shipped.{done, ships_then}
use Rattle.rv_standby.proofs.PageShipped.{from_clients, from_groups, from_place, from_rows, last_fails, part_fails, texts_whole, wrote, wrote_some}
use Rattle.rv_standby.proofs.shipping.ship_page.Goals as goal

pub returns-in_err-ship_place-clause-ships : goal.returns-in_err-ship_place-clause-ships
returns-in_err-ship_place-clause-ships g c = part_fails _ _ _ _ _ _ _ c.from_residual.ensures.1 (from_place c.args.page.now c.requires) c.in_err-ship_place.ensures.ships

pub returns-in_err-ship_rows-clause-ships : goal.returns-in_err-ship_rows-clause-ships
returns-in_err-ship_rows-clause-ships g c =
    let so = ships_then _ _ _ _ _ _ c.in_ok-ship_place.ensures.ships (rw c.as_slice.ensures at c.in_err-ship_rows.ensures.ships) in
    part_fails _ _ _ _ _ _ _ c.from_residual-in_err-ship_rows.ensures.1 (from_rows c.args.page.now c.requires) so

pub returns-in_err-ship_clients-clause-ships : goal.returns-in_err-ship_clients-clause-ships
returns-in_err-ship_clients-clause-ships g c =
    let rows = ships_then _ _ _ done _ _ c.in_ok-ship_place.ensures.ships (rw c.as_slice.ensures at c.in_ok-ship_rows.ensures.ships) in
    let so = ships_then _ _ _ _ _ _ rows (rw c.as_slice-2.ensures at c.in_err-ship_clients.ensures.ships) in
    part_fails _ _ _ _ _ _ _ c.from_residual-in_err-ship_clients.ensures.1 (from_clients c.args.page.now c.requires) so

pub returns-in_err-ship_groups-clause-ships : goal.returns-in_err-ship_groups-clause-ships
returns-in_err-ship_groups-clause-ships g c =
    let rows = ships_then _ _ _ done _ _ c.in_ok-ship_place.ensures.ships (rw c.as_slice.ensures at c.in_ok-ship_rows.ensures.ships) in
    let clients = ships_then _ _ _ done _ _ rows (rw c.as_slice-2.ensures at c.in_ok-ship_clients.ensures.ships) in
    let so = ships_then _ _ _ _ _ _ clients (rw c.as_slice-3.ensures at c.in_err-ship_groups.ensures.ships) in
    part_fails _ _ _ _ _ _ _ c.from_residual-in_err-ship_groups.ensures.1 (from_groups c.args.page.now c.requires) so

pub returns-in_err-write_all-clause-ships : goal.returns-in_err-write_all-clause-ships
returns-in_err-write_all-clause-ships g c =
    let rows = ships_then _ _ _ done _ _ c.in_ok-ship_place.ensures.ships (rw c.as_slice.ensures at c.in_ok-ship_rows.ensures.ships) in
    let clients = ships_then _ _ _ done _ _ rows (rw c.as_slice-2.ensures at c.in_ok-ship_clients.ensures.ships) in
    let groups = ships_then _ _ _ done _ _ clients (rw c.as_slice-3.ensures at c.in_ok-ship_groups.ensures.ships) in
    let so = ships_then _ _ _ _ _ _ groups (wrote_some _ _ _ _ c.in_err-write_all.ensures.writes) in
    last_fails _ _ _ _ _ _ c.from_residual-in_err-write_all.ensures.1 (from_groups c.args.page.now c.requires) so

pub returns-clause-ships : goal.returns-clause-ships
returns-clause-ships g c =
    let rows = ships_then _ _ _ done _ _ c.in_ok-ship_place.ensures.ships (rw c.as_slice.ensures at c.in_ok-ship_rows.ensures.ships) in
    let clients = ships_then _ _ _ done _ _ rows (rw c.as_slice-2.ensures at c.in_ok-ship_clients.ensures.ships) in
    let groups = ships_then _ _ _ done _ _ clients (rw c.as_slice-3.ensures at c.in_ok-ship_groups.ensures.ships) in
    let so = ships_then _ _ _ done _ _ groups (wrote _ _ _ _ c.in_ok-write_all.ensures.writes) in
    subst (λ (t : List ℕ). Ships (g.O.Sink.state c.args.out.now) (g.O.Sink.state c.write_all.new.out) done t) (sym (from_groups c.args.page.now c.requires)) so

pub returns-clause-texts : goal.returns-clause-texts
returns-clause-texts g c =
    let rows = rw c.as_slice.ensures at c.in_ok-ship_rows.ensures.texts in
    let clients = rw c.as_slice-2.ensures at c.in_ok-ship_clients.ensures.texts in
    let groups = rw c.as_slice-3.ensures at c.in_ok-ship_groups.ensures.texts in
    texts_whole c.args.page.now c.requires c.in_ok-ship_place.ensures.texts rows clients groups
