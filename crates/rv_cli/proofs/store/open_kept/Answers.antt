use Rattle.std.proofs.Common.{refl, ◌∙◌}
use Rattle.rv_keeper.specs.StoreLaws.{others_same}
use Rattle.rv_cli.proofs.Storing.{kept_refused}
use Rattle.rv_cli.proofs.Steady.{refused_for, taken_up}
use Rattle.rv_cli.proofs.store.open_kept.Goals as goal

pub returns-in-Err-clause-opens : goal.returns-in-Err-clause-opens
returns-in-Err-clause-opens g c = rw c.of_fault.ensures (kept_refused g.P.Place g.P.Kept.Keeper c.args.store.now c.args.kept c.in-Err.keeper c.args.place.now c.close_keeper.new.self c.in-Err.fault (g.met.P.Place.tells_honestly c.close_keeper.new.self) c.in-Err.ensures
    (record { told = c.close_keeper.ensures.tells; honest = c.close_keeper.ensures.honest; held = c.close_keeper.ensures.kept; left = c.close_keeper.ensures.crash; taken = c.close_keeper.ensures.faults }))

pub returns-in-Ok-clause-others : goal.returns-in-Ok-clause-others
returns-in-Ok-clause-others g c = λ t. others_same g.P.Place.holds g.P.Place.may_leave g.P.Place.is_out g.P.Place.has g.P.Place.accounts c.args.store.now c.args.place.now

pub returns-in-Ok-clause-steady : goal.returns-in-Ok-clause-steady
returns-in-Ok-clause-steady g c = λ steady goes none. (steady, refl, (c.in-Ok.ensures.goes_on goes, c.in-Ok.ensures.still ∙ none))

pub returns-in-Err-clause-steady : goal.returns-in-Err-clause-steady
returns-in-Err-clause-steady g c = λ steady goes none.
    let (never, same) = refused_for g.P.Kept.Keeper c.args.kept c.in-Err.keeper c.in-Err.fault goes c.in-Err.ensures.0 in
    (c.close_keeper.ensures.steady steady, taken_up _ _ _ (same ∙ none) c.close_keeper.ensures.faults, rw c.of_fault.ensures never)
