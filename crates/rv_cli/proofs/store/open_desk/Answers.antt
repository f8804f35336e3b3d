use Rattle.std.proofs.Common.{◌∙◌}
use Rattle.rv_keeper.specs.StoreLaws.{others_of, others_on}
use Rattle.rv_cli.proofs.Steady.{count_stays, desk_not_given}
use Rattle.rv_cli.proofs.Storing.{store_opened, store_refused, told_before, told_refused}
use Rattle.rv_cli.proofs.store.open_desk.Goals as goal

pub returns-clause-opens : goal.returns-clause-opens
returns-clause-opens g c =
    store_opened g.P.Place g.P.Kept.Keeper c.args.store.now c.in_ok-kept.kept c.args.place.now c.open_keeper.new.self c.open_kept.new.place c.open_kept.result
    c.in_ok-kept.ensures.out c.in_ok-kept.ensures.kept c.in_ok-kept.ensures.crash (g.met.P.Place.tells_honestly c.open_keeper.new.self) c.in_ok-kept.ensures.fresh c.in_ok-kept.ensures.cause.still c.open_kept.ensures.opens

pub returns-in_err-kept-clause-opens : goal.returns-in_err-kept-clause-opens
returns-in_err-kept-clause-opens g c =
    store_refused g.P.Place g.P.Kept.Keeper c.args.store.now c.args.place.now c.open_keeper.new.self _ c.from_residual.result c.in_err-kept.ensures.cause c.from_residual.ensures (λ t held was. (c.in_err-kept.ensures.refused t).held c.args.store.now held was) (λ t x may. (c.in_err-kept.ensures.refused t).left c.args.store.now x may)

pub returns-clause-told : goal.returns-clause-told
returns-clause-told g c = told_before g.P.Place g.P.Kept.Keeper c.args.store.now c.in_ok-kept.kept c.args.place.now c.open_keeper.new.self c.open_kept.new.place c.open_kept.result c.in_ok-kept.ensures.tells c.in_ok-kept.ensures.fresh c.open_kept.ensures.opens

pub returns-in_err-kept-clause-told : goal.returns-in_err-kept-clause-told
returns-in_err-kept-clause-told g c = told_refused g.P.Place g.P.Kept.Keeper c.args.store.now c.args.place.now c.open_keeper.new.self c.from_residual.result c.from_residual.ensures.0 c.in_err-kept.ensures.tells

pub returns-clause-others : goal.returns-clause-others
returns-clause-others g c = λ t. others_on g.P.Place.holds g.P.Place.may_leave g.P.Place.is_out g.P.Place.has g.P.Place.accounts c.args.store.now c.args.place.now c.open_keeper.new.self c.open_kept.new.place (c.in_ok-kept.ensures.others (c.open_kept.ensures.told t)) (c.open_kept.ensures.others t)

pub returns-clause-steady : goal.returns-clause-steady
returns-clause-steady g c = λ steady.
    let (goes, kept) = c.in_ok-kept.ensures.steady steady in
    let (on, same, rest) = c.open_kept.ensures.steady goes.goes_on kept c.in_ok-kept.ensures.fresh in
    (on, same ∙ c.in_ok-kept.ensures.cause.still, rest)

pub returns-in_err-kept-clause-others : goal.returns-in_err-kept-clause-others
returns-in_err-kept-clause-others g c = λ t. others_of g.P.Place.holds g.P.Place.may_leave g.P.Place.is_out g.P.Place.has g.P.Place.accounts c.args.store.now c.args.place.now c.open_keeper.new.self (c.in_err-kept.ensures.refused t)

pub returns-in_err-kept-clause-steady : goal.returns-in_err-kept-clause-steady
returns-in_err-kept-clause-steady g c = λ steady.
    let goes = (c.in_err-kept.ensures.steady steady).0 in
    (goes.goes_on, count_stays _ _ _ (goes.no_fault tt) c.in_err-kept.ensures.cause, desk_not_given _ _ _ c.from_residual.result (goes.no_fault tt) c.from_residual.ensures)
