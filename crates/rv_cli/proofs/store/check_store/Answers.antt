use Rattle.rv_keeper.specs.StoreLaws.{others_of, others_on}
use Rattle.rv_cli.proofs.Steady.{check_not_given, count_stays}
use Rattle.std.proofs.Common.{refl, ◌∙◌}
use Rattle.rv_cli.proofs.Reporting.{check_refused, checked_there, store_checked}
use Rattle.rv_cli.proofs.store.check_store.Goals as goal

pub returns-clause-checks : goal.returns-clause-checks
returns-clause-checks g c =
    store_checked g.P.Place g.P.Kept.Keeper c.args.store.now c.in_ok-kept.kept c.args.place.now c.open_existing.new.self c.check_kept.new.place c.check_kept.result
    c.in_ok-kept.ensures.out c.in_ok-kept.ensures.kept c.in_ok-kept.ensures.crash (g.met.P.Place.tells_honestly c.open_existing.new.self) c.in_ok-kept.ensures.fresh c.in_ok-kept.ensures.cause.still c.check_kept.ensures.checks

pub returns-clause-there : goal.returns-clause-there
returns-clause-there g c =
    checked_there g.P.Place g.P.Kept.Keeper c.args.store.now _ c.in_ok-kept.kept c.open_existing.new.self c.check_kept.new.place c.check_kept.result
    (λ t. c.in_ok-kept.ensures.there t refl) c.in_ok-kept.ensures.fresh c.check_kept.ensures.checks

pub returns-in_err-kept-clause-checks : goal.returns-in_err-kept-clause-checks
returns-in_err-kept-clause-checks g c =
    check_refused g.P.Place g.P.Kept.Keeper c.args.store.now c.args.place.now c.open_existing.new.self _ c.from_residual.result c.in_err-kept.ensures.cause c.from_residual.ensures (λ t held was. (c.in_err-kept.ensures.refused t).held c.args.store.now held was) (λ t x may. (c.in_err-kept.ensures.refused t).left c.args.store.now x may)

pub returns-clause-others : goal.returns-clause-others
returns-clause-others g c = λ t. others_on g.P.Place.holds g.P.Place.may_leave g.P.Place.is_out g.P.Place.has g.P.Place.accounts c.args.store.now c.args.place.now c.open_existing.new.self c.check_kept.new.place (c.in_ok-kept.ensures.others (c.check_kept.ensures.told t)) (c.check_kept.ensures.others t)

pub returns-clause-steady : goal.returns-clause-steady
returns-clause-steady g c = λ steady there.
    let (goes, kept) = c.in_ok-kept.ensures.steady steady in
    let (on, same, rest) = c.check_kept.ensures.steady goes.goes_on kept c.in_ok-kept.ensures.fresh in
    (on, same ∙ c.in_ok-kept.ensures.cause.still, rest)

pub returns-in_err-kept-clause-others : goal.returns-in_err-kept-clause-others
returns-in_err-kept-clause-others g c = λ t. others_of g.P.Place.holds g.P.Place.may_leave g.P.Place.is_out g.P.Place.has g.P.Place.accounts c.args.store.now c.args.place.now c.open_existing.new.self (c.in_err-kept.ensures.refused t)

pub returns-in_err-kept-clause-steady : goal.returns-in_err-kept-clause-steady
returns-in_err-kept-clause-steady g c = λ steady there.
    let goes = (c.in_err-kept.ensures.steady steady).0 in
    (goes.goes_on, count_stays _ _ _ (goes.no_fault there) c.in_err-kept.ensures.cause, check_not_given _ c.from_residual.result (goes.no_fault there) c.from_residual.ensures)

pub returns-clause-none_made : goal.returns-clause-none_made
returns-clause-none_made g c = λ t has. c.in_ok-kept.ensures.there (c.check_kept.ensures.told t) refl

pub returns-in_err-kept-clause-none_made : goal.returns-in_err-kept-clause-none_made
returns-in_err-kept-clause-none_made g c = λ t has. c.in_err-kept.ensures.none_made t c.args.store.now has
