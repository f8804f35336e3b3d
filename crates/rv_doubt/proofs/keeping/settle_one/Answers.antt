use Rattle.std.proofs.Common.{rules, refl, ◌≡◌, ◌+◌}
use Rattle.rv_book.specs.Book.{size}
use Rattle.rv_doubt.proofs.Leaving.{settled_in_step, dropped_in_step, entered_in_step}
use Rattle.rv_doubt.proofs.keeping.settle_one.Goals as goal

pub returns-then-found-kept-clause-left : goal.returns-then-found-kept-clause-left
returns-then-found-kept-clause-left g c =
    let K = g.K.Keeper in
    let old = c.args.keeper.now in
    let new = c.generation.new.self in
    let number : c.in-Ok.found ≡ size c.args.state.now.book = search rules in
    let step = dropped_in_step c.args.state.now c.args.doubt.now c.args.prepared (K.tells old) (K.tells new) (K.holds old) (K.holds new) c.in-Ok.found c.requires.none c.in-Ok.ensures.tells c.requires.in_step c.in-Ok.ensures.same c.in-Ok.ensures.told number in
    settled_in_step c.args.state.now c.args.doubt.now (K.tells new) (K.honest new) (K.holds new) (K.may_leave new) (λ honest. (c.in-Ok.ensures.honest honest).1 refl) step c.in-Ok.ensures.settled

pub returns-then-found-kept-2-clause-left : goal.returns-then-found-kept-2-clause-left
returns-then-found-kept-2-clause-left g c =
    let K = g.K.Keeper in
    let old = c.args.keeper.now in
    let new = c.generation.new.self in
    let number : c.in-Ok.found ≡ size c.args.state.now.book + 1 = search rules in
    let step = entered_in_step c.args.state.now c.enter.new.self c.args.doubt.now c.args.prepared (K.tells old) (K.tells new) (K.holds old) (K.holds new) c.in-Ok.found c.requires.none c.enter.ensures.book c.in-Ok.ensures.tells c.requires.in_step c.in-Ok.ensures.same c.in-Ok.ensures.told number in
    settled_in_step c.enter.new.self c.args.doubt.now (K.tells new) (K.honest new) (K.holds new) (K.may_leave new) (λ honest. (c.in-Ok.ensures.honest honest).1 refl) step c.in-Ok.ensures.settled
