use Rattle.std.proofs.Common.{◌∙◌, ap, refl}
use Rattle.rv_book.specs.Book.{size}
use Rattle.rv_doubt.proofs.Holding.{left_entered, left_in_doubt}
use Rattle.rv_doubt.proofs.Leaving.{settled_in_step, left_where_it_failed, left_as_before}
use Rattle.rv_doubt.proofs.keeping.keep.Goals as goal

pub returns-in-Ok-clause-in_step : goal.returns-in-Ok-clause-in_step
returns-in-Ok-clause-in_step g c =
    let made = rw c.deref.ensures.value at c.in-Ok.ensures.made in
    let from = c.from-from.ensures ∙ c.len.ensures.value ∙ ap size c.book.ensures.book in
    left_entered c.args.state.now c.enter.new.self c.args.doubt.now c.args.prepared (g.K.Keeper.tells c.args.keeper.now) (g.K.Keeper.tells c.commit.new.self) (g.K.Keeper.holds c.args.keeper.now) (g.K.Keeper.holds c.commit.new.self)
    c.from-from.result c.in_ok-changes.changes.items c.requires.settled c.enter.ensures.book c.requires.prepared c.in-Ok.ensures.tells c.requires.in_step from c.in_ok-changes.ensures.leads made

pub returns-in-Err-Failed-clause-in_step : goal.returns-in-Err-Failed-clause-in_step
returns-in-Err-Failed-clause-in_step g c =
    let made = rw (c.in-Err-Failed.field-0-is, c.deref.ensures.value) at c.in-Err-Failed.ensures.made in
    let from = c.from-from.ensures ∙ c.len.ensures.value ∙ ap size c.book.ensures.book in
    left_in_doubt c.args.state.now c.leave_in_doubt.new.doubt c.args.doubt.now c.args.prepared (g.K.Keeper.tells c.args.keeper.now) (g.K.Keeper.tells c.commit.new.self) (g.K.Keeper.holds c.args.keeper.now) (g.K.Keeper.holds c.commit.new.self)
    c.from-from.result c.in_ok-changes.changes.items c.leave_in_doubt.ensures c.requires.settled c.requires.prepared c.in-Err-Failed.ensures.tells c.requires.in_step from c.in_ok-changes.ensures.leads made

pub returns-in-Ok-clause-left : goal.returns-in-Ok-clause-left
returns-in-Ok-clause-left g c =
    let K = g.K.Keeper in
    settled_in_step c.enter.new.self c.args.doubt.now (K.tells c.commit.new.self) (K.honest c.commit.new.self) (K.holds c.commit.new.self) (K.may_leave c.commit.new.self)
    (λ honest. (c.in-Ok.ensures.honest honest).1 refl) (returns-in-Ok-clause-in_step g c) c.in-Ok.ensures.settled

pub returns-in-Err-Failed-clause-left : goal.returns-in-Err-Failed-clause-left
returns-in-Err-Failed-clause-left g c =
    let K = g.K.Keeper in
    let more = rw c.deref.ensures.value at c.in-Err-Failed.ensures.crash in
    let from = c.from-from.ensures ∙ c.len.ensures.value ∙ ap size c.book.ensures.book in
    left_where_it_failed c.args.state.now c.leave_in_doubt.new.doubt c.args.doubt.now c.args.prepared (K.tells c.args.keeper.now) (K.honest c.args.keeper.now) (K.honest c.commit.new.self) (K.holds c.args.keeper.now) (K.may_leave c.args.keeper.now) (K.may_leave c.commit.new.self)
    c.from-from.result c.in_ok-changes.changes.items c.leave_in_doubt.ensures c.requires.settled c.requires.prepared (λ honest. (c.in-Err-Failed.ensures.honest honest).0) c.requires.in_step c.requires.left from c.in_ok-changes.ensures.leads more

pub returns-in-Err-Memory-clause-left : goal.returns-in-Err-Memory-clause-left
returns-in-Err-Memory-clause-left g c =
    let K = g.K.Keeper in
    let memory = rw c.in-Err-Memory.field-0-is at c.in-Err-Memory.ensures.memory in
    left_as_before c.args.state.now c.args.doubt.now (K.honest c.args.keeper.now) (K.honest c.commit.new.self) (K.may_leave c.args.keeper.now) (K.may_leave c.commit.new.self)
    (λ honest. (c.in-Err-Memory.ensures.honest honest).0) c.requires.left (λ honest. memory honest refl)
