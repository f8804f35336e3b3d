use Rattle.std.proofs.Common.{◌≡◌, ◌<◌, ◌^◌, [], None, ap, ◌∙◌, sym, subst, arith}
use Rattle.rv_book.specs.Book.{size}
use Rattle.rv_desk.specs.DeskStates.{served}
use Rattle.rv_history.specs.Served.{IsNoClosing, Settles}
use Rattle.rv_history.specs.TurnLaws.{turn_no_closing}
use Rattle.rv_turns.specs.Asks.{ask_of}
use Rattle.rv_wire.specs.Answers.{pull_json}
use Rattle.rv_room.specs.Ends.{end_view}
use Rattle.rv_room.specs.FollowingLaws.{follows_on}
use Rattle.rv_room.specs.Plays.{Knows}
use Rattle.rv_room.proofs.Ending.{goes_with, turn_adds, taken_entry, taken_of, taken_follows, taken_settles, ended_settles, ended_within, held_within, settled_more}
use Rattle.rv_room.proofs.room.Room.turned_counted.Goals as goal

pub end-requires-clause-of : goal.end-requires-clause-of
end-requires-clause-of g c =
    let now = c.take_settled-outcome.new.self in
    taken_of g.K.Keeper c.args.seat.now.token.me.0 c.begin-desk.result now c.begin-desk.new.token.me c.begin-desk.ensures.view c.begin-desk.ensures.of (c.take_settled-outcome.ensures.turn.turn.limit ∙ c.settle.ensures.settled.limit)
    (turn_no_closing pull_json (ask_of c.args.asked) c.take_settled-outcome.result (served g.K.Keeper.faults c.settle.new.self) (served g.K.Keeper.faults now) c.requires.asks (subst IsNoClosing (sym c.in-Ok.ensures.settled.settled.1) tt) c.take_settled-outcome.ensures.turn.turn)
    (follows_on g.K.Keeper _ _ _ (goes_with g.K.Keeper _ _ _ c.settle.ensures.assured c.settle.ensures.settled.later) (goes_with g.K.Keeper _ _ _ c.take_settled-outcome.ensures.turn.assured c.take_settled-outcome.ensures.turn.turn.later))

pub end-requires-clause-doubt : goal.end-requires-clause-doubt
end-requires-clause-doubt g c = taken_entry g.K.Keeper c.args.seat.now.token.me.0 c.begin-desk.result c.begin-desk.new.token.me c.begin-desk.ensures.view c.begin-desk.ensures.of

pub end-requires-clause-follows : goal.end-requires-clause-follows
end-requires-clause-follows g c =
    let now = c.take_settled-outcome.new.self in
    taken_follows g.K.Keeper c.args.seat.now.token.me.0 c.begin-desk.result c.begin-desk.new.token.me now.keeper c.begin-desk.ensures.view
    (follows_on g.K.Keeper _ _ _ (goes_with g.K.Keeper _ _ _ c.settle.ensures.assured c.settle.ensures.settled.later) (goes_with g.K.Keeper _ _ _ c.take_settled-outcome.ensures.turn.assured c.take_settled-outcome.ensures.turn.turn.later))

pub end-requires-clause-settled : goal.end-requires-clause-settled
end-requires-clause-settled g c =
    let mid = c.settle.new.self in
    let now = c.take_settled-outcome.new.self in
    let st : Settles c.begin-desk.result.book c.begin-desk.result.doubt mid.book × (mid.doubt ≡ None) × (g.K.Keeper.faults mid.keeper ≡ g.K.Keeper.faults c.begin-desk.result.keeper) = c.in-Ok.ensures.settled.settled in (
      mid.book,
      c.len-settled.ensures.value ∙ ap size c.book-in-Ok.ensures.book,
      taken_settles g.K.Keeper c.args.seat.now.token.me.0 c.begin-desk.result c.begin-desk.new.token.me mid.book c.begin-desk.ensures.view st.0,
      turn_adds (served g.K.Keeper.faults mid) (ask_of c.args.asked) c.take_settled-outcome.result (served g.K.Keeper.faults now) c.requires.asks st.1 c.take_settled-outcome.ensures.turn.turn,
    )

pub end_held-requires-clause-of : goal.end_held-requires-clause-of
end_held-requires-clause-of g c =
    taken_of g.K.Keeper c.args.seat.now.token.me.0 c.begin-desk.result c.settle.new.self c.begin-desk.new.token.me c.begin-desk.ensures.view c.begin-desk.ensures.of c.settle.ensures.settled.limit
    (subst IsNoClosing (sym c.in-Err.ensures.settled.settled.stays.1) c.begin-desk.ensures.of.2.doubt)
    (goes_with g.K.Keeper _ _ _ c.settle.ensures.assured c.settle.ensures.settled.later)

pub end_held-requires-clause-follows : goal.end_held-requires-clause-follows
end_held-requires-clause-follows g c =
    taken_follows g.K.Keeper c.args.seat.now.token.me.0 c.begin-desk.result c.begin-desk.new.token.me c.settle.new.self.keeper c.begin-desk.ensures.view (goes_with g.K.Keeper _ _ _ c.settle.ensures.assured c.settle.ensures.settled.later)

pub returns-in-Ok-clause-turn : goal.returns-in-Ok-clause-turn
returns-in-Ok-clause-turn g c =
    let M : Type 0 = Knows g.row.K.Denot in
    let mid = c.settle.new.self in
    let now = c.take_settled-outcome.new.self in
    let st : Settles c.begin-desk.result.book c.begin-desk.result.doubt mid.book × (mid.doubt ≡ None) × (g.K.Keeper.faults mid.keeper ≡ g.K.Keeper.faults c.begin-desk.result.keeper) = c.in-Ok.ensures.settled.settled in
    let m = c.begin-desk.new.token.me in
    let eq : c.end.new.token.me ≡ (end_view m.0 mid.book now.book now.doubt now.keeper, []) =
    c.end.ensures.ended mid.book (c.len-settled.ensures.value ∙ ap size c.book-in-Ok.ensures.book) (taken_settles g.K.Keeper c.args.seat.now.token.me.0 c.begin-desk.result m mid.book c.begin-desk.ensures.view st.0)
    (turn_adds (served g.K.Keeper.faults mid) (ask_of c.args.asked) c.take_settled-outcome.result (served g.K.Keeper.faults now) c.requires.asks st.1 c.take_settled-outcome.ensures.turn.turn) in
    ended_within g.K.Keeper c.args.seat.now.token.me.0 c.begin-desk.result mid now m (ask_of c.args.asked) c.take_settled-outcome.result c.end.new.token.me.0 c.requires.asks c.begin-desk.ensures.view c.begin-desk.ensures.of c.begin-desk.ensures.begins c.begin-desk.ensures.later
    c.settle.result c.in-Ok.is c.settle.ensures.settled c.settle.ensures.assured c.take_settled-outcome.ensures.turn (ap (λ (m : M). m.0) eq) c.args.steps.now c.take_settled-outcome.new.steps c.take_settled-outcome.ensures.most

pub returns-in-Err-clause-turn : goal.returns-in-Err-clause-turn
returns-in-Err-clause-turn g c =
    let M : Type 0 = Knows g.row.K.Denot in
    held_within g.K.Keeper c.args.seat.now.token.me.0 c.begin-desk.result c.settle.new.self c.begin-desk.new.token.me (ask_of c.args.asked) c.end_held.new.token.me.0 c.in-Err.trouble c.requires.asks c.begin-desk.ensures.view c.begin-desk.ensures.of c.begin-desk.ensures.begins c.begin-desk.ensures.later
    c.settle.result c.in-Err.is c.settle.ensures.settled c.settle.ensures.assured c.settle.ensures.kept (ap (λ (m : M). m.0) c.end_held.ensures.ended) c.args.steps.now

pub invariant_of-seat : goal.invariant_of-seat
invariant_of-seat g c =
    let M : Type 0 = Knows g.row.K.Denot in
    let mid = c.settle.new.self in
    let now = c.take_settled-outcome.new.self in
    let st : Settles c.begin-desk.result.book c.begin-desk.result.doubt mid.book × (mid.doubt ≡ None) × (g.K.Keeper.faults mid.keeper ≡ g.K.Keeper.faults c.begin-desk.result.keeper) = c.in-Ok.ensures.settled.settled in
    let m = c.begin-desk.new.token.me in
    let eq : c.end.new.token.me ≡ (end_view m.0 mid.book now.book now.doubt now.keeper, []) =
    c.end.ensures.ended mid.book (c.len-settled.ensures.value ∙ ap size c.book-in-Ok.ensures.book) (taken_settles g.K.Keeper c.args.seat.now.token.me.0 c.begin-desk.result m mid.book c.begin-desk.ensures.view st.0)
    (turn_adds (served g.K.Keeper.faults mid) (ask_of c.args.asked) c.take_settled-outcome.result (served g.K.Keeper.faults now) c.requires.asks st.1 c.take_settled-outcome.ensures.turn.turn) in record {
      idle = (ap (λ (m : M). m.0.waits) eq, ap (λ (m : M). m.0.turns) eq);
      one = ap (λ (m : M). m.0.parts) eq ∙ (ap (λ (m : M). m.0.parts) c.begin-desk.ensures.view.1 ∙ c.args.seat.now.one);
      bare = ap (λ (m : M). m.1) eq;
    }

pub overflow_sub-result : goal.overflow_sub-result
overflow_sub-result g c =
    let more = settled_more c.begin-desk.result.book c.begin-desk.result.doubt c.settle.new.self.book c.begin-desk.ensures.of.2.doubt c.in-Ok.ensures.settled.settled.0 in
    let began = c.len-began.ensures.value ∙ ap size c.book.ensures.book in
    let settled = c.len-settled.ensures.value ∙ ap size c.book-in-Ok.ensures.book in
    omega (arith, more, began, settled)

pub returns-in-Ok-clause-settles : goal.returns-in-Ok-clause-settles
returns-in-Ok-clause-settles g c =
    let M : Type 0 = Knows g.row.K.Denot in
    let mid = c.settle.new.self in
    let now = c.take_settled-outcome.new.self in
    let st : Settles c.begin-desk.result.book c.begin-desk.result.doubt mid.book × (mid.doubt ≡ None) × (g.K.Keeper.faults mid.keeper ≡ g.K.Keeper.faults c.begin-desk.result.keeper) = c.in-Ok.ensures.settled.settled in
    let m = c.begin-desk.new.token.me in
    let adds = turn_adds (served g.K.Keeper.faults mid) (ask_of c.args.asked) c.take_settled-outcome.result (served g.K.Keeper.faults now) c.requires.asks st.1 c.take_settled-outcome.ensures.turn.turn in
    let eq : c.end.new.token.me ≡ (end_view m.0 mid.book now.book now.doubt now.keeper, []) =
    c.end.ensures.ended mid.book (c.len-settled.ensures.value ∙ ap size c.book-in-Ok.ensures.book) (taken_settles g.K.Keeper c.args.seat.now.token.me.0 c.begin-desk.result m mid.book c.begin-desk.ensures.view st.0) adds in
    let bound = c.len-now.ensures.bound in
    let range = c.len-now.ensures.range in
    let few : c.len-now.result < 2 ^ 32 = omega (arith, bound, range) in
    ended_settles g.K.Keeper c.args.seat.now.token.me.0 c.begin-desk.result mid now m c.end.new.token.me.0 c.begin-desk.ensures.view c.begin-desk.ensures.of c.begin-desk.ensures.begins st.0 adds (ap (λ (m : M). m.0) eq)
    c.len-began.result c.len-settled.result c.len-now.result (c.len-began.ensures.value ∙ ap size c.book.ensures.book) (c.len-settled.ensures.value ∙ ap size c.book-in-Ok.ensures.book) (c.len-now.ensures.value ∙ ap size c.book-in-Ok-2.ensures.book) few
