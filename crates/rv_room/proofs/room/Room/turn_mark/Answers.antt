use Rattle.std.proofs.Common.{refl, ap}
use Rattle.rv_room.specs.FollowingLaws.{follows_same}
use Rattle.rv_room.specs.Plays.{Knows}
use Rattle.rv_room.proofs.Ending.{taken_of, taken_follows, marked_turn}
use Rattle.rv_room.proofs.room.Room.turn_mark.Goals as goal

pub end_held-requires-clause-of : goal.end_held-requires-clause-of
end_held-requires-clause-of g c =
    let desk = c.begin-desk.result in
    taken_of g.K.Keeper c.args.seat.now.token.me.0 desk desk c.begin-desk.new.token.me c.begin-desk.ensures.view c.begin-desk.ensures.of refl c.begin-desk.ensures.of.2.doubt (follows_same g.K.Keeper desk.keeper)

pub end_held-requires-clause-follows : goal.end_held-requires-clause-follows
end_held-requires-clause-follows g c =
    let desk = c.begin-desk.result in
    taken_follows g.K.Keeper c.args.seat.now.token.me.0 desk c.begin-desk.new.token.me desk.keeper c.begin-desk.ensures.view (follows_same g.K.Keeper desk.keeper)

pub returns-clause-mark : goal.returns-clause-mark
returns-clause-mark g c =
    let M : Type 0 = Knows g.row.K.Denot in
    marked_turn g.K.Keeper c.args.seat.now.token.me.0 c.begin-desk.result c.begin-desk.new.token.me c.args.user.now c.mark-mark.result c.end_held.new.token.me.0 c.begin-desk.ensures.view c.begin-desk.ensures.of c.begin-desk.ensures.begins
    c.begin-desk.ensures.later c.mark-mark.ensures.mark c.mark-mark.ensures.kept (ap (λ (m : M). m.0) c.end_held.ensures.ended)
