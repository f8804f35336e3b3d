use Rattle.std.proofs.Common.{◌≡◌, ◌%◌, ◌^◌, ◌∷◌, Some, arith, ap, sym, ◌∙◌, subst}
use Rattle.rv_book.specs.Book.{Extends}
use Rattle.rv_desk.specs.DeskStates.{DeskState}
use Rattle.rv_room.specs.Following.{FollowsAll}
use Rattle.rv_room.specs.Plays.{Knows}
use Rattle.rv_room.specs.Rule.{IsOf}
use Rattle.rv_room.specs.Views.{on_turn}
use Rattle.rv_room.proofs.Moves.{checks_turn_as}
use Rattle.rv_room.proofs.room.Room.wait_for.Goals as goal

pub load-found-requires : goal.load-found-requires
load-found-requires g c = let i = c.loop.invariant in let r = c.requires.waits in
    (i.2 ∙ c.requires.table, omega (arith, c.args.self.now.sized.0), checks_turn_as g.K.Keeper _ _ _ _ _ _ _ i.4 r.0 r.1)

pub returns-then-found-ticket-clause-turn : goal.returns-then-found-ticket-clause-turn
returns-then-found-ticket-clause-turn g c = let i = c.loop.invariant in let r = c.requires.waits in
    let X : Type 0 = DeskState g.row.K.Denot in
    let M : Type 0 = Knows g.row.K.Denot in
    let P : M → Type 0 = λ m. (d : X) × IsOf g.K.Keeper m.0 d × Extends d.book m.0.seen × FollowsAll g.K.Keeper m.0.after d.keeper × (c.load-found.new.seat.me ≡ (on_turn g.K.Keeper.faults m.0 d, (0, Some d) ∷ m.1)) in
    subst P i.4 (c.load-found.ensures.2.1 (c.if-found-ticket.true ∙ sym r.2 ∙ ap (λ (m : M). m.0.ticket % 2 ^ 64) (sym i.4)))
