use Rattle.std.proofs.Common.{◌≡◌, ℕ, List, ◌∷◌, Option, Some, ap, sym, ◌∙◌, subst}
use Rattle.rv_desk.specs.DeskStates.{DeskState}
use Rattle.rv_room.specs.declared.view.SeatView.{SeatView}
use Rattle.rv_room.specs.Following.{FollowsAll}
use Rattle.rv_room.specs.Plays.{Knows, carried}
use Rattle.rv_room.specs.Rule.{IsOf}
use Rattle.rv_room.specs.Views.{waiting}
use Rattle.rv_room.proofs.room.Room.begin.Goals as goal

pub take_out-requires-clause-out : goal.take_out-requires-clause-out
take_out-requires-clause-out g c = let t = c.wait_for.ensures.turn in let w = c.take_ticket-ticket.ensures.waits in
    (t.0, ap (λ m. m.1) t.4 ∙ ap (λ slots. (0, Some t.0) ∷ slots) (ap (λ m. m.1) w.2 ∙ c.requires.idle.2))

pub returns-clause-of : goal.returns-clause-of
returns-clause-of g c =
    let X : Type 0 = DeskState g.row.K.Denot in
    let M : Type 0 = Knows g.row.K.Denot in
    let t = c.wait_for.ensures.turn in
    let w = c.take_ticket-ticket.ensures.waits in
    let same : t.0 ≡ c.take_out.result = ap (λ (slots : List (ℕ × Option X)). carried (λ (x : X). x) c.take_out.result slots) (sym (ap (λ (m : M). m.1) t.4) ∙ c.take_out.ensures.desk) in
    let view : c.take_ticket-ticket.new.token.me.0 ≡ waiting c.args.token.now.me.0 w.0 = ap (λ (m : M). m.0) w.2 in
    subst (λ (x : X × SeatView g.row.K.Denot). IsOf g.K.Keeper x.1 x.0) (λ i. (same i, view i)) t.1

pub returns-clause-later : goal.returns-clause-later
returns-clause-later g c =
    let X : Type 0 = DeskState g.row.K.Denot in
    let M : Type 0 = Knows g.row.K.Denot in
    let t = c.wait_for.ensures.turn in
    let w = c.take_ticket-ticket.ensures.waits in
    let same : t.0 ≡ c.take_out.result = ap (λ (slots : List (ℕ × Option X)). carried (λ (x : X). x) c.take_out.result slots) (sym (ap (λ (m : M). m.1) t.4) ∙ c.take_out.ensures.desk) in
    let view : c.take_ticket-ticket.new.token.me.0 ≡ waiting c.args.token.now.me.0 w.0 = ap (λ (m : M). m.0) w.2 in
    subst (λ (x : X × SeatView g.row.K.Denot). FollowsAll g.K.Keeper x.1.after x.0.keeper) (λ i. (same i, view i)) t.3
