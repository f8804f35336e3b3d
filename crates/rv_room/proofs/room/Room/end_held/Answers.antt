use Rattle.std.proofs.Common.{◌≡◌, [], ◌∷◌, Some, ap, sym, ◌∙◌, subst}
use Rattle.std.specs.Prelude.{IfSome}
use Rattle.rv_desk.specs.DeskStates.{DeskState}
use Rattle.rv_room.specs.declared.view.SeatView.{SeatView}
use Rattle.rv_room.specs.Following.{KeeperFollows}
use Rattle.rv_room.specs.Plays.{Knows}
use Rattle.rv_room.specs.Rule.{IsOf}
use Rattle.rv_room.specs.Views.{with_keeper}
use Rattle.rv_room.proofs.room.Room.end_held.Goals as goal

pub note_keeper-requires-clause-carries : goal.note_keeper-requires-clause-carries
note_keeper-requires-clause-carries g c =
    let M : Type 0 = Knows g.row.K.Denot in
    let put = c.put_home.ensures.desk in
    (c.args.desk, ap (λ (m : M). m.1) put, ap (λ (m : M). m.0.turns) put ∙ c.requires.empty.1, subst (λ (m : M). IfSome m.0.keeper (λ keeper. KeeperFollows g.K.Keeper keeper c.args.desk.keeper)) (sym put) c.requires.follows)

pub pass-requires-clause-home : goal.pass-requires-clause-home
pass-requires-clause-home g c =
    let M : Type 0 = Knows g.row.K.Denot in
    let d : DeskState g.row.K.Denot = c.args.desk in
    let v : SeatView g.row.K.Denot = c.args.token.now.me.0 in
    let put : c.put_home.new.token.me ≡ (v, (0, Some d) ∷ []) = c.put_home.ensures.desk in
    let at : c.note_keeper.new.token.me ≡ (with_keeper v (Some d.keeper), (0, Some d) ∷ []) = c.note_keeper.ensures.noted d (ap (λ (m : M). m.1) put) ∙ (λ i. (with_keeper (put i).0 (Some d.keeper), (put i).1)) in (
      d,
      ap (λ (m : M). m.1) at,
      subst (λ (m : M). IsOf g.K.Keeper m.0 d) (sym at) c.requires.of,
      (
        ap (λ (m : M). m.0.turns) at ∙ c.requires.empty.1,
        c.requires.stays.0 ∙ sym (ap (λ (m : M). m.0.book) at),
        c.requires.stays.1 ∙ sym (ap (λ (m : M). m.0.doubt) at),
        ap (λ (m : M). m.0.keeper) at,
      ),
    )
