use Rattle.std.proofs.Common.{◌≡◌, [], ◌∷◌, Some, ap, sym, ◌∙◌, subst, arith}
use Rattle.std.specs.Prelude.{IfSome}
use Rattle.rv_book.specs.Book.{Book, size, with_entry}
use Rattle.rv_desk.specs.DeskStates.{DeskState}
use Rattle.rv_history.specs.Served.{Settles}
use Rattle.rv_room.specs.declared.view.SeatView.{SeatView}
use Rattle.rv_history.specs.Machine.{Adds}
use Rattle.rv_room.specs.Following.{KeeperFollows}
use Rattle.rv_room.specs.Plays.{Knows}
use Rattle.rv_room.specs.Rule.{IsOf}
use Rattle.rv_room.specs.Views.{entered, ended, grown, noted}
use Rattle.rv_room.proofs.Ending.{some_came, after_settling, some_made, after_making}
use Rattle.rv_room.proofs.room.Room.end.Goals as goal

pub count_settled_if-requires-clause-doubt : goal.count_settled_if-requires-clause-doubt
count_settled_if-requires-clause-doubt g c came =
    let M : Type 0 = Knows g.row.K.Denot in
    let d : DeskState g.row.K.Denot = c.args.desk in
    let v : SeatView g.row.K.Denot = c.args.token.now.me.0 in
    let s : Book = c.requires.settled.0 in
    let settled : c.args.settled ≡ size s = c.requires.settled.1 in
    let ways : Settles v.book v.doubt s = c.requires.settled.2 in
    let adds : Adds s d.book = c.requires.settled.3 in
    let put : c.put_home.new.token.me ≡ (v, (0, Some d) ∷ []) = c.put_home.ensures.desk in
    let t = some_came v s c.args.began c.args.settled c.requires.began settled c.requires.doubt ways (c.differs.ensures.yes came) in
    let long : size (with_entry c.put_home.new.token.me.0.book t.0) ≡ size s = ap (λ (m : M). size (with_entry m.0.book t.0)) put ∙ sym (ap size t.2) in
    let few = c.ranges.settled.fits in
    (t.0, ap (λ (m : M). m.0.turns) put ∙ c.requires.empty.1, ap (λ (m : M). m.0.doubt) put ∙ t.1, omega (arith, few))

pub count_made_if-requires-clause-grown : goal.count_made_if-requires-clause-grown
count_made_if-requires-clause-grown g c made =
    let M : Type 0 = Knows g.row.K.Denot in
    let d : DeskState g.row.K.Denot = c.args.desk in
    let v : SeatView g.row.K.Denot = c.args.token.now.me.0 in
    let s : Book = c.requires.settled.0 in
    let settled : c.args.settled ≡ size s = c.requires.settled.1 in
    let ways : Settles v.book v.doubt s = c.requires.settled.2 in
    let adds : Adds s d.book = c.requires.settled.3 in
    let put : c.put_home.new.token.me ≡ (v, (0, Some d) ∷ []) = c.put_home.ensures.desk in
    let now : c.args.now ≡ size d.book = c.requires.now in
    let at1 : c.count_settled_if.new.token.me ≡ (entered v s, (0, Some d) ∷ []) =
    after_settling v s c.args.began c.args.settled c.differs.result c.put_home.new.token.me c.count_settled_if.new.token.me c.requires.began settled c.requires.doubt ways c.differs.ensures.yes c.differs.ensures.no (ap (λ (m : M). m.0) put) c.count_settled_if.ensures.entered c.count_settled_if.ensures.not
    ∙ (λ i. (entered v s, (put i).1)) in
    let t = some_made s d.book c.args.settled c.args.now settled now adds (c.differs-2.ensures.yes made) in
    let few = c.ranges.now.fits in
    (d, t.0, ap (λ (m : M). m.1) at1, ap (λ (m : M). m.0.turns) at1 ∙ c.requires.empty.1, t.1 ∙ sym (ap (λ (m : M). with_entry m.0.book t.0) at1), omega (arith, few))

pub note_settled-requires-clause-carries : goal.note_settled-requires-clause-carries
note_settled-requires-clause-carries g c =
    let M : Type 0 = Knows g.row.K.Denot in
    let d : DeskState g.row.K.Denot = c.args.desk in
    let v : SeatView g.row.K.Denot = c.args.token.now.me.0 in
    let s : Book = c.requires.settled.0 in
    let settled : c.args.settled ≡ size s = c.requires.settled.1 in
    let ways : Settles v.book v.doubt s = c.requires.settled.2 in
    let adds : Adds s d.book = c.requires.settled.3 in
    let put : c.put_home.new.token.me ≡ (v, (0, Some d) ∷ []) = c.put_home.ensures.desk in
    let now : c.args.now ≡ size d.book = c.requires.now in
    let at1 : c.count_settled_if.new.token.me ≡ (entered v s, (0, Some d) ∷ []) =
    after_settling v s c.args.began c.args.settled c.differs.result c.put_home.new.token.me c.count_settled_if.new.token.me c.requires.began settled c.requires.doubt ways c.differs.ensures.yes c.differs.ensures.no (ap (λ (m : M). m.0) put) c.count_settled_if.ensures.entered c.count_settled_if.ensures.not
    ∙ (λ i. (entered v s, (put i).1)) in
    let at2 : c.count_made_if.new.token.me ≡ (grown (entered v s) d.book, (0, Some d) ∷ []) =
    after_making (entered v s) d c.args.settled c.args.now c.differs-2.result c.count_settled_if.new.token.me c.count_made_if.new.token.me settled now adds c.differs-2.ensures.yes c.differs-2.ensures.no at1 c.count_made_if.ensures.counted c.count_made_if.ensures.not in
    (d, ap (λ (m : M). m.1) at2, ap (λ (m : M). m.0.turns) at2 ∙ c.requires.empty.1, subst (λ (m : M). IfSome m.0.keeper (λ keeper. KeeperFollows g.K.Keeper keeper d.keeper)) (sym at2) c.requires.follows)

pub pass-requires-clause-home : goal.pass-requires-clause-home
pass-requires-clause-home g c =
    let M : Type 0 = Knows g.row.K.Denot in
    let d : DeskState g.row.K.Denot = c.args.desk in
    let v : SeatView g.row.K.Denot = c.args.token.now.me.0 in
    let s : Book = c.requires.settled.0 in
    let settled : c.args.settled ≡ size s = c.requires.settled.1 in
    let ways : Settles v.book v.doubt s = c.requires.settled.2 in
    let adds : Adds s d.book = c.requires.settled.3 in
    let put : c.put_home.new.token.me ≡ (v, (0, Some d) ∷ []) = c.put_home.ensures.desk in
    let now : c.args.now ≡ size d.book = c.requires.now in
    let at1 : c.count_settled_if.new.token.me ≡ (entered v s, (0, Some d) ∷ []) =
    after_settling v s c.args.began c.args.settled c.differs.result c.put_home.new.token.me c.count_settled_if.new.token.me c.requires.began settled c.requires.doubt ways c.differs.ensures.yes c.differs.ensures.no (ap (λ (m : M). m.0) put) c.count_settled_if.ensures.entered c.count_settled_if.ensures.not
    ∙ (λ i. (entered v s, (put i).1)) in
    let at2 : c.count_made_if.new.token.me ≡ (grown (entered v s) d.book, (0, Some d) ∷ []) =
    after_making (entered v s) d c.args.settled c.args.now c.differs-2.result c.count_settled_if.new.token.me c.count_made_if.new.token.me settled now adds c.differs-2.ensures.yes c.differs-2.ensures.no at1 c.count_made_if.ensures.counted c.count_made_if.ensures.not in
    let at3 : c.note_settled.new.token.me ≡ (noted (grown (entered v s) d.book) d.doubt (Some d.keeper), (0, Some d) ∷ []) = c.note_settled.ensures.noted d (ap (λ (m : M). m.1) at2) ∙ (λ i. (noted (at2 i).0 d.doubt (Some d.keeper), (at2 i).1)) in (
      d,
      ap (λ (m : M). m.1) at3,
      subst (λ (m : M). IsOf g.K.Keeper m.0 d) (sym at3) c.requires.of,
      (
        ap (λ (m : M). m.0.turns) at3 ∙ c.requires.empty.1,
        sym (ap (λ (m : M). m.0.book) at3),
        sym (ap (λ (m : M). m.0.doubt) at3),
        ap (λ (m : M). m.0.keeper) at3,
      ),
    )

pub returns-clause-ended : goal.returns-clause-ended
returns-clause-ended g c s settled ways adds =
    let M : Type 0 = Knows g.row.K.Denot in
    let d : DeskState g.row.K.Denot = c.args.desk in
    let v : SeatView g.row.K.Denot = c.args.token.now.me.0 in
    let put : c.put_home.new.token.me ≡ (v, (0, Some d) ∷ []) = c.put_home.ensures.desk in
    let now : c.args.now ≡ size d.book = c.requires.now in
    let at1 : c.count_settled_if.new.token.me ≡ (entered v s, (0, Some d) ∷ []) =
    after_settling v s c.args.began c.args.settled c.differs.result c.put_home.new.token.me c.count_settled_if.new.token.me c.requires.began settled c.requires.doubt ways c.differs.ensures.yes c.differs.ensures.no (ap (λ (m : M). m.0) put) c.count_settled_if.ensures.entered c.count_settled_if.ensures.not
    ∙ (λ i. (entered v s, (put i).1)) in
    let at2 : c.count_made_if.new.token.me ≡ (grown (entered v s) d.book, (0, Some d) ∷ []) =
    after_making (entered v s) d c.args.settled c.args.now c.differs-2.result c.count_settled_if.new.token.me c.count_made_if.new.token.me settled now adds c.differs-2.ensures.yes c.differs-2.ensures.no at1 c.count_made_if.ensures.counted c.count_made_if.ensures.not in
    let at3 : c.note_settled.new.token.me ≡ (noted (grown (entered v s) d.book) d.doubt (Some d.keeper), (0, Some d) ∷ []) = c.note_settled.ensures.noted d (ap (λ (m : M). m.1) at2) ∙ (λ i. (noted (at2 i).0 d.doubt (Some d.keeper), (at2 i).1)) in
    c.pass.ensures.ended ∙ ap (λ (m : M). (ended m.0, [])) at3
