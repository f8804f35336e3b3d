-- A room of no seats.
use Rattle.std.proofs.Common.{◌≡◌, ◌+◌, List, [], ◌∷◌, length, Some, None, refl, sym, ◌∙◌, subst, arith}
use Rattle.rv_book.specs.declared.entry.Entry.{Entry}
use Rattle.rv_book.specs.BookWordLaws.{extends_same}
use Rattle.rv_history.specs.Served.{IsNoClosing, Next}
use Rattle.rv_keeper.specs.declared.keeper.Keeper.{Ghosts}
use Rattle.rv_desk.specs.DeskStates.{DeskState}
use Rattle.rv_room.specs.declared.view.SeatView.{SeatView}
use Rattle.rv_room.specs.Closing.{Closes}
use Rattle.rv_room.specs.FollowingLaws.{follows_same}
use Rattle.rv_workers.specs.Serving.{ServesBothKinds}

none_some : (e : Entry) → None ≡ Some (Next.entry e) → ⊥
none_some e is = absurd (cc)

closes_none : {K : Type 0} (G : Ghosts K) (desk : DeskState K) → desk.doubt ≡ None → Closes G desk [] desk
closes_none G desk settled = record {
  keeps = record { limit = refl; doubt = subst IsNoClosing (sym settled) tt; keeper = follows_same G desk.keeper };
  begun = extends_same desk.book desk.book refl;
  seen = tt;
  own = tt;
  places = λ n. omega arith;
  left = tt;
  doubt = λ e is. none_some e (sym settled ∙ is);
  after = tt;
  risen = omega arith;
}

-- no listener is served by nobody
pub serves_none : {K L P : Type 0} (G : Ghosts K) (Serves : SeatView K → L → SeatView K → L → Type 0) (Pokes : SeatView K → P → SeatView K → P → Type 0) (desk : DeskState K) (listeners : List L) (pokes : List P)
    → desk.doubt ≡ None → length listeners + length pokes ≡ 0 → ServesBothKinds G Serves Pokes desk listeners pokes desk listeners pokes
serves_none G Serves Pokes desk [] [] settled none = record { conns = record { views = []; serves = tt; closes = closes_none G desk settled }; lookers = []; pokes = tt; looks = tt }
serves_none G Serves Pokes desk [] (poke ∷ pokes) settled some = absurd (omega (arith, some))
serves_none G Serves Pokes desk (listener ∷ listeners) pokes settled some = absurd (omega (arith, some))
