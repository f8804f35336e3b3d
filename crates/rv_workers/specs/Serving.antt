-- Listeners that are served side by side.
use Rattle.std.specs.Prelude.{◌≡◌, List, [], ◌∷◌, ◌++◌}
use Rattle.std.specs.List.{AllByRecursion}
use Rattle.rv_base.specs.Outside.{counted}
use Rattle.rv_base.specs.declared.outside.Source.{Ghosts as SourceGhosts}
use Rattle.rv_base.specs.declared.outside.Sink.{Ghosts as SinkGhosts}
use Rattle.rv_accounts.specs.File.{AccountsServed as Accounts}
use Rattle.rv_keeper.specs.declared.keeper.Keeper.{Ghosts}
use Rattle.rv_desk.specs.DeskStates.{DeskState}
use Rattle.rv_net.specs.declared.listen.Listen.{Ghosts as ListenGhosts}
use Rattle.rv_room.specs.declared.view.SeatView.{SeatView}
use Rattle.rv_room.specs.Closing.{Closes}
use Rattle.rv_room.specs.Views.{newcomer}
use Rattle.rv_room.specs.Following.{FollowsAll}
use Rattle.rv_room.specs.SeatMarks.{IsSeatMark}
use Rattle.rv_room.specs.SeatTurns.{IsSeatTurn, settled_by}
use Rattle.rv_book.specs.Book.{Extends}
use Rattle.rv_net.specs.declared.poke_listen.PokeListen.{Ghosts as PokeListenGhosts}
use Rattle.rv_poke.specs.Bells.{BellState, unasked}
use Rattle.rv_poke.specs.declared.poke_link.PokeLink.{Ghosts as LinkGhosts}
use Rattle.rv_serve.specs.Listening.{ServesAll}
use Rattle.rv_serve.specs.Poking.{ServesLinks}
use Rattle.rv_workers.specs.Looking.{HasEnteredNothing}

module _ {K L I O : Type 0} (G : Ghosts K) (listen : ListenGhosts L I O) (source : SourceGhosts I) (sink : SinkGhosts O) (accounts : Accounts) where
  -- A listener was served by turns of a seat that knew this first and knows that last: its connections were, one after the other, and it
  -- said once that no more were to come.
  pub record IsServed (first : SeatView K) (given : L) (last : SeatView K) (back : L) : Type 0 where
    pub told : listen.tells back → listen.tells given
    pub ended : listen.ends back ≡ counted (listen.ends given)
    pub serves : ServesAll (IsSeatTurn G) settled_by listen source sink accounts first given last back

module _ {K P C : Type 0} (G : Ghosts K) (listen : PokeListenGhosts P C) (link : LinkGhosts C) (accounts : Accounts) where
  -- A listener of links was served by looks of a seat that knew this first and knows that last: a poke session over each link, one after the
  -- other, all with one bell, which had not been asked before; and it said once that no more were to come.
  pub record IsPoked (first : SeatView K) (given : P) (last : SeatView K) (back : P) : Type 0 where
    pub told : listen.tells back → listen.tells given
    pub ended : listen.ends back ≡ counted (listen.ends given)
    pub bell : BellState
    pub serves : ServesLinks (IsSeatMark G) listen link accounts.accounts first unasked given last bell back

-- each listener was served by a seat, and came back, in order
abbrev pub EachServes : {V L : Type 0} → (V → L → V → L → Type 0) → V → List L → List V → List L → Type 0
EachServes Serves first [] [] [] = Unit {0}
EachServes Serves first (given ∷ givens) (last ∷ lasts) (back ∷ backs) = Serves first given last back × EachServes Serves first givens lasts backs
EachServes Serves first [] [] (back ∷ backs) = ⊥
EachServes Serves first [] (last ∷ lasts) backs = ⊥
EachServes Serves first (given ∷ givens) [] backs = ⊥
EachServes Serves first (given ∷ givens) (last ∷ lasts) [] = ⊥

-- Listeners were served by seats that knew this first: those of connections by these seats, and those of links by the others, which have
-- entered nothing.
pub record ServesSeated {K L P : Type 0} (Serves : SeatView K → L → SeatView K → L → Type 0) (Pokes : SeatView K → P → SeatView K → P → Type 0) (first : SeatView K) (givens : List L) (poke_givens : List P) (all : List (SeatView K)) (backs : List L) (poke_backs : List P) : Type 0 where
  pub views : List (SeatView K)
  pub lookers : List (SeatView K)
  pub are : all ≡ views ++ lookers
  pub serves : EachServes Serves first givens views backs
  pub pokes : EachServes Pokes first poke_givens lookers poke_backs
  pub idle : AllByRecursion (HasEnteredNothing first) lookers

-- What a seat that only looked has seen stands in the book, and the keeper follows each that it remembers.
pub record HasOnlyLooked {K : Type 0} (G : Ghosts K) (desk : DeskState K) (view : SeatView K) : Type 0 where
  pub seen : Extends desk.book view.seen
  pub after : FollowsAll G view.after desk.keeper

-- Listeners were served side by side at a desk: each by a seat of a room that was opened with it, and the room was closed with this desk.
pub record ServesTogether {K L : Type 0} (G : Ghosts K) (Serves : SeatView K → L → SeatView K → L → Type 0) (opened : DeskState K) (givens : List L) (desk : DeskState K) (backs : List L) : Type 0 where
  pub views : List (SeatView K)
  pub serves : EachServes Serves (newcomer 1 opened) givens views backs
  pub closes : Closes G opened views desk

-- Listeners of connections were served so, and listeners of links beside them, each by a seat of the same room that only looked: so all that
-- was entered is of the seats that served connections.
pub record ServesBothKinds {K L P : Type 0} (G : Ghosts K) (Serves : SeatView K → L → SeatView K → L → Type 0) (Pokes : SeatView K → P → SeatView K → P → Type 0) (opened : DeskState K) (givens : List L) (poked : List P) (desk : DeskState K) (backs : List L) (poked_back : List P) : Type 0 where
  pub conns : ServesTogether G Serves opened givens desk backs
  pub lookers : List (SeatView K)
  pub pokes : EachServes Pokes (newcomer 1 opened) poked lookers poked_back
  pub looks : AllByRecursion (HasOnlyLooked G desk) lookers

-- The same of listeners that are served with these accounts: in a room, and at a desk.
module _ {K L I O P C : Type 0} (G : Ghosts K) (listen : ListenGhosts L I O) (source : SourceGhosts I) (sink : SinkGhosts O) (pokes : PokeListenGhosts P C) (link : LinkGhosts C) (accounts : Accounts) where
  abbrev pub ServesInRoom : SeatView K → List L → List P → List (SeatView K) → List L → List P → Type 0
  ServesInRoom = ServesSeated (IsServed G listen source sink accounts) (IsPoked G pokes link accounts)

  abbrev pub ServesAtDesk : DeskState K → List L → List P → DeskState K → List L → List P → Type 0
  ServesAtDesk = ServesBothKinds G (IsServed G listen source sink accounts) (IsPoked G pokes link accounts)
