-- What becomes of the lines that a desk takes, and of its keeper.
use Rattle.std.specs.Prelude.{ℕ, ◌≡◌, ◌≤◌, Result, Ok, Err}
use Rattle.std.specs.Io.KnownBytes.{Appends}
use Rattle.rv_base.specs.Causes.{Rose}
use Rattle.rv_base.specs.Outside.{InputState, OutputState}
use Rattle.rv_base.specs.Writes.{AppendsFront}
use Rattle.rv_keeper.specs.declared.keeper.Keeper.{Ghosts}
use Rattle.rv_history.specs.Served.{Served}
use Rattle.rv_desk.specs.DeskStates.{DeskKeeps, IsSoundDesk, DeskState, served}
use Rattle.rv_answering.specs.declared.answer.Answer.{Answer}
use Rattle.rv_answering.specs.Requests.{Parsed}
use Rattle.rv_cli.specs.declared.ending.Ending.{Ending}
use Rattle.rv_cli.specs.declared.ending.Ending.TheVariants.{Keeper, Damaged, Write, Memory}
use Rattle.rv_cli.specs.Texts.{text_of}
use Rattle.rv_cli.specs.Headline.{TakesStep, Reopens, served_lines}
use Rattle.rv_cli.specs.LineTaking.{Feeds, OutputStays, Taker, RoseAt as RoseFor}

-- the ending is one of a desk that does not open
abbrev pub IsNoStop : Ending → Type 0
IsNoStop Keeper = Unit {0}
IsNoStop (Damaged damage) = Unit {0}
IsNoStop Memory = Unit {0}
IsNoStop ending = ⊥

-- the desk stands as this state, but that its keeper may have failed since
pub record StandsAs {K : Type 0} (faults : K → ℕ) (now : Served) (desk : DeskState K) : Type 0 where
  pub book : desk.book ≡ now.book
  pub limit : desk.limit ≡ now.limit
  pub doubt : desk.doubt ≡ now.doubt
  pub later : now.faults ≤ faults desk.keeper

module _ {K : Type 0} (G : Ghosts K) where
  -- a server with this keeper
  abbrev pub seat_at : Served → K → DeskState K
  seat_at now keeper = record { book = now.book; limit = now.limit; doubt = now.doubt; keeper = keeper }

  -- A keeper that is left with this state: it keeps the book, with what is in doubt, which are sound; and its count of faults is not below
  -- that of the state.
  pub record IsLeftWith (now : Served) (keeper : K) : Type 0 where
    pub kept : DeskKeeps G (seat_at now keeper)
    pub sound : IsSoundDesk (seat_at now keeper)
    pub later : now.faults ≤ G.faults keeper

  -- at the ending of that name the keeper failed, and a damage comes only of one that doesn't tell
  abbrev pub RoseAt : Ending → ℕ → K → Type 0
  RoseAt = RoseFor G.tells G.faults

  -- a desk as one that takes lines
  abbrev pub desk_taker : Taker (DeskState K)
  desk_taker = record {
    lines = served_lines;
    state = served G.faults;
    tells = λ desk. G.tells desk.keeper;
    faults = λ desk. G.faults desk.keeper;
    fails_no_more = λ desk. G.fails_no_more desk.keeper;
    Stands = StandsAs G.faults;
  }

  -- a request is answered by a step, and its answer written, or only a front of it
  abbrev pub ServesOrNot : DeskState K → Parsed → Result (Unit {0}) Ending → DeskState K → OutputState → OutputState → Type 0
  ServesOrNot old asked (Ok done) new before now =
      ((answer : Answer) × TakesStep (G.tells new.keeper) (served G.faults old) asked answer (served G.faults new) × Appends before.written now.written (text_of answer)) × OutputStays before now × (G.tells new.keeper → G.tells old.keeper)
  ServesOrNot old asked (Err Write) new before now =
      ((answer : Answer) × TakesStep (G.tells new.keeper) (served G.faults old) asked answer (served G.faults new) × AppendsFront before.written now.written (text_of answer)) × Rose before.faults now.faults × (G.tells new.keeper → G.tells old.keeper)
  ServesOrNot old asked (Err ending) new before now = ⊥

  -- a stop: the desk is open again; or it is not, and stands as it stood
  abbrev pub Restarts : DeskState K → DeskState K → Type 0
  Restarts old new = Reopens (G.tells new.keeper) (served G.faults old) (served G.faults new) × (G.tells new.keeper → G.tells old.keeper)

  abbrev pub RestartsOrNot : DeskState K → Result (Unit {0}) Ending → DeskState K → Type 0
  RestartsOrNot old (Ok done) new = Restarts old new
  RestartsOrNot old (Err ending) new = IsNoStop ending × StandsAs G.faults (served G.faults old) new × (G.tells new.keeper → G.tells old.keeper) × RoseAt ending (G.faults old.keeper) new.keeper

-- how the lines end, and with which keeper
pub record FeedsWith {K : Type 0} (G : Ghosts K) (first : DeskState K) (input input' : InputState) (output output' : OutputState) (ended : Ending × K) : Type 0 where
  pub now : Served
  pub feeds : Feeds served_lines (G.tells ended.1) (served G.faults first) now input input' output output' ended.0
  pub left : IsLeftWith G now ended.1
  pub told : G.tells ended.1 → G.tells first.keeper
  pub rose : RoseAt G ended.0 (G.faults first.keeper) ended.1
