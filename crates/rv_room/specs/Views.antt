-- What a seat knows, and how it changes.
use Rattle.std.specs.Prelude.{◌≡◌, ℕ, ◌+◌, ◌-◌, nat_le, if◌then◌else◌, List, [], ◌∷◌, ◌++◌, Option, Some, None}
use Rattle.rv_book.specs.Book.{Book, empty_book, size, since}
use Rattle.rv_history.specs.Served.{Doubt}
use Rattle.rv_desk.specs.DeskStates.{DeskState}
use Rattle.rv_room.specs.declared.view.SeatView.{SeatView}
use Rattle.rv_room.specs.Lists.{numbered}

-- what is there, as a list
abbrev pub option_items : {X : Type 0} → Option X → List X
option_items None = []
option_items (Some x) = x ∷ []

abbrev pub longer : Book → Book → Book
longer xs ys = if nat_le (size xs) (size ys) then ys else xs

module _ {K : Type 0} where
  -- seats that have had no turn in a room that was opened with this desk
  abbrev pub newcomer : ℕ → DeskState K → SeatView K
  newcomer parts opened = record {
    parts = parts;
    waits = 0;
    turns = 0;
    ticket = 0;
    opened = Some opened;
    book = empty_book;
    doubt = None;
    keeper = None;
    seen = opened.book;
    own = [];
    settled = [];
    left = [];
    ends = [];
    before = [];
    after = [];
    joined = [];
  }

  -- it stands for no seat
  abbrev pub spent : SeatView K
  spent = record {
    parts = 0;
    waits = 0;
    turns = 0;
    ticket = 0;
    opened = None;
    book = empty_book;
    doubt = None;
    keeper = None;
    seen = empty_book;
    own = [];
    settled = [];
    left = [];
    ends = [];
    before = [];
    after = [];
    joined = [];
  }

  -- it neither waits nor has the turn
  abbrev pub IsIdle : SeatView K → Type 0
  IsIdle v = (v.waits ≡ 0) × (v.turns ≡ 0)

  -- it has a ticket
  abbrev pub waiting : SeatView K → ℕ → SeatView K
  waiting v t = record v { waits = 1; turns = 0; ticket = t; book = empty_book; doubt = None; keeper = None }

  -- it has the turn, knows the desk that is at home, and remembers how often its keeper has failed
  abbrev pub on_turn : (K → ℕ) → SeatView K → DeskState K → SeatView K
  on_turn faults v d = record v { turns = 1; book = d.book; doubt = d.doubt; keeper = Some d.keeper; before = v.before ++ faults d.keeper ∷ [] }

  -- it has the turn, and knows this desk as it is
  abbrev pub KnowsDesk : SeatView K → DeskState K → Type 0
  KnowsDesk v d = (v.turns ≡ 1) × (d.book ≡ v.book) × (d.doubt ≡ v.doubt) × (v.keeper ≡ Some d.keeper)

  -- the history has become this: what was added is the seat's own
  abbrev pub grown : SeatView K → Book → SeatView K
  grown v book = record v { book = book; own = v.own ++ numbered (size v.book) (since (size v.book) book) }

  -- the same, by settling
  abbrev pub entered : SeatView K → Book → SeatView K
  entered v book = record (grown v book) { settled = v.settled ++ since (size v.book) book }

  -- the keeper is this now
  abbrev pub with_keeper : SeatView K → Option K → SeatView K
  with_keeper v keeper = record v { keeper = keeper }

  -- the same, and this is in doubt, which the seat's turn left so
  abbrev pub noted : SeatView K → Doubt → Option K → SeatView K
  noted v doubt keeper = record v { doubt = doubt; keeper = keeper; left = v.left ++ option_items doubt }

  -- its turn has ended
  abbrev pub ended : SeatView K → SeatView K
  ended v = record v {
    waits = 0;
    turns = 0;
    ticket = 0;
    book = empty_book;
    doubt = None;
    keeper = None;
    seen = v.book;
    ends = v.ends ++ size v.book ∷ [];
    after = v.after ++ option_items v.keeper;
  }

  -- a seat is cut off it
  abbrev pub less_one : SeatView K → SeatView K
  less_one v = record v { parts = v.parts - 1 }

  -- the seat that is cut off
  abbrev pub one_more : SeatView K → SeatView K
  one_more v = record v { parts = 1 }

  -- two seats made one
  abbrev pub both : SeatView K → SeatView K → SeatView K
  both v w = record v {
    parts = v.parts + w.parts;
    seen = longer v.seen w.seen;
    own = v.own ++ w.own;
    settled = v.settled ++ w.settled;
    left = v.left ++ w.left;
    after = v.after ++ w.after;
    joined = v.seen ∷ w.seen ∷ w.joined ++ v.joined;
  }
