-- What a seat knows once its turn has ended.
use Rattle.std.specs.Prelude.{Some}
use Rattle.rv_book.specs.Book.{Book}
use Rattle.rv_history.specs.Served.{Doubt}
use Rattle.rv_room.specs.declared.view.SeatView.{SeatView}
use Rattle.rv_room.specs.Views.{grown, entered, noted, with_keeper, ended}

module _ {K : Type 0} where
  -- the desk has settled to this book, then stepped to that one, this is in doubt, and this is the keeper
  abbrev pub end_view : SeatView K → Book → Book → Doubt → K → SeatView K
  end_view v settled book doubt keeper = ended (noted (grown (entered v settled) book) doubt (Some keeper))

  -- the desk could not settle, and this is the keeper
  abbrev pub held_view : SeatView K → K → SeatView K
  held_view v keeper = ended (with_keeper v (Some keeper))
