-- Books that go on from one another by entries and by closings: they are one after another, and what was entered in one stays entered.
use Rattle.std.proofs.Common.{◌+◌, List, [], ◌∷◌, ◌++◌, map}
use Rattle.rv_turns.specs.Asks.{Sender}
use Rattle.rv_turns.specs.declared.mutation.Mutation.{Mutation}
use Rattle.rv_book.specs.Book.{Book}
use Rattle.rv_history.specs.Clients.{AreSuccessive}
use Rattle.rv_history.specs.Closing.{GoesOnBy, GoesOnFrom}
use Rattle.rv_history.specs.Lawful.{IsLawful}
use Rattle.rv_history.specs.Properties.{IsEntered}

-- the books as they were when they were closed, and the last one
abbrev pub books_of : List (Book × Book) → Book → List Book
books_of closings new = map (λ closing. closing.0) closings ++ new ∷ []

-- They are one after another.
abbrev pub ClosedBooksAreSuccessive : Type 0
ClosedBooksAreSuccessive = (old new : Book) (closings : List (Book × Book)) → GoesOnBy old closings new → AreSuccessive (books_of closings new)

-- A mutation that is entered in a lawful book is so in each that goes on from it: as its act, or by what the page says of its client.
abbrev pub MutationsStay : Type 0
MutationsStay = (from : Sender) (m : Mutation) (old new : Book) → IsLawful old → GoesOnFrom old new → IsEntered from old m → IsEntered from new m
