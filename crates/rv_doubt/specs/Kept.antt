-- What keeps a book, with what is in doubt.
use Rattle.std.specs.Prelude.{◌≡◌, ℕ, Option, Some, IfSome, option_map}
use Rattle.rv_book.specs.Book.{Book}
use Rattle.rv_turns.specs.declared.refusal.Trouble.{Trouble}
use Rattle.rv_history.specs.Served.{Doubt, IsAssured, Served}
use Rattle.rv_keeper.specs.declared.keeper.Keeper.{Ghosts}
use Rattle.rv_keeper.specs.declared.loaded.Loaded.{Loaded}
use Rattle.rv_state.specs.declared.prepared.Prepared.{Prepared}
use Rattle.rv_state.specs.Ready.{IsPrepared, next_of}
use Rattle.rv_state.specs.Standing.{Standing}
use Rattle.rv_store.specs.StoreCells.{IsKeptWith}

-- what is known besides of a call, by its keeper before it and after, and by the trouble that its answer tells
module _ {K : Type 0} (tells fails_no_more : K → Type 0) where
  abbrev pub Assures : K → Option Trouble → K → Type 0
  Assures old trouble new = IsAssured (tells old) (tells new) (fails_no_more old) (fails_no_more new) trouble

-- what the keeper holds, where it tells, are the cells of the book, or of the book with what is in doubt
abbrev pub HoldsBook : (Loaded → Type 0) → Book → Doubt → Type 0
HoldsBook Holds book doubt = (held : Loaded) × Holds held × IsKeptWith book doubt held

-- what a crash may leave are the cells of the book, or of the book with what is in doubt
abbrev pub LeavesBook : (Option Loaded → Type 0) → Book → Doubt → Type 0
LeavesBook Leaves book doubt = (left : Option Loaded) → Leaves left → (held : Loaded) × (left ≡ Some held) × IsKeptWith book doubt held

-- a keeper of a book, with what is in doubt: where it tells, it holds it; and where it is honest, a crash leaves it
pub record KeepsBook {K : Type 0} (G : Ghosts K) (keeper : K) (book : Book) (doubt : Doubt) : Type 0 where
  pub held : G.tells keeper → HoldsBook (G.holds keeper) book doubt
  pub left : G.honest keeper → LeavesBook (G.may_leave keeper) book doubt

-- a server by its parts: the state, what is prepared and in doubt, and the count of faults
abbrev pub parts_served : Standing → Option Prepared → ℕ → Served
parts_served state doubt faults = record { book = state.book; limit = state.limit; doubt = option_map next_of doubt; faults = faults }

-- what is in doubt may be entered at the state, and where the keeper tells, it holds the book's cells, or those with what is in doubt
pub record AreInStep (state : Standing) (doubt : Option Prepared) (Tells : Type 0) (Holds : Loaded → Type 0) : Type 0 where
  pub ready : IfSome doubt (IsPrepared state)
  pub holds : Tells → HoldsBook Holds state.book (option_map next_of doubt)

-- where the keeper is honest, a crash leaves the book's cells, or those with what is in doubt
abbrev pub LeavesInStep : Standing → Option Prepared → Type 0 → (Option Loaded → Type 0) → Type 0
LeavesInStep state doubt Honest Leaves = Honest → LeavesBook Leaves state.book (option_map next_of doubt)
