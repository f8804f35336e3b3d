-- Rows that are read one at a time, up to the whole answer.
use Rattle.std.proofs.Common.{◌≡◌, ℕ, List, [], ◌∷◌, ◌++◌, Option, Some, None, Ok, sym, subst}
use Rattle.sqlite_value.specs.Order.{Row}
use Rattle.sqlite_trees.specs.declared.store.Store.{Ghosts}
use Rattle.sqlite.specs.Clock.{timed}
use Rattle.sqlite.specs.Effect.{Database}
use Rattle.sqlite.specs.Listing.{understood, reads_listing, IsSourceOf}
use Rattle.sqlite.specs.State.{State, IsUnchanged, ShowsRows, Shown}
use Rattle.sqlite.specs.Held.{Held, state}
use Rattle.sqlite.specs.Given.{HasGiven}
use Rattle.sqlite.proofs.Callers.{unchanged_then}
use Rattle.sqlite.proofs.StreamLemmas.{given_plain}
use Rattle.rv_keeper.specs.declared.cell.Cell.{Cell}
use Rattle.rv_sqlite.specs.Loads.{all_text}
use Rattle.rv_sqlite.specs.Moves.{Moves}
use Rattle.rv_sqlite.proofs.Gathered.{HasGathered}

module _ (sql : List ℕ) (params : Row) (old mid new : State) (rows : List Row) where
  -- what a query shows, it shows since a state that looked the same
  shown_since : ((c : _) → understood mid.now.schema sql ≡ Ok c → c.returning ≡ None) → IsUnchanged old mid → Shown sql params mid new rows → Shown sql params old new rows
  unfolding Shown
  shown_since plain same h =
      let none = plain h.0 h.1.is in
      let full = timed params h.0.formats h.1.now in
      let it = subst (ShowsRows mid new sql h.0 full rows) none h.2 in (
        h.0,
        record { is = subst (λ (d : Database). understood d.schema sql ≡ Ok h.0) same.0.now_is h.1.is; whole = h.1.whole; given = h.1.given; now = h.1.now },
        subst (ShowsRows old new sql h.0 full rows) (sym none)
            (it.0, subst (λ (d : Database). IsSourceOf (reads_listing d.schema sql) d it.0) same.0.now_is it.1, it.2, unchanged_then old mid new same it.3),
      )

module _ {S : Type 0} (g : Ghosts S) (sql : List ℕ) (params : Row) where
  -- the query goes on, and has given these rows since a state that looked the same
  abbrev pub HasGivenSince : Held S → Held S → List Row → Type 0
  HasGivenSince old now given = HasGiven g sql params now given × IsUnchanged (state g old) (state g now)

  pub more_given : (old mid new : Held S) (given : List Row) (row : Row) → HasGivenSince old mid given → Moves g mid new (Some row) → HasGivenSince old new (given ++ row ∷ [])
  more_given old mid new given row query moved = (moved.advances sql params given query.0, unchanged_then (state g old) (state g mid) (state g new) query.1 moved.same)

  pub all_given : (old mid new : Held S) (given : List Row) → HasGivenSince old mid given → Moves g mid new None → Shown sql params (state g old) (state g new) given
  all_given old mid new given query moved = shown_since sql params (state g old) (state g mid) (state g new) given (given_plain g sql params mid given query.0) query.1 (moved.advances sql params given query.0)

-- Some rows of the table were given since a state, and gathered.
pub record HasReadSome {S : Type 0} (g : Ghosts S) (old now : Held S) (cells : List Cell) (generation : Option ℕ) : Type 0 where
  pub rows : List Row
  pub given : HasGivenSince g all_text [] old now rows
  pub gathered : HasGathered rows cells generation
