-- What each step at a room's table tells its seat.
use Rattle.std.specs.Prelude.{◌≡◌, ◌≢◌, ℕ, ◌%◌, ◌^◌, List, [], ◌∷◌, Option, Some, None}
use Rattle.atomic_table.specs.Table.{Me}
use Rattle.rv_book.specs.Book.{empty_book, Extends}
use Rattle.rv_history.specs.Served.{with_doubt}
use Rattle.rv_keeper.specs.declared.keeper.Keeper.{Ghosts}
use Rattle.rv_desk.specs.DeskStates.{DeskState}
use Rattle.rv_room.specs.declared.view.SeatView.{SeatView}
use Rattle.rv_room.specs.Following.{FollowsAll}
use Rattle.rv_room.specs.Rule.{IsOf}
use Rattle.rv_room.specs.Views.{waiting, on_turn, grown, entered, noted, with_keeper, ended}

-- what a seat knows, and the slots that it holds
abbrev pub Knows : Type 0 → Type 0
Knows K = Me (Option (DeskState K)) (SeatView K)

module _ {K : Type 0} where
  -- of the desk that the seat carries
  abbrev pub carried : {X : Type 0} → (DeskState K → X) → X → List (ℕ × Option (DeskState K)) → X
  carried f x ((k, Some d) ∷ slots) = f d
  carried f x ((k, None) ∷ slots) = x
  carried f x [] = x

  -- the seat has the ticket that was next
  abbrev pub TakesTicket : Knows K → ℕ → Knows K → Type 0
  TakesTicket m n m' = (t : ℕ) × (t % 2 ^ 64 ≡ n) × (m' ≡ (waiting m.0 t, m.1))

  -- The ticket was still the next one, and the seat has it; or another was, and all stays.
  abbrev pub TakesIfNext : ℕ → Knows K → ℕ → Knows K → Type 0
  TakesIfNext ticket m n m' = (n ≡ ticket → TakesTicket m n m') × (n ≢ ticket → m' ≡ m)

  -- The number of turns that have ended is another than the seat's ticket, and all stays; or it is the ticket, and the seat has the
  -- turn and the desk, whose book goes on from what the seat had seen, and whose keeper follows those that it remembers.
  abbrev pub ChecksTurn : Ghosts K → Knows K → ℕ → Knows K → Type 0
  ChecksTurn G m n m' =
      (n ≢ m.0.ticket % 2 ^ 64 → m' ≡ m)
      × (n ≡ m.0.ticket % 2 ^ 64 → (d : DeskState K) × IsOf G m.0 d × Extends d.book m.0.seen × FollowsAll G m.0.after d.keeper × (m' ≡ (on_turn G.faults m.0 d, (0, Some d) ∷ m.1)))

  -- the entry that was in doubt has entered the book
  abbrev pub CountsSettled : Knows K → ℕ → Knows K → Type 0
  CountsSettled m n m' = m' ≡ (entered m.0 (with_doubt m.0.book m.0.doubt), m.1)

  -- the book has become that of the desk
  abbrev pub CountsMade : Knows K → ℕ → Knows K → Type 0
  CountsMade m n m' = m' ≡ (grown m.0 (carried (λ d. d.book) empty_book m.1), m.1)

  -- this is in doubt now, and this is the keeper
  abbrev pub NotesSettled : Knows K → ℕ → Knows K → Type 0
  NotesSettled m n m' = m' ≡ (noted m.0 (carried (λ d. d.doubt) None m.1) (carried (λ d. Some d.keeper) None m.1), m.1)

  -- the keeper is this now
  abbrev pub NotesKeeper : Knows K → ℕ → Knows K → Type 0
  NotesKeeper m n m' = m' ≡ (with_keeper m.0 (carried (λ d. Some d.keeper) None m.1), m.1)

  -- nothing changes that a seat knows
  abbrev pub Signals : Knows K → ℕ → Knows K → Type 0
  Signals m n m' = m' ≡ m

  -- the turn has ended, and the desk is at home
  abbrev pub Passes : Knows K → ℕ → Knows K → Type 0
  Passes m n m' = m' ≡ (ended m.0, [])
