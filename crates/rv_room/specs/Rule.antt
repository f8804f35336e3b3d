-- The rule of a room. The words of its table are how many tickets were taken and how many turns have ended, both modulo 2^64, the
-- length of the history, and then those that only wake seats, which may be any.
use Rattle.std.specs.Prelude.{◌≡◌, ◌⊎◌, ℕ, ◌+◌, ◌%◌, ◌^◌, ◌<◌, ◌≤◌, List, [], ◌∷◌, Option, Some, slice_get}
use Rattle.std.specs.List.{AllByRecursion}
use mathlib.Core.Option.{some, none}
use mathlib.Core.Option as maybe
use lib.ListN.{get_elem?}
use Rattle.atomic_table.specs.Table.{State}
use Rattle.rv_book.specs.declared.entry.Entry.{Entry}
use Rattle.rv_book.specs.Book.{Book, entry_at, size, Extends}
use Rattle.rv_history.specs.Served.{Doubt, IsNoClosing, Next}
use Rattle.rv_keeper.specs.declared.keeper.Keeper.{Ghosts}
use Rattle.rv_desk.specs.DeskStates.{DeskState}
use Rattle.rv_room.specs.declared.view.SeatView.{SeatView}
use Rattle.rv_room.specs.Following.{KeeperFollows, FollowsAll}
use Rattle.rv_room.specs.Lists.{total, once_below, count_at}

-- the entry stands in the book after so many places
abbrev pub StandsAfter : Book → ℕ × Entry → Type 0
StandsAfter book x = entry_at (x.0 + 1) book ≡ Some x.1

module _ {K : Type 0} where
  abbrev pub seat_parts : SeatView K → ℕ
  seat_parts v = v.parts

  abbrev pub waits_of : SeatView K → ℕ
  waits_of v = v.waits

  abbrev pub own_at : ℕ → SeatView K → ℕ
  own_at n v = count_at n v.own

  -- some seat's turn left the entry in doubt
  abbrev pub IsLeftBySeat : List (SeatView K) → Entry → Type 0
  IsLeftBySeat views e = (j : ℕ) × (v : SeatView K) × (get_elem? views j ≡ some v) × ((k : ℕ) × (slice_get v.left k ≡ Some (Next.entry e)))

  abbrev pub DoubtIsLeft : List (SeatView K) → Doubt → Type 0
  DoubtIsLeft views doubt = (e : Entry) → doubt ≡ Some (Next.entry e) → IsLeftBySeat views e

  -- a seat has the turn, and the slot is empty
  pub record IsOut (homes : List (maybe.Option (Option (DeskState K)))) (views : List (SeatView K)) : Type 0 where
    pub empty : homes ≡ none ∷ []
    pub who : ℕ
    pub view : SeatView K
    pub at : get_elem? views who ≡ some view
    pub turn : view.turns ≡ 1
    pub doubt : DoubtIsLeft views view.doubt

module _ {K : Type 0} (G : Ghosts K) where
  -- the desk has kept the limit of the one that the room was opened with, no closing is in doubt, and its keeper follows that one's
  pub record Keeps (opened d : DeskState K) : Type 0 where
    pub limit : d.limit ≡ opened.limit
    pub doubt : IsNoClosing d.doubt
    pub keeper : KeeperFollows G opened.keeper d.keeper

  -- it is a desk of the seat's room
  abbrev pub IsOf : SeatView K → DeskState K → Type 0
  IsOf v d = (opened : DeskState K) × (v.opened ≡ Some opened) × Keeps opened d

  -- What holds of one view, where the room was opened with this desk, this is the history, so many turns have ended, so many seats
  -- wait or have the turn, and this is the keeper.
  pub record SeatFits (opened : DeskState K) (log : Book) (front waiting : ℕ) (keeper : K) (v : SeatView K) : Type 0 where
    pub once : v.waits ≤ 1
    pub part : v.waits ≤ v.parts
    pub waits : v.turns ≤ v.waits
    pub line : v.waits ≡ 1 → (front ≤ v.ticket) × (v.ticket < front + waiting)
    pub turn : v.turns ≡ 1 → (v.ticket ≡ front) × (v.book ≡ log) × (v.keeper ≡ Some keeper)
    pub knows : 0 < v.parts → v.opened ≡ Some opened
    pub seen : 0 < v.parts → Extends log v.seen
    pub joined : AllByRecursion (Extends log) v.joined
    pub own : AllByRecursion (StandsAfter log) v.own
    pub after : FollowsAll G v.after keeper
    pub spent : v.parts ≡ 0 → (v.own ≡ []) × (v.left ≡ [])

  -- The desk is at home, where its book is the history and what is in doubt was left by some seat, and nobody has the turn.
  pub record AtHome (opened : DeskState K) (log : Book) (keeper : K) (homes : List (maybe.Option (Option (DeskState K)))) (views : List (SeatView K)) : Type 0 where
    pub desk : DeskState K
    pub home : homes ≡ some (Some desk) ∷ []
    pub book : desk.book ≡ log
    pub keeper_is : desk.keeper ≡ keeper
    pub keeps : Keeps opened desk
    pub doubt : DoubtIsLeft views desk.doubt
    pub nobody : (j : ℕ) (v : SeatView K) → get_elem? views j ≡ some v → v.turns ≡ 0

  pub record Kept (opened : DeskState K) (seats : ℕ) (words : List ℕ) (homes : List (maybe.Option (Option (DeskState K)))) (views : List (SeatView K)) : Type 0 where
    pub log : Book
    pub front : ℕ
    pub keeper : K
    pub signals : List ℕ
    pub words_are : words ≡ (front + total waits_of views) % 2 ^ 64 ∷ front % 2 ^ 64 ∷ size log ∷ signals
    pub slot : AtHome opened log keeper homes views ⊎ IsOut homes views
    pub few : seats < 2 ^ 32
    pub parts : total seat_parts views ≡ seats
    pub begun : Extends log opened.book
    -- each place after the opened book is own of one view, and once
    pub places : (n : ℕ) → total (own_at n) views + once_below n (size opened.book) ≡ once_below n (size log)
    pub each : (j : ℕ) (v : SeatView K) → get_elem? views j ≡ some v → SeatFits opened log front (total waits_of views) keeper v
    pub apart : (i j : ℕ) (v w : SeatView K) → get_elem? views i ≡ some v → get_elem? views j ≡ some w → v.waits ≡ 1 → w.waits ≡ 1 → v.ticket ≡ w.ticket → i ≡ j
    -- what one view settled was left by some seat
    pub left : (j : ℕ) (v : SeatView K) → get_elem? views j ≡ some v → AllByRecursion (IsLeftBySeat views) v.settled

  abbrev pub KeptIn : DeskState K → ℕ → State (Option (DeskState K)) (SeatView K) → Type 0
  KeptIn opened seats s = Kept opened seats s.words s.homes s.views
