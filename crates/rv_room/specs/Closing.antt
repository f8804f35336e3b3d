-- What is known of a room that is closed.
use Rattle.std.specs.Prelude.{◌≡◌, ◌⊎◌, ℕ, ◌+◌, ◌≤◌, List, [], ◌∷◌, Some, slice_get}
use Rattle.std.specs.List.{AllByRecursion}
use Rattle.rv_book.specs.declared.entry.Entry.{Entry}
use Rattle.rv_book.specs.Book.{size, Extends}
use Rattle.rv_history.specs.Served.{Next}
use Rattle.rv_keeper.specs.declared.keeper.Keeper.{Ghosts}
use Rattle.rv_desk.specs.DeskStates.{DeskState}
use Rattle.rv_room.specs.declared.view.SeatView.{SeatView}
use Rattle.rv_room.specs.Following.{FollowsAll}
use Rattle.rv_room.specs.Lists.{total, once_below}
use Rattle.rv_room.specs.Rule.{own_at, Keeps, StandsAfter}
use Rattle.rv_room.specs.Views.{both}

module _ {K : Type 0} where
  -- many views made one
  abbrev pub gather : SeatView K → List (SeatView K) → SeatView K
  gather v [] = v
  gather v (w ∷ ws) = both (gather v ws) w

  -- one of the seats had left the entry in doubt
  abbrev pub SomeLeft : List (SeatView K) → Entry → Type 0
  SomeLeft [] e = ⊥
  SomeLeft (v ∷ vs) e = ((k : ℕ) × (slice_get v.left k ≡ Some (Next.entry e))) ⊎ SomeLeft vs e

-- The seats of a room that was opened with a desk and closed with one. The book goes on from the opened one, and from what each seat had
-- seen; what a seat made stands in it at its place; each place after the opened book is own of one seat, and once; what one settled,
-- and what is in doubt, some seat had left, and no closing is in doubt; the keeper follows the one that the room was opened with, and each that a seat remembers.
pub record Closes {K : Type 0} (G : Ghosts K) (opened : DeskState K) (views : List (SeatView K)) (desk : DeskState K) : Type 0 where
  pub keeps : Keeps G opened desk
  pub begun : Extends desk.book opened.book
  pub seen : AllByRecursion (λ v. Extends desk.book v.seen) views
  pub own : AllByRecursion (λ v. AllByRecursion (StandsAfter desk.book) v.own) views
  pub places : (n : ℕ) → total (own_at n) views + once_below n (size opened.book) ≡ once_below n (size desk.book)
  pub left : AllByRecursion (λ v. AllByRecursion (SomeLeft views) v.settled) views
  pub doubt : (e : Entry) → desk.doubt ≡ Some (Next.entry e) → SomeLeft views e
  pub after : AllByRecursion (λ v. FollowsAll G v.after desk.keeper) views
  pub risen : G.faults opened.keeper ≤ G.faults desk.keeper
