-- What is known of all seats of a room holds of those alone that entered something.
use Rattle.std.proofs.Common.{◌≡◌, ℕ, ◌+◌, List, [], ◌∷◌, ◌++◌, Some, refl, ap, subst, arith, inl, inr}
use Rattle.std.specs.Prelude.{slice_get}
use Rattle.std.specs.List.{AllByRecursion}
use Rattle.rv_book.specs.Book.{Extends}
use Rattle.rv_book.specs.declared.entry.Entry.{Entry}
use Rattle.rv_history.specs.Served.{Next}
use Rattle.rv_keeper.specs.declared.keeper.Keeper.{Ghosts}
use Rattle.rv_desk.specs.DeskStates.{DeskState}
use Rattle.rv_room.specs.declared.view.SeatView.{SeatView}
use Rattle.rv_room.specs.Closing.{Closes, SomeLeft}
use Rattle.rv_room.specs.Following.{FollowsAll}
use Rattle.rv_room.specs.Lists.{count_at, total}
use Rattle.rv_room.specs.Rule.{own_at, StandsAfter}
use Rattle.rv_room.specs.Views.{newcomer}
use Rattle.rv_workers.specs.Looking.{HasEnteredNothing}
use Rattle.rv_workers.specs.Serving.{HasOnlyLooked, ServesBothKinds, ServesSeated}

all_front : {X : Type 0} (P : X → Type 0) (xs ys : List X) → AllByRecursion P (xs ++ ys) → AllByRecursion P xs
all_front P [] ys all = tt
all_front P (x ∷ xs) ys (one, rest) = (one, all_front P xs ys rest)

all_rest : {X : Type 0} (P : X → Type 0) (xs ys : List X) → AllByRecursion P (xs ++ ys) → AllByRecursion P ys
all_rest P [] ys all = all
all_rest P (x ∷ xs) ys (one, rest) = all_rest P xs ys rest

all_so : {X : Type 0} (P Q : X → Type 0) → ((x : X) → P x → Q x) → (xs : List X) → AllByRecursion P xs → AllByRecursion Q xs
all_so P Q so [] all = tt
all_so P Q so (x ∷ xs) (one, rest) = (so x one, all_so P Q so xs rest)

all_both : {X : Type 0} (P Q R : X → Type 0) → ((x : X) → P x → Q x → R x) → (xs : List X) → AllByRecursion P xs → AllByRecursion Q xs → AllByRecursion R xs
all_both P Q R so [] all others = tt
all_both P Q R so (x ∷ xs) (one, rest) (other, others) = (so x one other, all_both P Q R so xs rest others)

none_at : (k : ℕ) (e : Entry) → slice_get [] k ≡ Some (Next.entry e) → ⊥
none_at k e is = absurd (cc)

module _ {K : Type 0} (opened : DeskState K) where
  abbrev Idle : SeatView K → Type 0
  Idle = HasEnteredNothing (newcomer 1 opened)

  none_own : (n : ℕ) (ws : List (SeatView K)) → AllByRecursion Idle ws → total (own_at n) ws ≡ 0
  none_own n [] idle = refl
  none_own n (w ∷ ws) (i, is) = let here = ap (count_at n) i.own in let more = none_own n ws is in omega (arith, here, more)

  own_front : (n : ℕ) (vs ws : List (SeatView K)) → AllByRecursion Idle ws → total (own_at n) (vs ++ ws) ≡ total (own_at n) vs
  own_front n [] ws idle = none_own n ws idle
  own_front n (v ∷ vs) ws idle = ap (λ k. own_at n v + k) (own_front n vs ws idle)

  left_front : (e : Entry) (vs ws : List (SeatView K)) → AllByRecursion Idle ws → SomeLeft (vs ++ ws) e → SomeLeft vs e
  left_front e [] [] idle never = never
  left_front e [] (w ∷ ws) (i, is) (inl (k, at)) = absurd (none_at k e (subst (λ (l : List Next). slice_get l k ≡ Some (Next.entry e)) i.left at))
  left_front e [] (w ∷ ws) (i, is) (inr more) = left_front e [] ws is more
  left_front e (v ∷ vs) ws idle (inl here) = inl here
  left_front e (v ∷ vs) ws idle (inr more) = inr (left_front e vs ws idle more)

  pub closes_front : (G : Ghosts K) (desk : DeskState K) (vs ws : List (SeatView K)) → AllByRecursion Idle ws → Closes G opened (vs ++ ws) desk
      → Closes G opened vs desk × AllByRecursion (HasOnlyLooked G desk) ws
  closes_front G desk vs ws idle closes = (
    record {
      keeps = closes.keeps;
      begun = closes.begun;
      seen = all_front (λ v. Extends desk.book v.seen) vs ws closes.seen;
      own = all_front (λ v. AllByRecursion (StandsAfter desk.book) v.own) vs ws closes.own;
      places = λ n. let front = own_front n vs ws idle in let all = closes.places n in omega (arith, front, all);
      left = all_so (λ v. AllByRecursion (SomeLeft (vs ++ ws)) v.settled) (λ v. AllByRecursion (SomeLeft vs) v.settled)
          (λ v some. all_so (SomeLeft (vs ++ ws)) (SomeLeft vs) (λ e left. left_front e vs ws idle left) v.settled some)
          vs (all_front (λ v. AllByRecursion (SomeLeft (vs ++ ws)) v.settled) vs ws closes.left);
      doubt = λ e is. left_front e vs ws idle (closes.doubt e is);
      after = all_front (λ v. FollowsAll G v.after desk.keeper) vs ws closes.after;
      risen = closes.risen;
    },
    all_both (λ v. Extends desk.book v.seen) (λ v. FollowsAll G v.after desk.keeper) (HasOnlyLooked G desk) (λ v seen after. record { seen = seen; after = after })
        ws (all_rest (λ v. Extends desk.book v.seen) vs ws closes.seen) (all_rest (λ v. FollowsAll G v.after desk.keeper) vs ws closes.after),
  )

-- seats served listeners, and the room was closed with them
pub serves_both : {K L P : Type 0} (G : Ghosts K) (Serves : SeatView K → L → SeatView K → L → Type 0) (Pokes : SeatView K → P → SeatView K → P → Type 0) (opened desk : DeskState K) (givens : List L) (poked : List P) (all : List (SeatView K)) (backs : List L) (poked_back : List P)
    → ServesSeated Serves Pokes (newcomer 1 opened) givens poked all backs poked_back → Closes G opened all desk → ServesBothKinds G Serves Pokes opened givens poked desk backs poked_back
serves_both G Serves Pokes opened desk givens poked all backs poked_back seated closes =
    let (front, looks) = closes_front opened G desk seated.views seated.lookers seated.idle (subst (λ (vs : List (SeatView _)). Closes G opened vs desk) seated.are closes) in
    record { conns = record { views = seated.views; serves = seated.serves; closes = front }; lookers = seated.lookers; pokes = seated.pokes; looks = looks }
