-- What a turn leaves in what its seat knows.
use Rattle.std.proofs.Common.{◌≡◌, ◌≢◌, ◌⊎◌, ℕ, ◌+◌, ◌-◌, ◌^◌, ◌≤◌, ◌<◌, length, Bool, true, false, List, [], ◌∷◌, ◌++◌, Option, Some, None, refl, sym, ap, ◌∙◌, subst, ⊎_elim, inl, inr, arith, append-nil, length-append}
use Rattle.std.specs.Prelude.{Result, Ok, Err, IfSome}
use Rattle.rv_book.specs.declared.entry.Entry.{Entry}
use Rattle.rv_book.specs.Book.{Book, size, since, with_entry, Extends}
use Rattle.rv_book.specs.BookWordLaws.{since-all, since-with_entry, size-with_entries, size-with_entry}
use Rattle.rv_turns.specs.Asks.{Ask, IsClosing}
use Rattle.rv_turns.specs.Outcomes.{trouble_of}
use Rattle.rv_turns.specs.declared.pushing.Outcome.{Outcome}
use Rattle.rv_turns.specs.declared.pushing.Outcome.TheVariants.{Refused}
use Rattle.rv_turns.specs.declared.refusal.Refusal.TheVariants as refusals
use Rattle.rv_turns.specs.declared.refusal.Trouble.{Trouble}
use Rattle.rv_turns.specs.declared.refusal.Trouble.TheVariants.{Keeper, Changed}
use Rattle.rv_wire.specs.Answers.{pull_json}
use Rattle.rv_history.specs.Marks.{IsMark}
use Rattle.rv_history.specs.TurnLaws.{step_adds}
use Rattle.rv_history.specs.Machine.{Adds}
use Rattle.rv_history.specs.Reading.{turn_steps}
use Rattle.rv_history.specs.Served.{Doubt, IsNoClosing, Next, Served, Settles, TurnOf, TakesTurn}
use Rattle.rv_keeper.specs.declared.keeper.Keeper.{Ghosts}
use Rattle.rv_doubt.specs.Kept.{Assures, KeepsBook}
use Rattle.rv_desk.specs.DeskStates.{DeskTakes, DeskState, served}
use Rattle.rv_doubt.specs.Settling.{HasSettled, settle_trouble}
use Rattle.rv_desk.specs.TurnLaws.{assures_on, no_doubt, none_settles, turn_after, turn_unsettled}
use Rattle.rv_room.specs.declared.view.SeatView.{SeatView}
use Rattle.rv_room.specs.Following.{KeeperFollows, FollowsAll}
use Rattle.rv_room.specs.FollowingLaws.{follows_on}
use Rattle.rv_room.specs.Lists.{numbered}
use Rattle.rv_room.specs.Views.{waiting, on_turn, grown, entered, option_items}
use Rattle.rv_room.specs.Rule.{IsOf}
use Rattle.rv_room.specs.Plays.{Knows}
use Rattle.rv_room.specs.Ends.{end_view, held_view}
use Rattle.rv_room.specs.SeatMarks.{IsSeatMark}
use Rattle.rv_room.specs.SeatTurns.{IsSeatTurn, IsSeatTurnWithin, SettlesSo}

-- ---- Which way a book settled, and whether a step made an entry.

settled_ways : (book : Book) (doubt : Doubt) (s : Book) → IsNoClosing doubt → Settles book doubt s → (s ≡ book) ⊎ ((e : Entry) × (doubt ≡ Some (Next.entry e)) × (s ≡ with_entry book e))
settled_ways book doubt s entry (inl same) = inl same
settled_ways book None s entry (inr same) = inl same
settled_ways book (Some (Next.entry e)) s entry (inr more) = inr (e, refl, more)
settled_ways book (Some (Next.closed closed)) s never (inr is) = absurd never

longer_by_one : (old : Book) (e : Entry) (new : Book) → new ≡ with_entry old e → size new ≡ size old + 1
longer_by_one old e new is = ap size is ∙ size-with_entry old e

-- an entry is counted only where one was made
pub some_made : (s book : Book) (settled now : ℕ) → settled ≡ size s → now ≡ size book → Adds s book → now ≢ settled → (e : Entry) × (book ≡ with_entry s e)
some_made s book settled now s0 n0 adds apart =
    ⊎_elim
    (λ (same : book ≡ s). absurd (apart (n0 ∙ (ap size same ∙ sym s0))))
    (λ t. t)
    adds

module _ {K : Type 0} where
  pub entered_none : (v : SeatView K) → entered v v.book ≡ v
  entered_none v =
      let own : v.own ++ numbered (size v.book) (since (size v.book) v.book) ≡ v.own = ap (λ (l : List Entry). v.own ++ numbered (size v.book) l) (since-all (size v.book) v.book (omega arith)) ∙ append-nil v.own in
      let settled : v.settled ++ since (size v.book) v.book ≡ v.settled = ap (λ (l : List Entry). v.settled ++ l) (since-all (size v.book) v.book (omega arith)) ∙ append-nil v.settled in
      λ i. record v { own = own i; settled = settled i }

  pub grown_none : (v : SeatView K) → grown v v.book ≡ v
  grown_none v =
      let own : v.own ++ numbered (size v.book) (since (size v.book) v.book) ≡ v.own = ap (λ (l : List Entry). v.own ++ numbered (size v.book) l) (since-all (size v.book) v.book (omega arith)) ∙ append-nil v.own in
      λ i. record v { own = own i }

  -- an entry is counted only where one came in
  pub some_came : (v : SeatView K) (s : Book) (began settled : ℕ) → began ≡ size v.book → settled ≡ size s → IsNoClosing v.doubt → Settles v.book v.doubt s → settled ≢ began → (e : Entry) × (v.doubt ≡ Some (Next.entry e)) × (s ≡ with_entry v.book e)
  some_came v s began settled b0 s0 entry is apart =
      ⊎_elim
      (λ (same : s ≡ v.book). absurd (apart (s0 ∙ (ap size same ∙ sym b0))))
      (λ t. t)
      (settled_ways v.book v.doubt s entry is)

  -- what the seat knows once the desk has settled
  pub after_settling : (v : SeatView K) (s : Book) (began settled : ℕ) (came : Bool) (m m' : Knows K) → began ≡ size v.book → settled ≡ size s → IsNoClosing v.doubt → Settles v.book v.doubt s
      → (came ≡ true → settled ≢ began) → (came ≡ false → settled ≡ began)
      → m.0 ≡ v
      → (came ≡ true → (e : Entry) → m.0.doubt ≡ Some (Next.entry e) → m' ≡ (entered m.0 (with_entry m.0.book e), m.1)) → (came ≡ false → m' ≡ m)
      → m' ≡ (entered v s, m.1)
  after_settling v s began settled true m m' b0 s0 entry is apart same is_v then_is else_is =
      let t = some_came v s began settled b0 s0 entry is (apart refl) in
      then_is refl t.0 (ap (λ (u : SeatView K). u.doubt) is_v ∙ t.1) ∙ ((λ i. (entered (is_v i) (with_entry (is_v i).book t.0), m.1)) ∙ ap (λ (b : Book). (entered v b, m.1)) (sym t.2))
  after_settling v s began settled false m m' b0 s0 entry is apart same is_v then_is else_is =
      let e = same refl in
      let whole : s ≡ v.book = ⊎_elim (λ (t : s ≡ v.book). t) (λ (t : (e : Entry) × (v.doubt ≡ Some (Next.entry e)) × (s ≡ with_entry v.book e)). let l = longer_by_one v.book t.0 s t.2 in absurd (omega arith)) (settled_ways v.book v.doubt s entry is) in
      else_is refl ∙ (λ i. ((is_v ∙ (sym (entered_none v) ∙ ap (entered v) (sym whole))) i, m.1))

  -- what the seat knows once the desk has stepped
  pub after_making : (v : SeatView K) (d : DeskState K) (settled now : ℕ) (made : Bool) (m m' : Knows K) → settled ≡ size v.book → now ≡ size d.book → Adds v.book d.book
      → (made ≡ true → now ≢ settled) → (made ≡ false → now ≡ settled)
      → m ≡ (v, (0, Some d) ∷ [])
      → (made ≡ true → (d : DeskState K) → m.1 ≡ (0, Some d) ∷ [] → m' ≡ (grown m.0 d.book, m.1)) → (made ≡ false → m' ≡ m)
      → m' ≡ (grown v d.book, (0, Some d) ∷ [])
  after_making v d settled now true m m' s0 n0 adds apart same is then_is else_is =
      then_is refl d (ap (λ (m : Knows K). m.1) is) ∙ (λ i. (grown (is i).0 d.book, (is i).1))
  after_making v d settled now false m m' s0 n0 adds apart same is then_is else_is =
      let e = same refl in
      let whole : d.book ≡ v.book = ⊎_elim (λ (t : d.book ≡ v.book). t) (λ (t : (e : Entry) × (d.book ≡ with_entry v.book e)). let l = longer_by_one v.book t.0 d.book t.1 in absurd (omega arith)) adds in
      else_is refl ∙ (is ∙ (λ i. ((sym (grown_none v) ∙ ap (grown v) (sym whole)) i, (0, Some d) ∷ [])))

-- ---- All of a turn.

module _ {K : Type 0} (G : Ghosts K) where
  pub goes_with : (old new : K) (tr : Option Trouble) → Assures G.tells G.fails_no_more old tr new → G.faults old ≤ G.faults new → KeeperFollows G old new
  goes_with old new tr assured later = record { told = assured.told; goes_on = assured.goes_on; later = later }

  pub of_after : (v : SeatView K) (d d' : DeskState K) → IsOf G v d → d'.limit ≡ d.limit → IsNoClosing d'.doubt → KeeperFollows G d.keeper d'.keeper → IsOf G v d'
  of_after v d d' of limit entry goes = (of.0, of.1, record { limit = limit ∙ of.2.limit; doubt = entry; keeper = follows_on G of.0.keeper d.keeper d'.keeper of.2.keeper goes })

-- where nothing was in doubt, a turn that asks for no closing adds at most one entry
module _ (old : Served) (ask : Ask) (outcome : Outcome) (new : Served) (asks : ¬ IsClosing ask) (sure : old.doubt ≡ None) where
  adds_by : (settled : Book) (left : Doubt) (trouble : Option Trouble) → Settles old.book old.doubt settled → TurnOf pull_json old settled ask outcome left trouble new → Adds old.book new.book
  adds_by settled None None is (step, none, still) = subst (λ (b : Book). Adds b new.book) (none_settles old.book old.doubt settled sure is) (step_adds pull_json old.limit settled ask outcome new.book asks step)
  adds_by settled None (Some trouble) is (same, stays) = no_doubt old.doubt sure stays.doubt
  adds_by settled (Some entry) (Some Keeper) is left = inl (left.book ∙ none_settles old.book old.doubt settled sure is)
  adds_by settled (Some entry) (Some (Changed kept found)) is never = absurd never
  adds_by settled (Some entry) None is never = absurd never

  pub turn_adds : TakesTurn pull_json old ask outcome new → Adds old.book new.book
  turn_adds taken = adds_by taken.settled taken.left (trouble_of outcome) taken.settles taken.turn

-- what a turn left in doubt is in doubt, and nothing else, where nothing was
module _ (old : Served) (ask : Ask) (outcome : Outcome) (new : Served) (sure : old.doubt ≡ None) where
  left_by : (settled : Book) (left : Doubt) (trouble : Option Trouble) → TurnOf pull_json old settled ask outcome left trouble new → new.doubt ≡ left
  left_by settled None None (step, none, still) = none
  left_by settled None (Some trouble) (same, stays) = no_doubt old.doubt sure stays.doubt
  left_by settled (Some entry) (Some Keeper) left = left.doubt
  left_by settled (Some entry) (Some (Changed kept found)) never = absurd never
  left_by settled (Some entry) None never = absurd never

  turn_left : (taken : TakesTurn pull_json old ask outcome new) → new.doubt ≡ taken.left
  turn_left taken = left_by taken.settled taken.left (trouble_of outcome) taken.turn

module _ {K : Type 0} (G : Ghosts K) where
  pub seat_turn : (v : SeatView K) (t : ℕ) (d mid d' : DeskState K) (ask : Ask) (outcome : Outcome) → ¬ IsClosing ask → IsOf G v d → Extends d.book v.seen → FollowsAll G v.after d.keeper
      → HasSettled (served G.faults d) (Ok tt) (served G.faults mid) → Assures G.tells G.fails_no_more d.keeper None mid.keeper → DeskTakes G mid ask outcome d'
      → IsSeatTurn G v ask outcome (end_view (on_turn G.faults (waiting v t) d) mid.book d'.book d'.doubt d'.keeper)
  seat_turn v t d mid d' ask outcome asks of begins later settled assured takes = record {
    opened = of.0;
    desk = d;
    now = d';
    room = of.1;
    keeps = of.2;
    begins = begins;
    follows = later;
    asks = asks;
    takes = record { turn = turn_after pull_json ask outcome (served G.faults d) (served G.faults mid) (served G.faults d') settled takes.turn; assured = assures_on G.tells G.fails_no_more d.keeper mid.keeper d'.keeper (trouble_of outcome) assured takes.assured; kept = takes.kept };
    stays = refl;
    seen = refl;
    ends = refl;
    own = refl;
    settled = refl;
    left = ap (λ (doubt : Doubt). v.left ++ option_items doubt) (turn_left (served G.faults mid) ask outcome (served G.faults d') settled.settled.1 takes.turn);
    before = refl;
    after = refl;
  }

  pub seat_held : (v : SeatView K) (t : ℕ) (d d' : DeskState K) (trouble : Trouble) (ask : Ask) → ¬ IsClosing ask → IsOf G v d → Extends d.book v.seen → FollowsAll G v.after d.keeper
      → HasSettled (served G.faults d) (Err trouble) (served G.faults d') → Assures G.tells G.fails_no_more d.keeper (Some trouble) d'.keeper → KeepsBook G d'.keeper d'.book d'.doubt
      → IsSeatTurn G v ask (Refused (refusals.Trouble trouble)) (held_view (on_turn G.faults (waiting v t) d) d'.keeper)
  seat_held v t d d' trouble ask asks of begins later settled assured kept =
      let same : d'.book ≡ d.book = settled.settled.stays.0 in
      let none : since (size d.book) d.book ≡ [] = since-all (size d.book) d.book (omega arith) in record {
        opened = of.0;
        desk = d;
        now = d';
        room = of.1;
        keeps = of.2;
        begins = begins;
        follows = later;
        asks = asks;
        takes = record { turn = turn_unsettled pull_json ask (served G.faults d) (served G.faults d') trouble settled; assured = assured; kept = kept };
        stays = refl;
        seen = sym same;
        ends = ap (λ (b : Book). v.ends ++ size b ∷ []) (sym same);
        own = sym (ap (λ (l : List Entry). (v.own ++ numbered (size d.book) (since (size d.book) d.book)) ++ numbered (size d.book) l) (ap (λ (b : Book). since (size d.book) b) same ∙ none) ∙ append-nil (v.own ++ numbered (size d.book) (since (size d.book) d.book)) ∙ ap (λ (l : List Entry). v.own ++ numbered (size d.book) l) none ∙ append-nil v.own);
        settled = sym (ap (λ (l : List Entry). v.settled ++ l) none ∙ append-nil v.settled);
        left = sym (append-nil v.left);
        before = refl;
        after = refl;
      }

-- ---- The steps of a turn, one after another.

module _ {K : Type 0} (G : Ghosts K) where
  -- what a seat knows and holds once it has taken the desk out of its slot
  abbrev pub HasTaken : SeatView K → DeskState K → Knows K → Type 0
  HasTaken v d m = (t : ℕ) × (m ≡ (on_turn G.faults (waiting v t) d, (0, None) ∷ []))

  pub taken_of : (v : SeatView K) (d d' : DeskState K) (m : Knows K) → HasTaken v d m → IsOf G v d → d'.limit ≡ d.limit → IsNoClosing d'.doubt → KeeperFollows G d.keeper d'.keeper → IsOf G m.0 d'
  taken_of v d d' m taken of limit entry goes = subst (λ (m : Knows K). IsOf G m.0 d') (sym taken.1) (of_after G v d d' of limit entry goes)

  pub taken_entry : (v : SeatView K) (d : DeskState K) (m : Knows K) → HasTaken v d m → IsOf G v d → IsNoClosing m.0.doubt
  taken_entry v d m taken of = subst (λ (m : Knows K). IsNoClosing m.0.doubt) (sym taken.1) of.2.doubt

  pub taken_follows : (v : SeatView K) (d : DeskState K) (m : Knows K) (now : K) → HasTaken v d m → KeeperFollows G d.keeper now → IfSome m.0.keeper (λ keeper. KeeperFollows G keeper now)
  taken_follows v d m now taken goes = subst (λ (m : Knows K). IfSome m.0.keeper (λ keeper. KeeperFollows G keeper now)) (sym taken.1) goes

  pub taken_settles : (v : SeatView K) (d : DeskState K) (m : Knows K) (s : Book) → HasTaken v d m → Settles d.book d.doubt s → Settles m.0.book m.0.doubt s
  taken_settles v d m s taken is = subst (λ (m : Knows K). Settles m.0.book m.0.doubt s) (sym taken.1) is

module _ {K : Type 0} (G : Ghosts K) where
  pub ended_within : (v : SeatView K) (d mid d' : DeskState K) (m : Knows K) (ask : Ask) (outcome : Outcome) (w : SeatView K) → ¬ IsClosing ask → HasTaken G v d m → IsOf G v d → Extends d.book v.seen → FollowsAll G v.after d.keeper
      → (settled : Result (Unit {0}) Trouble) → settled ≡ Ok tt → HasSettled (served G.faults d) settled (served G.faults mid) → Assures G.tells G.fails_no_more d.keeper (settle_trouble settled) mid.keeper → DeskTakes G mid ask outcome d'
      → w ≡ end_view m.0 mid.book d'.book d'.doubt d'.keeper
      → (before after : ℕ) → after ≤ before + turn_steps ask mid.book
      → IsSeatTurnWithin G v ask outcome w before after
  unfolding seat_turn
  ended_within v d mid d' m ask outcome w asks taken of begins later settled ok is assured takes view before after within =
      subst (λ (s : SeatView K). IsSeatTurnWithin G v ask outcome s before after) (sym (view ∙ ap (λ (m : Knows K). end_view m.0 mid.book d'.book d'.doubt d'.keeper) taken.1)) (
        seat_turn G v taken.0 d mid d' ask outcome asks of begins later (subst (λ (r : Result (Unit {0}) Trouble). HasSettled (served G.faults d) r (served G.faults mid)) ok is)
            (subst (λ (r : Result (Unit {0}) Trouble). Assures G.tells G.fails_no_more d.keeper (settle_trouble r) mid.keeper) ok assured) takes,
        within,
      )

  pub held_within : (v : SeatView K) (d d' : DeskState K) (m : Knows K) (ask : Ask) (w : SeatView K) (why : Trouble) → ¬ IsClosing ask → HasTaken G v d m → IsOf G v d → Extends d.book v.seen → FollowsAll G v.after d.keeper
      → (settled : Result (Unit {0}) Trouble) → settled ≡ Err why → HasSettled (served G.faults d) settled (served G.faults d') → Assures G.tells G.fails_no_more d.keeper (settle_trouble settled) d'.keeper → KeepsBook G d'.keeper d'.book d'.doubt
      → w ≡ held_view m.0 d'.keeper
      → (before : ℕ) → IsSeatTurnWithin G v ask (Refused (refusals.Trouble why)) w before before
  held_within v d d' m ask w why asks taken of begins later settled err is assured kept view before =
      subst (λ (s : SeatView K). IsSeatTurnWithin G v ask (Refused (refusals.Trouble why)) s before before) (sym (view ∙ ap (λ (m : Knows K). held_view m.0 d'.keeper) taken.1)) (
        seat_held G v taken.0 d d' why ask asks of begins later (subst (λ (r : Result (Unit {0}) Trouble). HasSettled (served G.faults d) r (served G.faults d')) err is)
            (subst (λ (r : Result (Unit {0}) Trouble). Assures G.tells G.fails_no_more d.keeper (settle_trouble r) d'.keeper) err assured) kept,
        omega arith,
      )

-- ---- What a turn settled.

pub settled_more : (book : Book) (doubt : Doubt) (s : Book) → IsNoClosing doubt → Settles book doubt s → size s ≡ size book + length (since (size book) s)
settled_more book doubt s entry is =
    ⊎_elim
    (λ (same : s ≡ book). let none = ap length (since-all (size book) s (omega (arith, ap size same))) in omega (arith, ap size same, none))
    (λ (t : (e : Entry) × (doubt ≡ Some (Next.entry e)) × (s ≡ with_entry book e)).
    let one = ap (λ (b : Book). length (since (size book) b)) t.2 ∙ ap length (since-with_entry (size book) book t.0 (omega arith)) ∙ length-append (since (size book) book) (t.0 ∷ []) in
    let none = ap length (since-all (size book) book (omega arith)) in
    omega (arith, longer_by_one book t.0 s t.2, one, none))
    (settled_ways book doubt s entry is)

extends_size : (new old : Book) → Extends new old → size old ≤ size new
extends_size new old (more, is) = omega (arith, ap size is, size-with_entries old more)

adds_size : (old new : Book) → Adds old new → size old ≤ size new
adds_size old new (inl same) = omega (arith, ap size same)
adds_size old new (inr (e, is)) = omega (arith, longer_by_one old e new is)

module _ {K : Type 0} (G : Ghosts K) where
  -- the desk settled and stepped
  pub ended_settles : (v : SeatView K) (d mid d' : DeskState K) (m : Knows K) (w : SeatView K) → HasTaken G v d m → IsOf G v d → Extends d.book v.seen → Settles d.book d.doubt mid.book → Adds mid.book d'.book
      → w ≡ end_view m.0 mid.book d'.book d'.doubt d'.keeper
      → (began settled now : ℕ) → began ≡ size d.book → settled ≡ size mid.book → now ≡ size d'.book → now < 2 ^ 32 → SettlesSo v (settled - began) w
  ended_settles v d mid d' m w taken of begins settles adds view began settled now b0 s0 n0 few =
      let is : w ≡ end_view (on_turn G.faults (waiting v taken.0) d) mid.book d'.book d'.doubt d'.keeper = view ∙ ap (λ (m : Knows K). end_view m.0 mid.book d'.book d'.doubt d'.keeper) taken.1 in
      let more = settled_more d.book d.doubt mid.book of.2.doubt settles in
      let count = ap (λ (s : SeatView K). length s.settled) is ∙ length-append v.settled (since (size d.book) mid.book) in
      let seen = ap (λ (s : SeatView K). size s.seen) is in record {
        count = omega (arith, count, more, b0, s0);
        seen = omega (arith, seen, more, b0, s0, extends_size d.book v.seen begins, adds_size mid.book d'.book adds);
        few = omega (arith, seen, n0, few);
      }

  -- the desk could not settle
  pub held_settles : (v : SeatView K) (d d' : DeskState K) (m : Knows K) (w : SeatView K) → HasTaken G v d m → Extends d.book v.seen → w ≡ held_view m.0 d'.keeper → (began : ℕ) → began ≡ size d.book → began < 2 ^ 32 → SettlesSo v 0 w
  held_settles v d d' m w taken begins view began b0 few =
      let is : w ≡ held_view (on_turn G.faults (waiting v taken.0) d) d'.keeper = view ∙ ap (λ (m : Knows K). held_view m.0 d'.keeper) taken.1 in
      let count = ap (λ (s : SeatView K). length s.settled) is in
      let seen = ap (λ (s : SeatView K). size s.seen) is in record {
        count = omega (arith, count);
        seen = omega (arith, seen, extends_size d.book v.seen begins);
        few = omega (arith, seen, b0, few);
      }

-- ---- All of a turn that leaves the desk as it is.

module _ {K : Type 0} (G : Ghosts K) where
  seat_mark : (v : SeatView K) (t : ℕ) (d : DeskState K) (user : List ℕ) (mark : ℕ) → IsOf G v d → Extends d.book v.seen → FollowsAll G v.after d.keeper → IsMark user d.book mark → KeepsBook G d.keeper d.book d.doubt
      → IsSeatMark G v user mark (held_view (on_turn G.faults (waiting v t) d) d.keeper)
  seat_mark v t d user mark of begins later is kept = record {
    opened = of.0;
    desk = d;
    room = of.1;
    keeps = of.2;
    begins = begins;
    follows = later;
    marks = is;
    kept = kept;
    stays = refl;
    seen = refl;
    ends = refl;
    own = refl;
    settled = refl;
    left = refl;
    before = refl;
    after = refl;
  }

  pub marked_turn : (v : SeatView K) (d : DeskState K) (m : Knows K) (user : List ℕ) (mark : ℕ) (w : SeatView K) → HasTaken G v d m → IsOf G v d → Extends d.book v.seen → FollowsAll G v.after d.keeper → IsMark user d.book mark → KeepsBook G d.keeper d.book d.doubt
      → w ≡ held_view m.0 d.keeper
      → IsSeatMark G v user mark w
  marked_turn v d m user mark w taken of begins later is kept view =
      subst (IsSeatMark G v user mark) (sym (view ∙ ap (λ (m : Knows K). held_view m.0 d.keeper) taken.1)) (seat_mark v taken.0 d user mark of begins later is kept)
