-- What follows from a turn: where no closing is asked or in doubt, a step adds at most one entry to its book, and so does settling, and a turn
-- only adds to it; each turn that tells no trouble is a step from the settled book, in which no fault came.
use Rattle.std.proofs.Common.{◌≡◌, ℕ, ◌+◌, ap, arith, inl, inr, Bool, true, false, List, [], ◌∷◌, Option, Some, None, refl, sym, subst, ◌∙◌}
use Rattle.rv_book.specs.Book.{Book, size, Extends}
use Rattle.rv_book.specs.BookWordLaws.{extends_same, extends_on, size-with_entry}
use Rattle.rv_turns.specs.Asks.{Ask, IsClosing}
use Rattle.rv_turns.specs.Outcomes.{refusal_of, trouble_of}
use Rattle.rv_turns.specs.declared.pushing.Outcome.{Outcome}
use Rattle.rv_turns.specs.declared.pushing.Outcome.TheVariants.{Acted, Skipped, Pulled, Retired, Closed, Refused}
use Rattle.rv_turns.specs.declared.pull.PullReply.{PullReply}
use Rattle.rv_turns.specs.declared.pull.PullRequest.{PullRequest}
use Rattle.rv_turns.specs.declared.refusal.Trouble.{Trouble}
use Rattle.rv_turns.specs.declared.refusal.Trouble.TheVariants.{Keeper, Changed}
use Rattle.rv_history.specs.Machine.{ReplyText, Replies, Step, Adds}
use Rattle.rv_history.specs.Served.{Next, with_next, MayFollow, Served, Settles, TurnOf, TakesTurn, Doubt, IsNoClosing, IsOf}

adds_go : (old new : Book) → Adds old new → Extends new old
adds_go old new (inl same) = extends_same new old same
adds_go old new (inr (e, is)) = (e ∷ [], is)

module _ (write : ReplyText) (limit : ℕ) (book : Book) where
  replies_adds : (user : List ℕ) (request : PullRequest) (same : Bool) (reply : PullReply) (new : Book) → Replies write limit book user request same reply new → Adds book new
  replies_adds user request true reply new s = inl s.2
  replies_adds user request false reply new s = inr (_, s.4)

  pub step_adds : (ask : Ask) (outcome : Outcome) (new : Book) → ¬ IsClosing ask → Step write limit book ask outcome new → Adds book new
  step_adds (Ask.mutation from m) (Refused refusal) new apart s = inl s.1
  step_adds (Ask.mutation from m) (Skipped number) new apart s = inl s.3
  step_adds (Ask.mutation from m) (Acted place) new apart s = inr (_, s.4)
  step_adds (Ask.mutation from m) (Pulled reply) new apart s = absurd s
  step_adds (Ask.mutation from m) (Retired place) new apart s = absurd s
  step_adds (Ask.mutation from m) (Closed place) new apart s = absurd s
  step_adds (Ask.pull user request) (Refused refusal) new apart s = inl s.1
  step_adds (Ask.pull user request) (Pulled reply) new apart s = replies_adds user request reply.same reply new s.1
  step_adds (Ask.pull user request) (Acted place) new apart s = absurd s
  step_adds (Ask.pull user request) (Skipped number) new apart s = absurd s
  step_adds (Ask.pull user request) (Retired place) new apart s = absurd s
  step_adds (Ask.pull user request) (Closed place) new apart s = absurd s
  step_adds (Ask.retirement group) (Refused refusal) new apart s = inl s.1
  step_adds (Ask.retirement group) (Retired place) new apart s = inr (_, s.4)
  step_adds (Ask.retirement group) (Acted place) new apart s = absurd s
  step_adds (Ask.retirement group) (Skipped number) new apart s = absurd s
  step_adds (Ask.retirement group) (Pulled reply) new apart s = absurd s
  step_adds (Ask.retirement group) (Closed place) new apart s = absurd s
  step_adds Ask.closing outcome new apart s = absurd (apart tt)

-- with what may come next it is one place longer
pub size-with_next : (book : Book) (next : Next) → MayFollow book next → size (with_next book next) ≡ size book + 1
size-with_next book (Next.entry entry) may = size-with_entry book entry
size-with_next book (Next.closed closed) closes =
    let is : size closed ≡ closes.page.at + 0 = ap size closes.is in
    let at = closes.sums.at in
    omega (arith, is, at)

pub settles_go : (book : Book) (doubt : Doubt) (settled : Book) → IsNoClosing doubt → Settles book doubt settled → Extends settled book
settles_go book doubt settled entry (inl same) = extends_same settled book same
settles_go book None settled entry (inr same) = extends_same settled book same
settles_go book (Some (Next.entry e)) settled entry (inr is) = (e ∷ [], is)
settles_go book (Some (Next.closed closed)) settled never is = absurd never

-- what is in doubt after what is asked, where that is no closing
pub is_no_closing : (ask : Ask) (next : Next) → ¬ IsClosing ask → IsOf ask next → IsNoClosing (Some next)
is_no_closing (Ask.mutation from m) (Next.entry e) apart is = tt
is_no_closing (Ask.mutation from m) (Next.closed closed) apart is = absurd is
is_no_closing (Ask.pull user request) (Next.entry e) apart is = tt
is_no_closing (Ask.pull user request) (Next.closed closed) apart is = absurd is
is_no_closing (Ask.retirement group) (Next.entry e) apart is = tt
is_no_closing (Ask.retirement group) (Next.closed closed) apart is = absurd is
is_no_closing Ask.closing next apart is = absurd (apart tt)

module _ (write : ReplyText) (ask : Ask) (outcome : Outcome) (old new : Served) where
  settled_goes : ¬ IsClosing ask → (settled : Book) (left : Doubt) (trouble : Option Trouble) → TurnOf write old settled ask outcome left trouble new → Extends new.book settled
  settled_goes apart settled None None (step, none, still) = adds_go settled new.book (step_adds write old.limit settled ask outcome new.book apart step)
  settled_goes apart settled None (Some trouble) (same, stays) = extends_same new.book settled (stays.stays.0 ∙ sym same)
  settled_goes apart settled (Some next) (Some Keeper) left = extends_same new.book settled left.book
  settled_goes apart settled (Some next) (Some (Changed kept found)) never = absurd never
  settled_goes apart settled (Some next) None never = absurd never

  pub goes_from : ¬ IsClosing ask → (taken : TakesTurn write old ask outcome new) → Extends new.book taken.settled
  goes_from apart taken = settled_goes apart taken.settled taken.left (trouble_of outcome) taken.turn

  pub turn_goes : ¬ IsClosing ask → IsNoClosing old.doubt → TakesTurn write old ask outcome new → Extends new.book old.book
  turn_goes apart entry taken = extends_on new.book taken.settled old.book (settled_goes apart taken.settled taken.left (trouble_of outcome) taken.turn) (settles_go old.book old.doubt taken.settled entry taken.settles)

  -- and then no closing is in doubt
  left_no_closing : ¬ IsClosing ask → IsNoClosing old.doubt → (settled : Book) (left : Doubt) (trouble : Option Trouble) → TurnOf write old settled ask outcome left trouble new → IsNoClosing new.doubt
  left_no_closing apart entry settled None None (step, none, still) = subst IsNoClosing (sym none) tt
  left_no_closing apart entry settled None (Some trouble) (same, stays) = subst IsNoClosing (sym stays.stays.1) entry
  left_no_closing apart entry settled (Some next) (Some Keeper) left = subst IsNoClosing (sym left.doubt) (is_no_closing ask next apart left.is)
  left_no_closing apart entry settled (Some next) (Some (Changed kept found)) never = absurd never
  left_no_closing apart entry settled (Some next) None never = absurd never

  pub turn_no_closing : ¬ IsClosing ask → IsNoClosing old.doubt → TakesTurn write old ask outcome new → IsNoClosing new.doubt
  turn_no_closing apart entry taken = left_no_closing apart entry taken.settled taken.left (trouble_of outcome) taken.turn

  step_by : (settled : Book) (left : Doubt) (trouble : Option Trouble) → trouble ≡ None → TurnOf write old settled ask outcome left trouble new → Step write old.limit settled ask outcome new.book × (new.faults ≡ old.faults)
  step_by settled None None none (step, doubt, still) = (step, still)
  step_by settled (Some next) None none never = absurd never
  step_by settled left (Some trouble) none turn = absurd (cc)

  pub step_of : (taken : TakesTurn write old ask outcome new) → trouble_of outcome ≡ None → Step write old.limit taken.settled ask outcome new.book
  step_of taken none = (step_by taken.settled taken.left (trouble_of outcome) none taken.turn).0

  pub still_of : TakesTurn write old ask outcome new → trouble_of outcome ≡ None → new.faults ≡ old.faults
  still_of taken none = (step_by taken.settled taken.left (trouble_of outcome) none taken.turn).1

-- what is not refused tells no trouble
pub no_trouble : (outcome : Outcome) → refusal_of outcome ≡ None → trouble_of outcome ≡ None
no_trouble (Acted place) none = refl
no_trouble (Skipped number) none = refl
no_trouble (Pulled reply) none = refl
no_trouble (Retired place) none = refl
no_trouble (Closed place) none = refl
no_trouble (Refused refusal) some = absurd (cc)
