-- A turn is what was settled, and then a step; or what could not be settled.
use Rattle.std.proofs.Common.{◌≡◌, ℕ, Option, Some, None, Ok, Err, refl, ap, ◌∙◌, subst, arith, inl, ⊎_elim}
use Rattle.std.specs.Prelude.{IsSome}
use Rattle.rv_base.specs.CauseLaws.{rose_before}
use Rattle.rv_book.specs.Book.{Book}
use Rattle.rv_turns.specs.Asks.{Ask}
use Rattle.rv_turns.specs.Outcomes.{trouble_of}
use Rattle.rv_turns.specs.declared.pushing.Outcome.{Outcome}
use Rattle.rv_turns.specs.declared.pushing.Outcome.TheVariants.{Refused}
use Rattle.rv_turns.specs.declared.refusal.Refusal.TheVariants as refusals
use Rattle.rv_turns.specs.declared.refusal.Trouble.{Trouble}
use Rattle.rv_turns.specs.declared.refusal.Trouble.TheVariants.{Keeper, Changed}
use Rattle.rv_history.specs.Machine.{ReplyText, Step}
use Rattle.rv_history.specs.Served.{Doubt, with_doubt, with_next, Served, Settles, TurnOf, TakesTurn}
use Rattle.rv_doubt.specs.Kept.{Assures}
use Rattle.rv_doubt.specs.Settling.{HasSettled}

-- nothing in doubt settles as the book that it is
pub none_settles : (book : Book) (doubt : Doubt) (settled : Book) → doubt ≡ None → Settles book doubt settled → settled ≡ book
none_settles book doubt settled none settles = ⊎_elim (λ same. same) (λ same. same ∙ ap (with_doubt book) none) settles

-- what is in doubt is not nothing
pub no_doubt : {T : Type 0} (doubt : Doubt) → doubt ≡ None → IsSome doubt → T
no_doubt None none some = absurd (cc)
no_doubt (Some next) none some = absurd (cc)

-- what is known of a call that settles, and of one that follows, is known of both
pub assures_on : {K : Type 0} (tells fails_no_more : K → Type 0) (old mid new : K) (trouble : Option Trouble) → Assures tells fails_no_more old None mid → Assures tells fails_no_more mid trouble new → Assures tells fails_no_more old trouble new
assures_on tells fails_no_more old mid new trouble first next = record {
  told = λ t. first.told (next.told t);
  near = next.near;
  goes_on = λ steady. next.goes_on (first.goes_on steady);
  sure = λ steady. next.sure (first.goes_on steady);
}

module _ (write : ReplyText) (ask : Ask) (outcome : Outcome) where
  -- after what was in doubt is settled
  pub turn_from : (old mid new : Served) (settled : Book) (left : Doubt) (trouble : Option Trouble) → HasSettled old (Ok tt) mid → Settles mid.book mid.doubt settled → TurnOf write mid settled ask outcome left trouble new → TurnOf write old mid.book ask outcome left trouble new
  turn_from old mid new settled None None is settling (step, none, still) = (
    subst (λ (book : Book). Step write old.limit book ask outcome new.book) (none_settles mid.book mid.doubt settled is.settled.1 settling) (subst (λ (limit : ℕ). Step write limit settled ask outcome new.book) is.limit step),
    none,
    still ∙ is.settled.2,
  )
  turn_from old mid new settled None (Some trouble) is settling (same, stays) = no_doubt mid.doubt is.settled.1 stays.doubt
  turn_from old mid new settled (Some next) (Some Keeper) is settling left =
      let same : settled ≡ mid.book = none_settles mid.book mid.doubt settled is.settled.1 settling in record {
        outcome = left.outcome;
        done = left.done;
        is = left.is;
        step = subst (λ (book : Book). Step write old.limit book ask left.outcome (with_next book next)) same (subst (λ (limit : ℕ). Step write limit settled ask left.outcome (with_next settled next)) is.limit left.step);
        rose = rose_before old.faults mid.faults new.faults is.later left.rose;
        book = left.book ∙ same;
        doubt = left.doubt;
      }
  turn_from old mid new settled (Some next) (Some (Changed kept found)) is settling never = absurd never
  turn_from old mid new settled (Some next) None is settling never = absurd never

  abbrev pub turn_after : (old mid new : Served) → HasSettled old (Ok tt) mid → TakesTurn write mid ask outcome new → TakesTurn write old ask outcome new
  turn_after old mid new is taken = record {
    settled = mid.book;
    left = taken.left;
    settles = is.settled.0;
    turn = turn_from old mid new taken.settled taken.left (trouble_of outcome) is taken.settles taken.turn;
    later = omega (arith, is.later, taken.later);
    limit = taken.limit ∙ is.limit;
  }

-- where it could not be settled
abbrev pub turn_unsettled : (write : ReplyText) (ask : Ask) (old new : Served) (trouble : Trouble) → HasSettled old (Err trouble) new → TakesTurn write old ask (Refused (refusals.Trouble trouble)) new
turn_unsettled write ask old new trouble is = record {
  settled = old.book;
  left = None;
  settles = inl refl;
  turn = (refl, is.settled);
  later = is.later;
  limit = is.limit;
}
