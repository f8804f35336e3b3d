-- Turns where nothing is in doubt.
use Rattle.std.proofs.Common.{◌≡◌, ◌<◌, ℕ, ◌+◌, Option, Some, None, Result, Ok, Err, inl, refl, sym, ap, ◌∙◌, subst}
use Rattle.std.specs.Prelude.{option_map}
use Rattle.rv_base.specs.Causes.{Rose}
use Rattle.rv_base.specs.declared.fault.Fault.{Fault}
use Rattle.rv_base.specs.declared.fault.Fault.TheVariants.{Failed, Memory}
use Rattle.rv_book.specs.Book.{Book, size}
use Rattle.rv_keeper.specs.declared.loaded.Loaded.{Loaded}
use Rattle.rv_state.specs.declared.prepared.Prepared.{Prepared}
use Rattle.rv_state.specs.Ready.{next_of}
use Rattle.rv_state.specs.Standing.{Standing}
use Rattle.rv_turns.specs.Asks.{Ask}
use Rattle.rv_turns.specs.declared.pushing.Outcome.{Outcome}
use Rattle.rv_turns.specs.declared.pushing.Outcome.TheVariants.{Closed, Refused}
use Rattle.rv_turns.specs.declared.refusal.Refusal.TheVariants as refusals
use Rattle.rv_turns.specs.declared.refusal.Trouble.{Trouble}
use Rattle.rv_turns.specs.declared.refusal.Trouble.TheVariants.{Keeper}
use Rattle.rv_wire.specs.Answers.{pull_json}
use Rattle.rv_history.specs.Machine.{Refuses, Step}
use Rattle.rv_history.specs.Served.{IsOf, MayFollow, Next, Served, TurnOf, TakesTurn, with_next}
use Rattle.rv_turns.specs.Outcomes.{refusal_of, trouble_of}
use Rattle.rv_doubt.specs.Keeping.{IsKept, KeepsOrNot}
use Rattle.rv_doubt.specs.Kept.{AreInStep, HoldsBook, parts_served}
use Rattle.rv_desk.specs.Stepping.{HasStepped}

-- where what a step would enter is not kept
pub not_kept : {T : Type 0} (ask : Ask) (entered : Outcome) (next : Next) (old new : Served) (fault : Fault) → refusal_of entered ≡ None → IsOf ask next → Step pull_json old.limit old.book ask entered (with_next old.book next) → Refuses old.limit old.book ask refusals.Memory
    → IsKept {T = T} old next (Err fault) new → HasStepped old ask (Err fault) new
not_kept ask entered next old new Failed done is step memory kept = record {
  stepped = (next, record { outcome = entered; done = done; is = is; step = step; rose = kept.kept.2; book = kept.kept.0; doubt = kept.kept.1 });
  later = kept.later;
  limit = kept.limit;
}
not_kept ask entered next old new Memory done is step memory kept = record {
  stepped = (memory, kept.kept.0, kept.kept.1, kept.kept.2);
  later = kept.later;
  limit = kept.limit;
}

-- where it is kept
pub kept_ok : {T : Type 0} (ask : Ask) (entered : Outcome) (next : Next) (old new : Served) (done : T) → trouble_of entered ≡ None → Step pull_json old.limit old.book ask entered (with_next old.book next) → IsKept old next (Ok done) new → HasStepped old ask (Ok entered) new
kept_ok ask entered next old new done none step kept = record {
  stepped = (subst (λ (b : Book). Step pull_json old.limit old.book ask entered b) (sym kept.kept.0) step, none, kept.kept.1, kept.kept.2);
  later = kept.later;
  limit = kept.limit;
}

-- a closing steps to the closed book
pub closing_steps : (old : Served) (next : Next) (place : ℕ) → IsOf Ask.closing next → MayFollow old.book next → size old.book < old.limit → place ≡ size old.book + 1 → Step pull_json old.limit old.book Ask.closing (Closed place) (with_next old.book next)
closing_steps old (Next.closed new) place is closes below at = (below, at, closes)
closing_steps old (Next.entry e) place is may below at = absurd is

-- after the same book, what becomes of it is the same
kept_or_not : {T : Type 0} (old other : Served) (next : Next) (result : Result T Fault) (new : Served) → old.book ≡ other.book → old.faults ≡ other.faults → KeepsOrNot old next result new → KeepsOrNot other next result new
kept_or_not old other next (Ok done) new book faults kept = (kept.0 ∙ ap (λ (b : Book). with_next b next) book, kept.1, kept.2 ∙ faults)
kept_or_not old other next (Err Failed) new book faults kept = (kept.0 ∙ book, kept.1, subst (λ (n : ℕ). Rose n new.faults) faults kept.2)
kept_or_not old other next (Err Memory) new book faults kept = (kept.0 ∙ book, kept.1, kept.2 ∙ faults)

-- what was prepared in a state of the same book is kept after that book
pub kept_after : {T : Type 0} (state later : Standing) (doubt : Option Prepared) (faults : ℕ) (next prepared : Next) (result : Result T Fault) (new : Served) → later.book ≡ state.book → later.limit ≡ state.limit → prepared ≡ next
    → IsKept (parts_served later doubt faults) prepared result new → IsKept (parts_served state doubt faults) next result new
kept_after state later doubt faults next prepared result new book limit is kept =
    let own : IsKept (parts_served later doubt faults) next result new = subst (λ (n : Next). IsKept (parts_served later doubt faults) n result new) is kept in
    record {
      kept = kept_or_not (parts_served later doubt faults) (parts_served state doubt faults) next result new book refl own.kept;
      later = own.later;
      limit = own.limit ∙ limit;
    }

-- in a state of the same book the desk is in step as it was
pub in_step_after : (state later : Standing) (doubt : Option Prepared) (Tells : Type 0) (Holds : Loaded → Type 0) → option_map next_of doubt ≡ None → later.book ≡ state.book → AreInStep state doubt Tells Holds → AreInStep later doubt Tells Holds
in_step_after state later None Tells Holds none same step = record { ready = tt; holds = λ t. subst (λ (b : Book). HoldsBook Holds b None) (sym same) (step.holds t) }
in_step_after state later (Some prepared) Tells Holds none same step = absurd (cc)

-- what is asked is a turn
pub turn_stepped : (ask : Ask) (outcome : Outcome) (old new : Served) → HasStepped old ask (Ok outcome) new → TakesTurn pull_json old ask outcome new
turn_stepped ask outcome old new has = let (step, own, still, same) = has.stepped in record {
  settled = old.book;
  left = None;
  settles = inl refl;
  turn = subst (λ (trouble : Option Trouble). TurnOf pull_json old old.book ask outcome None trouble new) (sym own) (step, still, same);
  later = has.later;
  limit = has.limit;
}

pub turn_failed : (ask : Ask) (old new : Served) → HasStepped old ask (Err Failed) new → TakesTurn pull_json old ask (Refused (refusals.Trouble Keeper)) new
turn_failed ask old new has = record {
  settled = old.book;
  left = Some has.stepped.0;
  settles = inl refl;
  turn = has.stepped.1;
  later = has.later;
  limit = has.limit;
}

pub turn_refused : (ask : Ask) (old new : Served) → HasStepped old ask (Err Memory) new → TakesTurn pull_json old ask (Refused refusals.Memory) new
turn_refused ask old new has = let (memory, same, still, faults) = has.stepped in record {
  settled = old.book;
  left = None;
  settles = inl refl;
  turn = ((memory, same), still, faults);
  later = has.later;
  limit = has.limit;
}
