-- Which answers come of which outcomes.
use Rattle.std.proofs.Common.{◌≡◌, Option, Some, None, refl, ap}
use Rattle.rv_turns.specs.declared.pushing.Outcome.{Outcome}
use Rattle.rv_turns.specs.declared.pushing.Outcome.TheVariants as outcomes
use Rattle.rv_turns.specs.declared.pull.PullReply.{PullReply}
use Rattle.rv_turns.specs.declared.refusal.Refusal.{Refusal}
use Rattle.rv_answering.specs.declared.answer.Answer.TheVariants.{Pushed, Pulled}
use Rattle.rv_answering.specs.Steps.{answer_of, push_answer}

-- no push is answered by a reply
pub no_push : (reply : PullReply) (refused : Option Refusal) → Pulled reply ≡ push_answer refused → ⊥
no_push reply None e = cc
no_push reply (Some refusal) e = cc

-- a reply is that of the turn
pub pulled_same : (reply : PullReply) (outcome : Outcome) → Pulled reply ≡ answer_of outcome → outcome ≡ outcomes.Pulled reply
pulled_same reply (outcomes.Pulled other) e = let same : other ≡ reply = cc in ap (λ (r : PullReply). outcomes.Pulled r) same
pulled_same reply (outcomes.Acted place) e = absurd (cc)
pulled_same reply (outcomes.Skipped number) e = absurd (cc)
pulled_same reply (outcomes.Retired place) e = absurd (cc)
pulled_same reply (outcomes.Closed place) e = absurd (cc)
pulled_same reply (outcomes.Refused refusal) e = absurd (cc)

-- a push that is answered as one was not refused
pub went : (refused : Option Refusal) → Pushed ≡ push_answer refused → refused ≡ None
went None e = refl
went (Some refusal) e = absurd (cc)
