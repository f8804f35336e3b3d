use Rattle.std.proofs.Common.{◌≡◌, Bool, List, ℕ, Err, ap, subst}
use Rattle.rv_base.specs.Outside.{OutputState, Writes}
use Rattle.rv_serve.specs.Texts.{answer_text}
use Rattle.rv_serve.proofs.Hearing.{hears_both}
use Rattle.rv_serve.proofs.serving.answer_request.Goals as goal

-- a text that was cut, whatever would have been answered
cut_so : {T U E : Type 0} (old new : OutputState) (fault fault' : E) (text text' : List ℕ) → text ≡ text' → Writes {T = T} old new (Err fault) text → Writes {T = U} old new (Err fault') text'
cut_so {U = U} old new fault fault' text text' same w =
    subst (λ (t : List ℕ). Writes {T = U} old new (Err fault') t) same (record {
      bytes = w.bytes;
      cause = record { later = w.cause.later; failed = w.cause.failed; still = tt };
      memory = record { later = w.memory.later; still = tt };
    })

pub returns-clause-answers : goal.returns-clause-answers
returns-clause-answers g c = record {
  answer = c.reply-answer.result.answer;
  entered = c.reply-answer.result.entered;
  replies = c.reply-answer.ensures;
  writes = cut_so {T = Unit {0}} (g.O.Sink.state c.args.sink.now) (g.O.Sink.state c.write_answer-written.new.sink) c.in-Err.field-0 (record {}) _ _ (ap (λ (b : Bool). answer_text c.reply-answer.result.answer b c.args.request.now.head_only) c.closes_at-closes.ensures) c.in-Err.ensures.writes;
  closes = tt;
  hears = hears_both (g.G.Gate.heard c.args.gate.now) (g.G.Gate.heard c.before-2.new.self) (g.G.Gate.heard c.after.new.self) c.args.number c.status.result
      (record { request = c.args.request.now; answer = c.reply-answer.result.answer; entered = c.reply-answer.result.entered }) c.status.ensures c.before-2.ensures c.after.ensures;
}
