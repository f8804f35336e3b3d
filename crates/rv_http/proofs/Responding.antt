-- A write that failed, told as another fault.
use Rattle.std.proofs.Common.{Result, Ok, Err, List, ℕ}
use Rattle.std.specs.Result.{IsErr}
use Rattle.rv_base.specs.Outside.{OutputState, Writes}

pub failed_so : {T U E F : Type 0} (old new : OutputState) (fault : E) (result : Result U F) (text : List ℕ) → IsErr result → Writes {T = T} old new (Err fault) text → Writes old new result text
failed_so old new fault (Ok x) text is w = absurd (cc)
failed_so old new fault (Err e) text is w = record {
  bytes = w.bytes;
  cause = record { later = w.cause.later; failed = w.cause.failed; still = tt };
  memory = record { later = w.memory.later; still = tt };
}
