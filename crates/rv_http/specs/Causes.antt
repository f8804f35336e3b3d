-- When an answer says that a read failed, or that the source has ended.
use Rattle.std.specs.Prelude.{◌≡◌, ℕ, ◌==◌, Bool, true, false, MatchBool, Result, Ok, Err}
use Rattle.rv_base.specs.Causes.{Rose}
use Rattle.rv_base.specs.Outside.{InputState, counted_if}
use Rattle.rv_http.specs.declared.http_end.HttpEnd.{HttpEnd}
use Rattle.rv_http.specs.declared.http_end.HttpEnd.TheVariants.{End, Cut, BadHead, HeadTooLarge, LengthRequired, BodyTooLarge, CodingNotServed, ReadFault, Memory}

-- The count of faults rises exactly where a read failed, and that of ends exactly where one told the end.
pub record CountsReads (old new : InputState) (ended failed : Bool) : Type 0 where
  pub faults : MatchBool failed (Rose old.faults new.faults) (new.faults ≡ old.faults)
  pub ends : new.ends ≡ counted_if ended old.ends

-- of a source that fails no more: it goes on so, and no read failed
pub record RequestIsSteady (steady : Type 0) (failed : Bool) : Type 0 where
  pub goes_on : steady
  pub no_fault : failed ≡ false

-- one read told the end
abbrev pub read_ended : {E : Type 0} → Result ℕ E → Bool
read_ended (Ok count) = count == 0
read_ended (Err e) = false

-- a request was waited for until a read told the end
abbrev pub saw_end : {T : Type 0} → Result T HttpEnd → Bool
saw_end (Ok x) = false
saw_end (Err End) = true
saw_end (Err Cut) = true
saw_end (Err (BadHead flag)) = false
saw_end (Err (HeadTooLarge flag)) = false
saw_end (Err LengthRequired) = false
saw_end (Err (BodyTooLarge flag)) = false
saw_end (Err (CodingNotServed flag)) = false
saw_end (Err ReadFault) = false
saw_end (Err (Memory flag)) = false

-- a request was waited for until a read failed
abbrev pub read_failed : {T : Type 0} → Result T HttpEnd → Bool
read_failed (Ok x) = false
read_failed (Err End) = false
read_failed (Err Cut) = false
read_failed (Err (BadHead flag)) = false
read_failed (Err (HeadTooLarge flag)) = false
read_failed (Err LengthRequired) = false
read_failed (Err (BodyTooLarge flag)) = false
read_failed (Err (CodingNotServed flag)) = false
read_failed (Err ReadFault) = true
read_failed (Err (Memory flag)) = false
