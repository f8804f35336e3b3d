-- Laws of texts that are written one after another.
use Rattle.std.proofs.Common.{List, ℕ, ◌++◌, Result, Ok, Err, ◌∙◌, arith, ap, sym, append_assoc, length-append}
use Rattle.rv_base.specs.Causes.{HasCause, Counts}
use Rattle.rv_base.specs.CauseLaws.{rose_before}
use Rattle.rv_base.specs.Outside.{OutputState, Writes}
use Rattle.std.specs.Prelude.{ℕ, ◌<◌, List, ◌++◌, length, Result, Ok, Err}
use Rattle.std.specs.declared.option.Option.{Option}
use Rattle.std.specs.Io.KnownBytes.{Appends}
use Rattle.std.proofs.KnownBytes.{Appends-trans}
use Rattle.rv_base.specs.Writes.{AppendsFront, WritesText}

-- a front of a text is one of a longer text
pub front_longer : (old new : Option (List ℕ)) (text more : List ℕ) → AppendsFront old new text → AppendsFront old new (text ++ more)
front_longer old new text more (part, (rest, e, lt), a) =
    let some : 0 < length (rest ++ more) = omega (arith, length-append rest more, lt) in
    (part, (rest ++ more, ap (λ l. l ++ more) e ∙ append_assoc part rest more, some), a)

-- a text and then a front of another
pub front_after : (old mid new : Option (List ℕ)) (text more : List ℕ) → Appends old mid text → AppendsFront mid new more → AppendsFront old new (text ++ more)
front_after old mid new text more a (part, (rest, e, lt), b) =
    (text ++ part, (rest, ap (λ l. text ++ l) e ∙ sym (append_assoc text part rest), lt), Appends-trans old mid new text part a b)

-- a text and then another
pub writes_after : {T E : Type 0} (old mid new : Option (List ℕ)) (result : Result T E) (text more : List ℕ) → Appends old mid text → WritesText mid new result more → WritesText old new result (text ++ more)
writes_after old mid new (Ok x) text more a w = Appends-trans old mid new text more a w
writes_after old mid new (Err e) text more a w = front_after old mid new text more a w

-- a call that succeeded
abbrev done : {T E : Type 0} → T → Result T E
done x = Ok x

counts_then : {T U E : Type 0} (old mid new : ℕ) (first : T) (result : Result U E) → Counts old mid (done {E = E} first) → Counts mid new result → Counts old new result
counts_then old mid new first (Ok x) a b = record { later = omega (arith, a.later, b.later); still = b.still ∙ a.still }
counts_then old mid new first (Err e) a b = record { later = omega (arith, a.later, b.later); still = tt }

cause_then : {T U E : Type 0} (old mid new : ℕ) (first : T) (result : Result U E) → HasCause old mid (done {E = E} first) → HasCause mid new result → HasCause old new result
cause_then old mid new first (Ok x) a b = record { later = omega (arith, a.later, b.later); failed = tt; still = b.still ∙ a.still }
cause_then old mid new first (Err e) a b = record { later = omega (arith, a.later, b.later); failed = rose_before old mid new a.later b.failed; still = tt }

-- a text, and then another
pub writes_then : {T U E : Type 0} (old mid new : OutputState) (first : T) (result : Result U E) (text more : List ℕ) → Writes old mid (done {E = E} first) text → Writes mid new result more → Writes old new result (text ++ more)
writes_then old mid new first result text more a b = record {
  bytes = writes_after old.written mid.written new.written result text more a.bytes b.bytes;
  cause = cause_then old.faults mid.faults new.faults first result a.cause b.cause;
  memory = counts_then old.refusals mid.refusals new.refusals first result a.memory b.memory;
}

-- of a text that was cut, and what would have followed, a front was written
pub writes_cut : {T U E : Type 0} (old new : OutputState) (fault : E) (text more : List ℕ) → Writes {T = T} old new (Err fault) text → Writes {T = U} old new (Err fault) (text ++ more)
writes_cut old new fault text more a = record {
  bytes = front_longer old.written new.written text more a.bytes;
  cause = record { later = a.cause.later; failed = a.cause.failed; still = tt };
  memory = record { later = a.memory.later; still = tt };
}
