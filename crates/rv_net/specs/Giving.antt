-- What a net answers, and what it leaves.
use Rattle.std.specs.Prelude.{◌≡◌, ℕ, ◌+◌, Bool, true, false, List, ◌++◌, length, Option, Some, Result, Ok, Err}
use Rattle.rv_base.specs.declared.fault.Fault.{Fault}
use Rattle.rv_base.specs.declared.fault.Fault.TheVariants.{Failed, Memory}
use Rattle.rv_net.specs.declared.wanted.Wanted.{Wanted}
use Rattle.rv_net.specs.Listed.{Listed}

-- What a net has of one kind of listeners: those that it has to give, the next one first; those that came back, in order; how many were
-- given and have not come back; and what the last call asked for.
pub record Giving (L : Type 0) : Type 0 where
  pub to_give : List L
  pub came_back : List L
  pub out : ℕ
  pub wanted : Option Wanted

-- Where these listeners are to give and so many are out: those that are given are the first of them, in order, the others stay
-- to give, and so many more are out. Where none are given all stays.
abbrev pub GivesListeners : {L E : Type 0} → List L → ℕ → List L → ℕ → Result (Listed L) E → Type 0
GivesListeners to_give out left now (Ok given) = (to_give ≡ given.listeners ++ left) × (now ≡ out + length given.listeners)
GivesListeners to_give out left now (Err fault) = (left ≡ to_give) × (now ≡ out)

-- These were asked for, and some were given, or none; nothing came back.
pub record Gives {L E : Type 0} (asked : Wanted) (old new : Giving L) (result : Result (Listed L) E) : Type 0 where
  pub given : GivesListeners old.to_give old.out new.to_give new.out result
  pub back : new.came_back ≡ old.came_back
  pub wanted : new.wanted ≡ Some asked

-- These came back, and nothing else has changed.
pub record TakesBack {L : Type 0} (old new : Giving L) (returned : List L) : Type 0 where
  pub back : new.came_back ≡ old.came_back ++ returned
  pub out : old.out ≡ new.out + length returned
  pub to_give : new.to_give ≡ old.to_give
  pub wanted : new.wanted ≡ old.wanted

-- the call failed, and not for want of memory
abbrev pub has_failed : {T : Type 0} → Result T Fault → Bool
has_failed (Ok given) = false
has_failed (Err Failed) = true
has_failed (Err Memory) = false
