-- What an outcome is told as.
use Rattle.std.specs.Prelude.{Bool, true, false, Option, Some, None}
use Rattle.rv_turns.specs.declared.pushing.Outcome.{Outcome}
use Rattle.rv_turns.specs.declared.pushing.Outcome.TheVariants.{Acted, Refused}
use Rattle.rv_turns.specs.declared.refusal.Refusal.{Refusal}
use Rattle.rv_turns.specs.declared.refusal.Refusal.TheVariants as refusals
use Rattle.rv_turns.specs.declared.refusal.Trouble.{Trouble}
use Rattle.rv_turns.specs.declared.refusal.Trouble.TheVariants.{Changed}

-- the refusal, if it is one
abbrev pub refusal_of : Outcome → Option Refusal
refusal_of (Refused refusal) = Some refusal
refusal_of outcome = None

-- the trouble that a refusal tells, if it tells one
abbrev pub trouble_in : Refusal → Option Trouble
trouble_in (refusals.Trouble trouble) = Some trouble
trouble_in refusal = None

-- the trouble that an outcome tells, if it tells one
abbrev pub trouble_of : Outcome → Option Trouble
trouble_of (Refused refusal) = trouble_in refusal
trouble_of outcome = None

-- a mutation was run
abbrev pub has_acted : Outcome → Bool
has_acted (Acted place) = true
has_acted outcome = false

-- what is kept was changed by another
abbrev pub IsChanged : Option Trouble → Type 0
IsChanged (Some (Changed kept found)) = Unit {0}
IsChanged found = ⊥
