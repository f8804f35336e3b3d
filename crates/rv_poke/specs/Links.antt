-- What is seen of a link, and what its calls do.
use Rattle.std.specs.Prelude.{◌≡◌, ℕ, ◌≤◌, List, [], ◌∷◌, ◌++◌, Option, Some, None, Result, Ok, Err, MatchResult}
use Rattle.rv_base.specs.Causes.{Rose, HasCause}
use Rattle.rv_base.specs.Outside.{counted}
use Rattle.rv_poke.specs.declared.first.First.{First}
use Rattle.rv_poke.specs.declared.sent.Sent.{Sent}
use Rattle.rv_base.specs.declared.fault.Fault.{Fault}
use Rattle.rv_base.specs.declared.fault.Fault.TheVariants.{Failed, Memory}

-- The first message, until it is taken, where the link tells; what was sent, in order, where the link tells; how often its client was
-- looked for and was there; how often a call has failed.
pub record LinkState : Type 0 where
  pub coming : Option First
  pub sent : Option (List Sent)
  pub found : ℕ
  pub faults : ℕ

-- this is the message that was to come, where that is told
abbrev pub WasComing : Option First → First → Type 0
WasComing None first = Unit {0}
WasComing (Some coming) first = first ≡ coming

-- these were sent, in order, and nothing else, where that is told
abbrev pub Sends : Option (List Sent) → List Sent → Option (List Sent) → Type 0
Sends None more new = Unit {0}
Sends (Some old) more None = ⊥
Sends (Some old) more (Some new) = new ≡ old ++ more

-- nothing was sent, where that is told
abbrev pub IsSilent : Option (List Sent) → Option (List Sent) → Type 0
IsSilent None new = Unit {0}
IsSilent (Some old) None = ⊥
IsSilent (Some old) (Some new) = new ≡ old

-- Nothing was taken, nothing was sent, and the client was not found.
pub record IsIdle (old new : LinkState) : Type 0 where
  pub untaken : new.coming ≡ old.coming
  pub silent : IsSilent old.sent new.sent
  pub unfound : new.found ≡ old.found

-- A first message is the one that was to come; it is to come no more, and nothing was sent. Where none is taken the link is as
-- before, but that at `Failed` the count of faults has risen.
abbrev pub Takes : LinkState → LinkState → Result First Fault → Type 0
Takes old new (Ok first) = WasComing old.coming first × (new.coming ≡ None) × IsSilent old.sent new.sent × (new.found ≡ old.found) × (new.faults ≡ old.faults)
Takes old new (Err Failed) = IsIdle old new × (old.faults ≤ new.faults) × Rose old.faults new.faults
Takes old new (Err Memory) = IsIdle old new × (new.faults ≡ old.faults)

-- This was sent, and nothing else; where the call fails nothing was, and the count of faults has risen.
pub record Says {T : Type 0} {E : Type 0} (one : Sent) (old new : LinkState) (result : Result T E) : Type 0 where
  pub sent : MatchResult result (λ _. Sends old.sent (one ∷ []) new.sent) (λ _. IsSilent old.sent new.sent)
  pub untaken : new.coming ≡ old.coming
  pub unfound : new.found ≡ old.found
  pub cause : HasCause old.faults new.faults result

-- The client was looked for and was there, which is counted; where the call fails it was not, and the count of faults has risen. Nothing was
-- taken and nothing was sent.
pub record Finds {T : Type 0} {E : Type 0} (old new : LinkState) (result : Result T E) : Type 0 where
  pub found : MatchResult result (λ _. new.found ≡ counted old.found) (λ _. new.found ≡ old.found)
  pub untaken : new.coming ≡ old.coming
  pub silent : IsSilent old.sent new.sent
  pub cause : HasCause old.faults new.faults result
