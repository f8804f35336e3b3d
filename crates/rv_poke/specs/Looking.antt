-- What one deed of a session does.
use Rattle.std.specs.Prelude.{◌≡◌, ℕ, ◌≤◌, List, Option, Some, None, Result, Ok, Err, nat_lt, if◌then◌else◌}
use Rattle.rv_base.specs.Causes.{Rose}
use Rattle.rv_poke.specs.declared.waited.Waited.{Waited}
use Rattle.rv_poke.specs.declared.waited.Waited.TheVariants.{Over, Quiet, Rung}
use Rattle.rv_poke.specs.Bells.{BellState, HasWaited, counted_by}
use Rattle.rv_poke.specs.Links.{LinkState, IsIdle, Sends}
use Rattle.rv_poke.specs.Sessions.{Deed, look, ping, quiet_at, sent_at, told_by}

-- one where what is told has risen, by what was told before
abbrev pub rise_of : ℕ → ℕ → ℕ
rise_of told now = if nat_lt told now then 1 else 0

-- what the bell said before a deed
abbrev pub heard : Deed → Waited
heard (look mark) = Rung
heard ping = Quiet

module _ {S : Type 0} (marks : S → List ℕ → ℕ → S → Type 0) (user : List ℕ) where
  -- a look is one at the mark, and a ping none
  abbrev pub Does : Deed → S → S → Type 0
  Does (look mark) old new = marks old user mark new
  Does ping old new = new ≡ old

  module _ (told : ℕ) (teller teller' : S) (link link' : LinkState) where
    -- A deed was done, and this is told now. Just what it sends was sent, and the client was there where it looked for it.
    pub record Went (deed : Deed) (now : ℕ) : Type 0 where
      pub does : Does deed teller teller'
      pub next : now ≡ told_by told deed
      pub said : Sends link.sent (sent_at told deed) link'.sent
      pub found : link'.found ≡ counted_by (quiet_at told deed) link.found
      pub untaken : link'.coming ≡ link.coming
      pub still : link'.faults ≡ link.faults

    -- A deed was not done: what it sends could not be sent, or the client was not there.
    pub record Lost (deed : Deed) : Type 0 where
      pub does : Does deed teller teller'
      pub idle : IsIdle link link'
      pub later : link.faults ≤ link'.faults
      pub rose : Rose link.faults link'.faults

    -- a look, which answers what is told now
    abbrev pub Looked : {E : Type 0} → Result ℕ E → Type 0
    Looked (Ok now) = (mark : ℕ) × Went (look mark) now
    Looked (Err e) = (mark : ℕ) × Lost (look mark)

    -- A wait, and the deed that the bell asks for; it answers what is told now, or that all is over, and then nothing was done.
    abbrev pub Heeded : {E : Type 0} → BellState → BellState → Result (Option ℕ) E → Type 0
    Heeded bell bell' (Ok (Some now)) = (deed : Deed) × HasWaited bell bell' (heard deed) × Went deed now
    Heeded bell bell' (Ok None) = HasWaited bell bell' Over × (teller' ≡ teller) × (link' ≡ link)
    Heeded bell bell' (Err e) = (deed : Deed) × HasWaited bell bell' (heard deed) × Lost deed
