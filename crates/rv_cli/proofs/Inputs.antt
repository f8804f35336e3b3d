-- How far an input is read that is read as a whole.
use Rattle.std.specs.Prelude.{◌≡◌, ◌≤◌, ℕ, List, length}
use Rattle.std.specs.Io.KnownBytes.{Consumes}
use Rattle.rv_base.specs.Outside.{InputState}

-- these bytes were taken so far, no read failed, and none told the end
pub record Takes (old new : InputState) (bytes : List ℕ) : Type 0 where
  pub consumed : Consumes old.left new.left bytes
  pub most : length bytes ≤ 16781312
  pub faults : new.faults ≡ old.faults
  pub ends : new.ends ≡ old.ends
