-- What is read of a line, where memory may be refused.
use Rattle.std.specs.Prelude.{◌≡◌, ◌⊎◌, Option, Some, None, Err}
use Rattle.rv_wire.specs.declared.fault.WireFault.TheVariants as faults
use Rattle.rv_following.specs.declared.follow_line.FollowLine.{FollowLine}
use Rattle.rv_following.specs.declared.follow_line.FollowLine.TheVariants.{Cell, Page, Pull}

-- What was read is what the line is; or memory was refused in reading the body of a pull.
abbrev pub IsFollowLine : FollowLine → FollowLine → Type 0
IsFollowLine (Cell cell) (Cell read) = read ≡ cell
IsFollowLine Page Page = Unit {0}
IsFollowLine (Pull user pull) (Pull reader read) = (reader ≡ user) × ((read ≡ pull) ⊎ (read ≡ Err faults.Memory))
IsFollowLine line read = ⊥

abbrev pub AreFollowLines : Option FollowLine → Option FollowLine → Type 0
AreFollowLines (Some line) (Some read) = IsFollowLine line read
AreFollowLines None None = Unit {0}
AreFollowLines (Some line) None = ⊥
AreFollowLines None (Some read) = ⊥
