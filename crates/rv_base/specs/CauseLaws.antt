-- Laws of the counts of faults.
use Rattle.std.specs.Prelude.{ℕ, ◌≤◌}
use Rattle.std.proofs.Common.{arith}
use Rattle.rv_base.specs.Causes.{Rose}

-- a count that rose later has risen since before
pub rose_before : (before mid now : ℕ) → before ≤ mid → Rose mid now → Rose before now
rose_before before mid now le r = omega (arith, r)
