-- Laws of a keeper that follows what it was.
use Rattle.std.proofs.Common.{arith}
use Rattle.rv_keeper.specs.declared.keeper.Keeper.{Ghosts}
use Rattle.rv_room.specs.Following.{KeeperFollows}

module _ {K : Type 0} (G : Ghosts K) where
  pub follows_same : (keeper : K) → KeeperFollows G keeper keeper
  follows_same keeper = record { told = λ t. t; goes_on = λ s. s; later = omega arith }

  pub follows_on : (old mid new : K) → KeeperFollows G old mid → KeeperFollows G mid new → KeeperFollows G old new
  follows_on old mid new first next = record { told = λ t. first.told (next.told t); goes_on = λ s. next.goes_on (first.goes_on s); later = omega (arith, first.later, next.later) }
