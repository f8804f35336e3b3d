-- What a keeper is to what it was.
use Rattle.std.specs.Prelude.{List}
use Rattle.std.specs.List.{AllByRecursion}
use Rattle.rv_keeper.specs.declared.keeper.Keeper.{Ghosts}
use Rattle.rv_keeper.specs.Keeping.{Follows}

module _ {K : Type 0} (G : Ghosts K) where
  -- the keeper follows the one that it was
  abbrev pub KeeperFollows : K → K → Type 0
  KeeperFollows old new = Follows G.faults G.tells G.fails_no_more old new

  -- the keeper follows each of those that it was
  abbrev pub FollowsAll : List K → K → Type 0
  FollowsAll olds new = AllByRecursion (λ old. KeeperFollows old new) olds
