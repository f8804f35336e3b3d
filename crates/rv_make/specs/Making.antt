-- The generator of requests, as contracts see it.
use Rattle.std.specs.Prelude.{ℕ, ◌≤◌, None}
use Rattle.rv_make.specs.declared.three.Three.{Three}
use Rattle.rv_make.specs.declared.generator.Pushed.{Pushed}

-- The number that the last draw left; how many requests were made; and what each user pushed.
pub record Making : Type 0 where
  pub number : ℕ
  pub made : ℕ
  pub pushed : Three Pushed

-- no user made more pushes than there were requests
pub record AreCounted (made : ℕ) (pushed : Three Pushed) : Type 0 where
  pub first : pushed.first.count ≤ made
  pub second : pushed.second.count ≤ made
  pub third : pushed.third.count ≤ made

-- a user who pushed nothing
abbrev pub nothing_pushed : Pushed
nothing_pushed = record { count = 0; last = None }
