use Rattle.std.proofs.Common.{◌≡◌, ◌-◌, ◌++◌}
use Rattle.rv_make.specs.Requests.{made_from, requests}
use Rattle.rv_make.proofs.generator.make_requests.Given as goal

-- What was made, and what the generator still makes, is all; the generator has made as many.
abbrev pub invariant-loop-index : goal.invariant-loop-index
invariant-loop-index l = record { together : l.made ++ made_from (l.n - l._index) l.generator ≡ requests l.seed l.n; count : l.generator.made ≡ l._index }
