use Rattle.std.proofs.Common.{◌≡◌, ◌≤◌, ◌<◌, ◌⊎◌, ◌+◌, ◌-◌, ◌++◌, List, ℕ, take, length}
use Rattle.std.specs.Io.KnownBytes.{Consumes}
use Rattle.rv_http.proofs.body.fill_body.Given as goal

abbrev pub invariant-loop-at : goal.invariant-loop-at
invariant-loop-at g l = record {
  bytes : (read : List ℕ) × (take l.at l.body.items ≡ take l.fn.from l.fn.body.items ++ read) × (l.at ≡ l.fn.from + length read) × Consumes (g.S.Source.state l.fn.source).left (g.S.Source.state l.source).left read;
  idle : (l.fn.from < l.size) ⊎ (l.source ≡ l.fn.source);
  within : l.at ≤ length l.body.items;
  capacity : length l.body.items ≤ l.size;
  faults : (g.S.Source.state l.source).faults ≡ (g.S.Source.state l.fn.source).faults;
  ends : (g.S.Source.state l.source).ends ≡ (g.S.Source.state l.fn.source).ends;
  goes_on : g.S.Source.fails_no_more l.fn.source → g.S.Source.fails_no_more l.source;
}

abbrev pub decreases-loop-at : goal.decreases-loop-at
decreases-loop-at g l = l.size - l.at
