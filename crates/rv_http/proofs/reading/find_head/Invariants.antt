use Rattle.std.proofs.Common.{◌≡◌, ◌⊎◌, ◌-◌, ◌++◌, List, ℕ, length}
use Rattle.std.specs.Io.KnownBytes.{Consumes}
use Rattle.rv_http.specs.Numbers.{head_limit}
use Rattle.rv_http.specs.Requests.{IsPartial}
use Rattle.rv_http.proofs.reading.find_head.Given as goal

abbrev pub invariant-loop-found : goal.invariant-loop-found
invariant-loop-found g l = record {
  bytes : (read : List ℕ) × (l.pending ≡ l.fn.pending ++ read) × Consumes (g.S.Source.state l.fn.source).left (g.S.Source.state l.source).left read;
  idle : IsPartial l.fn.pending ⊎ ((l.source ≡ l.fn.source) × (l.pending ≡ l.fn.pending));
  faults : (g.S.Source.state l.source).faults ≡ (g.S.Source.state l.fn.source).faults;
  ends : (g.S.Source.state l.source).ends ≡ (g.S.Source.state l.fn.source).ends;
  goes_on : g.S.Source.fails_no_more l.fn.source → g.S.Source.fails_no_more l.source;
}

abbrev pub decreases-loop-found : goal.decreases-loop-found
decreases-loop-found g l = head_limit - length l.pending
