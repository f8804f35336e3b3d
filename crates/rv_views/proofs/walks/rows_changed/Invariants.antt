use Rattle.std.proofs.Common.{◌≡◌, ◌+◌, ◌++◌, drop, length}
use Rattle.rv_views.specs.Viewed.{AreSeen}
use Rattle.rv_views.specs.Difference.{lost_keys, touched_keys}
use Rattle.rv_views.proofs.walks.rows_changed.Given as goal

abbrev pub invariant-loop-row : goal.invariant-loop-row
invariant-loop-row g l = record {
  dels : l.dels ++ lost_keys l.rest (drop l.row-index l.now) ≡ lost_keys l.base l.now;
  puts : l.puts ++ touched_keys l.rest (drop l.row-index l.now) ≡ touched_keys l.base l.now;
  order : AreSeen l.rest;
  read : l.steps + length l.rest ≡ l.initial.steps + length l.base;
}
