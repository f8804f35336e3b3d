use Rattle.std.proofs.Common.{◌≡◌, ◌+◌, ◌++◌, drop, length}
use Rattle.rv_views.specs.Viewed.{AreClients}
use Rattle.rv_views.specs.Difference.{changed_ids}
use Rattle.rv_views.proofs.walks.changed.Given as goal

abbrev pub invariant-loop-client : goal.invariant-loop-client
invariant-loop-client g l = record {
  ahead : l.ids ++ changed_ids l.rest (drop l.client-index l.now) ≡ changed_ids l.base l.now;
  order : AreClients l.rest;
  read : l.steps + length l.rest ≡ l.initial.steps + length l.base;
}
