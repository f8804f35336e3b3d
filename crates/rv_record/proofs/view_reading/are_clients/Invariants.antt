use Rattle.std.proofs.Common.{◌≡◌, ◌-◌, drop}
use Rattle.rv_views.specs.Viewed.{client_of_pair}
use Rattle.rv_base.specs.Sorted.{is_in_order}
use Rattle.rv_record.proofs.view_reading.are_clients.Given as goal

abbrev pub invariant-loop-i : goal.invariant-loop-i
invariant-loop-i l = is_in_order client_of_pair l.clients ≡ is_in_order client_of_pair (drop (l.i - 1) l.clients)
