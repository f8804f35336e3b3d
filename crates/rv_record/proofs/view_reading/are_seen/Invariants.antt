use Rattle.std.proofs.Common.{◌≡◌, ◌-◌, drop}
use Rattle.rv_views.specs.Viewed.{seen_key}
use Rattle.rv_base.specs.Sorted.{is_in_order}
use Rattle.rv_record.proofs.view_reading.are_seen.Given as goal

abbrev pub invariant-loop-i : goal.invariant-loop-i
invariant-loop-i l = is_in_order seen_key l.rows ≡ is_in_order seen_key (drop (l.i - 1) l.rows)
