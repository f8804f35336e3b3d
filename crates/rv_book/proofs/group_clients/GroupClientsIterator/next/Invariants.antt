use Rattle.std.proofs.Common.{◌≡◌, length}
use Rattle.std.specs.List.{filter_map}
use Rattle.rv_book.specs.Logs.{logged}
use Rattle.rv_book.specs.Members.{info_by}
use Rattle.rv_book.proofs.group_clients.GroupClientsIterator.next.Given as goal

abbrev pub invariant-loop-row : goal.invariant-loop-row
invariant-loop-row l = filter_map (info_by (logged l.self-inside.log)) l.self-inside.rows.now ≡ filter_map (info_by (logged l.initial.self-inside.log)) l.initial.self-inside.rows.now

abbrev pub decreases-loop-row : goal.decreases-loop-row
decreases-loop-row l = length l.self-inside.rows.now
