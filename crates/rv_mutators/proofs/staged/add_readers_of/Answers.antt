use Rattle.std.proofs.Common.{sym, ◌∙◌}
use Rattle.rv_mutators.proofs.ReaderLaws.{readers_extent, readers_list, readers_share, readers_lost, readers_todo}
use Rattle.rv_mutators.proofs.staged.add_readers_of.Goals as goal

pub returns-in-Extent : goal.returns-in-Extent
returns-in-Extent c = rw c.in-Extent.is (readers_extent _ _ _ _ c.add_user.ensures)

pub returns-in_ok-owned-in-List : goal.returns-in_ok-owned-in-List
returns-in_ok-owned-in-List c = rw c.in-List.is (readers_list _ _ _ _ _ _ c.in_ok-viewers-in-List.ensures c.in_ok-owned-in-List.ensures c.add_sharers.ensures)

pub returns-then-has_list : goal.returns-then-has_list
returns-then-has_list c = rw c.in-Share.is (readers_share _ _ _ _ _ (sym c.has_list.ensures ∙ c.if-has_list.true) c.in_ok-viewers-in-Share.ensures c.add_if_synced-then-has_list.ensures)

pub returns-else-has_list : goal.returns-else-has_list
returns-else-has_list c = rw c.in-Share.is (readers_lost _ _ _ _ (sym c.has_list.ensures ∙ c.if-has_list.false) c.in_ok-viewers-in-Share.ensures)

pub returns-in-Todo : goal.returns-in-Todo
returns-in-Todo c = rw c.in-Todo.is (readers_todo _ _ _ _ c.add_viewers-in-Todo.ensures)
