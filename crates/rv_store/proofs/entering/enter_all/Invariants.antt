use Rattle.std.proofs.Common.{◌≡◌, reverse, vec_len}
use Rattle.rv_store.specs.OpeningSteps.{page_or_none}
use Rattle.rv_store.proofs.Entered.{Entered}
use Rattle.rv_store.proofs.entering.enter_all.Given as goal

abbrev pub invariant-loop-cell : goal.invariant-loop-cell
invariant-loop-cell l = record { entered : Entered l.limit (page_or_none l.fn.page) l.fn.cells.items (reverse l.left.items) l.state.book; limit : l.state.limit ≡ l.limit }

abbrev pub decreases-loop-cell : goal.decreases-loop-cell
decreases-loop-cell l = vec_len l.left
