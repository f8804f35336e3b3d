use Rattle.std.proofs.Common.{◌≡◌, ◌≤◌, length}
use Rattle.std.specs.Prelude.{fold}
use Rattle.std.specs.Vec.Iter.{into_iter_items, into_iter_len}
use Rattle.rv_base.specs.Sorted.{InOrder}
use Rattle.rv_state.specs.UserMarks.{marked_user, with_mark}
use Rattle.rv_state.proofs.marks.set_each.Given as goal

abbrev pub invariant-loop-user : goal.invariant-loop-user
invariant-loop-user l = record {
  marks : fold (with_mark l.place) l.marks.marks (into_iter_items l.user-iterator) ≡ fold (with_mark l.place) l.initial.marks.marks (into_iter_items l.initial.user-iterator);
  count : into_iter_len l.user-iterator ≡ length (into_iter_items l.user-iterator);
  spare : into_iter_len l.user-iterator ≤ l.marks.spare;
  order : InOrder marked_user l.marks.marks;
}
