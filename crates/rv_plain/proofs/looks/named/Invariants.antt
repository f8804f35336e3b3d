use Rattle.std.proofs.Common.{◌≡◌, ◌+◌, ◌-◌}
use Rattle.std.specs.Prelude.{find}
use Rattle.std.specs.List.{range_with_len}
use Rattle.rv_history.specs.Bases.{names_base}
use Rattle.rv_plain.proofs.looks.named.Given as goal
use Rattle.rv_book.specs.Book.{size}

abbrev pub invariant-loop-index : goal.invariant-loop-index
invariant-loop-index l =
    let p = names_base l.user l.text l.order l.book in
    find p (range_with_len (l.index + 1) (size l.book - l.index)) ≡ find p (range_with_len 1 (size l.book))
