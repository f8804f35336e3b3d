use Rattle.std.proofs.Common.{◌≡◌, ap, subst, ◌<◌, length, get_or, arith, List}
use Rattle.std.proofs.lemmas.List.{take_all}
use Rattle.rv_book.specs.declared.entry.Entry.{Entry}
use Rattle.rv_book.specs.Book.{book_from}
use Rattle.rv_history.specs.Replay.{IsReplay}
use Rattle.rv_plain.proofs.Replays.{replay_next}
use Rattle.rv_plain.proofs.closing.stored_rows.Goals as goal

pub loop-entry-preserved : goal.loop-entry-preserved
loop-entry-preserved c =
    let e = c.entry-item.result in
    let items = c.loop-entry.invariant.2 in
    let lt = subst (λ (xs : List Entry). c.loop-entry.entry-index < length xs) items c.loop-entry-test.true in
    let is = subst (λ (xs : List Entry). e ≡ get_or xs c.loop-entry.entry-index e) items c.entry-item.is in (
      replay_next c.args.book.now.page c.args.book.now.entries c.loop-entry.entry-index c.loop-entry.place e lt is c.loop-entry.invariant.1 c.loop-entry.invariant.0 c.in_ok-stored-2.ensures,
      omega (arith, c.loop-entry.invariant.1),
      items,
    )

pub returns : goal.returns
returns c =
    let long = ap length c.loop-entry.invariant.2 in
    let whole = take_all c.loop-entry.entry-index c.args.book.now.entries (omega (arith, c.loop-entry-test.false, long)) in
    subst (λ (xs : List Entry). IsReplay (book_from c.args.book.now.page xs) c.loop-entry.stored.items) whole c.loop-entry.invariant.0
