use Rattle.std.proofs.Common.{◌≡◌, ℕ, ◌+◌, ◌-◌, ◌≤◌, List, arith, subst, take}
use Rattle.std.specs.List.{AllByRecursion}
use Rattle.rv_record.specs.CellTexts.{AreTexts}
use Rattle.rv_book.specs.Book.{Book, size}
use Rattle.rv_keeper.specs.declared.cell.Cell.{Cell}
use Rattle.rv_store.specs.StoreCells.{entry_cells}
use Rattle.rv_standby.proofs.Shipped.{Shipped, all_shipped, all_texts, entries_end, entry_piece, line_fails, none_next, one_shipped, one_text}
use Rattle.rv_standby.proofs.shipping.ship_entries.Goals.{in-Some+in_ok-ship_entry, in_default}
use Rattle.rv_standby.proofs.shipping.ship_entries.Goals as goal

pub returns-in_err-ship_entry-clause-ships : goal.returns-in_err-ship_entry-clause-ships
returns-in_err-ship_entry-clause-ships g c =
    let book = c.args.book.now.book in
    let (below, is) = entry_piece book c.loop-before.before c.in-Some.entry.now c.loop-before.invariant.from c.in-Some.ensures in
    line_fails (entry_cells (book.page.at + 1) book.entries) _ _ _ _ _ _ _ c.from_residual.ensures.1 below is c.loop-before.invariant.so c.in_err-ship_entry.ensures.ships

pub loop-before-preserved : goal.loop-before-preserved
loop-before-preserved g c =
    let book : Book = c.args.book.now.book in
    let before : ℕ = c.loop-before.before in
    let from = c.loop-before.invariant.from in
    let cells : List Cell = entry_cells (book.page.at + 1) book.entries in
    elim c.match-entry.branch [
      | in-Some+in_ok-ship_entry w ↦ (
          let (below, is) = entry_piece book before w.in-Some.entry.now from w.in-Some.ensures in
          let so = one_shipped cells _ _ _ _ _ below is c.loop-before.invariant.so w.in_ok-ship_entry.ensures.ships in
          let texts = one_text cells _ _ below is c.loop-before.invariant.texts w.in_ok-ship_entry.ensures.texts in
          let next : before - book.page.at + 1 ≡ before + 1 - book.page.at = omega (arith, from) in
          rw w.out-is (record {
            so = subst (λ (n : ℕ). Shipped cells (g.O.Sink.state c.args.out.now) n (g.O.Sink.state w.ship_entry.new.out)) next so;
            texts = subst (λ (n : ℕ). AllByRecursion AreTexts (take n cells)) next texts;
            from = omega (arith, from);
            steady = λ steady. (w.in_ok-ship_entry.ensures.steady (c.loop-before.invariant.steady steady)).goes_on;
          }))
      | in_default w ↦ absurd (none_next book before from w.in_default.ensures (omega (arith, c.loop-before-test.true, c.loop-before.auto.before-end, c.len-before-end.ensures.value)))
    ]

pub returns-clause-ships : goal.returns-clause-ships
returns-clause-ships g c =
    let book : Book = c.args.book.now.book in
    let whole : size book ≤ c.loop-before.before = omega (arith, c.loop-before-test.false, c.loop-before.auto.before-end, c.len-before-end.ensures.value) in
    all_shipped (entry_cells (book.page.at + 1) book.entries) _ _ _ (entries_end book c.loop-before.before whole) c.loop-before.invariant.so

pub returns-clause-texts : goal.returns-clause-texts
returns-clause-texts g c =
    let book : Book = c.args.book.now.book in
    let whole : size book ≤ c.loop-before.before = omega (arith, c.loop-before-test.false, c.loop-before.auto.before-end, c.len-before-end.ensures.value) in
    all_texts (entry_cells (book.page.at + 1) book.entries) _ (entries_end book c.loop-before.before whole) c.loop-before.invariant.texts
