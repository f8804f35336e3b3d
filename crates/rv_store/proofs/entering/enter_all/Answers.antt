use Rattle.std.proofs.Common.{List, ◌∙◌, ap, reverse, subst, sym}
use Rattle.std.proofs.lemmas.List.{reverse-reverse}
use Rattle.rv_keeper.specs.declared.cell.Cell.{Cell}
use Rattle.rv_store.specs.OpeningSteps.{page_or_none}
use Rattle.rv_store.proofs.Entered.{Entered, none_entered, one_entered, entered_all, entered_fails, popped}
use Rattle.rv_store.proofs.entering.enter_all.Goals as goal

pub loop-cell-init : goal.loop-cell-init
loop-cell-init c = record {
  entered = none_entered c.args.limit (page_or_none c.args.page) c.args.cells.items _ c.in_ok-state.state.book c.in_ok-state.ensures.book (ap reverse c.reverse.ensures.items ∙ reverse-reverse c.args.cells.items) c.requires.shelf c.in_ok-state.ensures.sound;
  limit = c.in_ok-state.ensures.limit;
}

pub enter_cell-requires : goal.enter_cell-requires
enter_cell-requires c =
    let left = popped c.args.limit (page_or_none c.args.page) c.args.cells.items _ _ c.in-Some.cell c.loop-cell.state.book c.in-Some.ensures.items c.loop-cell.invariant.entered in
    left.first.0

pub returns-in_err-enter_cell : goal.returns-in_err-enter_cell
returns-in_err-enter_cell c =
    entered_fails c.args.limit (page_or_none c.args.page) c.args.cells.items _ _ _ c.loop-cell.state.book _ _ c.from_residual-in_err-enter_cell.ensures.1 c.loop-cell.invariant.limit c.in_err-enter_cell.ensures.next.0
    (popped c.args.limit (page_or_none c.args.page) c.args.cells.items _ _ c.in-Some.cell c.loop-cell.state.book c.in-Some.ensures.items c.loop-cell.invariant.entered)

pub loop-cell-preserved : goal.loop-cell-preserved
loop-cell-preserved c = record {
  entered = subst (λ (left : List Cell). Entered c.args.limit (page_or_none c.args.page) c.args.cells.items (reverse left) c.enter_cell.new.self.book) (sym c.give_back.ensures.items)
      (one_entered c.args.limit _ (page_or_none c.args.page) c.args.cells.items _ _ c.loop-cell.state.book _ c.loop-cell.invariant.limit c.in_ok-enter_cell.ensures.next
      (popped c.args.limit (page_or_none c.args.page) c.args.cells.items _ _ c.in-Some.cell c.loop-cell.state.book c.in-Some.ensures.items c.loop-cell.invariant.entered));
  limit = c.in_ok-enter_cell.ensures.limit ∙ c.loop-cell.invariant.limit;
}

pub returns : goal.returns
returns c = (
  entered_all c.args.limit (page_or_none c.args.page) c.args.cells.items c.loop-cell.left.items c.loop-cell.state.book (sym c.loop-cell.left.ok.0 ∙ c.in_default.ensures.cases.0) c.loop-cell.invariant.entered,
  c.loop-cell.invariant.limit,
)
