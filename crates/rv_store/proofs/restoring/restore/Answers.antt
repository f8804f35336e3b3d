use Rattle.std.proofs.Common.{ℕ, ◌++◌, List, ◌∙◌, ap, subst, sym}
use Rattle.rv_base.specs.Sorted.{InOrder}
use Rattle.rv_keeper.specs.declared.cell.Cell.{Cell}
use Rattle.rv_keeper.specs.Cells.{cell_key}
use Rattle.rv_book.specs.Book.{size}
use Rattle.rv_store.specs.OpeningSteps.{page_or_none}
use Rattle.rv_store.proofs.Behind.{front_in_order}
use Rattle.rv_store.proofs.Restored.{entries_fail, fails_longer, front_of, has_derived, may_open, other_generation, others_fail, page_fails, rest_in_order, without_page}
use Rattle.rv_store.proofs.restoring.restore.Goals as goal

pub cut-requires : goal.cut-requires
cut-requires c = subst (InOrder cell_key) (sym c.deref.ensures.value) (rest_in_order c.args.loaded.cells c.in_ok-entries.entries.items c.in_ok-entries.others.items c.in_ok-entries.ensures.whole c.requires.order)

pub cut-requires-2 : goal.cut-requires-2
cut-requires-2 c = rest_in_order c.in_ok-entries.others.items c.cut.result.0.now c.cut.result.1.now (sym c.deref.ensures.value ∙ c.cut.ensures.whole) (rest_in_order c.args.loaded.cells c.in_ok-entries.entries.items c.in_ok-entries.others.items c.in_ok-entries.ensures.whole c.requires.order)

pub read_page-requires : goal.read_page-requires
read_page-requires c = front_in_order c.cut-2.result.0.now c.cut-2.result.1.now (subst (InOrder cell_key) c.cut-2.ensures.whole (rest_in_order c.in_ok-entries.others.items c.cut.result.0.now c.cut.result.1.now (sym c.deref.ensures.value ∙ c.cut.ensures.whole) (rest_in_order c.args.loaded.cells c.in_ok-entries.entries.items c.in_ok-entries.others.items c.in_ok-entries.ensures.whole c.requires.order)))

pub returns-in_err-page : goal.returns-in_err-page
returns-in_err-page c =
    let p = front_of c.args.loaded.cells c.in_ok-entries.entries.items c.in_ok-entries.others.items c.cut.result.0.now c.cut.result.1.now c.cut-2.result.0.now c.cut-2.result.1.now c.in_ok-entries.ensures.whole c.in_ok-entries.ensures.entries (sym c.deref.ensures.value ∙ c.cut.ensures.whole) c.cut.ensures.before c.cut.ensures.behind c.cut-2.ensures.whole c.cut-2.ensures.before c.cut-2.ensures.behind in
    page_fails c.args.limit c.args.loaded (c.in_ok-entries.entries.items ++ c.cut.result.0.now) c.cut-2.result.0.now c.cut-2.result.1.now p _ _ c.from_residual-in_err-page.ensures.1 c.in_err-page.ensures

pub returns-in_err-state : goal.returns-in_err-state
returns-in_err-state c =
    let p = front_of c.args.loaded.cells c.in_ok-entries.entries.items c.in_ok-entries.others.items c.cut.result.0.now c.cut.result.1.now c.cut-2.result.0.now c.cut-2.result.1.now c.in_ok-entries.ensures.whole c.in_ok-entries.ensures.entries (sym c.deref.ensures.value ∙ c.cut.ensures.whole) c.cut.ensures.before c.cut.ensures.behind c.cut-2.ensures.whole c.cut-2.ensures.before c.cut-2.ensures.behind in
    entries_fail c.args.limit c.args.loaded (c.in_ok-entries.entries.items ++ c.cut.result.0.now) c.cut-2.result.0.now c.cut-2.result.1.now p c.in_ok-page.page c.in_ok-page.ensures _ _ c.from_residual-in_err-state.ensures.1
    (fails_longer c.args.limit (page_or_none c.in_ok-page.page) c.in_ok-entries.entries.items c.cut.result.0.now _ c.in_err-state.ensures)

pub compare_others-requires-clause-order : goal.compare_others-requires-clause-order
compare_others-requires-clause-order c =
    let whole = c.in_ok-entries.ensures.whole ∙ ap (λ (cells : List Cell). c.in_ok-entries.entries.items ++ cells) (sym c.deref.ensures.value ∙ c.cut.ensures.whole ∙ ap (λ (cells : List Cell). c.cut.result.0.now ++ cells) c.cut-2.ensures.whole) in
    without_page c.in_ok-entries.entries.items c.cut.result.0.now c.cut-2.result.0.now c.cut-2.result.1.now (subst (InOrder cell_key) whole c.requires.order) c.cut.ensures.before c.cut-2.ensures.behind

pub returns-in_err-compare_others : goal.returns-in_err-compare_others
returns-in_err-compare_others c =
    let p = front_of c.args.loaded.cells c.in_ok-entries.entries.items c.in_ok-entries.others.items c.cut.result.0.now c.cut.result.1.now c.cut-2.result.0.now c.cut-2.result.1.now c.in_ok-entries.ensures.whole c.in_ok-entries.ensures.entries (sym c.deref.ensures.value ∙ c.cut.ensures.whole) c.cut.ensures.before c.cut.ensures.behind c.cut-2.ensures.whole c.cut-2.ensures.before c.cut-2.ensures.behind in
    let has = has_derived c.args.limit (page_or_none c.in_ok-page.page) c.in_ok-state.state.book c.in_ok-entries.entries.items c.in_ok-entries.others.items c.cut.result.0.now c.cut.result.1.now c.in_ok-state.ensures.0 (sym c.deref.ensures.value ∙ c.cut.ensures.whole) c.in_ok-entries.ensures.others in
    others_fail c.args.limit c.args.loaded (c.in_ok-entries.entries.items ++ c.cut.result.0.now) c.cut-2.result.0.now c.cut-2.result.1.now p c.in_ok-page.page c.in_ok-page.ensures c.in_ok-state.state c.cut.result.0.now has _ _ c.from_residual-in_err-compare_others.ensures.1 c.in_err-compare_others.ensures

pub returns-then-generation-from : goal.returns-then-generation-from
returns-then-generation-from c =
    let p = front_of c.args.loaded.cells c.in_ok-entries.entries.items c.in_ok-entries.others.items c.cut.result.0.now c.cut.result.1.now c.cut-2.result.0.now c.cut-2.result.1.now c.in_ok-entries.ensures.whole c.in_ok-entries.ensures.entries (sym c.deref.ensures.value ∙ c.cut.ensures.whole) c.cut.ensures.before c.cut.ensures.behind c.cut-2.ensures.whole c.cut-2.ensures.before c.cut-2.ensures.behind in
    let has = has_derived c.args.limit (page_or_none c.in_ok-page.page) c.in_ok-state.state.book c.in_ok-entries.entries.items c.in_ok-entries.others.items c.cut.result.0.now c.cut.result.1.now c.in_ok-state.ensures.0 (sym c.deref.ensures.value ∙ c.cut.ensures.whole) c.in_ok-entries.ensures.others in (
      may_open c.args.limit c.args.loaded (c.in_ok-entries.entries.items ++ c.cut.result.0.now) c.cut-2.result.0.now c.cut-2.result.1.now p c.in_ok-page.page c.in_ok-page.ensures c.in_ok-state.state c.cut.result.0.now has c.in_ok-compare_others.ensures
          (c.if-generation-from.true ∙ c.from.ensures ∙ c.len.ensures.value ∙ ap size c.book.ensures.book),
      c.in_ok-state.ensures.1,
    )

pub returns : goal.returns
returns c =
    let p = front_of c.args.loaded.cells c.in_ok-entries.entries.items c.in_ok-entries.others.items c.cut.result.0.now c.cut.result.1.now c.cut-2.result.0.now c.cut-2.result.1.now c.in_ok-entries.ensures.whole c.in_ok-entries.ensures.entries (sym c.deref.ensures.value ∙ c.cut.ensures.whole) c.cut.ensures.before c.cut.ensures.behind c.cut-2.ensures.whole c.cut-2.ensures.before c.cut-2.ensures.behind in
    let has = has_derived c.args.limit (page_or_none c.in_ok-page.page) c.in_ok-state.state.book c.in_ok-entries.entries.items c.in_ok-entries.others.items c.cut.result.0.now c.cut.result.1.now c.in_ok-state.ensures.0 (sym c.deref.ensures.value ∙ c.cut.ensures.whole) c.in_ok-entries.ensures.others in
    other_generation c.args.limit c.args.loaded (c.in_ok-entries.entries.items ++ c.cut.result.0.now) c.cut-2.result.0.now c.cut-2.result.1.now p c.in_ok-page.page c.in_ok-page.ensures c.in_ok-state.state c.cut.result.0.now has (record { shelf = 0; key = c.new.result }) c.in_ok-compare_others.ensures
    (λ same. c.if-generation-from.false (same ∙ sym (c.from.ensures ∙ c.len.ensures.value ∙ ap size c.book.ensures.book))) (ap (λ (key : List ℕ). record { shelf = 0; key = key }) c.new.ensures)
