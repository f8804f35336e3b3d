use Rattle.std.proofs.Common.{◌≡◌, ◌+◌, ◌++◌, List, [], ℕ, refl, sym, ap, subst}
use Rattle.std.specs.List.{flat_map, AllByRecursion}
use Rattle.std.proofs.lemmas.Result.{IfOk-weaker}
use Rattle.rv_book.specs.declared.page.Page.{Page}
use Rattle.rv_book.specs.Book.{Book}
use Rattle.rv_record.specs.PageCells.{page_cells}
use Rattle.rv_record.specs.CellTexts.{AreTexts}
use Rattle.rv_store.specs.StoreCells.{entry_cells}
use Rattle.rv_standby.specs.Shipping.{BookIsTexts, Ships, cell_line, page_lines}
use Rattle.rv_standby.proofs.Shipped.{done, ships_nothing, ships_then}
use Rattle.rv_standby.proofs.PageShipped.{no_lines, no_texts, part_fails}
use Rattle.rv_standby.proofs.shipping.ship.Goals.{in-Some+in_ok-ship_page, in_default}
use Rattle.rv_standby.proofs.shipping.ship.Goals as goal

pub returns-in_err-ship_page-clause-ships : goal.returns-in_err-ship_page-clause-ships
returns-in_err-ship_page-clause-ships g c =
    let book : Book = c.args.book.now.book in
    let lines : List ℕ = flat_map cell_line (entry_cells (book.page.at + 1) book.entries) in
    part_fails _ _ _ _ (page_lines c.in-Some.page.now) lines _ c.from_residual.ensures.1 (ap (λ (p : Page). page_lines p ++ lines) (sym c.in-Some.ensures.page)) c.in_err-ship_page.ensures.ships

pub returns-clause-ships : goal.returns-clause-ships
returns-clause-ships g c =
    let book : Book = c.args.book.now.book in
    let lines : List ℕ = flat_map cell_line (entry_cells (book.page.at + 1) book.entries) in
    let state = g.O.Sink.state in
    elim c.match-page.branch [
      | in-Some+in_ok-ship_page w ↦ (
          let page : Ships (state c.args.out.now) (state w.ship_page.new.out) done (page_lines book.page) = subst (λ (p : Page). Ships (state c.args.out.now) (state w.ship_page.new.out) done (page_lines p)) w.in-Some.ensures.page w.in_ok-ship_page.ensures.ships in
          let here : Ships (state c.args.out.now) (state c.match-page.out) done (page_lines book.page) = subst (λ o. Ships (state c.args.out.now) (state o) done (page_lines book.page)) (sym w.out-is) page in
          ships_then _ _ _ _ (page_lines book.page) lines here c.ship_entries.ensures.ships)
      | in_default w ↦ (
          let none : page_lines book.page ≡ [] = no_lines book.page (w.in_default.ensures.none.0 refl) in
          let page : Ships (state c.args.out.now) (state c.args.out.now) done (page_lines book.page) = subst (λ (t : List ℕ). Ships (state c.args.out.now) (state c.args.out.now) done t) (sym none) (ships_nothing (state c.args.out.now)) in
          let here : Ships (state c.args.out.now) (state c.match-page.out) done (page_lines book.page) = subst (λ o. Ships (state c.args.out.now) (state o) done (page_lines book.page)) (sym w.out-is) page in
          ships_then _ _ _ _ (page_lines book.page) lines here c.ship_entries.ensures.ships)
    ]

pub returns-clause-texts : goal.returns-clause-texts
returns-clause-texts g c =
    let book : Book = c.args.book.now.book in
    let page : AllByRecursion AreTexts (page_cells book.page) = elim c.match-page.branch [
      | in-Some+in_ok-ship_page w ↦ subst (λ (p : Page). AllByRecursion AreTexts (page_cells p)) w.in-Some.ensures.page w.in_ok-ship_page.ensures.texts
      | in_default w ↦ no_texts book.page (w.in_default.ensures.none.0 refl)
    ] in
    IfOk-weaker _ _ (λ done. BookIsTexts book) (λ done entries. (page, entries)) c.ship_entries.ensures.texts
