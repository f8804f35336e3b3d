use Rattle.std.proofs.Common.{◌≡◌, ◌∙◌, ℕ, [], ◌∷◌, ◌++◌, ap, take}
use Rattle.std.proofs.lemmas.List.{take_all}
use Rattle.rv_book.proofs.PageRows.{page_client_row, page_clients, rows_from, rows_more}
use Rattle.rv_book.proofs.clients.of_page.Goals as goal

pub loop-first-preserved : goal.loop-first-preserved
loop-first-preserved c =
    let rows = c.loop-first.rows.items in
    c.in_ok-push.ensures.items ∙ ap (λ (n : ℕ). rows ++ record { first = c.loop-first.first; acts = n } ∷ []) c.get.ensures.value
    ∙ rows_more page_client_row c.as_slice-clients.result.now c.loop-first.first c.index-clients-first.result rows c.loop-first-test.true c.index-clients-first.is c.loop-first.invariant

pub returns : goal.returns
returns c =
    let clients = c.as_slice-clients.result.now in
    let all : take c.loop-first.first clients ≡ c.args.page.now.clients = take_all c.loop-first.first clients c.loop-first-test.false ∙ c.as_slice-clients.ensures in
    page_clients c.args.page.now c.loop-first.rows.items c.requires.clients (c.loop-first.invariant ∙ ap (rows_from page_client_row 0) all)
