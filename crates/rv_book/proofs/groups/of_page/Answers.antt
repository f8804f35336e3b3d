use Rattle.std.proofs.Common.{◌≡◌, ◌∙◌, ap, take}
use Rattle.std.proofs.lemmas.List.{take_all}
use Rattle.rv_book.proofs.PageRows.{page_group_row, page_groups, rows_from, rows_more}
use Rattle.rv_book.proofs.groups.of_page.Goals as goal

pub loop-named-preserved : goal.loop-named-preserved
loop-named-preserved c =
    c.in_ok-push.ensures.items ∙ rows_more page_group_row c.as_slice-groups.result.now c.loop-named.named c.index-groups-named.result c.loop-named.rows.items c.loop-named-test.true c.index-groups-named.is c.loop-named.invariant

pub returns : goal.returns
returns c =
    let groups = c.as_slice-groups.result.now in
    let all : take c.loop-named.named groups ≡ c.args.page.now.groups = take_all c.loop-named.named groups c.loop-named-test.false ∙ c.as_slice-groups.ensures in
    page_groups c.args.page.now c.loop-named.rows.items c.requires.groups (c.loop-named.invariant ∙ ap (rows_from page_group_row 0) all)
