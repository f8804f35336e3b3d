use Rattle.std.proofs.Common.{◌≡◌, ◌∙◌, Some, None, sym, ap, arith}
use Rattle.std.specs.List.{slice_get}
use Rattle.std.specs.Option.{option_map, option_and_then}
use Rattle.std.proofs.lemmas.Option.{slice_get-get_or, slice_get_past}
use Rattle.rv_book.specs.declared.clients.ClientRef.{ClientRef}
use Rattle.rv_book.specs.Logs.{logged}
use Rattle.rv_book.specs.Indexes.{info_by_client}
use Rattle.rv_book.proofs.InfoLaws.{client-at}
use Rattle.rv_book.proofs.clients.info_at.Goals as goal

pub returns-in_err-get-clause-info : goal.returns-in_err-get-clause-info
returns-in_err-get-clause-info c =
    let book = logged c.args.log in
    let rows = c.args.rows.now in
    let none : slice_get rows c.args.at ≡ None = slice_get_past rows c.args.at (omega (arith, c.in_err-get.ensures.lookup)) in
    ap (option_map (λ (info : ClientRef). (info.client.now, info.group.now, info.last))) c.from_residual.ensures
    ∙ ap (option_and_then (info_by_client book)) (sym none)
    ∙ client-at book rows c.args.at c.requires

pub returns-clause-info : goal.returns-clause-info
returns-clause-info c =
    let book = logged c.args.log in
    let rows = c.args.rows.now in
    let row = c.in_ok-get.field-0.now in
    let there : slice_get rows c.args.at ≡ Some row = slice_get-get_or rows c.args.at row (omega (arith, c.in_ok-get.ensures.lookup)) ∙ ap Some (sym c.in_ok-get.ensures.lookup.1) in
    c.info_by.ensures.info ∙ ap (option_and_then (info_by_client book)) (sym there) ∙ client-at book rows c.args.at c.requires
