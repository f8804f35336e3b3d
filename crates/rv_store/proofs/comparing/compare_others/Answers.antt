use Rattle.std.proofs.Common.{refl, subst, sym}
use Rattle.rv_history.specs.Lawful.{IsLawful}
use Rattle.rv_store.proofs.Compared.{rows_fail, clients_fail, groups_fail, records_fail, left_fails, left_in_order, compared, records_of}
use Rattle.rv_store.proofs.Restored.{rest_in_order}
use Rattle.rv_store.proofs.Retirements.{lawful_retires_bound}
use Rattle.rv_store.proofs.comparing.compare_others.Goals as goal

pub returns-in_err-after_rows : goal.returns-in_err-after_rows
returns-in_err-after_rows c =
    rows_fail _ _ c.book-book.ensures.book _ _ _ _ c.requires.size c.requires.order c.requires.before c.requires.behind c.tables-tables.ensures (records_of _ _ _ c.as_slice-records.ensures c.records.ensures) _ _ c.from_residual.ensures.1 c.in_err-after_rows.ensures

pub returns-in_err-after_clients : goal.returns-in_err-after_clients
returns-in_err-after_clients c =
    clients_fail _ _ c.book-book.ensures.book _ _ _ _ c.requires.size c.requires.order c.requires.before c.requires.behind c.tables-tables.ensures (records_of _ _ _ c.as_slice-records.ensures c.records.ensures) _ c.in_ok-after_rows.ensures _ _ c.from_residual-in_err-after_clients.ensures.1 c.in_err-after_clients.ensures

pub meet_groups-requires : goal.meet_groups-requires
meet_groups-requires c = lawful_retires_bound _ (subst IsLawful (sym c.book-book.ensures.book) c.book-book.ensures.lawful)

pub returns-in_err-after_groups : goal.returns-in_err-after_groups
returns-in_err-after_groups c =
    groups_fail _ _ c.book-book.ensures.book _ _ _ _ c.requires.size c.requires.order c.requires.before c.requires.behind c.tables-tables.ensures (records_of _ _ _ c.as_slice-records.ensures c.records.ensures) _ c.in_ok-after_rows.ensures _ c.in_ok-after_clients.ensures _ _ c.from_residual-in_err-after_groups.ensures.1 c.in_err-after_groups.ensures

pub returns-in_err-left_over : goal.returns-in_err-left_over
returns-in_err-left_over c =
    records_fail _ _ c.book-book.ensures.book _ _ _ _ c.requires.size c.requires.order c.requires.before c.requires.behind c.tables-tables.ensures (records_of _ _ _ c.as_slice-records.ensures c.records.ensures) _ c.in_ok-after_rows.ensures _ c.in_ok-after_clients.ensures _ c.in_ok-after_groups.ensures _ _ c.from_residual-in_err-left_over.ensures.1 c.in_err-left_over.ensures

pub meet_end-requires : goal.meet_end-requires
meet_end-requires c =
    left_in_order _ _ c.book-book.ensures.book _ _ _ _ c.requires.size c.requires.order c.requires.before c.requires.behind c.tables-tables.ensures (records_of _ _ _ c.as_slice-records.ensures c.records.ensures) _ c.in_ok-after_rows.ensures _ c.in_ok-after_clients.ensures _ c.in_ok-after_groups.ensures _ c.in_ok-left_over.ensures

pub returns-in_err-meet_end : goal.returns-in_err-meet_end
returns-in_err-meet_end c =
    left_fails _ _ c.book-book.ensures.book _ _ _ _ c.requires.size c.requires.order c.requires.before c.requires.behind c.tables-tables.ensures (records_of _ _ _ c.as_slice-records.ensures c.records.ensures) _ c.in_ok-after_rows.ensures _ c.in_ok-after_clients.ensures _ c.in_ok-after_groups.ensures _ c.in_ok-left_over.ensures _ _ c.from_residual-in_err-meet_end.ensures.1 c.in_err-meet_end.ensures

pub meet_end-requires-2 : goal.meet_end-requires-2
meet_end-requires-2 c = rest_in_order _ c.args.others.now c.args.behind.now refl c.requires.order

pub returns : goal.returns
returns c =
    compared _ _ c.book-book.ensures.book _ _ _ _ c.requires.size c.requires.order c.requires.before c.requires.behind c.tables-tables.ensures (records_of _ _ _ c.as_slice-records.ensures c.records.ensures) _ c.in_ok-after_rows.ensures _ c.in_ok-after_clients.ensures _ c.in_ok-after_groups.ensures _ c.in_ok-left_over.ensures c.in_ok-meet_end.ensures _ c.meet_end-2.ensures
