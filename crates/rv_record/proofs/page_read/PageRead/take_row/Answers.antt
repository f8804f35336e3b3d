use Rattle.std.proofs.Common.{List, [], ◌∷◌, ◌++◌, ◌∙◌, ap, refl, subst}
use Rattle.rv_rows.specs.Held.{Stored, put, rows_in}
use Rattle.rv_rows.specs.declared.row.Row.{Row}
use Rattle.rv_record.specs.PageReads.{RowFollows}
use Rattle.rv_record.proofs.Steps.{row_unread, row_taken, row_breaks, ends_with}
use Rattle.rv_record.proofs.page_read.PageRead.take_row.Goals as goal

pub returns-in_err-row : goal.returns-in_err-row
returns-in_err-row c = λ limit cells has follows. row_unread limit cells c.args.self.now.page c.args.cell.now _ c.args.self.now refl has _ _ c.requires.shelf c.from_residual.ensures.1 c.in_err-row.ensures

pub returns-then-not-row_follows : goal.returns-then-not-row_follows
returns-then-not-row_follows c = λ limit cells has follows.
    ends_with limit cells c.args.self.now.page c.args.cell.now c.args.self.now _ c.damaged.ensures
    (row_breaks limit cells c.args.self.now c.args.cell.now has follows (c.in_ok-row.row, c.in_ok-row.version) c.row_fits.ensures c.requires.shelf c.in_ok-row.ensures c.row_follows.result c.row_follows.ensures c.if-not-row_follows.true)

pub returns : goal.returns
returns c = λ limit cells has follows.
    row_taken limit cells c.args.self.now c.args.cell.now has follows (c.in_ok-row.row, c.in_ok-row.version) c.row_fits.ensures c.requires.shelf c.in_ok-row.ensures
    (record { page = record { at = c.args.self.now.page.at; rows = c.push.new.self; clients = c.args.self.now.page.clients; groups = c.args.self.now.page.groups }; tables = c.put.new.self })
    (subst (λ (rows : List Stored). RowFollows c.args.self.now.page.at (rows_in rows) c.in_ok-row.row c.in_ok-row.version) has.tables (c.row_follows.ensures.0 c.if-not-row_follows.false))
    (ap (λ (rows : List Stored). record { at = c.args.self.now.page.at; rows = rows; clients = c.args.self.now.page.clients; groups = c.args.self.now.page.groups }) (c.in_ok-push.ensures.ok ∙ ap (λ (row : Row). c.args.self.now.page.rows ++ (row, c.in_ok-row.version) ∷ []) c.in_ok-copy.ensures))
    (c.put.ensures.rows ∙ ap (put (c.in_ok-row.row, c.in_ok-row.version)) c.reserve.ensures.rows)
