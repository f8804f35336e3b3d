use Rattle.std.proofs.Common.{refl, sym, ap, ◌∙◌, ◌+◌, length}
use Rattle.rv_book.specs.declared.entry.Entry.{Entry}
use Rattle.rv_book.specs.Book.{with_entry}
use Rattle.rv_book.specs.Logs.{logged}
use Rattle.rv_book.specs.Indexes.{look_row_at}
use Rattle.rv_book.proofs.LookRowLaws.{look_row_of_other, look_row_of_look}
use Rattle.rv_book.proofs.look.look_row.Goals as goal

pub returns-in-Act : goal.returns-in-Act
returns-in-Act c = look_row_of_other (logged c.args.log) c.args.entry.now (rw c.in-Act.is refl)

pub returns-in-Look : goal.returns-in-Look
returns-in-Look c =
    let book = logged c.args.log in
    (λ i. record { number = c.row_from-row.ensures.looks i + 1; before = c.row_from-row.ensures.last_look i })
    ∙ look_row_of_look book c.in-Look.user c.in-Look.group c.in-Look.order c.in-Look.base
    ∙ ap (λ (e : Entry). look_row_at (length book.entries) (with_entry book e)) (sym c.in-Look.is)

pub returns-in-Retire : goal.returns-in-Retire
returns-in-Retire c = look_row_of_other (logged c.args.log) c.args.entry.now (rw c.in-Retire.is refl)
