use Rattle.std.proofs.Common.{refl, sym, ◌∙◌}
use Rattle.rv_record.proofs.Steps.{ends_with, no_part}
use Rattle.rv_record.proofs.page_read.PageRead.take.Goals as goal

pub returns : goal.returns
returns c = λ limit has follows. ends_with limit c.args.cells.now c.args.self.now.page c.args.cell.now c.args.self.now _ c.damaged.ensures (no_part limit c.args.cells.now c.args.self.now.page c.args.cell.now c.args.self.now c.args.self.now refl has (λ e. c.if-cell-number.false (e ∙ sym c.number.ensures)) (λ e. c.if-cell-number-2.false (e ∙ sym c.number-2.ensures)) (λ e. c.if-cell-number-3.false (e ∙ sym c.number-3.ensures)))
