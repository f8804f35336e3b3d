use Rattle.rv_record.specs.CellTexts.{page_cell}
use Rattle.rv_record.specs.CellReading.{PageFits, page_in_cell}
use Rattle.rv_record.specs.AgainLaws.{page_again}
use Rattle.rv_record.proofs.Settling.{not_found, other_found}
use Rattle.rv_record.proofs.page_reading.page_of_cell.Goals as goal

pub returns-in_default : goal.returns-in_default
returns-in_default c = not_found page_cell PageFits page_in_cell page_again c.args.cell.now c.in_ok-made.field-0 c.damaged.result c.in_default.is c.in_ok-made.ensures c.damaged.ensures

pub returns-then-not-is_same : goal.returns-then-not-is_same
returns-then-not-is_same c =
    other_found page_cell PageFits page_in_cell page_again c.args.cell.now c.in_ok-again.again c.in_ok-made.field-0 c.in-Some.made c.is_same.result c.damaged-then-not-is_same.result
    c.in-Some.is c.in_ok-made.ensures c.in_ok-again.ensures.cell c.is_same.ensures c.if-not-is_same.true c.damaged-then-not-is_same.ensures
