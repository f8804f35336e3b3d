use Rattle.rv_csv.proofs.ViewLaws.{blames, gives_again, gives_rows}
use Rattle.rv_csv.proofs.view_reading.read_view.Goals as goal

pub returns-clause-only : goal.returns-clause-only
returns-clause-only c = gives_rows c.args.bytes.now c.rows_of.result c.rows_of.ensures

pub returns-clause-again : goal.returns-clause-again
returns-clause-again c = gives_again c.args.bytes.now c.rows_of.result c.rows_of.ensures

pub returns-clause-bad : goal.returns-clause-bad
returns-clause-bad c = blames c.args.bytes.now c.rows_of.result c.rows_of.ensures
