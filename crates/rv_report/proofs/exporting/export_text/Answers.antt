use Rattle.rv_report.proofs.ExportLaws.{reads_back}
use Rattle.rv_report.proofs.exporting.export_text.Goals as goal

pub returns-clause-again : goal.returns-clause-again
returns-clause-again c = reads_back _ c.text_from.result c.text_from.ensures.text c.text_from.ensures.view
