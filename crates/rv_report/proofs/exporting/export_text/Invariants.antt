use Rattle.rv_report.proofs.exporting.export_text.Given as goal

abbrev pub ghosts-text_from : goal.ghosts-text_from
ghosts-text_from a = record { name = a.blank.name; parts = a.blank.parts }
