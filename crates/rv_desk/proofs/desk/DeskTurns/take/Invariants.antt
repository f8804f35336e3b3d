use Rattle.rv_desk.proofs.desk.DeskTurns.take.Given as goal

abbrev pub ghosts-take_from : goal.ghosts-take_from
ghosts-take_from g a = record { name = a.blank.name; parts = a.blank.parts }
