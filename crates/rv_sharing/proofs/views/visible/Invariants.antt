use Rattle.rv_sharing.proofs.views.visible.Given as goal

abbrev pub ghosts-visible_from : goal.ghosts-visible_from
ghosts-visible_from a = record { name = a.blank.name; parts = a.blank.parts }
