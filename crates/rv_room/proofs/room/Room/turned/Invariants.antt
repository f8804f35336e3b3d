use Rattle.rv_room.proofs.room.Room.turned.Given as goal

abbrev pub ghosts-turn_from : goal.ghosts-turn_from
ghosts-turn_from g a = record { name = a.blank.name; parts = a.blank.parts }
