use Rattle.rv_following.proofs.follower.Follower.answer.Given as goal

abbrev pub ghosts-answer_from : goal.ghosts-answer_from
ghosts-answer_from a = record { name = a.blank.name; parts = a.blank.parts }
