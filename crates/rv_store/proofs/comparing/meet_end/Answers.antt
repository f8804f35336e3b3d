use Rattle.rv_store.proofs.Meeting.{left_over}
use Rattle.rv_store.proofs.comparing.meet_end.Goals as goal

pub returns-in-Some : goal.returns-in-Some
returns-in-Some c = left_over _ _ _ c.in-Some.ensures.value c.requires c.damaged.ensures
