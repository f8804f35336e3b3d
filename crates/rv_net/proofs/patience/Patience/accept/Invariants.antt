use Rattle.rv_net.proofs.patience.Patience.accept.Given as goal

abbrev pub decreases-loop-stream : goal.decreases-loop-stream
decreases-loop-stream g l = l.self.left
