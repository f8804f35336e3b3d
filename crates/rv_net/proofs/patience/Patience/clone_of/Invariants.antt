use Rattle.rv_net.proofs.patience.Patience.clone_of.Given as goal

abbrev pub decreases-loop-handle : goal.decreases-loop-handle
decreases-loop-handle g l = l.self.left
