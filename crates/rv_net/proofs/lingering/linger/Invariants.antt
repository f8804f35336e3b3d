use Rattle.rv_net.proofs.lingering.linger.Given as goal

abbrev pub decreases-loop-left : goal.decreases-loop-left
decreases-loop-left g l = l.left
