use Rattle.std.proofs.Common.{◌≡◌}
use Rattle.rv_workers.specs.Ringing.{word_bell_state}
use Rattle.rv_workers.proofs.bells.WordBellBell.wait.Given as goal

abbrev pub invariant-loop-sleep : goal.invariant-loop-sleep
invariant-loop-sleep g l = word_bell_state l.self ≡ word_bell_state l.fn.self
