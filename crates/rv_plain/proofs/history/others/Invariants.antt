use Rattle.std.proofs.Common.{◌≡◌, take}
use Rattle.std.specs.Prelude.{not}
use Rattle.std.specs.List.{filter}
use Rattle.rv_history.specs.History.{is_among}
use Rattle.rv_plain.proofs.history.others.Given as goal

abbrev pub invariant-loop-pair : goal.invariant-loop-pair
invariant-loop-pair l = l.others ≡ filter (λ pair. not (is_among l.those pair)) (take l.pair-index l.clients)
