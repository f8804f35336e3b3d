use Rattle.std.proofs.Common.{◌≡◌, ◌++◌, map, take}
use Rattle.rv_plain.proofs.registers.add_page_groups.Given as goal

abbrev pub invariant-loop-told : goal.invariant-loop-told
invariant-loop-told l = l.names ≡ l.fn.names ++ map (λ g. g.0) (take l.told-index l.told-items)
