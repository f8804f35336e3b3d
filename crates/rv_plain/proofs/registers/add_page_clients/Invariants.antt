use Rattle.std.proofs.Common.{◌≡◌, ◌++◌, map, take}
use Rattle.rv_plain.proofs.registers.add_page_clients.Given as goal

abbrev pub invariant-loop-told : goal.invariant-loop-told
invariant-loop-told l = l.names ≡ l.fn.names ++ map (λ c. c.0) (take l.told-index l.told-items)
