use Rattle.std.proofs.Common.{◌≡◌, take, map, Ok}
use Rattle.rv_json.specs.ValueData.{value_data}
use Rattle.rv_base.specs.Chains.{each}
use Rattle.rv_wire.specs.Bodies.{mutation_in}
use Rattle.rv_wire.proofs.push_body.mutations_of.Given as goal

abbrev pub invariant-loop-value : goal.invariant-loop-value
invariant-loop-value l = each mutation_in (take l.value-index (map value_data l.values)) ≡ Ok l.mutations.items
