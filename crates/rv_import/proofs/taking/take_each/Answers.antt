use Rattle.std.proofs.Common.{◌∙◌, sym}
use Rattle.rv_import.proofs.Takings.{ends_refused, midway_first, midway_on}
use Rattle.rv_import.proofs.taking.take_each.Goals as goal

pub loop-mutation-init : goal.loop-mutation-init
loop-mutation-init g c = midway_first g.T.Turns.takes _ c.args.records c.args.turns.now c.requires

pub returns-in-Some : goal.returns-in-Some
returns-in-Some g c =
    ends_refused g.T.Turns.takes _ c.args.records c.args.turns.now c.loop-mutation.records c.next.new.self c.loop-mutation.counts c.loop-mutation.turns c.take-outcome.new.turns c.in-Ok.mutation c.take-outcome.result c.in-Some.refusal c.refused_end.result
    c.loop-mutation.invariant c.in-Ok.ensures c.take-outcome.ensures c.in-Some.ensures c.refused_end.ensures

pub loop-mutation-preserved-in_default : goal.loop-mutation-preserved-in_default
loop-mutation-preserved-in_default g c =
    midway_on g.T.Turns.takes _ c.args.records c.args.turns.now c.loop-mutation.records c.next.new.self c.loop-mutation.counts c.counted-counts.result c.loop-mutation.turns c.take-outcome.new.turns c.in-Ok.mutation c.take-outcome.result
    c.loop-mutation.invariant c.in-Ok.ensures c.take-outcome.ensures (sym c.in_default.is ∙ c.refusal.ensures) c.counted-counts.ensures

pub loop-mutation-preserved : goal.loop-mutation-preserved
loop-mutation-preserved g c =
    midway_on g.T.Turns.takes _ c.args.records c.args.turns.now c.loop-mutation.records c.next.new.self c.loop-mutation.counts c.counted-counts.result c.loop-mutation.turns c.take-outcome.new.turns c.in-Ok.mutation c.take-outcome.result
    c.loop-mutation.invariant c.in-Ok.ensures c.take-outcome.ensures (sym c.in_default.is ∙ c.refusal.ensures) c.counted-counts.ensures
