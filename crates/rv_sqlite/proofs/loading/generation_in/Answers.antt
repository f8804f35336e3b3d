use Rattle.std.proofs.Common.{arith, rules, false, ◌≡◌}
use Rattle.sqlite.specs.State.{HasCleanDisk}
use Rattle.sqlite.specs.Held.{state}
use Rattle.rv_sqlite.specs.Steps.{IsSettledWhereOpen}
use Rattle.rv_sqlite.proofs.Telling.{generation_survives, generation_told}
use Rattle.rv_sqlite.proofs.loading.generation_in.Goals as goal

pub returns-in-Ok-clause-found : goal.returns-in-Ok-clause-found
returns-in-Ok-clause-found g c clean =
    let early : HasCleanDisk (state g.S.Store c.read_generation.new.connection) = omega (arith, clean, c.write.ensures.survives.clean) in
    (c.read_generation.new.connection, c.in-Some.ensures.found early)

-- The number that was found is the generation of what is held, and it is held again.
pub returns-in-Ok-clause-told : goal.returns-in-Ok-clause-told
returns-in-Ok-clause-told g c clean =
    let old = state g.S.Store c.args.connection.now in
    let early : HasCleanDisk (state g.S.Store c.read_generation.new.connection) = omega (arith, clean, c.write.ensures.survives.clean) in
    let outside : old.in_transaction ≡ false = search rules in
    let settled : IsSettledWhereOpen old = search rules in
    generation_told old (state g.S.Store c.read_generation.new.connection) (state g.S.Store c.write.new.connection) c.in-Some.number outside settled c.in-Some.ensures.small
    (c.in-Some.ensures.found early) (c.read_generation.ensures.kept early) (c.in-Ok.ensures.comes clean)

pub returns-in-Ok-clause-survives : goal.returns-in-Ok-clause-survives
returns-in-Ok-clause-survives g c =
    let old = state g.S.Store c.args.connection.now in
    let outside : old.in_transaction ≡ false = search rules in
    let settled : IsSettledWhereOpen old = search rules in
    generation_survives old (state g.S.Store c.read_generation.new.connection) (state g.S.Store c.write.new.connection) c.in-Some.number outside settled c.in-Some.ensures.small
    c.in-Some.ensures.found c.read_generation.ensures.kept c.read_generation.ensures.survives c.write.ensures.survives

pub returns-in-Err-clause-survives : goal.returns-in-Err-clause-survives
returns-in-Err-clause-survives g c =
    let old = state g.S.Store c.args.connection.now in
    let outside : old.in_transaction ≡ false = search rules in
    let settled : IsSettledWhereOpen old = search rules in
    generation_survives old (state g.S.Store c.read_generation.new.connection) (state g.S.Store c.write.new.connection) c.in-Some.number outside settled c.in-Some.ensures.small
    c.in-Some.ensures.found c.read_generation.ensures.kept c.read_generation.ensures.survives c.write.ensures.survives
