use Rattle.std.proofs.Common.{inr, arith}
use Rattle.sqlite.specs.State.{HasCleanDisk}
use Rattle.sqlite.specs.Held.{state}
use Rattle.rv_sqlite.proofs.Listed.{shaped_table, sound_now}
use Rattle.rv_sqlite.proofs.Telling.{table_survives, table_told}
use Rattle.rv_sqlite.proofs.loading.load_table.Goals as goal

pub returns-clause-found : goal.returns-clause-found
returns-clause-found g c clean =
    let early : HasCleanDisk (state g.S.Store c.read_table.new.connection) = omega (arith, clean, c.write.ensures.survives.clean) in
    inr (c.read_table.new.connection, c.in-Ok.ensures.found early)

-- What was read is what is held, and it is held again.
pub returns-clause-told : goal.returns-clause-told
returns-clause-told g c clean =
    let h = c.args.connection.now in
    let early : HasCleanDisk (state g.S.Store c.read_table.new.connection) = omega (arith, clean, c.write.ensures.survives.clean) in
    table_told (state g.S.Store h) (state g.S.Store c.read_table.new.connection) (state g.S.Store c.write.new.connection) c.in-Ok.loaded c.requires.autocommit c.requires.settled c.in-Ok.ensures.order c.in-Ok.ensures.small
    (sound_now g.S.Store h c.recall.ensures) (λ is_open. shaped_table g.S.Store h c.recall.ensures is_open g.met.S.Alter.listed g.met.S.Store.ordered)
    (c.in-Ok.ensures.found early) (c.read_table.ensures.kept early) (c.in_ok-write.ensures.comes clean)

pub returns-clause-survives : goal.returns-clause-survives
returns-clause-survives g c =
    table_survives (state g.S.Store c.args.connection.now) (state g.S.Store c.read_table.new.connection) (state g.S.Store c.write.new.connection) c.in-Ok.loaded c.requires.autocommit c.requires.settled c.in-Ok.ensures.order c.in-Ok.ensures.small
    c.in-Ok.ensures.found c.read_table.ensures.kept c.read_table.ensures.survives c.write.ensures.survives

pub returns-in_err-write-clause-survives : goal.returns-in_err-write-clause-survives
returns-in_err-write-clause-survives g c =
    table_survives (state g.S.Store c.args.connection.now) (state g.S.Store c.read_table.new.connection) (state g.S.Store c.write.new.connection) c.in-Ok.loaded c.requires.autocommit c.requires.settled c.in-Ok.ensures.order c.in-Ok.ensures.small
    c.in-Ok.ensures.found c.read_table.ensures.kept c.read_table.ensures.survives c.write.ensures.survives
