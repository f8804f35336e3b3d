use Rattle.std.proofs.Common.{rules}
use Rattle.sqlite.specs.Held.{state}
use Rattle.rv_sqlite.proofs.Telling.{nothing_survives, nothing_told}
use Rattle.rv_sqlite.proofs.loading.load_nothing.Goals as goal

-- Nothing is held, and it is held again.
pub returns-clause-told : goal.returns-clause-told
returns-clause-told g c clean =
    nothing_told (state g.S.Store c.args.connection.now) (state g.S.Store c.write.new.connection) c.requires.autocommit c.requires.settled c.requires.none c.recall.ensures.kept c.from_vec.result (search rules) (c.in_ok-write.ensures.comes clean)

pub returns-clause-survives : goal.returns-clause-survives
returns-clause-survives g c =
    nothing_survives (state g.S.Store c.args.connection.now) (state g.S.Store c.write.new.connection) c.requires.autocommit c.requires.settled c.requires.none c.write.ensures.survives

pub returns-in_err-write-clause-survives : goal.returns-in_err-write-clause-survives
returns-in_err-write-clause-survives g c =
    nothing_survives (state g.S.Store c.args.connection.now) (state g.S.Store c.write.new.connection) c.requires.autocommit c.requires.settled c.requires.none c.write.ensures.survives
