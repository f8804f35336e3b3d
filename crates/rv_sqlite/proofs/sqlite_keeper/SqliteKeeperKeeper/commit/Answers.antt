use Rattle.std.proofs.Common.{sym, subst, OnOk}
use Rattle.sqlite.specs.Held.{state}
use Rattle.rv_keeper.specs.Keeping.{Made, committed}
use Rattle.rv_sqlite.specs.Telling.{CallMakes, CommitsOrNot, Holds}
use Rattle.rv_sqlite.proofs.Answering.{commit_by, held_by, leaves_as, made_by, settled_by}
use Rattle.rv_sqlite.proofs.Settling.{commit_survives}
use Rattle.rv_sqlite.proofs.sqlite_keeper.SqliteKeeperKeeper.commit.Goals as goal

-- Where the write was made, so was the commit.
pub returns-clause-answer : goal.returns-clause-answer
returns-clause-answer g c clean =
    let old = state g.S.Store c.args.self.now.connection in
    let new = state g.S.Store c.write-answer.new.connection in
    subst (λ r. OnOk r (CallMakes old new (committed c.args.from c.args.changes.now))) (sym c.count_in.ensures.same)
    (commit_by old new c.args.from c.args.changes.now c.write-answer.result c.requires.from c.requires.changes (c.write-answer.ensures.comes clean))

-- What the write came to is what is held.
pub returns-clause-made : goal.returns-clause-made
returns-clause-made g c tells held holds =
    let old = state g.S.Store c.args.self.now.connection in
    let new = state g.S.Store c.write-answer.new.connection in
    subst (λ r. CommitsOrNot c.args.from c.args.changes.now r (Holds new) held) (sym c.count_in.ensures.same)
    (made_by old new c.args.from c.args.changes.now c.write-answer.result c.requires.from c.requires.changes (c.write-answer.ensures.comes tells.honest) tells held holds)

pub returns-clause-held : goal.returns-clause-held
returns-clause-held g c told held holds =
    let old = state g.S.Store c.args.self.now.connection in
    let new = state g.S.Store c.write-answer.new.connection in
    subst (λ r. Made c.args.from c.args.changes.now r (Holds new) held) (sym c.count_in.ensures.same)
    (held_by c.args.from c.args.changes.now c.write-answer.result (Holds new) held
    (made_by old new c.args.from c.args.changes.now c.write-answer.result c.requires.from c.requires.changes (c.write-answer.ensures.comes told.1.honest) told.1 held holds))

pub returns-clause-survives : goal.returns-clause-survives
returns-clause-survives g c =
    commit_survives (state g.S.Store c.args.self.now.connection) (state g.S.Store c.write-answer.new.connection) c.args.from c.args.changes.now c.requires.from c.requires.changes c.write-answer.ensures.survives

-- A crash leaves what was held, or what the commit makes of it.
pub returns-clause-crash : goal.returns-clause-crash
returns-clause-crash g c honest =
    let old = state g.S.Store c.args.self.now.connection in
    let new = state g.S.Store c.write-answer.new.connection in
    leaves_as c.args.self.now.is_known (committed c.args.from c.args.changes.now) old new honest.1
    (commit_survives old new c.args.from c.args.changes.now c.requires.from c.requires.changes c.write-answer.ensures.survives) honest.0

-- The store of an open connection is settled.
pub returns-clause-outcome : goal.returns-clause-outcome
returns-clause-outcome g c = let h = c.write-answer.new.connection in settled_by g.S.Store h (λ trees is_open may. g.met.S.Store.settled h.store trees is_open may)

pub returns-clause-settled : goal.returns-clause-settled
returns-clause-settled g c told = let h = c.write-answer.new.connection in settled_by g.S.Store h (λ trees is_open may. g.met.S.Store.settled h.store trees is_open may) told.1
