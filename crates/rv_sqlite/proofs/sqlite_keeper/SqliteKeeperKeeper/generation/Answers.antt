use Rattle.sqlite.specs.Held.{state}
use Rattle.rv_sqlite.proofs.Answering.{leaves_as, settled_by}
use Rattle.rv_sqlite.proofs.sqlite_keeper.SqliteKeeperKeeper.generation.Goals as goal

-- A crash leaves what was held.
pub returns-clause-crash : goal.returns-clause-crash
returns-clause-crash g c honest =
    leaves_as c.args.self.now.is_known (λ held. held) (state g.S.Store c.args.self.now.connection) (state g.S.Store c.generation_in-answer.new.connection) honest.1 c.generation_in-answer.ensures.survives honest.0

pub returns-clause-settled : goal.returns-clause-settled
returns-clause-settled g c told = let h = c.generation_in-answer.new.connection in settled_by g.S.Store h (λ trees is_open may. g.met.S.Store.settled h.store trees is_open may) told.1
