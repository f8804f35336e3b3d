use Rattle.std.proofs.Common.{◌≡◌}
use Rattle.rv_base.specs.declared.fault.Fault.TheVariants.{Failed, Memory}
use Rattle.rv_turns.specs.Asks.{ask_of}
use Rattle.rv_desk.specs.DeskStates.{served}
use Rattle.rv_desk.proofs.Settled.{turn_failed, turn_refused, turn_stepped}
use Rattle.rv_desk.proofs.desk.Desk.take_settled.Goals as goal

pub returns-in-Ok-clause-turn : goal.returns-in-Ok-clause-turn
returns-in-Ok-clause-turn g c = record {
  turn = turn_stepped (ask_of c.args.asked) c.in-Ok.outcome (served g.K.Keeper.faults c.args.self.now) (served g.K.Keeper.faults c.step-stepped.new.self) c.in-Ok.ensures.stepped;
  assured = rw c.in-Ok.ensures.stepped.stepped.1 c.in-Ok.ensures.assured;
  kept = record { held = c.book.ensures.held; left = c.book.ensures.left };
}

pub returns-in-Err-Failed-clause-turn : goal.returns-in-Err-Failed-clause-turn
returns-in-Err-Failed-clause-turn g c =
    let fault : c.in-Err-Failed.field-0 ≡ Failed = rw c.in-Err-Failed.is at c.in-Err-Failed.field-0-is in
    let stepped = rw c.in-Err-Failed.is at c.step-stepped.ensures.stepped in
    let assured = rw c.in-Err-Failed.is at c.step-stepped.ensures.assured in
    record {
      turn = turn_failed (ask_of c.args.asked) (served g.K.Keeper.faults c.args.self.now) (served g.K.Keeper.faults c.step-stepped.new.self) (rw fault at stepped);
      assured = rw fault at assured;
      kept = record { held = c.book.ensures.held; left = c.book.ensures.left };
    }

pub returns-in-Err-Memory-clause-turn : goal.returns-in-Err-Memory-clause-turn
returns-in-Err-Memory-clause-turn g c =
    let fault : c.in-Err-Memory.field-0 ≡ Memory = rw c.in-Err-Memory.is at c.in-Err-Memory.field-0-is in
    let stepped = rw c.in-Err-Memory.is at c.step-stepped.ensures.stepped in
    let assured = rw c.in-Err-Memory.is at c.step-stepped.ensures.assured in
    record {
      turn = turn_refused (ask_of c.args.asked) (served g.K.Keeper.faults c.args.self.now) (served g.K.Keeper.faults c.step-stepped.new.self) (rw fault at stepped);
      assured = rw fault at assured;
      kept = record { held = c.book.ensures.held; left = c.book.ensures.left };
    }
