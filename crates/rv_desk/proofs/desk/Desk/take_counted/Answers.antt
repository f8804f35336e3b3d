use Rattle.std.proofs.Common.{arith}
use Rattle.rv_turns.specs.Asks.{ask_of}
use Rattle.rv_turns.specs.Outcomes.{trouble_of}
use Rattle.rv_wire.specs.Answers.{pull_json}
use Rattle.rv_desk.specs.DeskStates.{served}
use Rattle.rv_desk.specs.TurnLaws.{assures_on, turn_after, turn_unsettled}
use Rattle.rv_desk.proofs.desk.Desk.take_counted.Goals as goal

pub returns-in-Ok : goal.returns-in-Ok
returns-in-Ok g c = (
  record {
    turn = turn_after pull_json (ask_of c.args.asked) c.take_settled.result (served g.K.Keeper.faults c.args.self.now) (served g.K.Keeper.faults c.settle.new.self) (served g.K.Keeper.faults c.take_settled.new.self) c.in-Ok.ensures.settled c.take_settled.ensures.turn.turn;
    assured = assures_on g.K.Keeper.tells g.K.Keeper.fails_no_more c.args.self.now.keeper c.settle.new.self.keeper c.take_settled.new.self.keeper (trouble_of c.take_settled.result) c.in-Ok.ensures.assured c.take_settled.ensures.turn.assured;
    kept = c.take_settled.ensures.turn.kept;
  },
  omega (arith, c.take_settled.ensures.most),
)

pub returns-in-Err : goal.returns-in-Err
returns-in-Err g c = (
  record {
    turn = turn_unsettled pull_json (ask_of c.args.asked) (served g.K.Keeper.faults c.args.self.now) (served g.K.Keeper.faults c.settle.new.self) c.in-Err.trouble c.in-Err.ensures.settled;
    assured = c.in-Err.ensures.assured;
    kept = c.settle.ensures.kept;
  },
  omega arith,
)
