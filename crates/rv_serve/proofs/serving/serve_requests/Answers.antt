use Rattle.std.proofs.Common.{arith}
use Rattle.rv_serve.proofs.Talking.{going_first, going_on, closed, write_failed, refused, goes_below}
use Rattle.rv_serve.proofs.serving.serve_requests.Goals as goal

pub loop-count-init : goal.loop-count-init
loop-count-init g c = record {
  going = going_first g.T.Turns.takes g.T.CountsSettled.settled c.args.accounts.now c.args.turns.now (g.S.Source.state c.args.source.now) (g.O.Sink.state c.args.sink.now) (g.G.Gate.heard c.args.gate.now) c.args.buffer.now c.requires;
  below = omega arith;
  source = λ steady. steady;
  sink = λ steady. steady;
}

pub returns-in-Err-clause-talks : goal.returns-in-Err-clause-talks
returns-in-Err-clause-talks g c =
    refused g.T.Turns.takes g.T.CountsSettled.settled c.args.accounts.now c.args.turns.now c.loop-count.turns (g.S.Source.state c.args.source.now) (g.S.Source.state c.loop-count.source) (g.S.Source.state c.read_request.new.source)
    (g.O.Sink.state c.args.sink.now) (g.O.Sink.state c.loop-count.sink) (g.O.Sink.state c.refuse.new.sink) (g.G.Gate.heard c.args.gate.now) (g.G.Gate.heard c.loop-count.gate) (g.G.Gate.heard c.loop-count.gate) c.loop-count.buffer c.read_request.new.buffer c.loop-count.count c.loop-count.invariant.going
    c.in-Err.cause c.refuse.result c.in-Err.ensures.reads c.in-Err.ensures.counts c.refuse.ensures.ends

pub returns-in-Ok-true-clause-talks : goal.returns-in-Ok-true-clause-talks
returns-in-Ok-true-clause-talks g c =
    closed g.T.Turns.takes g.T.CountsSettled.settled c.args.accounts.now c.args.turns.now c.loop-count.turns (g.S.Source.state c.args.source.now) (g.S.Source.state c.loop-count.source) (g.S.Source.state c.read_request.new.source)
    (g.O.Sink.state c.args.sink.now) (g.O.Sink.state c.loop-count.sink) (g.O.Sink.state c.answer_request.new.sink) (g.G.Gate.heard c.args.gate.now) (g.G.Gate.heard c.loop-count.gate) (g.G.Gate.heard c.answer_request.new.gate) c.loop-count.buffer c.read_request.new.buffer c.loop-count.count c.loop-count.invariant.going
    c.in-Ok.request c.answer_request.new.turns c.in-Ok.ensures.reads c.in-Ok.ensures.counts (rw c.in-Ok-true.field-0-test at c.in-Ok-true.ensures.answers)

pub returns-in-Err-answer_request-clause-talks : goal.returns-in-Err-answer_request-clause-talks
returns-in-Err-answer_request-clause-talks g c =
    write_failed g.T.Turns.takes g.T.CountsSettled.settled c.args.accounts.now c.args.turns.now c.loop-count.turns (g.S.Source.state c.args.source.now) (g.S.Source.state c.loop-count.source) (g.S.Source.state c.read_request.new.source)
    (g.O.Sink.state c.args.sink.now) (g.O.Sink.state c.loop-count.sink) (g.O.Sink.state c.answer_request.new.sink) (g.G.Gate.heard c.args.gate.now) (g.G.Gate.heard c.loop-count.gate) (g.G.Gate.heard c.answer_request.new.gate) c.loop-count.buffer c.read_request.new.buffer c.loop-count.count c.loop-count.invariant.going
    c.in-Ok.request c.answer_request.new.turns c.in-Err-answer_request.field-0 c.in-Ok.ensures.reads c.in-Ok.ensures.counts c.in-Err-answer_request.ensures.answers

pub loop-count-preserved : goal.loop-count-preserved
loop-count-preserved g c =
    let told = rw c.in-Ok-false.field-0-test at c.in-Ok-false.ensures.answers in record {
      going = going_on g.T.Turns.takes g.T.CountsSettled.settled c.args.accounts.now c.args.turns.now c.loop-count.turns (g.S.Source.state c.args.source.now) (g.S.Source.state c.loop-count.source) (g.S.Source.state c.read_request.new.source)
          (g.O.Sink.state c.args.sink.now) (g.O.Sink.state c.loop-count.sink) (g.O.Sink.state c.answer_request.new.sink) (g.G.Gate.heard c.args.gate.now) (g.G.Gate.heard c.loop-count.gate) (g.G.Gate.heard c.answer_request.new.gate) c.loop-count.buffer c.read_request.new.buffer c.loop-count.count c.loop-count.invariant.going
          c.in-Ok.request c.answer_request.new.turns c.in-Ok.ensures.reads c.in-Ok.ensures.counts told;
      below = goes_below c.loop-count.count c.in-Ok.request c.loop-count.invariant.below told.closes;
      source = λ steady. (c.in-Ok.ensures.steady (c.loop-count.invariant.source steady)).goes_on;
      sink = λ steady. (c.in-Ok-false.ensures.steady (c.loop-count.invariant.sink steady)).goes_on;
    }
