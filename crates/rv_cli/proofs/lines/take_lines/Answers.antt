use Rattle.std.proofs.Common.{◌≡◌, ◌∙◌, arith, refl}
use Rattle.rv_cli.proofs.Taken.{done_last, ended_at, ended_late, finds_next, goes_first, goes_on}
use Rattle.rv_cli.proofs.lines.take_lines.Goals as goal

pub loop-number-init : goal.loop-number-init
loop-number-init g c = record {
  goes = goes_first g.T.LineTaker.taker c.args.taker.now (g.S.Source.state c.args.input.now) (g.O.Sink.state c.args.out.now) c.new-reader.result.pending c.new-reader.ensures.pending;
  input = λ h. h;
  output = λ h. h;
  steady = λ h. (h, refl);
}

pub loop-number-preserved : goal.loop-number-preserved
loop-number-preserved g c =
    let taker = g.T.LineTaker.taker in
    let met = g.met.T.LineTaker in
    let goes = c.loop-number.invariant.goes in
    let found = finds_next taker met.takes_later met.stands_now goes (g.S.Source.state c.next.new.source) c.next.new.self c.next.result c.next.ensures.reads c.next.ensures.gives c.found.ensures c.in-Ok.is in
    let took = rw c.line.ensures at c.in-Ok-take.ensures.takes in
    record {
      goes = goes_on taker met.takes_later met.stands_now goes found c.if-is_last.false (omega arith) took;
      input = λ h. (c.next.ensures.steady (c.loop-number.invariant.input h)).goes_on;
      output = λ h. c.in-Ok-take.ensures.steady (c.loop-number.invariant.output h);
      steady = λ h. let (goes, same) = c.loop-number.invariant.steady h in let (on, also) = c.in-Ok-take.ensures.steady_taker goes in (on, also ∙ same);
    }

pub returns-in-Ok-take-clause-takes : goal.returns-in-Ok-take-clause-takes
returns-in-Ok-take-clause-takes g c =
    let taker = g.T.LineTaker.taker in
    let met = g.met.T.LineTaker in
    let goes = c.loop-number.invariant.goes in
    let found = finds_next taker met.takes_later met.stands_now goes (g.S.Source.state c.next.new.source) c.next.new.self c.next.result c.next.ensures.reads c.next.ensures.gives c.found.ensures c.in-Ok.is in
    done_last taker met.takes_later met.stands_now goes found c.if-is_last.true (omega arith) (rw c.line.ensures at c.in-Ok-take.ensures.takes)

pub returns-in-Err-take-clause-takes : goal.returns-in-Err-take-clause-takes
returns-in-Err-take-clause-takes g c =
    let taker = g.T.LineTaker.taker in
    let met = g.met.T.LineTaker in
    let goes = c.loop-number.invariant.goes in
    let found = finds_next taker met.takes_later met.stands_now goes (g.S.Source.state c.next.new.source) c.next.new.self c.next.result c.next.ensures.reads c.next.ensures.gives c.found.ensures c.in-Ok.is in
    ended_at taker met.takes_later met.stands_now goes found (omega arith) (rw c.line.ensures at c.in-Err-take.ensures.takes)

pub returns-in-Err-clause-takes : goal.returns-in-Err-clause-takes
returns-in-Err-clause-takes g c =
    let taker = g.T.LineTaker.taker in
    let met = g.met.T.LineTaker in
    finds_next taker met.takes_later met.stands_now c.loop-number.invariant.goes (g.S.Source.state c.next.new.source) c.next.new.self c.next.result c.next.ensures.reads c.next.ensures.gives c.found.ensures c.in-Err.is

pub returns-in-Ok-found-clause-takes : goal.returns-in-Ok-found-clause-takes
returns-in-Ok-found-clause-takes g c =
    let taker = g.T.LineTaker.taker in
    let met = g.met.T.LineTaker in
    let same : c.loop-number.number ≡ 4294967296 = omega arith in
    let goes = rw same at c.loop-number.invariant.goes in
    let found = finds_next taker met.takes_later met.stands_now goes (g.S.Source.state c.next-2.new.source) c.next-2.new.self c.next-2.result c.next-2.ensures.reads c.next-2.ensures.gives c.found-2.ensures c.in-Ok-found.is in
    ended_late taker met.takes_later met.stands_now goes found (omega arith)

pub returns-clause-takes : goal.returns-clause-takes
returns-clause-takes g c =
    let taker = g.T.LineTaker.taker in
    let met = g.met.T.LineTaker in
    let same : c.loop-number.number ≡ 4294967296 = omega arith in
    let goes = rw same at c.loop-number.invariant.goes in
    finds_next taker met.takes_later met.stands_now goes (g.S.Source.state c.next-2.new.source) c.next-2.new.self c.next-2.result c.next-2.ensures.reads c.next-2.ensures.gives c.found-2.ensures c.in-Err-found.is
