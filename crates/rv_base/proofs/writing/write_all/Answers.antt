use Rattle.std.proofs.Common.{◌∙◌}
use Rattle.rv_base.proofs.Known.{write_more}
use Rattle.rv_base.proofs.writing.write_all.Goals as goal

pub loop-rest-preserved : goal.loop-rest-preserved
loop-rest-preserved g c =
    let so = c.loop-rest.invariant in
    let more = write_more _ so.done c.loop-rest.rest.now c.in_ok-taken.taken _ _ _ so.split so.appended c.in_ok-taken.ensures.writes.bytes in
    record {
      done = more.0;
      split = more.1;
      appended = more.2;
      faults = c.in_ok-taken.ensures.writes.cause.still ∙ so.faults;
      refusals = c.in_ok-taken.ensures.writes.memory.still ∙ so.refusals;
      goes_on = λ h. (c.in_ok-taken.ensures.steady (so.goes_on h)).goes_on;
    }
