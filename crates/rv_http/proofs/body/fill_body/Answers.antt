use Rattle.std.proofs.Common.{◌≡◌, ◌≤◌, inl, take, drop, length, ◌+◌, ◌++◌, sym, ap, ◌∙◌, arith, append_assoc, length-append}
use Rattle.std.proofs.KnownBytes.{Consumes-trans}
use Rattle.std.proofs.lemmas.List.{take_all}
use Rattle.rv_base.specs.Outside.{counted_if}
use Rattle.rv_http.proofs.Pendings.{written, not_end}
use Rattle.rv_http.proofs.body.fill_body.Goals as goal
use Rattle.rv_http.proofs.body.fill_body.Goals.{then-at-len+in_ok-grow, else-at-len}

pub loop-at-preserved : goal.loop-at-preserved
loop-at-preserved g c =
    let (read, front, at, consumed) = c.loop-at.invariant.bytes in
    let (more, grown, count, within, taken) = c.in_ok-count.ensures.bytes in
    let body = c.if-at-len.body in
    let bytes = c.read_at.new.bytes in
    let long : length bytes ≡ length body.items = c.in_ok-count.ensures.size ∙ ap length c.deref_mut.ensures.value in
    let same : take body.len (bytes ++ drop (length bytes) body.items) ≡ bytes = written bytes body.items body.len long (omega (arith, body.ok.0)) in
    let capacity : (take c.loop-at.at body.items ≡ take c.loop-at.at c.loop-at.body.items) × (length body.items ≤ c.args.size) =
    elim c.if-at-len.branch [
      | then-at-len+in_ok-grow w ↦
          let (kept, more, few) = w.in_ok-grow.ensures in
          let full : c.loop-at.at ≡ length c.loop-at.body.items = omega (arith, w.if-at-len.true, c.len.ensures, c.loop-at.body.ok.0) in (
            ap (λ b. take c.loop-at.at b.items) w.body-is ∙ ap (λ n. take n w.grow.new.body.items) full ∙ kept ∙ sym (take_all c.loop-at.at c.loop-at.body.items (omega (arith, full))),
            rw w.body-is few,
          )
      | else-at-len w ↦ (ap (λ b. take c.loop-at.at b.items) w.body-is, rw w.body-is c.loop-at.invariant.capacity)
    ] in
    let front' : take (c.loop-at.at + c.in_ok-count.count) bytes ≡ take c.args.from c.args.body.now.items ++ (read ++ more) =
    grown ∙ ap (λ l. l ++ more) (ap (take c.loop-at.at) c.deref_mut.ensures.value ∙ capacity.0 ∙ front) ∙ append_assoc _ read more in
    record {
      bytes = (read ++ more, rw same front', omega (arith, at, length-append read more, count), Consumes-trans _ _ _ read more consumed taken);
      idle = inl (omega (arith, at, c.loop-at-test.true));
      within = rw same within;
      capacity = rw same (omega (arith, long, capacity.1));
      faults = c.in_ok-count.ensures.counts.faults ∙ c.loop-at.invariant.faults;
      ends = c.in_ok-count.ensures.counts.ends ∙ ap (λ b. counted_if b (g.S.Source.state c.loop-at.source).ends) (not_end _ c.if-count-eq0.false) ∙ c.loop-at.invariant.ends;
      goes_on = λ s. (c.in_ok-count.ensures.steady (c.loop-at.invariant.goes_on s)).goes_on;
    }
