use Rattle.std.proofs.Common.{◌≡◌, ◌≤◌, take, arith, ap, sym, ◌∙◌, length}
use Rattle.std.proofs.lemmas.List.{length-take-le, take_all}
use Rattle.rv_lines.specs.Reading.{Reading}
use Rattle.rv_lines.proofs.Buffers.{took_line, took_rest, at_end, kept, kept_none}
use Rattle.rv_lines.proofs.line_reader.LineReader.fill.Goals as goal
use Rattle.rv_lines.proofs.line_reader.LineReader.fill.Goals.{then-self-eq0, else-self-eq0}

pub returns-in-At-clause-gives : goal.returns-in-At-clause-gives
returns-in-At-clause-gives g c =
    let start : c.args.self.now.pending ≡ c.forget.new.buffer.items = ap (λ (r : Reading). r.pending) (sym c.self.view_is) ∙ sym c.forget.ensures in
    let found = rw c.in-At.is at c.in_ok-at.ensures.found in
    (found.2, grind (arith, found.1, length-take-le c.in-At.at c.find_line.new.buffer.items (omega (arith, found.0))), took_line _ _ _ _ _ c.in-At.at start c.in_ok-at.ensures.unread found.0 found.3)

pub returns-in-Long-clause-gives : goal.returns-in-Long-clause-gives
returns-in-Long-clause-gives g c =
    let start : c.args.self.now.pending ≡ c.forget.new.buffer.items = ap (λ (r : Reading). r.pending) (sym c.self.view_is) ∙ sym c.forget.ensures in
    let found = rw c.in-Long.is at c.in_ok-at.ensures.found in
    (kept _ _ _ _ _ start c.in_ok-at.ensures.unread, found)

pub returns-after-self-eq0-clause-gives : goal.returns-after-self-eq0-clause-gives
returns-after-self-eq0-clause-gives g c =
    let start : c.args.self.now.pending ≡ c.forget.new.buffer.items = ap (λ (r : Reading). r.pending) (sym c.self.view_is) ∙ sym c.forget.ensures in
    let found = rw c.in-Rest.is at c.in_ok-at.ensures.found in
    let buffer = c.find_line.new.buffer.items in
    let n = c.len-self-inside.result in
    let le : length buffer ≤ n = omega (arith, c.find_line.new.buffer.ok.0) in
    let all : take n buffer ≡ buffer = take_all n buffer le in
    elim c.if-self-eq0.branch [
      | then-self-eq0 w ↦ rw w.result-is (kept_none _ _ _ _ _ n start c.in_ok-at.ensures.unread le w.if-self-eq0.true, at_end buffer _ n le found.2)
      | else-self-eq0 w ↦ rw w.result-is (rw all found.1, rw all (omega (arith, c.find_line.new.buffer.ok.0)), rw all found.0, took_rest _ _ _ _ _ n start c.in_ok-at.ensures.unread le, at_end buffer _ n le found.2)
    ]
