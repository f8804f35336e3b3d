use Rattle.std.proofs.Common.{sym, ap, refl, arith}
use Rattle.rv_lines.specs.Reading.{Reading}
use Rattle.rv_lines.proofs.Buffers.{held}
use Rattle.rv_lines.proofs.line_reader.LineReader.next.Goals as goal

pub returns-clause-gives : goal.returns-clause-gives
returns-clause-gives g c = held _ _ _ _ _ _ _ (ap (λ (r : Reading). r.pending) (sym c.self.view_is)) (rw c.deref.ensures.value at c.in-Some.ensures) refl (omega arith)
