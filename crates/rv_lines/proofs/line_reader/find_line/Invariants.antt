use Rattle.std.proofs.Common.{◌≡◌, ◌≤◌, ◌+◌, ◌-◌, true, length, take}
use Rattle.rv_lines.specs.Lines.{HasNoLf, holds_line, longest_line}
use Rattle.rv_lines.proofs.Buffers.{FillsBuffer}
use Rattle.rv_lines.proofs.line_reader.find_line.Given as goal

abbrev pub invariant-loop-at : goal.invariant-loop-at
invariant-loop-at g l = record {
  within : l.searched ≤ length l.buffer.items;
  none : HasNoLf (take l.searched l.buffer.items);
  fills : FillsBuffer l.fn.buffer.items (g.S.Source.state l.fn.source) l.buffer.items (g.S.Source.state l.source);
  idle : holds_line l.fn.buffer.items ≡ true → l.source ≡ l.fn.source;
  goes_on : g.S.Source.fails_no_more l.fn.source → g.S.Source.fails_no_more l.source;
}

abbrev pub decreases-loop-at : goal.decreases-loop-at
decreases-loop-at g l = longest_line + 1 - length l.buffer.items
