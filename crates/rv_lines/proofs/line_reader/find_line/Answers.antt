use Rattle.std.proofs.Common.{rules}
use Rattle.rv_lines.proofs.Buffers.{no_lf_take, no_lf_front}
use Rattle.rv_lines.proofs.line_reader.find_line.Goals as goal

pub returns-else-at-le-LINE_LIMIT-clause-found : goal.returns-else-at-le-LINE_LIMIT-clause-found
returns-else-at-le-LINE_LIMIT-clause-found g c =
    (search rules, no_lf_front 4195329 c.in-Some.at c.loop-at.buffer.items (search rules) (search rules))

pub returns-then-len-gt-LINE_LIMIT-clause-found : goal.returns-then-len-gt-LINE_LIMIT-clause-found
returns-then-len-gt-LINE_LIMIT-clause-found g c = (search rules, no_lf_take 4195329 c.loop-at.buffer.items (search rules))
