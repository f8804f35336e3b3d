use Rattle.std.proofs.Common.{rules, append_assoc}
use Rattle.rv_record.proofs.writing.write_set_extent.Goals as goal

pub returns : goal.returns
returns c = (
  search rules,
  simp (
    append_assoc,
    c.in_ok-end_array.ensures.ok,
    c.in_ok-write_lists_or_null.ensures.1,
    c.in_ok-string.ensures.ok,
    c.in_ok-begin_array.ensures.ok,
  ),
)
