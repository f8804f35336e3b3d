use Rattle.std.proofs.Common.{rules, append_assoc}
use Rattle.rv_record.proofs.writing.write_create_share.Goals as goal

pub returns : goal.returns
returns c = (
  search rules,
  simp (
    append_assoc,
    c.in_ok-end_create_share.ensures.1,
    c.in_ok-string-2.ensures.ok,
    c.in_ok-string.ensures.ok,
    c.in_ok-begin_call.ensures.1,
    c.as_str.ensures.value,
    c.as_str-2.ensures.value,
  ),
)
