use Rattle.std.proofs.Common.{rules, append_assoc}
use Rattle.rv_record.proofs.writing.write_update_todo.Goals as goal

pub returns : goal.returns
returns c = (
  search rules,
  simp (
    append_assoc,
    c.in_ok-end_array.ensures.ok,
    c.in_ok-write_num_or_null.ensures.1,
    c.in_ok-write_flag_or_null.ensures.1,
    c.in_ok-write_text_or_null.ensures.1,
    c.in_ok-begin_call.ensures.1,
  ),
)
