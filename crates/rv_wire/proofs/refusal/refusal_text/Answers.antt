use Rattle.std.proofs.Common.{refl}
use Rattle.rv_wire.proofs.ErrorTexts.{future_text, limit_text, memory_text, not_found_text, group_of_other_text, client_of_other_text, no_group_text, behind_text}
use Rattle.rv_wire.proofs.refusal.refusal_text.Goals as goal

pub returns-in-Future-clause-text : goal.returns-in-Future-clause-text
returns-in-Future-clause-text c = rw (c.put_numbers.ensures.text, c.get.ensures.value, c.get-in-Future.ensures.value, c.in-Future.is) (future_text _ _)

pub returns-in-Limit-clause-text : goal.returns-in-Limit-clause-text
returns-in-Limit-clause-text c = rw (c.put_limit.ensures.text, c.get-in-Limit.ensures.value, c.in-Limit.is) (limit_text _ _)

pub returns-in-Memory-clause-text : goal.returns-in-Memory-clause-text
returns-in-Memory-clause-text c = rw (c.put-in-Memory.ensures.text, c.in-Memory.is, memory_text) refl

pub returns-in-NotFound-clause-text : goal.returns-in-NotFound-clause-text
returns-in-NotFound-clause-text c = rw (c.put-in-NotFound.ensures.text, c.in-NotFound.is, not_found_text) refl

pub returns-in-GroupOfOther-clause-text : goal.returns-in-GroupOfOther-clause-text
returns-in-GroupOfOther-clause-text c = rw (c.put.ensures.text, c.in-GroupOfOther.is, group_of_other_text) refl

pub returns-in-ClientOfOther-clause-text : goal.returns-in-ClientOfOther-clause-text
returns-in-ClientOfOther-clause-text c = rw (c.put-in-ClientOfOther.ensures.text, c.in-ClientOfOther.is, client_of_other_text) refl

pub returns-in-NoGroup-clause-text : goal.returns-in-NoGroup-clause-text
returns-in-NoGroup-clause-text c = rw (c.put-in-NoGroup.ensures.text, c.in-NoGroup.is, no_group_text) refl

pub returns-in-Behind-clause-text : goal.returns-in-Behind-clause-text
returns-in-Behind-clause-text c = rw (c.put_last.ensures.text, c.from.ensures, c.in-Behind.is) (behind_text _)
