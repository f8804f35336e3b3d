use Rattle.std.proofs.Common.{refl}
use Rattle.rv_wire.proofs.ErrorTexts.{changed_text, keeper_text}
use Rattle.rv_wire.proofs.refusal.trouble_text.Goals as goal

pub returns-in-Changed-clause-text : goal.returns-in-Changed-clause-text
returns-in-Changed-clause-text c = rw (c.put_numbers.ensures.text, c.in-Changed.is) (changed_text _ _)

pub returns-in-Keeper-clause-text : goal.returns-in-Keeper-clause-text
returns-in-Keeper-clause-text c = rw (c.put.ensures.text, c.in-Keeper.is, keeper_text) refl
