use Rattle.std.proofs.Common.{refl}
use Rattle.rv_wire.proofs.refusal.put_which.Goals as goal

pub returns-in-Book-clause-text : goal.returns-in-Book-clause-text
returns-in-Book-clause-text c = rw (c.put.ensures.text, c.in-Book.is) refl

pub returns-in-Order-clause-text : goal.returns-in-Order-clause-text
returns-in-Order-clause-text c = rw (c.put-in-Order.ensures.text, c.in-Order.is) refl
