use Rattle.std.proofs.Common.{◌∙◌}
use Rattle.rv_words.proofs.Parses.{parsed, refused}
use Rattle.rv_words.proofs.reading.matches_of.Goals as goal

pub returns-in-Ok : goal.returns-in-Ok
returns-in-Ok c = parsed _ _ c.in-Ok.matches c.in_ok-rv.ensures c.in-Ok.ensures.matches c.in-Ok.ensures.kinds

pub returns : goal.returns
returns c = refused _ _ c.in-Err.error c.in_ok-rv.ensures c.in-Err.ensures.kinds (λ memory. c.in_default.not-OutOfMemory (c.kind.ensures ∙ memory))
