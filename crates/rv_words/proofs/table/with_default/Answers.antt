use Rattle.std.proofs.lemmas.Result.{IfOk-weaker}
use Rattle.rv_words.proofs.Tables.{stays_local}
use Rattle.rv_words.proofs.table.with_default.Goals as goal

pub returns-clause-local : goal.returns-clause-local
returns-clause-local c =
    IfOk-weaker c.arg.result _ _ (λ r adds. stays_local _ _ r adds (search c.new.ensures.optional)) c.arg.ensures
