use Rattle.std.proofs.Common.{◌≡◌, true}
use Rattle.rv_wire.specs.Answers.{pull_json}
use Rattle.rv_laws.proofs.LawfulRuns.{books_are_lawful}
use Rattle.rv_laws.proofs.runs.books_are_lawful.Goals as goal

pub returns : goal.returns
returns c = λ told. books_are_lawful (c.turns_keep_law.ensures pull_json) c.ids_count_up.ensures c.orders_rise.ensures (told ≡ true)
