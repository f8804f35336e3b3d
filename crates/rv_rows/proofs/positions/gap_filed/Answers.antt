use Rattle.std.proofs.Common.{◌∙◌, sym}
use Rattle.std.proofs.lemmas.Option.{none-some}
use Rattle.rv_rows.specs.Slots.{no_row}
use Rattle.rv_rows.proofs.positions.gap_filed.Goals as goal

pub unreachable-requires : goal.unreachable-requires
unreachable-requires c = none-some _ (sym c.requires.absent ∙ c.in-Ok.ensures.position.found no_row)
