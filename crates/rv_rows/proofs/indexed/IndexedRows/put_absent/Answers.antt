use Rattle.std.proofs.Common.{sym, ◌∙◌}
use Rattle.std.proofs.lemmas.Option.{none-some}
use Rattle.rv_base.specs.Sorted.{find_by}
use Rattle.rv_rows.specs.Keys.{key_text}
use Rattle.rv_rows.specs.Held.{stored_key}
use Rattle.rv_rows.specs.Slots.{no_row, rows_of}
use Rattle.rv_rows.proofs.indexed.IndexedRows.put_absent.Goals as goal

pub unreachable-requires : goal.unreachable-requires
unreachable-requires c =
    none-some _ (sym ((λ i. find_by stored_key (key_text (record { kind = c.kind.ensures i; id = c.id.ensures i })) (rows_of c.args.self.now)) ∙ c.requires.absent) ∙ c.in-Ok.ensures.position.found no_row)
