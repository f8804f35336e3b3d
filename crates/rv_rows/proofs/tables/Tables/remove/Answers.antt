use Rattle.std.proofs.Common.{ℕ, List, sym, ap, ◌∙◌}
use Rattle.std.specs.Option.{is_some}
use Rattle.rv_rows.specs.Keys.{key_text}
use Rattle.rv_rows.specs.Held.{Held, find}
use Rattle.rv_rows.specs.Slots.{no_row, rows_of}
use Rattle.rv_rows.proofs.tables.Tables.remove.Goals as goal

pub returns-in-Ok-clause-found : goal.returns-in-Ok-clause-found
returns-in-Ok-clause-found c = sym (
    ap (λ (h : Held). is_some (find (key_text c.args.key.now) h.rows)) (sym c.self.view_is)
    ∙ ap (λ (id : List ℕ). is_some (find (key_text (record { kind = c.args.key.now.kind; id = id })) (rows_of c.self.inside.rows))) (sym c.as_str.ensures.value)
    ∙ ap is_some (c.in-Ok.ensures.position.found no_row)
    )
