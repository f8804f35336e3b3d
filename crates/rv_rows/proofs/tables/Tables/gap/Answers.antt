use Rattle.std.proofs.Common.{ℕ, List, Option, not, sym, ap, ◌∙◌}
use Rattle.std.specs.Option.{is_some}
use Rattle.rv_rows.specs.Keys.{key_text}
use Rattle.rv_rows.specs.Held.{Held, Stored, find}
use Rattle.rv_rows.specs.Slots.{no_row, rows_of}
use Rattle.rv_rows.proofs.tables.Tables.gap.Goals as goal

pub returns-in-Ok : goal.returns-in-Ok
returns-in-Ok c = sym (
    ap (λ (h : Held). not (is_some (find (key_text (record { kind = c.args.kind; id = c.args.id.now })) h.rows))) (sym c.self.view_is)
    ∙ ap (λ (id : List ℕ). not (is_some (find (key_text (record { kind = c.args.kind; id = id })) (rows_of c.self.inside.rows)))) (sym c.as_str.ensures.value)
    ∙ ap (λ (o : Option Stored). not (is_some o)) (c.in-Ok.ensures.position.found no_row)
    )
