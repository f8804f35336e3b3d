use Rattle.std.proofs.Common.{◌∙◌, ap, sym, Bool, Some, None}
use Rattle.std.specs.Prelude.{if◌then◌else◌}
use Rattle.json.specs.Value.{value_view}
use Rattle.rv_json.specs.Documents.{data_of}
use Rattle.rv_json.specs.DocumentLaws.{read_as}
use Rattle.rv_json.proofs.reading.in_range.Goals as goal

pub returns-then-is_readable : goal.returns-then-is_readable
returns-then-is_readable c =
    let j = value_view c.args.tree in
    sym (read_as j ∙ ap (λ (b : Bool). if b then Some (data_of j) else None) (sym c.is_readable.ensures ∙ c.if-is_readable.true))

pub returns : goal.returns
returns c =
    let j = value_view c.args.tree in
    sym (read_as j ∙ ap (λ (b : Bool). if b then Some (data_of j) else None) (sym c.is_readable.ensures ∙ c.if-is_readable.false))
