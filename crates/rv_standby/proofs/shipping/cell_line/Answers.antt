use Rattle.std.proofs.Common.{◌∙◌, ◌++◌, ◌∷◌, [], List, ℕ, ap, ap₂}
use Rattle.rv_keeper.specs.declared.cell.Cell.{Cell}
use Rattle.rv_record.proofs.WritingLaws.{text_of}
use Rattle.serde_json.specs.Written.{compact_text}
use Rattle.rv_standby.specs.Shipping.{cell_data}
use Rattle.rv_standby.proofs.shipping.cell_line.Goals as goal

pub returns : goal.returns
returns c =
    let made : List ℕ → List ℕ → Cell = λ (key body : List ℕ). record { shelf = c.args.cell.now.shelf; key = key; body = body } in
    let text = text_of (cell_data (made c.text_of.result.now c.text_of-2.result.now)) _ _ _ _ _ c.into_inner-line.ensures.items c.in_ok-write_cell.ensures.0 c.in_ok-write_cell.ensures.1 (c.new-out.ensures.before ∙ c.new.ensures.items) c.new-out.ensures.tokens in
    let own = ap₂ (λ (key body : List ℕ). compact_text (cell_data (made key body))) c.text_of.ensures c.text_of-2.ensures in
    c.in_ok-push.ensures.items ∙ ap (λ (t : List ℕ). t ++ 10 ∷ []) (text ∙ own)
