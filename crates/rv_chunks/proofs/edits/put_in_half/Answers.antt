use Rattle.std.proofs.Common.{◌++◌, ◌∙◌, ap, sym, arith}
use Rattle.std.proofs.lemmas.List.Edits.{insert-append_right}
use Rattle.rv_chunks.proofs.edits.put_in_half.Goals as goal

pub returns-else-offset-half-clause-items : goal.returns-else-offset-half-clause-items
returns-else-offset-half-clause-items g c =
    let chunk = c.args.chunk.now in
    ap (λ t. chunk.items ++ t) c.put-else-offset-half.ensures.items
    ∙ sym (insert-append_right chunk.items c.args.after.now.items c.len-half.result c.args.offset c.args.item (omega (arith, chunk.ok.0)) (omega arith))
