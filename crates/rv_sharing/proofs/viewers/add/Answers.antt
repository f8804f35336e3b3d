use Rattle.std.proofs.Common.{ℕ, List, ap, ◌∙◌}
use Rattle.std.specs.List.{insert}
use Rattle.rv_sharing.proofs.TextLaws.{kept, added}
use Rattle.rv_sharing.proofs.viewers.add.Goals as goal

pub returns-in-Ok : goal.returns-in-Ok
returns-in-Ok g c = kept _ _ _ _ c.deref.ensures.value c.requires c.in-Ok.ensures

pub returns-in_ok-insert-in-Err : goal.returns-in_ok-insert-in-Err
returns-in_ok-insert-in-Err g c =
    let put = c.in_ok-insert-in-Err.ensures.items ∙ ap (λ (text : List ℕ). insert c.args.texts.now.items c.in-Err.at text) c.in_ok-copy-in-Err.ensures in
    added _ _ _ _ _ c.deref.ensures.value c.requires c.in-Err.ensures put
