use Rattle.std.proofs.Common.{◌∙◌, sym, ap, subst, ℕ, List, Bool, arith}
use Rattle.std.specs.Prelude.{not}
use Rattle.std.specs.List.{filter}
use Rattle.std.proofs.lemmas.List.{take_all}
use Rattle.rv_base.specs.Sorted.{InOrder}
use Rattle.rv_base.specs.PositionLaws.{in_order-filter}
use Rattle.rv_history.specs.History.{is_among}
use Rattle.rv_plain.proofs.history.others.Goals as goal

pub returns-clause-order : goal.returns-clause-order
returns-clause-order c =
    let first : List ℕ × ℕ → List ℕ = λ pair. pair.0 in
    let p : List ℕ × ℕ → Bool = λ pair. not (is_among c.args.those.now pair) in
    let whole = take_all c.loop-pair.pair-index c.args.clients.now (omega arith) in
    subst (InOrder first) (sym (c.loop-pair.invariant ∙ ap (filter p) whole)) (in_order-filter first p c.args.clients.now c.requires)
