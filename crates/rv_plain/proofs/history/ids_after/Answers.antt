use Rattle.std.proofs.Common.{◌≡◌, ◌∙◌, ap, subst, ℕ, List}
use Rattle.std.specs.Prelude.{IfOk, not}
use Rattle.std.specs.List.{filter}
use Rattle.rv_book.specs.Book.{ids}
use Rattle.rv_history.specs.History.{is_among}
use Rattle.rv_plain.proofs.history.ids_after.Goals as goal

pub returns-clause-ids : goal.returns-clause-ids
returns-clause-ids c =
    let those = c.as_slice-2.ensures ∙ c.in_ok-those.ensures.ids ∙ ap (ids c.args.other.now) c.in_ok-before.ensures in
    let now = c.as_slice.ensures ∙ c.in_ok-now.ensures.ids in
    subst (λ (xs : List (List ℕ × ℕ)). IfOk c.others.result (λ v. v ≡ filter (λ pair. not (is_among xs pair)) (ids c.args.group.now c.args.book.now))) those
    (subst (λ (ys : List (List ℕ × ℕ)). IfOk c.others.result (λ v. v ≡ filter (λ pair. not (is_among c.as_slice-2.result.now pair)) ys)) now c.others.ensures.ids)
