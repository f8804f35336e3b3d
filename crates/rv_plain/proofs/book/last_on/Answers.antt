use Rattle.std.proofs.Common.{◌≤◌, ◌∙◌, sym, ap, arith}
use Rattle.std.specs.Option.{option_map}
use Rattle.rv_history.specs.ReplayLaws.{all_found}
use Rattle.rv_plain.proofs.book.last_on.Goals as goal

pub returns-in-Some-clause-bound : goal.returns-in-Some-clause-bound
returns-in-Some-clause-bound c =
    let found = sym c.page_client.ensures ∙ ap (option_map (λ t. t.now)) c.in-Some.is in
    let below = all_found (λ t. t.0) (λ t. t.2 ≤ c.args.page.now.at) c.args.client.now c.args.page.now.clients c.in-Some.told.now c.requires found in
    omega (arith, below.0, c.get.ensures.value)
