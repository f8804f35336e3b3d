use Rattle.std.proofs.Common.{rules}
use Rattle.std.specs.Ordering.{nat_cmp}
use Rattle.std.specs.Cmp.Lexicographic.{slice_cmp}
use Rattle.std.proofs.lemmas.Fn.{always_returns_same}
use Rattle.rv_base.specs.PositionLaws.{settles}
use Rattle.rv_accounts.specs.File.{account_key}
use Rattle.rv_accounts.proofs.accounts.position_of.Goals as goal

pub returns : goal.returns
returns c =
    let facts = c.binary_search_by.ensures in
    settles account_key c.args.key.now c.args.accounts.now c.binary_search_by.result c.requires facts.bound (facts.position (λ account. slice_cmp nat_cmp (account_key account) c.args.key.now) (always_returns_same _ _ _ (λ a r f called. search rules)))
