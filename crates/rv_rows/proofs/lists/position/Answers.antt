use Rattle.std.proofs.Common.{rules, ℕ, List}
use Rattle.std.specs.Ordering.{nat_cmp}
use Rattle.std.specs.Cmp.Lexicographic.{slice_cmp}
use Rattle.std.proofs.lemmas.Fn.{always_returns_same}
use Rattle.rv_base.specs.PositionLaws.{settles}
use Rattle.rv_rows.proofs.lists.position.Goals as goal

pub returns : goal.returns
returns c =
    let k = c.args.id.now in
    let facts = c.binary_search_by.ensures in
    settles (λ (i : List ℕ). i) k _ _ c.requires facts.bound (facts.position (λ (i : List ℕ). slice_cmp nat_cmp i k) (always_returns_same _ _ _ (λ a r f called. search rules)))
