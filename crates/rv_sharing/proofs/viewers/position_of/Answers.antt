use Rattle.std.proofs.Common.{rules, ℕ, List}
use Rattle.std.specs.Ordering.{nat_cmp}
use Rattle.std.specs.Cmp.Lexicographic.{slice_cmp}
use Rattle.std.proofs.lemmas.Fn.{always_returns_same}
use Rattle.rv_base.specs.PositionLaws.{settles}
use Rattle.rv_sharing.proofs.TextLaws.{text_key}
use Rattle.rv_sharing.proofs.viewers.position_of.Goals as goal

pub returns : goal.returns
returns g c =
    let k = c.args.text.now in
    let facts = c.binary_search_by.ensures in
    settles text_key k c.args.texts.now _ c.requires facts.bound (facts.position (λ (y : List ℕ). slice_cmp nat_cmp y k) (always_returns_same _ _ _ (λ a r f called. search rules)))
