use Rattle.std.proofs.Common.{rules, ℕ, List}
use Rattle.std.specs.Ordering.{nat_cmp}
use Rattle.std.specs.Cmp.Lexicographic.{slice_cmp}
use Rattle.std.proofs.lemmas.Fn.{always_returns_same}
use Rattle.rv_base.specs.PositionLaws.{settles}
use Rattle.rv_plain.proofs.registers.place.Goals as goal

pub returns : goal.returns
returns c =
    let k = c.args.name.now in
    let facts = c.binary_search_by.ensures in
    settles (λ (n : List ℕ). n) k _ _ c.requires facts.bound (facts.position (λ (n : List ℕ). slice_cmp nat_cmp n k) (always_returns_same _ _ _ (λ a r f called. search rules)))
