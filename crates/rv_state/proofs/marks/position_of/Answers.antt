use Rattle.std.proofs.Common.{rules}
use Rattle.std.specs.Ordering.{nat_cmp}
use Rattle.std.specs.Cmp.Lexicographic.{slice_cmp}
use Rattle.std.proofs.lemmas.Fn.{always_returns_same}
use Rattle.rv_base.specs.PositionLaws.{settles}
use Rattle.rv_state.specs.UserMarks.{marked_user}
use Rattle.rv_state.proofs.marks.position_of.Goals as goal

pub returns : goal.returns
returns c =
    let k = c.args.user.now in
    let facts = c.binary_search_by.ensures in
    settles marked_user k c.args.marks.now _ c.requires facts.bound (facts.position (λ y. slice_cmp nat_cmp (marked_user y) k) (always_returns_same _ _ _ (λ a r f called. search rules)))
