use Rattle.std.proofs.Common.{◌∷◌, rules}
use Rattle.std.specs.Ordering.{nat_cmp}
use Rattle.std.specs.Cmp.Lexicographic.{slice_cmp}
use Rattle.std.proofs.lemmas.Fn.{always_returns_same}
use Rattle.rv_base.specs.PositionLaws.{settles}
use Rattle.rv_keeper.specs.Cells.{cell_key}
use Rattle.rv_record.proofs.page_checking.position_of.Goals as goal

pub returns : goal.returns
returns c =
    let k = 9 ∷ c.args.group.now in
    let facts = c.binary_search_by.ensures in
    settles cell_key k c.args.cells.now _ c.requires facts.bound (facts.position (λ y. slice_cmp nat_cmp (cell_key y) k) (always_returns_same _ _ _ (λ a r f called. search rules)))
