use Rattle.std.proofs.Common.{rules}
use Rattle.std.specs.Ordering.{nat_cmp}
use Rattle.std.specs.Cmp.Lexicographic.{slice_cmp}
use Rattle.std.proofs.lemmas.Fn.{always_returns_same}
use Rattle.rv_base.specs.PositionLaws.{settles}
use Rattle.rv_rows.specs.Keys.{row_text}
use Rattle.rv_plain.proofs.rows.place.Goals as goal

pub returns : goal.returns
returns c =
    let k = row_text c.args.row.now in
    let facts = c.binary_search_by.ensures in
    settles row_text k _ _ c.requires facts.bound (facts.position (λ y. slice_cmp nat_cmp (row_text y) k) (always_returns_same _ _ _ (λ a r f called. search rules)))
