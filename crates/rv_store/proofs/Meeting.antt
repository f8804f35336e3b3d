-- The next cell of a book and the first of the loaded ones, by how their places and their bodies compare.
use Rattle.std.proofs.Common.{◌≡◌, ℕ, true, false, List, [], ◌∷◌, length, slice_get, Some, sym, ap, ◌∙◌, subst, arith}
use Rattle.std.specs.declared.cmp.Ordering.{Ordering}
use Rattle.std.specs.declared.cmp.Ordering.TheVariants.{Less, Equal, Greater}
use Rattle.std.specs.Ordering.{nat_cmp}
use Rattle.std.specs.Cmp.Lexicographic.{slice_cmp}
use Rattle.std.specs.Str.{bytes_eq}
use Rattle.std.proofs.lemmas.Slice.Eq.{bytes_eq-Decides}
use Rattle.rv_base.specs.Sorted.{InOrder}
use Rattle.rv_base.specs.PositionLaws.{below_is, same_from}
use Rattle.rv_keeper.specs.declared.cell.Cell.{Cell}
use Rattle.rv_keeper.specs.Cells.{cell_key}
use Rattle.rv_record.specs.declared.fault.CellFault.{CellFault}
use Rattle.rv_record.specs.CellReading.{Blames}
use Rattle.rv_store.specs.OpeningSteps.{Departs, Differs}
use Rattle.rv_store.proofs.FirstDifference.{departs_ended, departs_above, departs_other, departs_below, departs_over}

-- how the first loaded cell compares with the book's next one
abbrev compared : Cell → Cell → Ordering
compared first own = slice_cmp nat_cmp (cell_key first) (cell_key own)

pub meets_none : (own : Cell) (loaded : List Cell) (fault : CellFault) → length loaded ≡ 0 → Blames own fault → Departs (own ∷ []) loaded fault
meets_none own [] fault none is = departs_ended own fault is
meets_none own (first ∷ rest) fault none is = absurd (omega arith)

pub meets_less : (own first : Cell) (loaded rest : List Cell) (fault : CellFault) → loaded ≡ first ∷ rest → Less ≡ compared first own → Blames first fault → Departs (own ∷ []) loaded fault
meets_less own first loaded rest fault begins less is = rw begins (departs_below own first rest fault (sym less) is)

pub meets_greater : (own first : Cell) (loaded rest : List Cell) (fault : CellFault) → loaded ≡ first ∷ rest → Greater ≡ compared first own → Blames own fault → Departs (own ∷ []) loaded fault
meets_greater own first loaded rest fault begins greater is = rw begins (departs_above own first rest fault (below_is (cell_key first) (cell_key own) (sym greater)) is)

same_places : (own first : Cell) → Equal ≡ compared first own → cell_key first ≡ cell_key own
same_places own first equal = same_from (cell_key first) (cell_key own) (sym equal)

-- one place and one body
pub meets_same : (own first : Cell) (loaded rest : List Cell) (bodies others : List ℕ) → loaded ≡ first ∷ rest → Equal ≡ compared first own → bodies ≡ first.body → others ≡ own.body → bytes_eq bodies others ≡ true → loaded ≡ own ∷ rest
meets_same own first loaded rest bodies others begins equal here there same =
    let places : first.shelf ∷ first.key ≡ own.shelf ∷ own.key = same_places own first equal in
    let shelves : first.shelf ≡ own.shelf = cc in
    let keys : first.key ≡ own.key = cc in
    let texts : first.body ≡ own.body = sym here ∙ (bytes_eq-Decides bodies others).0 same ∙ there in
    begins ∙ (λ i. record { shelf = shelves i; key = keys i; body = texts i } ∷ rest)

-- one place and two bodies
pub meets_other : (own first : Cell) (loaded rest : List Cell) (bodies others : List ℕ) (fault : CellFault) → loaded ≡ first ∷ rest → Equal ≡ compared first own → bodies ≡ first.body → others ≡ own.body → bytes_eq bodies others ≡ false → Blames own fault
    → Departs (own ∷ []) loaded fault
meets_other own first loaded rest bodies others fault begins equal here there apart is =
    rw begins (departs_other own first rest fault (sym (same_places own first equal)) (λ same. differ same) is)
  where
    differ : own ≡ first → ⊥
    differ same =
        let texts : bodies ≡ others = here ∙ sym (ap (λ (c : Cell). c.body) same) ∙ sym there in
        let is_same : bytes_eq bodies others ≡ true = (bytes_eq-Decides bodies others).1 texts in
        let both : true ≡ false = sym is_same ∙ apart in
        cc

-- a loaded cell that no cell of the book is left for
pub left_over : (first : Cell) (rest : List Cell) (fault : CellFault) → Some first ≡ slice_get rest 0 → InOrder cell_key rest → Blames first fault → Differs [] rest fault
left_over first [] fault got order at = absurd (cc)
left_over first (y ∷ ys) fault got order at = let same : first ≡ y = cc in departs_over y ys fault order (subst (λ (c : Cell). Blames c fault) same at)
