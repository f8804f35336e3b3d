-- When a cell is that of nothing. `found` is what a reader takes a cell for before it makes that thing's cell anew.
use Rattle.std.proofs.Common.{◌≡◌, Bool, true, false, Option, Some, None, Err, sym, ap, ◌∙◌}
use Rattle.std.specs.Bool.{Decides}
use Rattle.std.proofs.lemmas.Bool.Decides.{Decides-eqb, Decides-and}
use Rattle.std.proofs.lemmas.Option.{none-some, same_Some}
use Rattle.std.proofs.lemmas.Slice.Eq.{bytes_eq-Decides}
use Rattle.rv_keeper.specs.declared.cell.Cell.{Cell}
use Rattle.rv_record.specs.declared.fault.CellFault.{CellFault}
use Rattle.rv_record.specs.declared.fault.CellFault.TheVariants.{BadCell, Memory}
use Rattle.rv_record.specs.CellReading.{Blames, IsOfNone, ReadsCell, same_cell}

cells_are : (a b : Cell) → ((a.shelf ≡ b.shelf) × (a.key ≡ b.key)) × (a.body ≡ b.body) → a ≡ b
cells_are a b is = λ i. record { shelf = is.0.0 i; key = is.0.1 i; body = is.1 i }

pub same_cell-Decides : (a b : Cell) → Decides (same_cell a b) (a ≡ b)
same_cell-Decides a b =
    let parts = Decides-and _ _ (Decides-and _ _ (Decides-eqb a.shelf b.shelf) (bytes_eq-Decides a.key b.key)) (bytes_eq-Decides a.body b.body) in
    (λ e. cells_are a b (parts.0 e), λ e. parts.1 ((ap (λ (c : Cell). c.shelf) e, ap (λ (c : Cell). c.key) e), ap (λ (c : Cell). c.body) e))

-- a cell that another, made anew, is not the same as
differs : (cell remade : Cell) (r : Bool) → r ≡ same_cell cell remade → r ≡ false → ¬ (cell ≡ remade)
differs cell remade r tests unlike is = let yes : true ≡ false = sym ((same_cell-Decides cell remade).1 is) ∙ sym tests ∙ unlike in absurd (cc)

module _ {A : Type 0} (cell_of : A → Cell) (Fits : A → Type 0) where
  pub blamed : (cell : Cell) (fault : CellFault) → Blames cell fault → IsOfNone cell_of Fits cell → ReadsCell cell_of Fits cell (Err fault)
  blamed cell (BadCell damage) is none = (is, none)
  blamed cell Memory is none = tt

  -- what was found has another cell
  pub blamed_other : (cell remade : Cell) (made : A) (r : Bool) (fault : CellFault) → ((one : A) → Fits one → cell ≡ cell_of one → Some made ≡ Some one) → remade ≡ cell_of made → r ≡ same_cell cell remade → r ≡ false → Blames cell fault
      → ReadsCell cell_of Fits cell (Err fault)
  blamed_other cell remade made r fault only remade_is tests unlike blames =
      blamed cell fault blames (λ one fits is. differs cell remade r tests unlike (is ∙ ap cell_of (sym (same_Some made one (only one fits is))) ∙ sym remade_is))

  module _ (found : Cell → Option A) (again : (made : A) → Fits made → found (cell_of made) ≡ Some made) where
    is_found : (cell : Cell) (o : Option A) → o ≡ found cell → (one : A) → Fits one → cell ≡ cell_of one → o ≡ Some one
    is_found cell o e one fits is = e ∙ ap found is ∙ again one fits

    pub not_found : (cell : Cell) (o : Option A) (fault : CellFault) → o ≡ None → o ≡ found cell → Blames cell fault → ReadsCell cell_of Fits cell (Err fault)
    not_found cell o fault none e blames = blamed cell fault blames (λ one fits is. none-some one (sym none ∙ is_found cell o e one fits is))

    pub other_found : (cell remade : Cell) (o : Option A) (made : A) (r : Bool) (fault : CellFault) → o ≡ Some made → o ≡ found cell → remade ≡ cell_of made → r ≡ same_cell cell remade → r ≡ false → Blames cell fault
        → ReadsCell cell_of Fits cell (Err fault)
    other_found cell remade o made r fault some e = blamed_other cell remade made r fault (λ one fits is. sym some ∙ is_found cell o e one fits is)
