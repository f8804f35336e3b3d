-- A row more, or one in place of another, stands for the cell put.
use Rattle.std.proofs.Common.{◌≡◌, ◌≢◌, ◌⊎◌, ℤ, List, inl, inr, refl, sym, subst, ◌∙◌}
use Rattle.sqlite_value.specs.Order.{Row}
use Rattle.sqlite_rules.specs.Lists.{Has}
use Rattle.rv_keeper.specs.declared.cell.Cell.{Cell}
use Rattle.rv_base.specs.Sorted.{put_by}
use Rattle.rv_base.specs.PositionLaws.{in_order-put}
use Rattle.rv_keeper.specs.Cells.{cell_key}
use Rattle.rv_sqlite.specs.Stands.{Stands, cell_row}
use Rattle.rv_sqlite.specs.HeldLaws.{row_cell_same}
use Rattle.rv_sqlite.proofs.Members.{IsAt, put_has, has_put, put_spares}

-- the cell's row is there, and beside it the rows of other places and no other
pub record Puts (rows after : List Row) (id : ℤ) (c : Cell) : Type 0 where
  pub back : (x : Row) → Has after x → (x ≡ cell_row id c) ⊎ (Has rows x × ((j : ℤ) (d : Cell) → x ≡ cell_row j d → (j ≢ id) × (¬ IsAt (cell_key c) d)))
  pub new : Has after (cell_row id c)
  pub spares : (j : ℤ) (d : Cell) → Has rows (cell_row j d) → (¬ IsAt (cell_key c) d) → Has after (cell_row j d)

pub id_of : (i j : ℤ) (c d : Cell) → cell_row i c ≡ cell_row j d → i ≡ j
id_of i j c d e = cc

pub at_itself : (c : Cell) → IsAt (cell_key c) c
at_itself c = refl

pub puts_stand : (rows after : List Row) (cells : List Cell) (id : ℤ) (c : Cell) → Stands rows cells → Puts rows after id c → Stands after (put_by cell_key c cells)
puts_stand rows after cells id c old p = record {
  order = in_order-put cell_key c cells old.order;
  read = λ r h. elim (p.back r h) [
    | inl new ↦ (id, c, new, has_put c cells)
    | inr was ↦ let it = old.read r was.0 in (it.0, it.1, it.2, put_spares c cells it.1 it.3 (was.1 it.0 it.1 it.2).1)
  ];
  kept = λ x h. elim (put_has c cells x old.order h) [
    | inl same ↦ (id, subst (λ (y : Cell). Has after (cell_row id y)) (sym same) p.new)
    | inr was ↦ let row = old.kept x was.0 in (row.0, p.spares row.0 x row.1 was.1)
  ];
  once = λ i j d a b. elim (p.back (cell_row i d) a) [
    | inl one ↦ elim (p.back (cell_row j d) b) [
      | inl two ↦ id_of i id d c one ∙ sym (id_of j id d c two)
      | inr was ↦ absurd ((was.1 j d refl).1 (subst (IsAt (cell_key c)) (sym (row_cell_same i id d c one)) (at_itself c)))
    ]
    | inr is ↦ elim (p.back (cell_row j d) b) [
      | inl two ↦ absurd ((is.1 i d refl).1 (subst (IsAt (cell_key c)) (sym (row_cell_same j id d c two)) (at_itself c)))
      | inr was ↦ old.once i j d is.0 was.0
    ]
  ];
  numbered = λ i d e a b. elim (p.back (cell_row i d) a) [
    | inl one ↦ elim (p.back (cell_row i e) b) [
      | inl two ↦ row_cell_same i id d c one ∙ sym (row_cell_same i id e c two)
      | inr was ↦ absurd ((was.1 i e refl).0 (id_of i id d c one))
    ]
    | inr is ↦ elim (p.back (cell_row i e) b) [
      | inl two ↦ absurd ((is.1 i d refl).0 (id_of i id e c two))
      | inr was ↦ old.numbered i d e is.0 was.0
    ]
  ];
}
