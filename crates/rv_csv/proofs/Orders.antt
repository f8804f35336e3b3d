-- A row after rows in order.
use Rattle.std.proofs.Common.{◌≡◌, ℕ, Bool, true, false, List, [], ◌∷◌, ◌++◌, length, refl, sym, ap, ◌∙◌, subst, arith}
use Rattle.std.specs.List.{AllByRecursion}
use Rattle.std.specs.Prelude.{IsTrue}
use Rattle.std.specs.declared.cmp.Ordering.{Ordering}
use Rattle.std.specs.declared.cmp.Ordering.TheVariants.{Less, Equal, Greater}
use Rattle.std.specs.Ordering.{nat_cmp, is_lt}
use Rattle.std.specs.Cmp.Lexicographic.{slice_cmp}
use Rattle.std.proofs.lemmas.Bool.{false≢true}
use Rattle.rv_base.specs.Sorted.{InOrder, Below}
use Rattle.rv_base.specs.PositionLaws.{above_chain}
use Rattle.rv_rows.specs.declared.row.Row.{Row}
use Rattle.rv_rows.specs.Keys.{row_text}
use Rattle.rv_csv.specs.Records.{Record}
use Rattle.rv_csv.specs.Views.{IsRow, IsView, row_record, CantFollow}
use Rattle.rv_csv.proofs.RowTextLaws.{same_row}

all_push : {X : Type 0} (P : X → Type 0) (xs : List X) (y : X) → AllByRecursion P xs → P y → AllByRecursion P (xs ++ y ∷ [])
all_push P [] y h p = (p, tt)
all_push P (x ∷ xs) y h p = (h.0, all_push P xs y h.1 p)

all_last : {X : Type 0} (P : X → Type 0) (xs : List X) (y : X) → AllByRecursion P (xs ++ y ∷ []) → P y
all_last P [] y h = h.0
all_last P (x ∷ xs) y h = all_last P xs y h.1

module _ {X : Type 0} (key : X → List ℕ) where
  order_push : (xs : List X) (last y : X) → InOrder key (xs ++ last ∷ []) → Below (key last) (key y) → InOrder key ((xs ++ last ∷ []) ++ y ∷ [])
  order_push [] last y h low = ((low, tt), (tt, tt))
  order_push (x ∷ xs) last y h low =
      let first : Below (key x) (key last) = all_last (λ z. Below (key x) (key z)) xs last h.0 in
      let above = above_chain key (key x) (key last) (y ∷ []) first (low, tt) in
      (all_push (λ z. Below (key x) (key z)) (xs ++ last ∷ []) y h.0 above.0, order_push xs last y h.1 low)

  order_above : (xs : List X) (last y : X) → InOrder key ((xs ++ last ∷ []) ++ y ∷ []) → Below (key last) (key y)
  order_above [] last y h = h.0.0
  order_above (x ∷ xs) last y h = order_above xs last y h.1

-- where the rows end with this one
pub may_push : (rows before : List Row) (last row : Row) → rows ≡ before ++ last ∷ [] → IsView rows → IsRow row → Below (row_text last) (row_text row) → IsView (rows ++ row ∷ [])
may_push rows before last row is view own low =
    (all_push IsRow rows row view.0 own, subst (λ (l : List Row). InOrder row_text (l ++ row ∷ [])) (sym is) (order_push row_text before last row (subst (InOrder row_text) is view.1) low))

pub is_above : (rows before : List Row) (last row : Row) → rows ≡ before ++ last ∷ [] → IsView (rows ++ row ∷ []) → Below (row_text last) (row_text row)
is_above rows before last row is view = order_above row_text before last row (subst (λ (l : List Row). InOrder row_text (l ++ row ∷ [])) is view.1)

pub push_first : (rows : List Row) (row : Row) → length rows ≡ 0 → IsRow row → IsView (rows ++ row ∷ [])
push_first [] row none own = ((own, tt), (tt, tt))
push_first (r ∷ rows) row none own = absurd (omega (arith, none))

lower : (o : Ordering) → is_lt o ≡ true → o ≡ Less
lower Less e = refl
lower Equal e = absurd (false≢true e)
lower Greater e = absurd (false≢true e)

-- whether a row may follow rows that end with this one
pub follows : (rows before : List Row) (last row : Row) (test : Bool) → rows ≡ before ++ last ∷ [] → test ≡ is_lt (slice_cmp nat_cmp (row_text last) (row_text row)) → IsView rows → IsRow row → (IsTrue test → IsView (rows ++ row ∷ [])) × (IsView (rows ++ row ∷ []) → IsTrue test)
follows rows before last row test is tests view own = (
  (λ e. may_push rows before last row is view own (lower _ (sym tests ∙ e))),
  (λ both. tests ∙ ap is_lt (is_above rows before last row is both)),
)

-- the row of a record that may not follow is the only one that the record could be of
pub cant_follow : (rows : List Row) (made : Row) (fields : Record) (test : Bool) → IsView rows → IsRow made → fields ≡ row_record made → test ≡ false
    → (IsView rows → IsRow made → (IsTrue test → IsView (rows ++ made ∷ [])) × (IsView (rows ++ made ∷ []) → IsTrue test)) → CantFollow rows fields
cant_follow rows made fields test view own is fails tests row both same =
    let one = same_row row made (all_last IsRow rows row both.0) own (sym same ∙ is) in
    false≢true (sym fails ∙ (tests view own).1 (subst (λ (r : Row). IsView (rows ++ r ∷ [])) one both))
