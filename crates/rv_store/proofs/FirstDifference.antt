-- Where the cells of a book and loaded ones first differ: both are in order, the same cells stand in front, and then the lesser
-- of the next two is the place.
use Rattle.std.proofs.Common.{◌≡◌, ℕ, true, false, cond, List, [], ◌∷◌, ◌++◌, Option, Some, None, refl, sym, ap, ◌∙◌, subst, append_assoc, append-nil}
use Rattle.std.specs.Str.{bytes_eq}
use Rattle.std.proofs.lemmas.Option.{none-some, same_Some}
use Rattle.std.proofs.lemmas.Slice.Eq.{bytes_eq-Decides}
use Rattle.rv_base.specs.Sorted.{find_by, InOrder, Below}
use Rattle.rv_base.specs.PositionLaws.{Above, above_chain, find_above, equals}
use Rattle.rv_keeper.specs.declared.cell.Cell.{Cell}
use Rattle.rv_keeper.specs.Cells.{cell_key}
use Rattle.rv_record.specs.declared.fault.CellFault.{CellFault}
use Rattle.rv_record.specs.declared.fault.CellFault.TheVariants.{BadCell, Memory}
use Rattle.rv_record.specs.declared.fault.Damage.{Damage}
use Rattle.rv_record.specs.CellReading.{Blames, damage_at}
use Rattle.rv_store.specs.Opening.{IsFirstDifference}
use Rattle.rv_store.specs.OpeningSteps.{Differs, Departs}

-- what is at a place
abbrev at : List ℕ → List Cell → Option Cell
at place cells = find_by cell_key place cells

at_first : (x : Cell) (cells : List Cell) → at (cell_key x) (x ∷ cells) ≡ Some x
at_first x cells = rw (equals (cell_key x)) refl

-- nothing is below the first cell
none_below : (place : List ℕ) (x : Cell) (cells : List Cell) → Below place (cell_key x) → Above cell_key (cell_key x) cells → at place (x ∷ cells) ≡ None
none_below place x cells low above = find_above cell_key place (x ∷ cells) (low, above_chain cell_key place (cell_key x) cells low above)

none_above : (place : List ℕ) (x : Cell) (cells : List Cell) → Below place (cell_key x) → Above cell_key (cell_key x) cells → at place cells ≡ None
none_above place x cells low above = find_above cell_key place cells (above_chain cell_key place (cell_key x) cells low above)

-- both ways round
pub difference-sym : (own loaded : List Cell) (damage : Damage) → IsFirstDifference own loaded damage → IsFirstDifference loaded own damage
difference-sym own loaded damage d = record { differs = λ same. d.differs (sym same); first = λ place low. sym (d.first place low) }

-- a cell that the others lack, all of which are above it
pub missing_first : (x : Cell) (after others : List Cell) → InOrder cell_key (x ∷ after) → Above cell_key (cell_key x) others → IsFirstDifference (x ∷ after) others (damage_at x)
missing_first x after others order above = record {
  differs = λ same. none-some x (sym (find_above cell_key (cell_key x) others above) ∙ sym same ∙ at_first x after);
  first = λ place low. none_below place x after low order.0 ∙ sym (none_above place x others low above);
}

-- two cells at one place which are not the same
pub other_first : (x y : Cell) (xs ys : List Cell) → InOrder cell_key (x ∷ xs) → InOrder cell_key (y ∷ ys) → cell_key x ≡ cell_key y → ¬ (x ≡ y) → IsFirstDifference (x ∷ xs) (y ∷ ys) (damage_at x)
other_first x y xs ys order also same apart = record {
  differs = λ found. apart (same_Some x y (sym (at_first x xs) ∙ found ∙ ap (λ (k : List ℕ). at k (y ∷ ys)) same ∙ at_first y ys));
  first = λ place low. none_below place x xs low order.0 ∙ sym (none_below place y ys (subst (Below place) same low) also.0);
}

-- the same cell in front of both
difference_behind : (x : Cell) (own loaded : List Cell) (damage : Damage) → Above cell_key (cell_key x) own → Above cell_key (cell_key x) loaded
    → IsFirstDifference own loaded damage → IsFirstDifference (x ∷ own) (x ∷ loaded) damage
difference_behind x own loaded damage above also d = record {
  differs = elim (bytes_eq (damage.shelf ∷ damage.key) (cell_key x)) as (λ b. bytes_eq (damage.shelf ∷ damage.key) (cell_key x) ≡ b → ¬ (cond b (Some x) (at (damage.shelf ∷ damage.key) own) ≡ cond b (Some x) (at (damage.shelf ∷ damage.key) loaded))) [
    | true ↦ λ e same. d.differs (let here : damage.shelf ∷ damage.key ≡ cell_key x = (bytes_eq-Decides (damage.shelf ∷ damage.key) (cell_key x)).0 e in
        subst (λ (k : List ℕ). at k own ≡ at k loaded) (sym here) (find_above cell_key (cell_key x) own above ∙ sym (find_above cell_key (cell_key x) loaded also)))
    | false ↦ λ e same. d.differs same
  ] refl;
  first = λ place low. ap (λ (o : Option Cell). cond (bytes_eq place (cell_key x)) (Some x) o) (d.first place low);
}

-- the same cells in front of both
pub differs_behind : (front own loaded : List Cell) (fault : CellFault) → InOrder cell_key (front ++ own) → InOrder cell_key (front ++ loaded) → Differs own loaded fault → Differs (front ++ own) (front ++ loaded) fault
differs_behind [] own loaded fault order also d = d
differs_behind (x ∷ front) own loaded (BadCell damage) order also d =
    difference_behind x (front ++ own) (front ++ loaded) damage order.0 also.0 (differs_behind front own loaded (BadCell damage) order.1 also.1 d)
differs_behind (x ∷ front) own loaded Memory order also d = tt

differs_at : (own loaded : List Cell) (x : Cell) (fault : CellFault) → Blames x fault → IsFirstDifference own loaded (damage_at x) → Differs own loaded fault
differs_at own loaded x (BadCell damage) is d = subst (IsFirstDifference own loaded) (sym is) d
differs_at own loaded x Memory is d = tt

-- The next cell of a book and the loaded cells from there on: none is left; the first is above it; it is another at the same
-- place; it is below it.
pub departs_ended : (x : Cell) (fault : CellFault) → Blames x fault → Departs (x ∷ []) [] fault
departs_ended x fault is = λ more order also. differs_at (x ∷ more) [] x fault is (missing_first x more [] order tt)

pub departs_above : (x y : Cell) (ys : List Cell) (fault : CellFault) → Below (cell_key x) (cell_key y) → Blames x fault → Departs (x ∷ []) (y ∷ ys) fault
departs_above x y ys fault low is = λ more order also.
    differs_at (x ∷ more) (y ∷ ys) x fault is (missing_first x more (y ∷ ys) order (low, above_chain cell_key (cell_key x) (cell_key y) ys low also.0))

pub departs_other : (x y : Cell) (ys : List Cell) (fault : CellFault) → cell_key x ≡ cell_key y → ¬ (x ≡ y) → Blames x fault → Departs (x ∷ []) (y ∷ ys) fault
departs_other x y ys fault same apart is = λ more order also. differs_at (x ∷ more) (y ∷ ys) x fault is (other_first x y more ys order also same apart)

pub departs_below : (x y : Cell) (ys : List Cell) (fault : CellFault) → Below (cell_key y) (cell_key x) → Blames y fault → Departs (x ∷ []) (y ∷ ys) fault
departs_below x y ys fault low is = λ more order also.
    differs_at (x ∷ more) (y ∷ ys) y fault is (difference-sym (y ∷ ys) (x ∷ more) (damage_at y) (missing_first y ys (x ∷ more) also (low, above_chain cell_key (cell_key y) (cell_key x) more low order.0)))

-- a loaded cell after all those of the book
pub departs_over : (y : Cell) (ys : List Cell) (fault : CellFault) → InOrder cell_key (y ∷ ys) → Blames y fault → Differs [] (y ∷ ys) fault
departs_over y ys fault order is = differs_at [] (y ∷ ys) y fault is (difference-sym (y ∷ ys) [] (damage_at y) (missing_first y ys [] order tt))

-- Of a book's cells and of the loaded ones these are left: the same stand before both.
pub record Met (own left loaded rest : List Cell) : Type 0 where
  pub front : List Cell
  pub of_own : own ≡ front ++ left
  pub of_loaded : loaded ≡ front ++ rest

pub met_more : (own left loaded rest : List Cell) (x : Cell) (later others : List Cell) → left ≡ x ∷ later → rest ≡ x ∷ others → Met own left loaded rest → Met own later loaded others
met_more own left loaded rest x later others next same m = record {
  front = m.front ++ x ∷ [];
  of_own = m.of_own ∙ ap (λ (t : List Cell). m.front ++ t) next ∙ sym (append_assoc m.front (x ∷ []) later);
  of_loaded = m.of_loaded ∙ ap (λ (t : List Cell). m.front ++ t) same ∙ sym (append_assoc m.front (x ∷ []) others);
}

pub met_ends : (own left loaded rest : List Cell) → left ≡ [] → Met own left loaded rest → loaded ≡ own ++ rest
met_ends own left loaded rest none m = m.of_loaded ∙ ap (λ (t : List Cell). t ++ rest) (sym (append-nil m.front) ∙ ap (λ (t : List Cell). m.front ++ t) (sym none) ∙ sym m.of_own)

pub in_order_behind : (front xs : List Cell) → InOrder cell_key (front ++ xs) → InOrder cell_key xs
in_order_behind [] xs order = order
in_order_behind (f ∷ front) xs order = in_order_behind front xs order.1

-- what departs behind the same cells departs with them
pub departs_behind : (front own loaded : List Cell) (fault : CellFault) → Departs own loaded fault → Departs (front ++ own) (front ++ loaded) fault
departs_behind front own loaded fault departs = λ more order also.
    let before : InOrder cell_key (front ++ (own ++ more)) = subst (InOrder cell_key) (append_assoc front own more) order in
    subst (λ (t : List Cell). Differs t (front ++ loaded) fault) (sym (append_assoc front own more))
    (differs_behind front (own ++ more) loaded fault before also (departs more (in_order_behind front (own ++ more) before) (in_order_behind front loaded also)))

-- what departs from the first on departs whatever comes later
pub departs_longer : (own later loaded : List Cell) (fault : CellFault) → Departs own loaded fault → Departs (own ++ later) loaded fault
departs_longer own later loaded fault departs = λ more order also.
    subst (λ (t : List Cell). Differs t loaded fault) (sym (append_assoc own later more)) (departs (later ++ more) (subst (InOrder cell_key) (append_assoc own later more) order) also)

pub met_fails : (own left loaded rest : List Cell) (x : Cell) (later : List Cell) (fault : CellFault) → left ≡ x ∷ later → Departs (x ∷ []) rest fault → Met own left loaded rest → Departs own loaded fault
met_fails own left loaded rest x later fault next departs m =
    subst (λ (t : List Cell). Departs t loaded fault) (ap (λ (t : List Cell). m.front ++ t) (sym next) ∙ sym m.of_own)
    (subst (λ (t : List Cell). Departs (m.front ++ x ∷ later) t fault) (sym m.of_loaded) (departs_behind m.front (x ∷ later) rest fault (departs_longer (x ∷ []) later rest fault departs)))
