-- What is answered when the cells that follow from a book are compared with the loaded ones, part after part.
use Rattle.std.specs.List.{AllByRecursion}
use Rattle.std.proofs.Common.{◌≡◌, ◌^◌, ◌<◌, List, [], ◌∷◌, ◌++◌, Result, Ok, Err, IsErrAnd, MatchResult, refl, sym, ap, ◌∙◌, subst, append-nil, arith}
use Rattle.rv_base.specs.Sorted.{InOrder}
use Rattle.rv_rows.specs.Held.{Stored}
use Rattle.rv_book.specs.Book.{Book, size}
use Rattle.rv_history.specs.Replay.{IsReplay}
use Rattle.rv_news.specs.Records.{Placed, AreRecords}
use Rattle.rv_keeper.specs.declared.cell.Cell.{Cell}
use Rattle.rv_keeper.specs.Cells.{cell_key}
use Rattle.rv_record.specs.declared.fault.CellFault.{CellFault}
use Rattle.rv_store.specs.StoreCells.{AreDerived, derived_cells, row_cells, client_cells, group_cells, view_cells}
use Rattle.rv_store.specs.StoreOrderLaws.{derived_of-are_cells}
use Rattle.rv_store.specs.OpeningSteps.{ComparesOthers, Departs, Differs}
use Rattle.rv_store.proofs.FirstDifference.{in_order_behind, differs_behind}
use Rattle.rv_store.proofs.Behind.{Low, derived-low, differs_past, differs_with, front_in_order}

-- These differ so, where both are in order.
abbrev DiffersInOrder : List Cell → List Cell → CellFault → Type 0
DiffersInOrder own loaded fault = InOrder cell_key own → InOrder cell_key loaded → Differs own loaded fault

-- the same part in front of both
behind_part : (part own loaded rest : List Cell) (fault : CellFault) → loaded ≡ part ++ rest → DiffersInOrder own rest fault → DiffersInOrder (part ++ own) loaded fault
behind_part part own loaded rest fault begins differs order also =
    let inner : InOrder cell_key (part ++ rest) = subst (InOrder cell_key) begins also in
    subst (λ (t : List Cell). Differs (part ++ own) t fault) (sym begins)
    (differs_behind part own rest fault order inner (differs (in_order_behind part own order) (in_order_behind part rest inner)))

pub records_of : (book : Book) (slice records : List Placed) → slice ≡ records → AreRecords book records → AreRecords book slice
records_of book slice records is kept = subst (AreRecords book) (sym is) kept

lower : (cells : List Cell) → AllByRecursion (λ cell. cell.shelf < 6) cells → Low cells
lower [] all = tt
lower (cell ∷ cells) all = (omega (arith, all.0), lower cells all.1)

-- The book of a state, which here has two names.
module _ (whole book : Book) (same : book ≡ whole) (rows : List Stored) (records : List Placed) (others behind : List Cell) (small : size whole < 2 ^ 32) (in_all : InOrder cell_key (others ++ behind)) (low : AllByRecursion (λ cell. cell.shelf < 6) others) (far : AllByRecursion (λ cell. 9 < cell.shelf) behind) (replay : IsReplay whole rows) (kept : AreRecords whole records) where
  derived : AreDerived whole (derived_cells book rows records)
  derived = record { rows = rows; records = records; replay = replay; kept = kept; made = ap (λ (b : Book). derived_cells b rows records) same }

  own_order : InOrder cell_key (derived_cells book rows records)
  own_order = (derived_of-are_cells whole (derived_cells book rows records) small derived).order

  order : InOrder cell_key others
  order = front_in_order others behind in_all

  fails : (fault : CellFault) (r : Result (Unit {0}) CellFault) → IsErrAnd r (λ d. d ≡ fault) → DiffersInOrder (derived_cells book rows records) others fault → ComparesOthers whole (others ++ behind) r
  fails fault (Ok done) is differs = absurd is
  fails fault (Err d) is differs = (derived_cells book rows records, derived, subst (Differs (derived_cells book rows records) (others ++ behind)) (sym is) (differs_with (derived_cells book rows records) others behind fault (derived-low book rows records) (lower others low) far (differs own_order order)))

  pub rows_fail : (fault : CellFault) (r : Result (Unit {0}) CellFault) → IsErrAnd r (λ d. d ≡ fault) → Departs (row_cells rows) others fault → ComparesOthers whole (others ++ behind) r
  rows_fail fault r is departs = fails fault r is (departs (client_cells book ++ (group_cells book ++ view_cells records)))

  module _ (after_rows : List Cell) (rows_are : others ≡ row_cells rows ++ after_rows) where
    pub clients_fail : (fault : CellFault) (r : Result (Unit {0}) CellFault) → IsErrAnd r (λ d. d ≡ fault) → Departs (client_cells book) after_rows fault → ComparesOthers whole (others ++ behind) r
    clients_fail fault r is departs = fails fault r is (behind_part (row_cells rows) _ others after_rows fault rows_are (departs (group_cells book ++ view_cells records)))

    module _ (after_clients : List Cell) (clients_are : after_rows ≡ client_cells book ++ after_clients) where
      behind_clients : (fault : CellFault) → DiffersInOrder (group_cells book ++ view_cells records) after_clients fault → DiffersInOrder (derived_cells book rows records) others fault
      behind_clients fault differs = behind_part (row_cells rows) _ others after_rows fault rows_are (behind_part (client_cells book) _ after_rows after_clients fault clients_are differs)

      pub groups_fail : (fault : CellFault) (r : Result (Unit {0}) CellFault) → IsErrAnd r (λ d. d ≡ fault) → Departs (group_cells book) after_clients fault → ComparesOthers whole (others ++ behind) r
      groups_fail fault r is departs = fails fault r is (behind_clients fault (departs (view_cells records)))

      module _ (after_groups : List Cell) (groups_are : after_clients ≡ group_cells book ++ after_groups) where
        behind_groups : (fault : CellFault) → DiffersInOrder (view_cells records) after_groups fault → DiffersInOrder (derived_cells book rows records) others fault
        behind_groups fault differs = behind_clients fault (behind_part (group_cells book) _ after_clients after_groups fault groups_are differs)

        pub records_fail : (fault : CellFault) (r : Result (Unit {0}) CellFault) → IsErrAnd r (λ d. d ≡ fault) → Departs (view_cells records) after_groups fault → ComparesOthers whole (others ++ behind) r
        records_fail fault r is departs = fails fault r is (behind_groups fault (subst (λ (t : List Cell). DiffersInOrder t after_groups fault) (append-nil (view_cells records)) (departs [])))

        module _ (left : List Cell) (records_are : after_groups ≡ view_cells records ++ left) where
          -- what was met, and what is left over
          met_all : others ≡ row_cells rows ++ (client_cells book ++ (group_cells book ++ (view_cells records ++ left)))
          met_all =
              rows_are ∙ ap (λ (t : List Cell). row_cells rows ++ t)
              (clients_are ∙ ap (λ (t : List Cell). client_cells book ++ t) (groups_are ∙ ap (λ (t : List Cell). group_cells book ++ t) records_are))

          pub left_in_order : InOrder cell_key left
          left_in_order =
              in_order_behind (view_cells records) left (in_order_behind (group_cells book) _ (in_order_behind (client_cells book) _ (in_order_behind (row_cells rows) _ (subst (InOrder cell_key) met_all order))))

          left_over : (fault : CellFault) → Differs [] left fault → DiffersInOrder (view_cells records) after_groups fault
          left_over fault differs =
              subst (λ (t : List Cell). DiffersInOrder t after_groups fault) (append-nil (view_cells records)) (behind_part (view_cells records) [] after_groups left fault records_are (λ order also. differs))

          all_met : left ≡ [] → others ≡ derived_cells book rows records
          all_met ends = met_all ∙ ap (λ (t : List Cell). row_cells rows ++ (client_cells book ++ (group_cells book ++ t))) (ap (λ (t : List Cell). view_cells records ++ t) ends ∙ append-nil (view_cells records))

          pub left_fails : (fault : CellFault) (r : Result (Unit {0}) CellFault) → IsErrAnd r (λ d. d ≡ fault) → Differs [] left fault → ComparesOthers whole (others ++ behind) r
          left_fails fault r is differs = fails fault r is (behind_groups fault (left_over fault differs))

          pub compared : left ≡ [] → (r : Result (Unit {0}) CellFault) → MatchResult r (λ _. behind ≡ []) (λ d. Differs [] behind d) → ComparesOthers whole (others ++ behind) r
          compared ends (Ok done) none = subst (AreDerived whole) (sym (ap (λ (t : List Cell). others ++ t) none ∙ append-nil others ∙ all_met ends)) derived
          compared ends (Err fault) differs = (
            derived_cells book rows records,
            derived,
            subst (λ (t : List Cell). Differs (derived_cells book rows records) (t ++ behind) fault) (sym (all_met ends)) (differs_past (derived_cells book rows records) behind fault (derived-low book rows records) far differs),
          )
