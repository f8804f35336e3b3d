-- Counts of what rows count as are counts of the rows.
use Rattle.std.proofs.Common.{◌≡◌, ◌+◌, Bool, true, false, cond, List, [], ◌∷◌, map, refl, sym, ◌∙◌, count_by, not}
use Rattle.std.proofs.lemmas.List.Sums.{sum_by-cons}
use Rattle.rv_rows.specs.declared.row.Row.TheVariants as variants
use Rattle.rv_rows.specs.Held.{Stored}
use Rattle.rv_report.specs.declared.counts.Counted.{Counted}
use Rattle.rv_report.specs.declared.counts.Counted.TheVariants.{CompleteTodo, OpenTodo}
use Rattle.rv_report.specs.Counted.{counted_as, counts_list, counts_open, counts_share, counts_todo}
use Rattle.rv_report.specs.Lists.{is_list_row, is_open, is_share, is_todo}

counted_same : (p : Counted → Bool) (q : Stored → Bool) (rows : List Stored) → ((s : Stored) → p (counted_as s.0) ≡ q s) → count_by p (map (λ s. counted_as s.0) rows) ≡ count_by q rows
counted_same p q [] same = refl
counted_same p q (s ∷ rows) same =
    sum_by-cons (λ (c : Counted). cond (p c) 1 0) (counted_as s.0) (map (λ s. counted_as s.0) rows)
    ∙ (λ i. cond (same s i) 1 0 + counted_same p q rows same i)
    ∙ sym (sum_by-cons (λ (s : Stored). cond (q s) 1 0) s rows)

pub lists_counted : (rows : List Stored) → count_by counts_list (map (λ s. counted_as s.0) rows) ≡ count_by is_list_row rows
lists_counted rows = counted_same counts_list is_list_row rows each
  where
    each : (s : Stored) → counts_list (counted_as s.0) ≡ is_list_row s
    each (variants.Extent row, version) = refl
    each (variants.List row, version) = refl
    each (variants.Share row, version) = refl
    each (variants.Todo row, version) = elim row.complete as (λ b. counts_list (cond b CompleteTodo OpenTodo) ≡ false) [ true ↦ refl | false ↦ refl ]

pub todos_counted : (rows : List Stored) → count_by counts_todo (map (λ s. counted_as s.0) rows) ≡ count_by is_todo rows
todos_counted rows = counted_same counts_todo is_todo rows each
  where
    each : (s : Stored) → counts_todo (counted_as s.0) ≡ is_todo s
    each (variants.Extent row, version) = refl
    each (variants.List row, version) = refl
    each (variants.Share row, version) = refl
    each (variants.Todo row, version) = elim row.complete as (λ b. counts_todo (cond b CompleteTodo OpenTodo) ≡ true) [ true ↦ refl | false ↦ refl ]

pub open_counted : (rows : List Stored) → count_by counts_open (map (λ s. counted_as s.0) rows) ≡ count_by is_open rows
open_counted rows = counted_same counts_open is_open rows each
  where
    each : (s : Stored) → counts_open (counted_as s.0) ≡ is_open s
    each (variants.Extent row, version) = refl
    each (variants.List row, version) = refl
    each (variants.Share row, version) = refl
    each (variants.Todo row, version) = elim row.complete as (λ b. counts_open (cond b CompleteTodo OpenTodo) ≡ not b) [ true ↦ refl | false ↦ refl ]

pub shares_counted : (rows : List Stored) → count_by counts_share (map (λ s. counted_as s.0) rows) ≡ count_by is_share rows
shares_counted rows = counted_same counts_share is_share rows each
  where
    each : (s : Stored) → counts_share (counted_as s.0) ≡ is_share s
    each (variants.Extent row, version) = refl
    each (variants.List row, version) = refl
    each (variants.Share row, version) = refl
    each (variants.Todo row, version) = elim row.complete as (λ b. counts_share (cond b CompleteTodo OpenTodo) ≡ false) [ true ↦ refl | false ↦ refl ]
