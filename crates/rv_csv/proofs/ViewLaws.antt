-- Where the records of bytes stop being those of a view.
use Rattle.std.proofs.Common.{◌≡◌, ℕ, ◌<◌, Bool, true, false, suc, List, [], ◌∷◌, ◌++◌, length, map, Some, Result, Ok, Err, refl, sym, ap, ◌∙◌, subst, arith, append_assoc, length-append, append-nil, inl, inr}
use Rattle.std.specs.Prelude.{◌⊎◌}
use Rattle.std.proofs.lemmas.Bool.{cases_order, false≢true}
use Rattle.std.proofs.lemmas.List.{length-map, map-append}
use Rattle.rv_rows.specs.declared.row.Row.{Row}
use Rattle.rv_rows.specs.Keys.{row_text}
use Rattle.rv_csv.specs.declared.view_fault.ViewFault.{ViewFault}
use Rattle.rv_csv.specs.declared.view_fault.ViewFault.TheVariants.{BadRecord, Memory}
use Rattle.rv_csv.specs.Records.{Record, records_of}
use Rattle.rv_csv.specs.Views.{IsRow, IsView, header, row_record, view_records, view_text, CantFollow, HasNoHeader, IsBadAfter, IsBadAt, ReadsView, GivesRows, BlamesRecord}
use Rattle.rv_csv.specs.Left.{HasHeader, NextRow}
use Rattle.rv_csv.proofs.Fronts.{all_front, goes_on, order_front, same_map, same_rest}
use Rattle.rv_csv.proofs.RowTextLaws.{same_row}
use Rattle.rv_csv.proofs.Again.{view_again}

view_front : (rows : List Row) (row : Row) (more : List Row) → IsView (rows ++ row ∷ more) → IsView (rows ++ row ∷ [])
view_front rows row more is = (all_front IsRow rows row more is.0, order_front row_text rows row more is.1)

-- a record that can't follow these rows is none of a view that begins with them
not_within : (rows : List Row) (bad : Record) (rest : List Record) (all : List Row) (tail : List Record) → IsView rows → CantFollow rows bad → IsView all → length rows < length all
    → map row_record rows ++ bad ∷ rest ≡ map row_record all ++ tail → ⊥
not_within rows bad rest all tail is first also less e =
    let on = goes_on row_record IsRow same_row rows all bad rest tail is.0 also.0 less e in
    first on.0 (view_front rows on.0 on.1 (subst IsView on.2 also)) on.3

pub not_bad : (records : List Record) (rows : List Row) (n : ℕ) → IsView rows → records ≡ view_records rows → IsBadAt n records → ⊥
not_bad records rows n is e (inl bad) = bad.1 (map row_record rows) e
not_bad records rows n is e (inr bad) =
    let tails : map row_record bad.rows ++ bad.bad ∷ bad.rest ≡ map row_record rows ++ [] = same_rest _ _ _ _ (sym bad.whole ∙ e) ∙ sym (append-nil (map row_record rows)) in
    let sizes = ap length tails in
    let less : length bad.rows < length rows =
    omega (arith, sizes, length-append (map row_record bad.rows) (bad.bad ∷ bad.rest), length-append (map row_record rows) [], length-map bad.rows row_record, length-map rows row_record) in
    not_within bad.rows bad.bad bad.rest rows [] bad.before bad.first is less tails

later : (records : List Record) (n m : ℕ) (a : IsBadAfter n records) (b : IsBadAfter m records) → length a.rows < length b.rows → ⊥
later records n m a b less = not_within a.rows a.bad a.rest b.rows (b.bad ∷ b.rest) a.before a.first b.before less (same_rest _ _ _ _ (sym a.whole ∙ b.whole))

pub same_bad : (records : List Record) (n m : ℕ) → IsBadAt n records → IsBadAt m records → n ≡ m
same_bad records n m (inl a) (inl b) = a.0 ∙ sym b.0
same_bad records n m (inl a) (inr b) = absurd (a.1 _ b.whole)
same_bad records n m (inr a) (inl b) = absurd (b.1 _ a.whole)
same_bad records n m (inr a) (inr b) = by (cases_order (length a.rows) (length b.rows))
  where
    by : (length a.rows ≡ length b.rows) ⊎ ((length a.rows < length b.rows) ⊎ (length b.rows < length a.rows)) → n ≡ m
    by (inl same) = a.number ∙ ap (λ (k : ℕ). suc k) same ∙ sym b.number
    by (inr (inl less)) = absurd (later records n m a b less)
    by (inr (inr more)) = absurd (later records m n b a more)

-- what the clauses of reading say follows from what is answered
pub gives_rows : (bytes : List ℕ) (result : Result (List Row) ViewFault) → ReadsView bytes result → (rows : List Row) → IsView rows → records_of bytes ≡ view_records rows → GivesRows rows result
gives_rows bytes (Ok given) reads rows is e = same_map row_record IsRow same_row given rows reads.0.0 is.0 (same_rest _ _ _ _ (sym reads.1 ∙ e))
gives_rows bytes (Err (BadRecord n)) reads rows is e = not_bad (records_of bytes) rows n is e reads
gives_rows bytes (Err Memory) reads rows is e = tt

pub gives_again : (bytes : List ℕ) (result : Result (List Row) ViewFault) → ReadsView bytes result → (rows : List Row) → IsView rows → bytes ≡ view_text rows → GivesRows rows result
gives_again bytes result reads rows is e = gives_rows bytes result reads rows is (ap records_of e ∙ view_again rows)

pub blames : (bytes : List ℕ) (result : Result (List Row) ViewFault) → ReadsView bytes result → (n : ℕ) → IsBadAt n (records_of bytes) → BlamesRecord n result
blames bytes (Ok given) reads n bad = not_bad (records_of bytes) given n reads.0 reads.1 bad
blames bytes (Err (BadRecord m)) reads n bad = same_bad (records_of bytes) m n reads bad
blames bytes (Err Memory) reads n bad = tt

-- the steps of reading: a row that may follow, one that can't, and the end
pub one_more : (records rest : List Record) (rows : List Row) (row : Row) (fields : Record) (left : List Record) → records ≡ view_records rows ++ left → left ≡ fields ∷ rest → fields ≡ row_record row → records ≡ view_records (rows ++ row ∷ []) ++ rest
one_more records rest rows row fields left e next is =
    e ∙ ap (λ (t : List Record). view_records rows ++ t) (next ∙ ap (λ (f : Record). f ∷ rest) is)
    ∙ ap (λ (t : List Record). header ∷ t) (sym (append_assoc (map row_record rows) (row_record row ∷ []) rest) ∙ ap (λ (t : List Record). t ++ rest) (sym (map-append row_record rows (row ∷ []))))

pub bad_here : (records rest : List Record) (rows : List Row) (fields : Record) (left : List Record) (n : ℕ) → IsView rows → records ≡ view_records rows ++ left → left ≡ fields ∷ rest → CantFollow rows fields → n ≡ suc (length rows) → IsBadAt n records
bad_here records rest rows fields left n is e next first number =
    inr (record { rows = rows; bad = fields; rest = rest; number = number; before = is; whole = e ∙ ap (λ (t : List Record). view_records rows ++ t) next; first = first })

pub at_end : (records : List Record) (rows : List Row) (left : List Record) → records ≡ view_records rows ++ left → left ≡ [] → records ≡ view_records rows
at_end records rows left e none = e ∙ ap (λ (t : List Record). view_records rows ++ t) none ∙ append-nil (view_records rows)

pub header_found : (found : Bool) (old new records : List Record) → found ≡ true → HasHeader found old new → old ≡ records → records ≡ view_records [] ++ new
header_found true old new records e has is = sym is ∙ has
header_found false old new records e has is = absurd (false≢true e)

pub header_missing : (found : Bool) (old new records : List Record) → found ≡ false → HasHeader found old new → old ≡ records → IsBadAt 0 records
header_missing true old new records e has is = absurd (false≢true (sym e))
header_missing false old new records e has is = inl (refl, subst HasNoHeader is has)

pub row_next : (records old new : List Record) (rows : List Row) (row : Row) → NextRow rows old new (Ok (Some row)) → records ≡ view_records rows ++ old → records ≡ view_records (rows ++ row ∷ []) ++ new
row_next records old new rows row next whole = one_more records new rows row (row_record row) old whole next.1 refl

pub bad_next : (bytes : List ℕ) (old new : List Record) (rows : List Row) (fault : ViewFault) → IsView rows → NextRow rows old new (Err fault) → records_of bytes ≡ view_records rows ++ old → ReadsView bytes (Err fault)
bad_next bytes old new rows (BadRecord n) is next whole = bad_here (records_of bytes) new rows next.1 old n is whole next.2 next.3 next.0
bad_next bytes old new rows Memory is next whole = tt
