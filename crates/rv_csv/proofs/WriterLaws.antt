-- What a writer of CSV has written after a record, after each row, and at the end.
use Rattle.std.proofs.Common.{◌≡◌, ◌≢◌, ℕ, ◌+◌, ◌<◌, ◌≤◌, false, List, [], ◌∷◌, ◌++◌, length, get_or, drop, map, Option, Some, None, sym, ap, ap₂, ◌∙◌, subst, append_assoc, append-nil}
use Rattle.std.specs.Borrow.{Bor}
use Rattle.std.specs.List.{AllByRecursion}
use Rattle.std.specs.Io.KnownBytes.{Appends, Keeps, append_known}
use Rattle.std.proofs.lemmas.List.{drop_all, drop_more}
use Rattle.std.proofs.lemmas.Option.{none-some, same_Some}
use Rattle.csv.specs.Writing.{default_writer, fields_written, has_written, row_text, text_written, writer_pending, writer_setup, writer_under}
use Rattle.csv.specs.declared.writer.QuoteStyle.TheVariants as style
use Rattle.csv.specs.declared.writer.Writer.{Writer}
use Rattle.csv.specs.declared.writer.WriterBuilder.{WriterBuilder}
use Rattle.rv_rows.specs.declared.row.Row.{Row}
use Rattle.rv_csv.specs.Records.{Record, csv_text}
use Rattle.rv_csv.specs.Views.{row_record, IsRow}
use Rattle.rv_csv.specs.Writing.{HasWritten}

pub plain : (w : WriterBuilder) → w ≡ default_writer → w.style ≢ style.NonNumeric
plain w e = rw e (λ h. cc h)

added : (a b : Option (List ℕ)) (text more : List ℕ) → a ≡ Some text → Appends a b more → b ≡ Some (text ++ more)
added None b text more e h = absurd (none-some text e)
added (Some x) None text more e h = absurd h
added (Some x) (Some y) text more e h = ap (λ (t : List ℕ). Some t) (h ∙ ap (λ (t : List ℕ). t ++ more) (same_Some x text e))

pub kept : (a : Option (List ℕ)) (text items : List ℕ) → a ≡ Some text → Keeps a (Some items) → items ≡ text
kept None text items e h = absurd (none-some text e)
kept (Some x) text items e h = h ∙ same_Some x text e

module _ {A : Type 0} (contents : A → List ℕ) where
  abbrev told : Writer A → Option (List ℕ)
  told w = text_written (λ v. Some (contents v)) w

  pub added_record : (old new : Writer A) (text : List ℕ) (fields : Record) → HasWritten contents old text → Appends (told old) (told new) (row_text (writer_setup old) fields)
      → fields_written new ≡ 0 → has_written new ≡ false → writer_setup new ≡ writer_setup old → HasWritten contents new (text ++ row_text default_writer fields)
  added_record old new text fields has appends none clean setup = record {
    setup = setup ∙ has.setup;
    fields = none;
    wrote = clean;
    holds = added (told old) (told new) text _ has.holds (subst (λ (w : WriterBuilder). Appends (told old) (told new) (row_text w fields)) has.setup appends);
  }

  -- a writer that has written nothing yet
  pub fresh_writer : (w : Writer A) → writer_setup w ≡ default_writer → fields_written w ≡ 0 → has_written w ≡ false → contents (writer_under w) ≡ [] → writer_pending w ≡ [] → HasWritten contents w []
  fresh_writer w setup none clean under pending = record {
    setup = setup;
    fields = none;
    wrote = clean;
    holds = ap₂ (λ (a b : List ℕ). append_known (Some a) b) under pending;
  }

-- the text of rows that references point to
abbrev pub rows_csv : List (Bor Row × ℕ) → List ℕ
rows_csv rows = csv_text (map row_record (map (λ pair. pair.0.now) rows))

pub one_row : (rows : List (Bor Row × ℕ)) (i : ℕ) (pair : Bor Row × ℕ) (text whole : List ℕ) → i < length rows → pair ≡ get_or rows i pair → text ++ rows_csv (drop i rows) ≡ whole
    → (text ++ row_text default_writer (row_record pair.0.now)) ++ rows_csv (drop (i + 1) rows) ≡ whole
one_row rows i pair text whole less is so_far =
    let next : drop i rows ≡ pair ∷ drop (i + 1) rows = drop_more rows i pair less ∙ ap (λ (y : Bor Row × ℕ). y ∷ drop (i + 1) rows) (sym is) in
    append_assoc text _ _ ∙ ap (λ (left : List (Bor Row × ℕ)). text ++ rows_csv left) (sym next) ∙ so_far

pub last_row : (rows : List (Bor Row × ℕ)) (i : ℕ) (text whole : List ℕ) → length rows ≤ i → text ++ rows_csv (drop i rows) ≡ whole → text ≡ whole
last_row rows i text whole end so_far = sym (append-nil text) ∙ ap (λ (left : List (Bor Row × ℕ)). text ++ rows_csv left) (sym (drop_all i rows end)) ∙ so_far

-- where a row is one, and those after it
pub row_checked : (rows : List (Bor Row × ℕ)) (i : ℕ) (pair : Bor Row × ℕ) → i < length rows → pair ≡ get_or rows i pair → IsRow pair.0.now → AllByRecursion IsRow (map (λ pair. pair.0.now) (drop (i + 1) rows))
    → AllByRecursion IsRow (map (λ pair. pair.0.now) (drop i rows))
row_checked rows i pair less is own later =
    let next : drop i rows ≡ pair ∷ drop (i + 1) rows = drop_more rows i pair less ∙ ap (λ (y : Bor Row × ℕ). y ∷ drop (i + 1) rows) (sym is) in
    subst (λ (left : List (Bor Row × ℕ)). AllByRecursion IsRow (map (λ pair. pair.0.now) left)) (sym next) (own, later)

pub rows_checked : (rows : List (Bor Row × ℕ)) (i : ℕ) → length rows ≤ i → AllByRecursion IsRow (map (λ pair. pair.0.now) (drop i rows))
rows_checked rows i end = subst (λ (left : List (Bor Row × ℕ)). AllByRecursion IsRow (map (λ pair. pair.0.now) left)) (sym (drop_all i rows end)) tt
