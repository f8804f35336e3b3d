-- Entries that touch a key: one of them wrote it.
use Rattle.std.proofs.Common.{◌≡◌, ℕ, ◌+◌, ◌<◌, Bool, true, false, not, ◌||◌, List, [], ◌∷◌, Option, Some, None, refl, sym, ap, ◌∙◌, subst, arith}
use Rattle.std.specs.Option.{option_map_or, IsSome}
use Rattle.std.proofs.lemmas.Option.{same_Some}
use Rattle.rv_rows.specs.declared.row.Row.{Row}
use Rattle.rv_rows.specs.Changes.{same_row}
use Rattle.rv_rows.specs.EffectLaws.{same_row-Decides}
use Rattle.rv_book.specs.declared.entry.Entry.{Entry}
use Rattle.rv_book.specs.Book.{Book, size, with_entry, with_entries}
use Rattle.rv_book.specs.BookWordLaws.{size-with_entry, up_to-before, up_to-end, with_entry-more}
use Rattle.rv_history.specs.Replay.{rows_of, Wrote}
use Rattle.rv_history.specs.History.{is_written, is_touched}
use Rattle.rv_history.specs.ReplayLaws.{At, rows_of-with_entry, wrote_more}

-- the row is there afterwards, and was not, or was another, before
abbrev row_changed : Option Row → Option Row → Bool
row_changed was is = option_map_or (λ (r : Row). option_map_or (λ (w : Row). not (same_row w r)) was true) is false

changed_differs : (was is : Option Row) → row_changed was is ≡ true → IsSome is × (is ≡ was → ⊥)
changed_differs was None e = absurd (cc)
changed_differs None (Some row) e = (refl, λ same. absurd (cc))
changed_differs (Some w) (Some row) e =
    (refl, λ same. (let u : same_row w row ≡ true = (same_row-Decides w row).1 (sym (same_Some row w same)) in let clash : false ≡ true = subst (λ (b : Bool). not b ≡ true) u e in absurd (cc)))

differs_changed : (was is : Option Row) → IsSome is → (is ≡ was → ⊥) → row_changed was is ≡ true
differs_changed was None stands differs = absurd (cc)
differs_changed None (Some row) stands differs = refl
differs_changed (Some w) (Some row) stands differs =
    elim (same_row w row) as (λ b. same_row w row ≡ b → not b ≡ true) [
      | true ↦ λ e. absurd (differs (ap (λ (r : Row). Some r) (sym ((same_row-Decides w row).0 e))))
      | false ↦ λ e. refl
    ] refl

-- the entry at the end of a book wrote a key exactly where its row is another afterwards
step_wrote : (book : Book) (e : Entry) (k : List ℕ) → is_written k (rows_of book) (rows_of (with_entry book e)) ≡ true → Wrote (with_entry book e) k (size book + 1)
step_wrote book e k h =
    let both = changed_differs (At k book) (At k (with_entry book e)) h in
    record {
      first = omega arith;
      within = omega (arith, size-with_entry book e);
      stands = subst (λ (b : Book). IsSome (At k b)) (sym (up_to-end book e)) both.0;
      differs = λ same. both.1 (ap (At k) (sym (up_to-end book e)) ∙ same ∙ ap (At k) (up_to-before book e));
    }

pub wrote_step : (book : Book) (e : Entry) (k : List ℕ) → Wrote (with_entry book e) k (size book + 1) → is_written k (rows_of book) (rows_of (with_entry book e)) ≡ true
wrote_step book e k w =
    differs_changed (At k book) (At k (with_entry book e)) (subst (λ (b : Book). IsSome (At k b)) (up_to-end book e) w.stands)
    (λ same. w.differs (ap (At k) (up_to-end book e) ∙ same ∙ ap (At k) (sym (up_to-before book e))))

-- some place after this one wrote the key
pub record IsWrittenAfter (book : Book) (key : List ℕ) (floor : ℕ) : Type 0 where
  pub place : ℕ
  pub above : floor < place
  pub wrote : Wrote book key place

-- the test of one more entry, over the rows of the book with it
pub next_touched : (front : Book) (e : Entry) (since : List Entry) (k : List ℕ) → is_touched k (rows_of front) (e ∷ since) ≡ (is_written k (rows_of front) (rows_of (with_entry front e)) || is_touched k (rows_of (with_entry front e)) since)
unfolding is_touched
next_touched front e since k = ap (λ (rows : List Row). is_written k (rows_of front) rows || is_touched k rows since) (sym (rows_of-with_entry front e))

pub none_touched : (rows : List Row) (k : List ℕ) → is_touched k rows [] ≡ false
unfolding is_touched
none_touched rows k = refl

-- a key that the entries touch was written after those before them
pub touched_after : (front : Book) (since : List Entry) (k : List ℕ) → is_touched k (rows_of front) since ≡ true → IsWrittenAfter (with_entries front since) k (size front)
touched_after front [] k h = absurd (let e : false ≡ true = sym (none_touched (rows_of front) k) ∙ h in cc)
touched_after front (e ∷ since) k h =
    let longer : Book = with_entry front e in
    let same : with_entries longer since ≡ with_entries front (e ∷ since) = with_entry-more front e since in
    elim (is_written k (rows_of front) (rows_of longer)) as (λ b. is_written k (rows_of front) (rows_of longer) ≡ b → (b || is_touched k (rows_of longer) since) ≡ true → IsWrittenAfter (with_entries front (e ∷ since)) k (size front)) [
      | true ↦ λ f g. record {
        place = size front + 1;
        above = omega arith;
        wrote = subst (λ (b : Book). Wrote b k (size front + 1)) same (wrote_more longer since k (size front + 1) (step_wrote front e k f));
      }
      | false ↦ λ f g. (let w : IsWrittenAfter (with_entries longer since) k (size longer) = touched_after longer since k g in record {
        place = w.place;
        above = omega (arith, w.above, size-with_entry front e);
        wrote = subst (λ (b : Book). Wrote b k w.place) same w.wrote;
      })
    ] refl (sym (next_touched front e since k) ∙ h)
