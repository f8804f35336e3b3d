-- Laws of marks: what becomes of a mark when one more entry follows, and what is known of the entries behind it.
use Rattle.std.proofs.Common.{◌≡◌, ◌⊎◌, ℕ, ◌+◌, ◌-◌, ◌<◌, ◌≤◌, true, false, List, Option, sym, ap, ◌∙◌, subst, arith, inl, inr}
use Rattle.std.specs.Option.{option_map_or}
use Rattle.std.proofs.lemmas.Bool.{cases_lt}
use Rattle.rv_rows.specs.Sharing.{seen}
use Rattle.rv_book.specs.declared.entry.Entry.{Entry}
use Rattle.rv_book.specs.Book.{Book, empty_book, entry_at, size, up_to, with_entry}
use Rattle.rv_book.specs.BookWordLaws.{size-with_entry, up_to-with_entry, up_to-end, up_to-before, entry_at-with_entry, entry_at-end}
use Rattle.rv_history.specs.Replay.{rows_of}
use Rattle.rv_history.specs.Marks.{is_act_by, SeesSame, Concerns, IsMark}

-- nothing concerns anyone in the empty book
pub mark_none : (user : List ℕ) → IsMark user empty_book 0
mark_none user = record {
  concerns = λ above. absurd (omega (arith, above));
  least = omega arith;
  last = λ later above is. absurd (omega (arith, is.first, is.within));
}

-- A user has one mark.
mark_above : (user : List ℕ) (book : Book) (mark other : ℕ) → IsMark user book mark → IsMark user book other → mark < other → ⊥
mark_above user book mark other is also above = is.last other above (also.concerns (omega (arith, above, is.least)))

pub mark_same : (user : List ℕ) (book : Book) (mark other : ℕ) → IsMark user book mark → IsMark user book other → mark ≡ other
mark_same user book mark other is also =
    elim (cases_lt mark other) as (λ _. mark ≡ other) [
      | inl above ↦ absurd (mark_above user book mark other is also above)
      | inr le ↦ (elim (cases_lt other mark) as (λ _. mark ≡ other) [
        | inl above ↦ absurd (mark_above user book other mark also is above)
        | inr ge ↦ omega (arith, le, ge)
      ])
    ]

-- One more entry leaves what concerned the user before.
concerns_more : (user : List ℕ) (book : Book) (entry : Entry) (place : ℕ) → Concerns user book place → Concerns user (with_entry book entry) place
concerns_more user book entry place is = record {
  first = is.first;
  within = omega (arith, is.within, size-with_entry book entry);
  concerns = elim is.concerns as (λ _. (option_map_or (is_act_by user) (entry_at place (with_entry book entry)) false ≡ true) ⊎ ¬ SeesSame user (up_to place (with_entry book entry)) (up_to (place - 1) (with_entry book entry))) [
    | inl by ↦ inl (ap (λ (e : Option Entry). option_map_or (is_act_by user) e false) (entry_at-with_entry place book entry is.within) ∙ by)
    | inr other ↦ inr (λ same. other (sym (ap (λ (b : Book). seen user (rows_of b)) (up_to-with_entry place book entry is.within)) ∙ same ∙ ap (λ (b : Book). seen user (rows_of b)) (up_to-with_entry (place - 1) book entry (omega (arith, is.within)))))
  ];
}

concerns_less : (user : List ℕ) (book : Book) (entry : Entry) (place : ℕ) → Concerns user (with_entry book entry) place → place ≤ size book → Concerns user book place
concerns_less user book entry place is le = record {
  first = is.first;
  within = le;
  concerns = elim is.concerns as (λ _. (option_map_or (is_act_by user) (entry_at place book) false ≡ true) ⊎ ¬ SeesSame user (up_to place book) (up_to (place - 1) book)) [
    | inl by ↦ inl (sym (ap (λ (e : Option Entry). option_map_or (is_act_by user) e false) (entry_at-with_entry place book entry le)) ∙ by)
    | inr other ↦ inr (λ same. other (ap (λ (b : Book). seen user (rows_of b)) (up_to-with_entry place book entry le) ∙ same ∙ sym (ap (λ (b : Book). seen user (rows_of b)) (up_to-with_entry (place - 1) book entry (omega (arith, le))))))
  ];
}

-- An entry that concerns the user is the new mark; any other leaves the mark.
pub mark_raised : (user : List ℕ) (book : Book) (entry : Entry) → Concerns user (with_entry book entry) (size book + 1) → IsMark user (with_entry book entry) (size book + 1)
mark_raised user book entry is = record {
  concerns = λ _. is;
  least = omega arith;
  last = λ later above at. absurd (omega (arith, above, at.within, size-with_entry book entry));
}

pub mark_stays : (user : List ℕ) (book : Book) (entry : Entry) (mark : ℕ) → ¬ Concerns user (with_entry book entry) (size book + 1) → IsMark user book mark → IsMark user (with_entry book entry) mark
mark_stays user book entry mark not is = record {
  concerns = λ above. concerns_more user book entry mark (is.concerns above);
  least = is.least;
  last = λ later above at. elim (cases_lt (size book) later) as (λ _. ⊥) [
    | inl past ↦ (let end : later ≡ size book + 1 = omega (arith, past, at.within, size-with_entry book entry) in not (subst (λ (n : ℕ). Concerns user (with_entry book entry) n) end at))
    | inr le ↦ is.last later above (concerns_less user book entry later at le)
  ];
}

-- The last entry concerns the user: it is an act by the user, or what the user sees is another than before it.
pub own_concerns : (user : List ℕ) (book : Book) (entry : Entry) → is_act_by user entry ≡ true → Concerns user (with_entry book entry) (size book + 1)
own_concerns user book entry by = record {
  first = omega arith;
  within = omega (arith, size-with_entry book entry);
  concerns = inl (ap (λ (e : Option Entry). option_map_or (is_act_by user) e false) (entry_at-end book entry) ∙ by);
}

pub change_concerns : (user : List ℕ) (book : Book) (entry : Entry) → ¬ SeesSame user (with_entry book entry) book → Concerns user (with_entry book entry) (size book + 1)
change_concerns user book entry other = record {
  first = omega arith;
  within = omega (arith, size-with_entry book entry);
  concerns = inr (λ same. other (ap (λ (b : Book). seen user (rows_of b)) (sym (up_to-end book entry)) ∙ same ∙ ap (λ (b : Book). seen user (rows_of b)) (up_to-before book entry)));
}

-- It does not: it is no act by the user, and the user sees the same.
pub nothing_concerns : (user : List ℕ) (book : Book) (entry : Entry) → is_act_by user entry ≡ false → SeesSame user (with_entry book entry) book → ¬ Concerns user (with_entry book entry) (size book + 1)
nothing_concerns user book entry by same is =
    elim is.concerns as (λ _. ⊥) [
      | inl own ↦ (let both : false ≡ true = sym by ∙ sym (ap (λ (e : Option Entry). option_map_or (is_act_by user) e false) (entry_at-end book entry)) ∙ own in absurd (cc))
      | inr other ↦ other (ap (λ (b : Book). seen user (rows_of b)) (up_to-end book entry) ∙ same ∙ sym (ap (λ (b : Book). seen user (rows_of b)) (up_to-before book entry)))
    ]
