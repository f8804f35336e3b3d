-- What is known of the entries since a user's mark: the user sees the same, each row with the same version, and no client of the user's
-- groups has acted.
use Rattle.std.proofs.Common.{◌≡◌, ℕ, zero, suc, ◌+◌, ◌-◌, ◌<◌, ◌≤◌, ◌&&◌, Bool, true, false, List, [], ◌∷◌, Option, Some, refl, sym, ap, ◌∙◌, subst, arith, ◌⊎◌, inl, inr}
use Rattle.std.specs.Option.{option_map_or}
use Rattle.std.specs.Str.{bytes_eq}
use Rattle.std.proofs.lemmas.Bool.{cases_lt}
use Rattle.std.proofs.lemmas.Slice.Eq.{bytes_eq-Decides}
use Rattle.std.proofs.lemmas.Option.{same_Some}
use Rattle.rv_rows.specs.declared.row.Row.{Row}
use Rattle.rv_rows.specs.declared.call.Call.{Call}
use Rattle.rv_rows.specs.Changes.{same_row}
use Rattle.rv_rows.specs.EffectLaws.{same_row-Decides}
use Rattle.rv_rows.specs.Keys.{row_at}
use Rattle.rv_rows.specs.Sharing.{seen}
use Rattle.rv_sharing.specs.SeenLaws.{seen-found}
use Rattle.rv_book.specs.declared.entry.Entry.{Entry}
use Rattle.rv_book.specs.declared.entry.Entry.TheVariants.{Act}
use Rattle.rv_book.specs.Book.{Book, bound, entry_at, since, size, up_to, with_entries}
use Rattle.rv_book.specs.BookWordLaws.{entry_at-within, since-entry, size-up_to, up_to-all, up_to-since}
use Rattle.rv_history.specs.Lawful.{IsLawful}
use Rattle.rv_history.specs.GroupLaws.{owner_is}
use Rattle.rv_history.specs.Marks.{Concerns, IsMark, SeesSame, is_act_by}
use Rattle.rv_history.specs.Replay.{rows_of, IsLastWrite, IsPageVersion, Wrote}
use Rattle.rv_history.specs.ReplayLaws.{distinct-rows_of, wrote_less, wrote_more}

-- lists of rows that are not other than one another are the same
abbrev same_rows : List Row → List Row → Bool
same_rows [] [] = true
same_rows [] (y ∷ ys) = false
same_rows (x ∷ xs) [] = false
same_rows (x ∷ xs) (y ∷ ys) = same_row x y && same_rows xs ys

both_true : (a b : Bool) → (a && b) ≡ true → (a ≡ true) × (b ≡ true)
both_true true b is = (refl, is)
both_true false b is = absurd (cc)

apart : false ≡ true → ⊥
apart same = cc

rows_are : (xs ys : List Row) → same_rows xs ys ≡ true → xs ≡ ys
rows_are [] [] is = refl
rows_are [] (y ∷ ys) is = absurd (apart is)
rows_are (x ∷ xs) [] is = absurd (apart is)
rows_are (x ∷ xs) (y ∷ ys) is =
    let two = both_true (same_row x y) (same_rows xs ys) is in
    let first : x ≡ y = (same_row-Decides x y).0 two.0 in
    let rest = rows_are xs ys two.1 in
    (λ i. first i ∷ rest i)

itself : (xs : List Row) → same_rows xs xs ≡ true
itself [] = refl
itself (x ∷ xs) = rw ((same_row-Decides x x).1 refl) (itself xs)

not_other : (xs ys : List Row) → ¬ ¬ (xs ≡ ys) → xs ≡ ys
not_other xs ys never =
    elim (same_rows xs ys) as (λ b. same_rows xs ys ≡ b → xs ≡ ys) [
      | true ↦ λ is. rows_are xs ys is
      | false ↦ λ not. absurd (never (λ same. let both : true ≡ false = sym (itself xs) ∙ ap (same_rows xs) same ∙ not in cc))
    ] refl

-- a place above the mark leaves what the user sees
seen_next : (user : List ℕ) (book : Book) (mark place : ℕ) → IsMark user book mark → mark < place → place ≤ size book → SeesSame user (up_to place book) (up_to (place - 1) book)
seen_next user book mark place is above within =
    not_other (seen user (rows_of (up_to place book))) (seen user (rows_of (up_to (place - 1) book)))
    (λ other. is.last place above (record { first = omega (arith, above, is.least); within = within; concerns = inr other }))

seen_on : (user : List ℕ) (book : Book) (mark place more : ℕ) → IsMark user book mark → mark ≤ place → place + more ≤ size book → SeesSame user (up_to (place + more) book) (up_to place book)
seen_on user book mark place zero is low within = let same : place + 0 ≡ place = omega arith in ap (λ (n : ℕ). seen user (rows_of (up_to n book))) same
seen_on user book mark place (suc more) is low within =
    let next : SeesSame user (up_to (place + suc more) book) (up_to ((place + suc more) - 1) book) = seen_next user book mark (place + suc more) is (omega (arith, low)) within in
    let before : (place + suc more) - 1 ≡ place + more = omega arith in
    next ∙ ap (λ (n : ℕ). seen user (rows_of (up_to n book))) before ∙ seen_on user book mark place more is low (omega (arith, within))

-- A user sees the same at any two places from the mark on, and at the end.
pub seen_between : (user : List ℕ) (book : Book) (mark place later : ℕ) → IsMark user book mark → mark ≤ place → place ≤ later → later ≤ size book → SeesSame user (up_to later book) (up_to place book)
seen_between user book mark place later is low le within =
    let sum : place + (later - place) ≡ later = omega (arith, le) in
    ap (λ (n : ℕ). seen user (rows_of (up_to n book))) (sym sum) ∙ seen_on user book mark place (later - place) is low (omega (arith, le, within))

pub seen_since : (user : List ℕ) (book : Book) (mark place : ℕ) → IsMark user book mark → mark ≤ place → place ≤ size book → SeesSame user book (up_to place book)
seen_since user book mark place is low within =
    ap (λ (b : Book). seen user (rows_of b)) (sym (up_to-all (size book) book (omega arith))) ∙ seen_between user book mark place (size book) is low within (omega arith)

-- A row that an entry writes and that the user sees after it concerns the user.
pub write_concerns : (user : List ℕ) (book : Book) (key : List ℕ) (row : Row) (place : ℕ) → Wrote book key place → row_at key (seen user (rows_of (up_to place book))) ≡ Some row → Concerns user book place
write_concerns user book key row place wrote shown = record {
  first = wrote.first;
  within = wrote.within;
  concerns = inr (λ same.
      let now = seen-found user (rows_of (up_to place book)) key row (distinct-rows_of (up_to place book)) shown in
      let before = seen-found user (rows_of (up_to (place - 1) book)) key row (distinct-rows_of (up_to (place - 1) book)) (ap (row_at key) (sym same) ∙ shown) in
      wrote.differs (now.0 ∙ sym before.0));
}

-- What the user sees has the same versions at a place from the mark on as at the end: no row of it was written since.
pub version_since : (user : List ℕ) (book : Book) (mark place : ℕ) → IsMark user book mark → mark ≤ place → place ≤ size book
    → (key : List ℕ) (row : Row) (version : ℕ) → row_at key (seen user (rows_of book)) ≡ Some row → IsLastWrite book key version → IsLastWrite (up_to place book) key version
version_since user book mark place is low within key row version shown last = record {
  wrote = elim last.wrote as (λ _. Wrote (up_to place book) key version ⊎ IsPageVersion book.page key version) [
    | inl wrote ↦ inl (wrote_less (up_to place book) (since place book) key version (subst (λ (b : Book). Wrote b key version) whole wrote) (omega (arith, early wrote, size-up_to place book (omega (arith, is.least, low)) within)))
    | inr page ↦ inr page
  ];
  last = λ later above wrote. last.last later above (subst (λ (b : Book). Wrote b key later) (sym whole) (wrote_more (up_to place book) (since place book) key later wrote));
}
  where
    whole : book ≡ with_entries (up_to place book) (since place book)
    whole = sym (up_to-since place book)

    shown_at : (at : ℕ) → mark ≤ at → at ≤ size book → row_at key (seen user (rows_of (up_to at book))) ≡ Some row
    shown_at at high le = ap (row_at key) (sym (seen_since user book mark at is high le)) ∙ shown

    early : Wrote book key version → version ≤ place
    early wrote = elim (cases_lt place version) as (λ _. version ≤ place) [
      | inl past ↦ absurd (is.last version (omega (arith, low, past)) (write_concerns user book key row version wrote (shown_at version (omega (arith, low, past)) wrote.within)))
      | inr le ↦ le
    ]

-- No client of a group of the user has acted since the mark.
pub acts_since : (user : List ℕ) (book : Book) (mark place : ℕ) → IsLawful book → IsMark user book mark → mark < place
    → (by group client : List ℕ) (id : ℕ) (call : Call) → entry_at place book ≡ Some (Act by group client id call) → ¬ (bound group book ≡ Some user)
acts_since user book mark place lawful is above by group client id call there of_user =
    let entry : Entry = Act by group client id call in
    let within = entry_at-within place book entry there in
    let split : book ≡ with_entries (up_to (place - 1) book) (entry ∷ since place book) = sym (up_to-since (place - 1) book) ∙ ap (with_entries (up_to (place - 1) book)) (since-entry place book entry there) in
    let admitted = lawful.each (up_to (place - 1) book) (since place book) entry split in
    let same : bytes_eq group group ≡ true = (bytes_eq-Decides group group).1 refl in
    let owner : bound group book ≡ Some by = ap (bound group) split ∙ owner_is by group (up_to (place - 1) book) (entry ∷ since place book) admitted.0.own (rw same refl) in
    let one : by ≡ user = same_Some by user (sym owner ∙ of_user) in
    is.last place above (record {
      first = within.0;
      within = within.1;
      concerns = inl (ap (λ (e : Option Entry). option_map_or (is_act_by user) e false) there ∙ (bytes_eq-Decides by user).1 one);
    })
