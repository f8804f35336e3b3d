-- What the versions of stored rows tell of the entries since a place: a key was touched since exactly where its version is
-- another.
use Rattle.std.proofs.Common.{◌≡◌, ℕ, ◌+◌, ◌<◌, true, false, not, ◌||◌, ◌==◌, List, [], ◌∷◌, Some, refl, sym, ◌∙◌, subst, arith, ◌⊎◌, inl, inr}
use Rattle.std.proofs.lemmas.Bool.{cases_lt}
use Rattle.std.proofs.lemmas.Bool.Decides.{nat_tests}
use Rattle.rv_rows.specs.Keys.{row_text}
use Rattle.rv_rows.specs.Held.{Stored, stored_key, find}
use Rattle.rv_book.specs.declared.entry.Entry.{Entry}
use Rattle.rv_book.specs.Book.{Book, since, size, up_to, with_entry, with_entries}
use Rattle.rv_book.specs.BookWordLaws.{size-with_entry, up_to-since, with_entry-more, size-with_entries}
use Rattle.rv_history.specs.Replay.{rows_of, IsPageVersion, Wrote, IsLastWrite, IsReplay}
use Rattle.rv_history.specs.History.{is_written, is_touched}
use Rattle.rv_history.specs.ReplayLaws.{wrote_more, wrote_less, last_within, last_write_unique, all_found}
use Rattle.rv_history.specs.PatchLaws.{first_false, second_false}
use Rattle.rv_news.specs.TouchLaws.{IsWrittenAfter, next_touched, touched_after, wrote_step}

untouched_after : (front : Book) (since : List Entry) (k : List ℕ) → is_touched k (rows_of front) since ≡ false → (p : ℕ) → size front < p → Wrote (with_entries front since) k p → ⊥
untouched_after front [] k h p lt w = absurd (omega (arith, lt, w.within, size-with_entries front []))
untouched_after front (e ∷ since) k h p lt w =
    let longer : Book = with_entry front e in
    let same : with_entries front (e ∷ since) ≡ with_entries longer since = sym (with_entry-more front e since) in
    let both : (is_written k (rows_of front) (rows_of longer) || is_touched k (rows_of longer) since) ≡ false = sym (next_touched front e since k) ∙ h in
    let further : Wrote (with_entries longer since) k p = subst (λ (b : Book). Wrote b k p) same w in
    elim (cases_lt (size front + 1) p) as (λ _. ⊥) [
      | inl above ↦ untouched_after longer since k (second_false (is_written k (rows_of front) (rows_of longer)) (is_touched k (rows_of longer) since) both) p (omega (arith, above, size-with_entry front e)) further
      | inr le ↦ (
          let is : p ≡ size front + 1 = omega (arith, le, lt) in
          let here : Wrote longer k (size front + 1) = wrote_less longer since k (size front + 1) (subst (λ (n : ℕ). Wrote (with_entries longer since) k n) is further) (omega (arith, size-with_entry front e)) in
          let clash : true ≡ false = sym (wrote_step front e k here) ∙ first_false (is_written k (rows_of front) (rows_of longer)) (is_touched k (rows_of longer) since) both in
          absurd (cc)
          )
    ]

-- entries that do not touch a key leave its last write
pub last_stays : (front : Book) (since : List Entry) (k : List ℕ) (v : ℕ) → is_touched k (rows_of front) since ≡ false → IsLastWrite front k v → IsLastWrite (with_entries front since) k v
last_stays front since k v h a = record {
  wrote = elim a.wrote as (λ _. Wrote (with_entries front since) k v ⊎ IsPageVersion front.page k v) [ inl wrote ↦ inl (wrote_more front since k v wrote) | inr version ↦ inr version ];
  last = λ later lt w. elim (cases_lt (size front) later) as (λ _. ⊥) [
    | inl above ↦ untouched_after front since k h later above w
    | inr le ↦ a.last later lt (wrote_less front since k later w le)
  ];
}

-- entries that touch it give it a later one
pub last_rises : (front : Book) (since : List Entry) (k : List ℕ) (v w : ℕ) → is_touched k (rows_of front) since ≡ true → IsLastWrite front k v → IsLastWrite (with_entries front since) k w → v < w
last_rises front since k v w h a b =
    let t : IsWrittenAfter (with_entries front since) k (size front) = touched_after front since k h in
    elim (cases_lt w t.place) as (λ _. v < w) [
      | inl lt ↦ absurd (b.last t.place lt t.wrote)
      | inr le ↦ omega (arith, le, t.above, last_within front k v a)
    ]

apart : (v w : ℕ) → v < w → true ≡ not (v == w)
apart v w lt = grind (arith, nat_tests)

alike : (v w : ℕ) → v ≡ w → false ≡ not (v == w)
alike v w same = grind (arith, nat_tests)

pub touched_differs : (front : Book) (since : List Entry) (k : List ℕ) (v w : ℕ) → IsLastWrite front k v → IsLastWrite (with_entries front since) k w → is_touched k (rows_of front) since ≡ not (v == w)
touched_differs front since k v w a b =
    elim (is_touched k (rows_of front) since) as (λ t. is_touched k (rows_of front) since ≡ t → t ≡ not (v == w)) [
      | true ↦ λ h. apart v w (last_rises front since k v w h a b)
      | false ↦ λ h. alike v w (last_write_unique (with_entries front since) k v w (last_stays front since k v h a) b)
    ] refl

-- the last write of a key whose row is stored
pub stored_write : (book : Book) (stored : List Stored) (k : List ℕ) (s : Stored) → IsReplay book stored → find k stored ≡ Some s → IsLastWrite book k s.1
stored_write book stored k s r is =
    let w = all_found stored_key (λ (t : Stored). IsLastWrite book (row_text t.0) t.1) k stored s r.versions is in
    subst (λ (q : List ℕ). IsLastWrite book q s.1) (sym w.1) w.0

-- two rows of one key, stored at a book and at a place of it, have one version exactly where the key was not touched since
pub versions_match : (book : Book) (place : ℕ) (stored earlier : List Stored) (k : List ℕ) (now was : Stored) → IsReplay book stored → IsReplay (up_to place book) earlier → find k stored ≡ Some now → find k earlier ≡ Some was
    → is_touched k (rows_of (up_to place book)) (since place book) ≡ not (was.1 == now.1)
versions_match book place stored earlier k now was r q is stood =
    touched_differs (up_to place book) (since place book) k was.1 now.1 (stored_write (up_to place book) earlier k was q stood)
    (subst (λ (b : Book). IsLastWrite b k now.1) (sym (up_to-since place book)) (stored_write book stored k now r is))
