-- Laws of the looks of a group from the last one back.
use Rattle.std.proofs.Common.{◌≡◌, ℕ, suc, ◌+◌, ◌-◌, ◌≤◌, Bool, true, false, cond, List, [], ◌∷◌, Option, Some, None, refl, sym, ap, ◌∙◌, subst, arith, length, drop, ◌++◌}
use Rattle.std.specs.List.{slice_get, count_by}
use Rattle.std.specs.Option.{option_map, option_or, option_and_then}
use Rattle.std.proofs.lemmas.List.Sums.{sum_by-append}
use Rattle.std.proofs.lemmas.Option.{same_Some, none-some}
use Rattle.rv_book.specs.declared.entry.Entry.{Entry}
use Rattle.rv_book.specs.Book.{Book, size, up_to, since, with_entry, entry_at}
use Rattle.rv_book.specs.BookWordLaws.{up_to-since, up_to-with_entry, up_to-before, entry_at-within, entry_at-next, entry_at-up_to, since-with_entries}
use Rattle.rv_book.specs.Kept.{look_of, is_look_of, later_looks, last_where, last_look, look_before}
use Rattle.rv_book.specs.LookLaws.{look_at-with_entry, look_at-end, count_from, look_is, IsLookOf}

-- the last entry that passes, when one more follows
push_suc : (o : Option ℕ) (b : Bool) (n : ℕ) (q : Bool) → option_or (option_map suc (cond b (Some n) o)) (cond q (Some 0) None) ≡ cond b (Some (suc n)) (option_or (option_map suc o) (cond q (Some 0) None))
push_suc o true n q = refl
push_suc o false n q = refl

last_where-push : (p : Entry → Bool) (entries : List Entry) (entry : Entry) → last_where p (entries ++ entry ∷ []) ≡ cond (p entry) (Some (length entries)) (last_where p entries)
last_where-push p [] entry = refl
last_where-push p (e ∷ entries) entry = ap (λ (o : Option ℕ). option_or (option_map suc o) (cond (p e) (Some 0) None)) (last_where-push p entries entry) ∙ push_suc (last_where p entries) (p entry) (length entries) (p e)

map_cond : (f : ℕ → ℕ) (b : Bool) (n : ℕ) (o : Option ℕ) → option_map f (cond b (Some n) o) ≡ cond b (Some (f n)) (option_map f o)
map_cond f true n o = refl
map_cond f false n o = refl

-- the place of the entry at an index
abbrev place_of : Book → ℕ → ℕ
place_of book index = book.page.at + (index + 1)

-- the last look of a group, when one more entry follows
pub last_look-with_entry : (group : List ℕ) (book : Book) (entry : Entry) → last_look group (with_entry book entry) ≡ cond (is_look_of group entry) (Some (size book + 1)) (last_look group book)
unfolding last_look
last_look-with_entry group book entry =
    let n : place_of book (length book.entries) ≡ size book + 1 = omega arith in
    ap (option_map (place_of book)) (last_where-push (is_look_of group) book.entries entry)
    ∙ map_cond (place_of book) (is_look_of group entry) (length book.entries) (last_where (is_look_of group) book.entries)
    ∙ ap (λ (m : ℕ). cond (is_look_of group entry) (Some m) (option_map (place_of book) (last_where (is_look_of group) book.entries))) n

-- where no entry passes, none is counted
none_last : (p : Entry → Bool) (entries : List Entry) → last_where p entries ≡ None → count_by p entries ≡ 0
none_last p [] none = refl
none_last p (x ∷ entries) none =
    sum_by-append (λ (e : Entry). cond (p e) 1 0) (x ∷ []) entries
    ∙ (elim (last_where p entries) as (λ o. last_where p entries ≡ o → option_or (option_map suc o) (cond (p x) (Some 0) None) ≡ None → (0 + cond (p x) 1 0) + count_by p entries ≡ 0) [
      | None ↦ λ f h. elim (p x) as (λ b. (let o : Option ℕ = cond b (Some 0) None in o ≡ None) → (0 + cond b 1 0) + count_by p entries ≡ 0) [ true ↦ λ g. absurd (cc) | false ↦ λ g. omega (arith, none_last p entries f) ] h
      | Some i ↦ λ f h. absurd (cc)
    ] refl none)

-- it is the look with no later one
last_found : (p : Entry → Bool) (entries : List Entry) (i : ℕ) → last_where p entries ≡ Some i → (e : Entry) × (slice_get entries i ≡ Some e) × (p e ≡ true) × (count_by p (drop (suc i) entries) ≡ 0)
last_found p [] i is = absurd (none-some i is)
last_found p (x ∷ entries) i is =
    elim (last_where p entries) as (λ o. last_where p entries ≡ o → option_or (option_map suc o) (cond (p x) (Some 0) None) ≡ Some i → (e : Entry) × (slice_get (x ∷ entries) i ≡ Some e) × (p e ≡ true) × (count_by p (drop (suc i) (x ∷ entries)) ≡ 0)) [
      | None ↦ λ f h. elim (p x) as (λ b. p x ≡ b → cond b (Some 0) None ≡ Some i → (e : Entry) × (slice_get (x ∷ entries) i ≡ Some e) × (p e ≡ true) × (count_by p (drop (suc i) (x ∷ entries)) ≡ 0)) [
        | true ↦ λ e g. subst (λ (n : ℕ). (e : Entry) × (slice_get (x ∷ entries) n ≡ Some e) × (p e ≡ true) × (count_by p (drop (suc n) (x ∷ entries)) ≡ 0)) (same_Some 0 i g) (x, refl, e, none_last p entries f)
        | false ↦ λ e g. absurd (none-some i g)
      ] refl h
      | Some j ↦ λ f h.
          let found = last_found p entries j f in
          subst (λ (n : ℕ). (e : Entry) × (slice_get (x ∷ entries) n ≡ Some e) × (p e ≡ true) × (count_by p (drop (suc n) (x ∷ entries)) ≡ 0)) (same_Some (suc j) i h) (found.0, found.1, found.2, found.3)
    ] refl is

pub last_look-some : (group : List ℕ) (book : Book) (place : ℕ) → last_look group book ≡ Some place → IsLookOf group book place 0
unfolding last_look
last_look-some group book place is =
    elim (last_where (is_look_of group) book.entries) as (λ o. last_where (is_look_of group) book.entries ≡ o → option_map (place_of book) o ≡ Some place → IsLookOf group book place 0) [
      | None ↦ λ f h. absurd (none-some place h)
      | Some i ↦ λ f h. subst (λ (n : ℕ). IsLookOf group book n 0) (same_Some (place_of book i) place h) (found i (last_found (is_look_of group) book.entries i f))
    ] refl is
  where
    found : (i : ℕ) → (e : Entry) × (slice_get book.entries i ≡ Some e) × (is_look_of group e ≡ true) × (count_by (is_look_of group) (drop (suc i) book.entries) ≡ 0) → IsLookOf group book (place_of book i) 0
    found i is =
        let n : place_of book i - book.page.at ≡ suc i = omega arith in
        record { entry = is.0; there = entry_at-next i book ∙ is.1; of_group = is.2; count = ap (λ (m : ℕ). count_by (is_look_of group) (drop m book.entries)) n ∙ is.3 }

pub last_look-none : (group : List ℕ) (book : Book) → last_look group book ≡ None → count_by (is_look_of group) book.entries ≡ 0
unfolding last_look
last_look-none group book none =
    elim (last_where (is_look_of group) book.entries) as (λ o. last_where (is_look_of group) book.entries ≡ o → option_map (place_of book) o ≡ None → count_by (is_look_of group) book.entries ≡ 0) [
      | None ↦ λ f h. none_last (is_look_of group) book.entries f
      | Some i ↦ λ f h. absurd (cc)
    ] refl none

-- a group that has no look has no last one
pub no_look : (group : List ℕ) (book : Book) → count_by (is_look_of group) book.entries ≡ 0 → last_look group book ≡ None
no_look group book none =
    elim (last_look group book) as (λ o. last_look group book ≡ o → o ≡ None) [
      | None ↦ λ e. refl
      | Some place ↦ λ e.
          let is = last_look-some group book place e in
          let parts : count_by (is_look_of group) book.entries ≡ count_by (is_look_of group) (up_to (place - 1) book).entries + count_by (is_look_of group) (since (place - 1) book) =
          ap (λ (b : Book). count_by (is_look_of group) b.entries) (sym (up_to-since (place - 1) book)) ∙ sum_by-append (λ (e : Entry). cond (is_look_of group e) 1 0) (up_to (place - 1) book).entries (since (place - 1) book) in
          absurd (omega (arith, none, parts, count_from group book place 0 is))
    ] refl

-- the look before a look
pub before_is : (group : List ℕ) (book : Book) (place later : ℕ) → IsLookOf group book place later → look_before place book ≡ last_look group (up_to (place - 1) book)
unfolding look_before
before_is group book place later is =
    let look = look_is group book place later is in
    ap (option_and_then (λ look. last_look look.1 (up_to (place - 1) book))) look.1 ∙ ap (λ (g : List ℕ). last_look g (up_to (place - 1) book)) look.2

pub look_before-some : (group : List ℕ) (book : Book) (place before later : ℕ) → IsLookOf group book place later → look_before place book ≡ Some before → IsLookOf group book before (later + 1)
look_before-some group book place before later is there =
    let front = up_to (place - 1) book in
    let rest = since (place - 1) book in
    let last = last_look-some group front before (sym (before_is group book place later is) ∙ there) in
    let within = entry_at-within before front last.entry last.there in
    let parts : later_looks group before book ≡ count_by (is_look_of group) (since before front) + count_by (is_look_of group) rest =
    ap (λ (b : Book). count_by (is_look_of group) (since before b)) (sym (up_to-since (place - 1) book))
    ∙ ap (count_by (is_look_of group)) (since-with_entries before front rest within.1)
    ∙ sum_by-append (λ (e : Entry). cond (is_look_of group e) 1 0) (since before front) rest in
    record {
      entry = last.entry;
      there = entry_at-up_to before (place - 1) book last.entry last.there;
      of_group = last.of_group;
      count = omega (arith, parts, last.count, count_from group book place later is);
    }

pub look_before-none : (group : List ℕ) (book : Book) (place later : ℕ) → IsLookOf group book place later → look_before place book ≡ None → count_by (is_look_of group) book.entries ≡ later + 1
look_before-none group book place later is none =
    let front = up_to (place - 1) book in
    let rest = since (place - 1) book in
    let parts : count_by (is_look_of group) book.entries ≡ count_by (is_look_of group) front.entries + count_by (is_look_of group) rest =
    ap (λ (b : Book). count_by (is_look_of group) b.entries) (sym (up_to-since (place - 1) book)) ∙ sum_by-append (λ (e : Entry). cond (is_look_of group e) 1 0) front.entries rest in
    omega (arith, parts, last_look-none group front (sym (before_is group book place later is) ∙ none), count_from group book place later is)

-- the look before a look, when one more entry follows, and that before the entry
pub look_before-with_entry : (place : ℕ) (book : Book) (entry : Entry) → place ≤ size book → look_before place (with_entry book entry) ≡ look_before place book
unfolding look_before
look_before-with_entry place book entry le =
    (λ i. option_and_then (λ look. last_look look.1 (up_to-with_entry (place - 1) book entry (omega (arith, le)) i)) (look_at-with_entry place book entry le i))

pub look_before-end : (book : Book) (entry : Entry) → look_before (size book + 1) (with_entry book entry) ≡ option_and_then (λ look. last_look look.1 book) (look_of entry)
unfolding look_before
look_before-end book entry = (λ i. option_and_then (λ look. last_look look.1 (up_to-before book entry i)) (look_at-end book entry i))
