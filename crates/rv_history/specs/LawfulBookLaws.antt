-- Lawful books, entry by entry.
use Rattle.std.proofs.Common.{◌≡◌, ℕ, zero, suc, ◌+◌, ◌<◌, ◌≤◌, Bool, true, false, cond, List, [], ◌∷◌, ◌++◌, length, get_or, Some, None, refl, sym, ap, ◌∙◌, subst, arith, inl, inr, ◌⊎◌, append-nil}
use Rattle.std.specs.List.{cons_option, range_with_len}
use Rattle.std.specs.List.Sorted.{IsStrictlyIncreasing}
use Rattle.std.specs.Str.{bytes_eq}
use Rattle.std.proofs.lemmas.List.Sums.{sum_by-append, sum_by-cons}
use Rattle.std.proofs.lemmas.Slice.Eq.{bytes_eq-Decides}
use Rattle.rv_book.specs.declared.entry.Entry.{Entry}
use Rattle.rv_book.specs.declared.entry.Entry.TheVariants.{Act, Look, Retire}
use Rattle.rv_book.specs.Entries.{is_act_of, order_after, last_in}
use Rattle.rv_book.specs.Book.{Book, last, last_order, opening, with_entry, book_from, empty_book, with_entries}
use Rattle.rv_book.specs.BookWordLaws.{last-with_entry, last_order-with_entry, with_entries-more, with_entry-more}
use Rattle.rv_history.specs.Lawful.{IsLawfulAfter, IsLawful}
use Rattle.rv_history.specs.Properties.{act_ids, look_orders}

no_split : (before after : List Entry) (entry : Entry) → [] ≡ before ++ entry ∷ after → ⊥
no_split [] after entry e = cc
no_split (b ∷ before) after entry e = cc

pub lawful_none : IsLawful empty_book
lawful_none = record { opens = inl refl; each = λ before after entry e. absurd (no_split before.entries after entry (ap (λ (b : Book). b.entries) e)) }

-- where the one entry more stands in a split of the longer list
last_split : (entries before after : List Entry) (e entry : Entry) → entries ++ e ∷ [] ≡ before ++ entry ∷ after
    → ((entries ≡ before) × (e ≡ entry)) ⊎ ((more : List Entry) × (entries ≡ before ++ entry ∷ more))
last_split [] [] after e entry h = inl (refl, cc)
last_split [] (b ∷ []) after e entry h = absurd (cc)
last_split [] (b ∷ c ∷ before) after e entry h = absurd (cc)
last_split (x ∷ entries) [] after e entry h = let same : x ≡ entry = cc in inr (entries, ap (λ (y : Entry). y ∷ entries) same)
last_split (x ∷ entries) (b ∷ before) after e entry h =
    let same : x ≡ b = cc in
    let rest : entries ++ e ∷ [] ≡ before ++ entry ∷ after = cc in
    elim (last_split entries before after e entry rest) as (λ _. ((x ∷ entries ≡ b ∷ before) × (e ≡ entry)) ⊎ ((more : List Entry) × (x ∷ entries ≡ b ∷ (before ++ entry ∷ more)))) [
      | inl here ↦ inl ((λ i. same i ∷ here.0 i), here.1)
      | inr there ↦ inr (there.0, (λ i. same i ∷ there.1 i))
    ]

pub lawful_more : (book : Book) (e : Entry) → IsLawful book → IsLawfulAfter book e → IsLawful (with_entry book e)
lawful_more book e lawful next = record { opens = lawful.opens; each = each }
  where
    -- what stands before an entry opens with the book's page
    each : (before : Book) (after : List Entry) (entry : Entry) → with_entry book e ≡ with_entries before (entry ∷ after) → IsLawfulAfter before entry
    each before after entry h =
        let page : book.page ≡ before.page = ap (λ (b : Book). b.page) h in
        elim (last_split book.entries before.entries after e entry (ap (λ (b : Book). b.entries) h)) as (λ _. IsLawfulAfter before entry) [
          | inl here ↦ (let b : IsLawfulAfter before e = subst (λ (b : Book). IsLawfulAfter b e) (λ i. book_from (page i) (here.0 i)) next in subst (λ (x : Entry). IsLawfulAfter before x) here.1 b)
          | inr there ↦ lawful.each before there.0 entry (λ i. book_from (page i) (there.1 i))
        ]

-- the front of a lawful book is lawful
pub lawful_front : (book : Book) (more : List Entry) → IsLawful (with_entries book more) → IsLawful book
lawful_front book more lawful = record {
  opens = lawful.opens;
  each = λ before after entry h. lawful.each before (after ++ more) entry (ap (λ (b : Book). with_entries b more) h ∙ with_entries-more before (entry ∷ after) more);
}

-- an entry, and what comes after it
pub here : (before : Book) (rest : List Entry) (e : Entry) → IsLawful (with_entries before (e ∷ rest)) → IsLawfulAfter before e
here before rest e lawful = lawful.each before rest e refl

pub onward : (before : Book) (rest : List Entry) (e : Entry) → IsLawful (with_entries before (e ∷ rest)) → IsLawful (with_entries (with_entry before e) rest)
onward before rest e lawful = subst (λ (b : Book). IsLawful b) (sym (with_entry-more before e rest)) lawful

abbrev pub one : (client : List ℕ) (e : Entry) → ℕ
one client e = cond (is_act_of client e) 1 0

pub last_cons : (client : List ℕ) (rest : List Entry) (e : Entry) → last_in client (e ∷ rest) ≡ one client e + last_in client rest
last_cons client rest e = sum_by-cons (λ (x : Entry). cond (is_act_of client x) 1 0) e rest

-- the ids of the acts that are still to come
ids_from : (client : List ℕ) (before : Book) (rest : List Entry) → IsLawful (with_entries before rest) → act_ids client rest ≡ range_with_len (last client before + 1) (last_in client rest)
ids_from client before [] lawful = refl
ids_from client before (Act user group actor id call ∷ rest) lawful =
    let e : Entry = Act user group actor id call in
    let next = ids_from client (with_entry before e) rest (onward before rest e lawful) in
    let mine : id ≡ last actor before + 1 = (here before rest e lawful).2 in
    elim (bytes_eq actor client) as (λ b. bytes_eq actor client ≡ b → cons_option (cond b (Some id) None) (act_ids client rest) ≡ range_with_len (last client before + 1) (last_in client (e ∷ rest))) [
      | true ↦ λ same.
          let is : actor ≡ client = (bytes_eq-Decides actor client).0 same in
          let first : id ≡ last client before + 1 = mine ∙ ap (λ (c : List ℕ). last c before + 1) is in
          let count : last_in client (e ∷ rest) ≡ suc (last_in client rest) = last_cons client rest e ∙ ap (λ (b : Bool). cond b 1 0 + last_in client rest) same ∙ omega arith in
          let grown : last client (with_entry before e) ≡ last client before + 1 = last-with_entry client before e ∙ ap (λ (b : Bool). last client before + cond b 1 0) same in
          rw count ((λ i. first i ∷ next i) ∙ ap (λ (n : ℕ). (last client before + 1) ∷ range_with_len (n + 1) (last_in client rest)) grown)
      | false ↦ λ other.
          let count : last_in client (e ∷ rest) ≡ last_in client rest = last_cons client rest e ∙ ap (λ (b : Bool). cond b 1 0 + last_in client rest) other ∙ omega arith in
          let grown : last client (with_entry before e) ≡ last client before = last-with_entry client before e ∙ ap (λ (b : Bool). last client before + cond b 1 0) other ∙ omega arith in
          rw count (next ∙ ap (λ (n : ℕ). range_with_len (n + 1) (last_in client rest)) grown)
    ] refl
ids_from client before (Look user group order base ∷ rest) lawful =
    let e : Entry = Look user group order base in
    let next = ids_from client (with_entry before e) rest (onward before rest e lawful) in
    let count : last_in client (e ∷ rest) ≡ last_in client rest = last_cons client rest e ∙ omega arith in
    let grown : last client (with_entry before e) ≡ last client before = last-with_entry client before e ∙ omega arith in
    rw count (next ∙ ap (λ (n : ℕ). range_with_len (n + 1) (last_in client rest)) grown)
ids_from client before (Retire group ∷ rest) lawful =
    let e : Entry = Retire group in
    let next = ids_from client (with_entry before e) rest (onward before rest e lawful) in
    let count : last_in client (e ∷ rest) ≡ last_in client rest = last_cons client rest e ∙ omega arith in
    let grown : last client (with_entry before e) ≡ last client before = last-with_entry client before e ∙ omega arith in
    rw count (next ∙ ap (λ (n : ℕ). range_with_len (n + 1) (last_in client rest)) grown)

pub ids_count_up : (book : Book) (client : List ℕ) → IsLawful book → act_ids client book.entries ≡ range_with_len (last client (opening book) + 1) (last_in client book.entries)
ids_count_up book client lawful = ids_from client (opening book) book.entries lawful

-- each number is above the one before it
abbrev Climbs : ℕ → List ℕ → Type 0
Climbs low [] = Unit {0}
Climbs low (x ∷ xs) = (low < x) × Climbs x xs

climbs : (group : List ℕ) (before : Book) (rest : List Entry) → IsLawful (with_entries before rest) → Climbs (last_order group before) (look_orders group rest)
climbs group before [] lawful = tt
climbs group before (Act user other client id call ∷ rest) lawful =
    let e : Entry = Act user other client id call in
    subst (λ (n : ℕ). Climbs n (look_orders group rest)) (last_order-with_entry group before e) (climbs group (with_entry before e) rest (onward before rest e lawful))
climbs group before (Look user other order base ∷ rest) lawful =
    let e : Entry = Look user other order base in
    let next : Climbs (order_after group (last_order group before) e) (look_orders group rest) =
    subst (λ (n : ℕ). Climbs n (look_orders group rest)) (last_order-with_entry group before e) (climbs group (with_entry before e) rest (onward before rest e lawful)) in
    let mine : last_order other before < order = (here before rest e lawful).1 in
    elim (bytes_eq other group) as (λ b. bytes_eq other group ≡ b → Climbs (cond b order (last_order group before)) (look_orders group rest) → Climbs (last_order group before) (cons_option (cond b (Some order) None) (look_orders group rest))) [
      | true ↦ λ same next. (subst (λ (g : List ℕ). last_order g before < order) ((bytes_eq-Decides other group).0 same) mine, next)
      | false ↦ λ different next. next
    ] refl next
climbs group before (Retire other ∷ rest) lawful =
    let e : Entry = Retire other in
    subst (λ (n : ℕ). Climbs n (look_orders group rest)) (last_order-with_entry group before e) (climbs group (with_entry before e) rest (onward before rest e lawful))

step_up : (low : ℕ) (xs : List ℕ) → Climbs low xs → (k : ℕ) → suc k < length (low ∷ xs) → get_or (low ∷ xs) k 0 < get_or (low ∷ xs) (suc k) 0
step_up low [] c k lt = absurd (omega arith)
step_up low (x ∷ xs) c zero lt = c.0
step_up low (x ∷ xs) c (suc k) lt = step_up x xs c.1 k (omega arith)

pub orders_rise : (book : Book) (group : List ℕ) → IsLawful book → IsStrictlyIncreasing (last_order group (opening book) ∷ look_orders group book.entries)
orders_rise book group lawful = λ k lt.
    let low : ℕ = last_order group (opening book) in
    let orders : List ℕ = look_orders group book.entries in
    let n : suc k ≡ k + 1 = omega arith in
    subst (λ (m : ℕ). get_or (low ∷ orders) k 0 < get_or (low ∷ orders) m 0) n (step_up low orders (climbs group (opening book) book.entries lawful) k (omega (arith, lt)))

order_step : (group : List ℕ) (before : Book) (e : Entry) → IsLawfulAfter before e → last_order group before ≤ order_after group (last_order group before) e
order_step group before (Act user other client id call) next = omega arith
order_step group before (Look user other order base) next =
    let mine : last_order other before < order = next.1 in
    elim (bytes_eq other group) as (λ b. bytes_eq other group ≡ b → last_order group before ≤ cond b order (last_order group before)) [
      | true ↦ λ same. (let up : last_order group before < order = subst (λ (g : List ℕ). last_order g before < order) ((bytes_eq-Decides other group).0 same) mine in omega arith)
      | false ↦ λ different. omega arith
    ] refl
order_step group before (Retire other) next = omega arith

-- a group's last order never falls
pub orders_stay : (group : List ℕ) (before : Book) (rest : List Entry) → IsLawful (with_entries before rest) → last_order group before ≤ last_order group (with_entries before rest)
orders_stay group before [] lawful = rw (append-nil before.entries) (omega arith)
orders_stay group before (e ∷ rest) lawful =
    let next : last_order group before ≤ order_after group (last_order group before) e = order_step group before e (here before rest e lawful) in
    let push : last_order group (with_entry before e) ≡ order_after group (last_order group before) e = last_order-with_entry group before e in
    let more : last_order group (with_entry before e) ≤ last_order group (with_entries (with_entry before e) rest) = orders_stay group (with_entry before e) rest (onward before rest e lawful) in
    let joined : last_order group (with_entries (with_entry before e) rest) ≡ last_order group (with_entries before (e ∷ rest)) = ap (last_order group) (with_entry-more before e rest) in
    omega arith

-- a client's last id after more entries
pub last_append : (client : List ℕ) (before : Book) (more : List Entry) → last client (with_entries before more) ≡ last client before + last_in client more
last_append client before more =
    let both : last_in client (before.entries ++ more) ≡ last_in client before.entries + last_in client more = sum_by-append (λ (x : Entry). cond (is_act_of client x) 1 0) before.entries more in
    omega (arith, both)
