-- The calls of a client's acts, and an import's mutations.
use Rattle.std.proofs.Common.{◌≡◌, ℕ, ◌+◌, inl, inr, Bool, true, false, cond, List, [], ◌∷◌, ◌++◌, length, Option, Some, None, refl, sym, ap, ◌∙◌, subst, arith, append_assoc}
use Rattle.std.specs.List.{cons_option}
use Rattle.std.specs.Str.{bytes_eq}
use Rattle.std.proofs.lemmas.List.{length-append}
use Rattle.std.proofs.lemmas.List.Elements.{filter_map-append}
use Rattle.std.proofs.lemmas.Slice.Eq.{bytes_eq-Decides}
use Rattle.rv_rows.specs.declared.call.Call.{Call}
use Rattle.rv_turns.specs.declared.mutation.Mutation.{Mutation}
use Rattle.rv_book.specs.declared.entry.Entry.{Entry}
use Rattle.rv_book.specs.declared.entry.Entry.TheVariants.{Act, Look, Retire}
use Rattle.rv_book.specs.Entries.{last_in}
use Rattle.rv_book.specs.Book.{Book, last, opening, with_entry}
use Rattle.rv_history.specs.LawfulBookLaws.{last_cons}
use Rattle.rv_history.specs.Served.{Settles, Doubt, with_doubt}
use Rattle.rv_import.specs.Imports.{asked_from, asked_with, asked_in, asked_of, call_of_record, client_id, todo_id, is_import_header}
use Rattle.rv_csv.specs.Records.{Record, records_of}
use Rattle.rv_import.specs.ActsOnce.{act_call, calls_of, AreFirst}

-- the number of a client's acts is that of their calls
pub calls_count : (client : List ℕ) (entries : List Entry) → length (calls_of client entries) ≡ last_in client entries
calls_count client [] = refl
calls_count client (Act user group actor id call ∷ rest) =
    let next = calls_count client rest in
    last_at (bytes_eq actor client) refl next
  where
    last_at : (b : Bool) → bytes_eq actor client ≡ b → length (calls_of client rest) ≡ last_in client rest → length (cons_option (cond b (Some call) None) (calls_of client rest)) ≡ last_in client (Act user group actor id call ∷ rest)
    last_at true same next = let count = last_cons client rest (Act user group actor id call) ∙ ap (λ (b : Bool). cond b 1 0 + last_in client rest) same in omega (arith, count, next)
    last_at false other next = let count = last_cons client rest (Act user group actor id call) ∙ ap (λ (b : Bool). cond b 1 0 + last_in client rest) other in omega (arith, count, next)
calls_count client (Look user group order base ∷ rest) = let count = last_cons client rest (Look user group order base) in omega (arith, count, calls_count client rest)
calls_count client (Retire group ∷ rest) = let count = last_cons client rest (Retire group) in omega (arith, count, calls_count client rest)

-- one more act of the client
pub calls_more : (client user group actor : List ℕ) (id : ℕ) (call : Call) (book : Book) → actor ≡ client → calls_of client (with_entry book (Act user group actor id call)).entries ≡ calls_of client book.entries ++ call ∷ []
calls_more client user group actor id call book same =
    let e : Entry = Act user group actor id call in
    let own : bytes_eq actor client ≡ true = (bytes_eq-Decides actor client).1 same in
    let one : calls_of client (e ∷ []) ≡ call ∷ [] = ap (λ (b : Bool). cons_option (cond b (Some call) None) []) own in
    filter_map-append (act_call client) book.entries (e ∷ []) ∙ ap (λ (x : List Call). calls_of client book.entries ++ x) one

-- mutations of the client, numbered from n on
abbrev pub Numbered : List ℕ → ℕ → List Mutation → Type 0
Numbered client n [] = Unit {0}
Numbered client n (m ∷ ms) = (m.client ≡ client) × (m.id ≡ n) × Numbered client (n + 1) ms

pub numbered_front : (client : List ℕ) (n : ℕ) (taken left : List Mutation) → Numbered client n (taken ++ left) → Numbered client n taken
numbered_front client n [] left own = tt
numbered_front client n (m ∷ taken) left (who, id, others) = (who, id, numbered_front client (n + 1) taken left others)

numbered_with : (user name : List ℕ) (n : ℕ) (o : Option Call) (rest : List Record) → Numbered (client_id user name) (n + 1) (asked_from user name (n + 1) rest).mutations → Numbered (client_id user name) n (asked_with (client_id user name) n o (asked_from user name (n + 1) rest)).mutations
numbered_with user name n None rest later = tt
numbered_with user name n (Some call) rest later = (refl, refl, later)

numbered_from : (user name : List ℕ) (n : ℕ) (records : List Record) → Numbered (client_id user name) n (asked_from user name n records).mutations
numbered_from user name n [] = tt
numbered_from user name n (fields ∷ rest) = numbered_with user name n (call_of_record (todo_id user name n) fields) rest (numbered_from user name (n + 1) rest)

numbered_in : (user name : List ℕ) (records : List Record) → Numbered (client_id user name) 1 (asked_in user name records).mutations
numbered_in user name [] = tt
numbered_in user name (first ∷ rest) =
    elim (is_import_header first) as (λ b. Numbered (client_id user name) 1 (cond b (asked_from user name 1 rest) (asked_in user name [])).mutations) [
      | true ↦ numbered_from user name 1 rest
      | false ↦ tt
    ]

pub numbered : (user name bytes : List ℕ) → Numbered (client_id user name) 1 (asked_of user name bytes).mutations
numbered user name bytes = numbered_in user name (records_of bytes)

-- the settled book where nothing is in doubt
pub settled_is : (book : Book) (doubt : Doubt) (settled : Book) → doubt ≡ None → Settles book doubt settled → settled ≡ book
settled_is book None settled none (inl same) = same
settled_is book None settled none (inr same) = same
settled_is book (Some entry) settled none settles = absurd (cc)

-- as many calls, those on the page with them, as the client has acts
pub all_count : (client : List ℕ) (book : Book) (paged : List Call) → length paged ≡ last client (opening book) → length (paged ++ calls_of client book.entries) ≡ last client book
all_count client book paged count = length-append paged (calls_of client book.entries) ∙ omega (arith, count, calls_count client book.entries)

pub first_same : (client : List ℕ) (all : List Call) (book new : Book) → new ≡ book → AreFirst client all book → AreFirst client all new
first_same client all book new same fronts = subst (λ (b : Book). AreFirst client all b) (sym same) fronts

-- they are so of the settled book, where they are so of the book and with what is in doubt
pub first_settled : (client : List ℕ) (all : List Call) (book : Book) (doubt : Doubt) (settled : Book) → Settles book doubt settled → AreFirst client all book → AreFirst client all (with_doubt book doubt) → AreFirst client all settled
first_settled client all book doubt settled (inl same) first whole = first_same client all book settled same first
first_settled client all book doubt settled (inr same) first whole = first_same client all (with_doubt book doubt) settled same whole
