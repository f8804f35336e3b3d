-- A list of entries goes on by one: what becomes of places in it and of what is counted.
use Rattle.std.proofs.Common.{◌≡◌, ℕ, suc, ◌+◌, Bool, true, false, cond, List, [], ◌∷◌, ◌++◌, Option, Some, None, refl, ap, ◌∙◌, arith, length}
use Rattle.std.specs.List.{slice_get, count_by}
use Rattle.std.specs.Option.{option_map, option_or, option_and_then}
use Rattle.std.proofs.lemmas.List.Sums.{sum_by-append}
use Rattle.rv_book.specs.declared.entry.Entry.{Entry}
use Rattle.rv_book.specs.Indexes.{first_where}

later : (o : Option ℕ) (b : Bool) (n : ℕ) → option_map suc (option_or o (cond b (Some n) None)) ≡ option_or (option_map suc o) (cond b (Some (suc n)) None)
later None true n = refl
later None false n = refl
later (Some i) b n = refl

pub first-push : (p : Entry → Bool) (entries : List Entry) (entry : Entry) → first_where p (entries ++ entry ∷ []) ≡ option_or (first_where p entries) (cond (p entry) (Some (length entries)) None)
first-push p [] entry = refl
first-push p (e ∷ entries) entry =
    elim (p e) as (λ b. cond b (Some 0) (option_map suc (first_where p (entries ++ entry ∷ []))) ≡ option_or (cond b (Some 0) (option_map suc (first_where p entries))) (cond (p entry) (Some (suc (length entries))) None)) [
      | true ↦ refl
      | false ↦ ap (option_map suc) (first-push p entries entry) ∙ later (first_where p entries) (p entry) (length entries)
    ]

pub none_later : (o : Option ℕ) → option_map suc o ≡ None → o ≡ None
none_later None h = refl
none_later (Some i) h = absurd (cc)

-- where no entry passes, none is counted
pub none_counted : (p : Entry → Bool) (entries : List Entry) → first_where p entries ≡ None → count_by p entries ≡ 0
none_counted p [] h = refl
none_counted p (e ∷ entries) h =
    sum_by-append (λ (x : Entry). cond (p x) 1 0) (e ∷ []) entries
    ∙ (elim (p e) as (λ b. cond b (Some 0) (option_map suc (first_where p entries)) ≡ None → (0 + cond b 1 0) + count_by p entries ≡ 0) [
      | true ↦ λ f. absurd (cc)
      | false ↦ λ f. omega (arith, none_counted p entries (none_later (first_where p entries) f))
    ] h)

-- what is read in the entry at an index
pub read_later : {A : Type 0} (f : Entry → Option A) (e : Entry) (entries : List Entry) (o : Option ℕ) → option_and_then (λ i. option_and_then f (slice_get (e ∷ entries) i)) (option_map suc o) ≡ option_and_then (λ i. option_and_then f (slice_get entries i)) o
read_later f e entries None = refl
read_later f e entries (Some i) = refl
