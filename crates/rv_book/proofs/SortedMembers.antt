-- The rows of a book's clients, sorted by group and client, are the index of clients by group.
use Rattle.std.proofs.Common.{◌≡◌, ℕ, Bool, true, false, cond, List, [], ◌∷◌, Option, Some, None, refl, sym, ap, ◌∙◌}
use Rattle.std.specs.Ordering.{nat_cmp}
use Rattle.std.specs.Cmp.Lexicographic.{slice_cmp}
use Rattle.std.specs.List.{slice_get}
use Rattle.std.specs.List.Sorted.{IsPermutation, IsSortedByKey}
use Rattle.std.specs.Option.{option_map_or, option_and_then}
use Rattle.std.specs.Str.{bytes_eq}
use Rattle.std.proofs.lemmas.Slice.Eq.{bytes_eq-Decides}
use Rattle.rv_base.specs.Sorted.{find_by, Distinct}
use Rattle.rv_base.specs.PositionLaws.{equals}
use Rattle.rv_base.specs.ArrangedLaws.{distinct-in_order}
use Rattle.rv_book.specs.declared.entry.Entry.{Entry}
use Rattle.rv_book.specs.declared.entry.Entry.TheVariants.{Act, Look, Retire}
use Rattle.rv_book.specs.declared.clients.ClientRow.{ClientRow}
use Rattle.rv_book.specs.Entries.{is_act_of}
use Rattle.rv_book.specs.Book.{Book, group_of}
use Rattle.rv_book.specs.Indexes.{acting, acted_in, actor, client_of_row, client_row, AreClientRows}
use Rattle.rv_book.specs.Members.{acting_group, group_of_member, key_of_member, member_key, client_of_key, member_row, row_with_key, AreMemberRows}
use Rattle.rv_book.proofs.IdLaws.{first_at}
use Rattle.rv_book.proofs.ClientLaws.{act_is, first_of, gives_client, no_group}
use Rattle.rv_book.proofs.MemberKeys.{client-member_key}
use Rattle.rv_book.proofs.Permuted.{all-permuted, distinct-permuted, find-permuted, in_order-from_sort}

-- the row, where the key is its
abbrev if_keyed : Book → List ℕ → ClientRow → Option ClientRow
if_keyed book k row = cond (bytes_eq k (key_of_member book row)) (Some row) None

-- what is found at a key of a group and a client is found at the client, where the key is its
find_by_client : (book : Book) (k : List ℕ) (rows : List ClientRow) → Distinct (client_of_row book) rows → find_by (key_of_member book) k rows ≡ option_and_then (if_keyed book k) (find_by (client_of_row book) (client_of_key k) rows)
find_by_client book k [] h = refl
find_by_client book k (row ∷ rows) h =
    elim (bytes_eq k (key_of_member book row)) as (λ b. bytes_eq k (key_of_member book row) ≡ b → cond b (Some row) (find_by (key_of_member book) k rows) ≡ option_and_then (if_keyed book k) (find_by (client_of_row book) (client_of_key k) (row ∷ rows))) [
      | true ↦ λ e.
          let same : client_of_key k ≡ client_of_row book row = ap client_of_key ((bytes_eq-Decides k (key_of_member book row)).0 e) ∙ client-member_key (group_of_member book row) (client_of_row book row) in
          sym (
          ap (λ (b : Bool). option_and_then (if_keyed book k) (cond b (Some row) (find_by (client_of_row book) (client_of_key k) rows))) (ap (λ (t : List ℕ). bytes_eq t (client_of_row book row)) same ∙ equals (client_of_row book row))
          ∙ ap (λ (b : Bool). cond b (Some row) None) e
          )
      | false ↦ λ e. find_by_client book k rows h.1 ∙ other e
    ] refl
  where
    other : bytes_eq k (key_of_member book row) ≡ false → option_and_then (if_keyed book k) (find_by (client_of_row book) (client_of_key k) rows) ≡ option_and_then (if_keyed book k) (find_by (client_of_row book) (client_of_key k) (row ∷ rows))
    other e =
        elim (bytes_eq (client_of_key k) (client_of_row book row)) as (λ b. bytes_eq (client_of_key k) (client_of_row book row) ≡ b → option_and_then (if_keyed book k) (find_by (client_of_row book) (client_of_key k) rows) ≡ option_and_then (if_keyed book k) (cond b (Some row) (find_by (client_of_row book) (client_of_key k) rows))) [
          | true ↦ λ f.
              let none : find_by (client_of_row book) (client_of_key k) rows ≡ None = ap (λ (t : List ℕ). find_by (client_of_row book) t rows) ((bytes_eq-Decides (client_of_key k) (client_of_row book row)).0 f) ∙ h.0 in
              ap (option_and_then (if_keyed book k)) none ∙ ap (λ (b : Bool). cond b (Some row) None) (sym e)
          | false ↦ λ f. refl
        ] refl

-- so the keys are distinct as the clients are
distinct_keys : (book : Book) (rows : List ClientRow) → Distinct (client_of_row book) rows → Distinct (key_of_member book) rows
distinct_keys book [] h = tt
distinct_keys book (row ∷ rows) h = (
  find_by_client book (key_of_member book row) rows h.1
      ∙ ap (option_and_then (if_keyed book (key_of_member book row))) (ap (λ (t : List ℕ). find_by (client_of_row book) t rows) (client-member_key (group_of_member book row) (client_of_row book row)) ∙ h.0),
  distinct_keys book rows h.1,
)

-- the row of a client tells the client's group
act_groups : (client : List ℕ) (entry : Entry) → is_act_of client entry ≡ true → acted_in entry ≡ Some (acting_group entry)
act_groups client (Act user group actor id call) is = refl
act_groups client (Look user group order base) is = absurd (cc)
act_groups client (Retire group) is = absurd (cc)

record TellsKey (book : Book) (client : List ℕ) (row : ClientRow) : Type 0 where
  pub group : group_of client book ≡ Some (group_of_member book row)
  pub named : client_of_row book row ≡ client

tells_key : (book : Book) (client : List ℕ) (row : ClientRow) → client_row book client ≡ Some row → TellsKey book client row
unfolding group_of_member client_of_row
tells_key book client row is = go (first_at (is_act_of client) (acting book) row.first (sym (first_of book client (Some row) (sym is))))
  where
    go : (e : Entry) × (slice_get (acting book) row.first ≡ Some e) × (is_act_of client e ≡ true) → TellsKey book client row
    go there = record {
      group = sym (gives_client book client row (sym is)).group ∙ ap (option_and_then acted_in) there.1 ∙ act_groups client there.0 there.2
          ∙ ap (λ (o : Option Entry). Some (option_map_or acting_group o [])) (sym there.1);
      named = ap (λ (o : Option Entry). option_map_or actor o []) there.1 ∙ (act_is client there.0 there.2).0;
    }

-- the row at a key, by the row of its client
row_at : (book : Book) (k client : List ℕ) → option_and_then (if_keyed book k) (client_row book client) ≡ row_with_key k book client
row_at book k client =
    elim (client_row book client) as (λ o. client_row book client ≡ o → option_and_then (if_keyed book k) o ≡ option_and_then (λ g. cond (bytes_eq k (member_key g client)) o None) (group_of client book)) [
      | None ↦ λ none. ap (option_and_then (λ g. cond (bytes_eq k (member_key g client)) None None)) (sym (no_group client book none))
      | Some row ↦ λ some.
          let tells = tells_key book client row some in
          (λ i. cond (bytes_eq k (member_key (group_of_member book row) (tells.named i))) (Some row) None) ∙ ap (option_and_then (λ g. cond (bytes_eq k (member_key g client)) (Some row) None)) (sym tells.group)
    ] refl

pub sorted_members : (book : Book) (rows seen : List ClientRow) → AreClientRows book rows → IsPermutation rows seen → IsSortedByKey (key_of_member book) (slice_cmp nat_cmp) seen → AreMemberRows book seen
unfolding member_row
sorted_members book rows seen h same sorted =
    let clients = distinct-in_order (client_of_row book) rows h.order in
    let keys = distinct_keys book rows clients in
    record {
      order = in_order-from_sort (key_of_member book) seen sorted (distinct-permuted (key_of_member book) rows seen same keys);
      within = all-permuted _ rows seen same h.within;
      found = λ k. find-permuted (key_of_member book) k rows seen same keys ∙ find_by_client book k rows clients ∙ ap (option_and_then (if_keyed book k)) (h.found (client_of_key k)) ∙ row_at book k (client_of_key k);
    }
