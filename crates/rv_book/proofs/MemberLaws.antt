-- Laws of the index of clients by group: the rows when one more entry follows.
use Rattle.std.proofs.Common.{◌≡◌, ℕ, ◌+◌, ◌<◌, ◌≤◌, length, Bool, true, false, cond, List, [], ◌∷◌, ◌++◌, get_or, set, Option, Some, None, Ok, Err, take, drop, refl, sym, ap, ◌∙◌, subst, arith}
use Rattle.std.specs.List.{slice_get}
use Rattle.std.specs.Option.{option_or, option_map_or, option_and_then}
use Rattle.std.specs.Str.{bytes_eq}
use Rattle.std.proofs.lemmas.Slice.Eq.{bytes_eq-Decides}
use Rattle.std.proofs.lemmas.Option.{none-some, same_Some}
use Rattle.rv_base.specs.Sorted.{IsPositionOf}
use Rattle.rv_base.specs.PositionLaws.{equals}
use Rattle.rv_book.specs.declared.entry.Entry.{Entry}
use Rattle.rv_book.specs.declared.clients.ClientRow.{ClientRow}
use Rattle.rv_book.specs.Entries.{is_act_of}
use Rattle.rv_book.specs.Book.{Book, size, with_entry, group_of, empty_book}
use Rattle.rv_book.specs.RegisterLaws.{group_of-push}
use Rattle.rv_book.specs.Indexes.{acting, actor, client_of_row, client_row, LastsFit}
use Rattle.rv_book.specs.Members.{member_key, client_of_key, acting_group, group_of_member, key_of_member, row_with_key, member_row, AreMemberRows}
use Rattle.rv_book.proofs.IndexLaws.{index-same, index-again, index-first, Changes}
use Rattle.rv_book.proofs.ClientLaws.{acting_more, read_before, read_end, client_of_row-before, act_is, one_more_act, client_row-push, no_row, no_group, row_acts}
use Rattle.rv_book.proofs.MemberKeys.{client-member_key}

pub key-before : (book : Book) (e : Entry) (row : ClientRow) → row.first < length (acting book) → key_of_member book row ≡ key_of_member (with_entry book e) row
unfolding group_of_member
key-before book e row lt =
    (λ i. member_key (ap (λ (o : Option Entry). option_map_or acting_group o []) (sym (read_before book e row.first lt)) i) (client_of_row-before book e row lt i))

pub no_members : AreMemberRows empty_book []
unfolding member_row
no_members = record { order = tt; within = tt; found = λ k. refl }

or_none : {A : Type 0} (o : Option A) → option_or o None ≡ o
or_none None = refl
or_none (Some x) = refl

-- the row of a client without an act in the entry
same_row : (book : Book) (e : Entry) (k c : List ℕ) → is_act_of c e ≡ false → row_with_key k (with_entry book e) c ≡ row_with_key k book c
same_row book e k c other =
    let group : group_of c (with_entry book e) ≡ group_of c book = group_of-push c book e ∙ ap (λ (b : Bool). option_or (group_of c book) (cond b (Some (acting_group e)) None)) other ∙ or_none (group_of c book) in
    let row : client_row (with_entry book e) c ≡ client_row book c = client_row-push book e c ∙ ap (λ (b : Bool). cond b (Some (one_more_act (length (acting book)) (client_row book c))) (client_row book c)) other in
    (λ i. option_and_then (λ g. cond (bytes_eq k (member_key g c)) (row i) None) (group i))

-- an entry that is no act
pub members-same : (book : Book) (e : Entry) (rows : List ClientRow) → ((k : List ℕ) → is_act_of k e ≡ false) → AreMemberRows book rows → AreMemberRows (with_entry book e) rows
unfolding member_row
members-same book e rows other h =
    index-same (key_of_member book) (key_of_member (with_entry book e)) (λ (row : ClientRow). row.first) (length (acting book)) (length (acting (with_entry book e))) (member_row book) (member_row (with_entry book e)) rows
    (key-before book e) (omega (arith, acting_more book e)) (λ k. same_row book e k (client_of_key k) (other (client_of_key k))) h

-- a client that had a group keeps it
keeps_group : (c : List ℕ) (book : Book) (e : Entry) (was now : List ℕ) → group_of c book ≡ Some was → group_of c (with_entry book e) ≡ Some now → was ≡ now
keeps_group c book e was now before after =
    same_Some was now (ap (λ (o : Option (List ℕ)). option_or o (cond (is_act_of c e) (Some (acting_group e)) None)) (sym before) ∙ sym (group_of-push c book e) ∙ after)

-- the row of the client of an act
more_row : (book : Book) (e : Entry) (k c g : List ℕ) → is_act_of c e ≡ true → group_of c (with_entry book e) ≡ Some g
    → row_with_key k (with_entry book e) c ≡ cond (bytes_eq k (member_key g c)) (Some (one_more_act (length (acting book)) (row_with_key k book c))) (row_with_key k book c)
more_row book e k c g is now =
    (λ i. option_and_then (λ g. cond (bytes_eq k (member_key g c)) (row i) None) (now i))
    ∙ (elim (group_of c book) as (λ o. group_of c book ≡ o → cond (bytes_eq k (member_key g c)) (Some (one_more_act (length (acting book)) (client_row book c))) None
    ≡ (let before : Option ClientRow = option_and_then (λ g. cond (bytes_eq k (member_key g c)) (client_row book c) None) o in cond (bytes_eq k (member_key g c)) (Some (one_more_act (length (acting book)) before)) before)) [
      | None ↦ λ f. ap (λ (o : Option ClientRow). cond (bytes_eq k (member_key g c)) (Some (one_more_act (length (acting book)) o)) None) (no_row c book f)
      | Some was ↦ λ f. subst (λ (w : List ℕ). cond (bytes_eq k (member_key g c)) (Some (one_more_act (length (acting book)) (client_row book c))) None
          ≡ (let before : Option ClientRow = cond (bytes_eq k (member_key w c)) (client_row book c) None in cond (bytes_eq k (member_key g c)) (Some (one_more_act (length (acting book)) before)) before)) (sym (keeps_group c book e was g f now)) (each (bytes_eq k (member_key g c)))
    ] refl)
  where
    row : client_row (with_entry book e) c ≡ Some (one_more_act (length (acting book)) (client_row book c))
    row = client_row-push book e c ∙ ap (λ (b : Bool). cond b (Some (one_more_act (length (acting book)) (client_row book c))) (client_row book c)) is

    each : (b : Bool) → cond b (Some (one_more_act (length (acting book)) (client_row book c))) None ≡ (let before : Option ClientRow = cond b (client_row book c) None in cond b (Some (one_more_act (length (acting book)) before)) before)
    each true = refl
    each false = refl

-- the row of a key of the group that a client has
row_at_key : (book : Book) (c g : List ℕ) → group_of c book ≡ Some g → member_row book (member_key g c) ≡ client_row book c
unfolding member_row
row_at_key book c g is =
    ap (row_with_key (member_key g c) book) (client-member_key g c)
    ∙ ap (option_and_then (λ h. cond (bytes_eq (member_key g c) (member_key h c)) (client_row book c) None)) is
    ∙ ap (λ (b : Bool). cond b (client_row book c) None) (equals (member_key g c))

-- the group of the act, where its client has no row yet
own_group : (book : Book) (e : Entry) (c g : List ℕ) → is_act_of c e ≡ true → group_of c (with_entry book e) ≡ Some g → member_row book (member_key g c) ≡ None → acting_group e ≡ g
own_group book e c g is now none =
    elim (group_of c book) as (λ o. group_of c book ≡ o → acting_group e ≡ g) [
      | None ↦ λ f. same_Some (acting_group e) g ((λ i. option_or (sym f i) (cond (sym is i) (Some (acting_group e)) None)) ∙ sym (group_of-push c book e) ∙ now)
      | Some was ↦ λ f. absurd (none-some was (sym (no_group c book (sym (row_at_key book c g (f ∙ ap Some (keeps_group c book e was g f now))) ∙ none)) ∙ f))
    ] refl

next_row : (book : Book) (e : Entry) (c g : List ℕ) (q : List ℕ) → is_act_of c e ≡ true → group_of c (with_entry book e) ≡ Some g
    → member_row (with_entry book e) q ≡ cond (bytes_eq q (member_key g c)) (Some (one_more_act (length (acting book)) (member_row book q))) (member_row book q)
unfolding member_row
next_row book e c g q is now =
    elim (bytes_eq (client_of_key q) c) as (λ b. bytes_eq (client_of_key q) c ≡ b → row_with_key q (with_entry book e) (client_of_key q) ≡ cond (bytes_eq q (member_key g c)) (Some (one_more_act (length (acting book)) (row_with_key q book (client_of_key q)))) (row_with_key q book (client_of_key q))) [
      | true ↦ λ f. subst (λ (t : List ℕ). row_with_key q (with_entry book e) t ≡ cond (bytes_eq q (member_key g c)) (Some (one_more_act (length (acting book)) (row_with_key q book t))) (row_with_key q book t)) (sym ((bytes_eq-Decides (client_of_key q) c).0 f)) (more_row book e q c g is now)
      | false ↦ λ f. same_row book e q (client_of_key q) ((act_is c e is).1 (client_of_key q) ∙ f) ∙ ap (λ (b : Bool). cond b (Some (one_more_act (length (acting book)) (row_with_key q book (client_of_key q)))) (row_with_key q book (client_of_key q))) (sym (apart f))
    ] refl
  where
    apart : bytes_eq (client_of_key q) c ≡ false → bytes_eq q (member_key g c) ≡ false
    apart f =
        elim (bytes_eq q (member_key g c)) as (λ b. bytes_eq q (member_key g c) ≡ b → b ≡ false) [
          | true ↦ λ h.
              let same : client_of_key q ≡ c = ap client_of_key ((bytes_eq-Decides q (member_key g c)).0 h) ∙ client-member_key g c in
              sym (equals c) ∙ ap (λ (t : List ℕ). bytes_eq t c) (sym same) ∙ f
          | false ↦ λ h. refl
        ] refl

member_changes : (book : Book) (e : Entry) (c g : List ℕ) → is_act_of c e ≡ true → group_of c (with_entry book e) ≡ Some g
    → Changes (key_of_member book) (key_of_member (with_entry book e)) (λ (row : ClientRow). row.first) (length (acting book)) (length (acting (with_entry book e))) (member_row book) (member_row (with_entry book e)) (member_key g c) (one_more_act (length (acting book)))
unfolding group_of_member client_of_row
member_changes book e c g is now = record {
  same = key-before book e;
  grows = omega (arith, acting_more book e);
  by_name = λ x y same. ap (λ (i : ℕ). let o = slice_get (acting (with_entry book e)) i in member_key (option_map_or acting_group o []) (option_map_or actor o [])) same;
  keeps = λ row. refl;
  fresh = λ none. ap (λ (o : Option Entry). member_key (option_map_or acting_group o []) (option_map_or actor o [])) (read_end book e) ∙ (λ i. member_key (own_group book e c g is now none i) ((act_is c e is).0 i));
  fresh_within = omega (arith, acting_more book e);
  next = λ q. next_row book e c g q is now;
}

-- an act
pub member_again : (book : Book) (e : Entry) (c g : List ℕ) (rows seen : List ClientRow) (at : ℕ) (row : ClientRow) → is_act_of c e ≡ true → group_of c (with_entry book e) ≡ Some g → AreMemberRows book rows → seen ≡ rows
    → IsPositionOf (key_of_member (with_entry book e)) (member_key g c) seen (Ok at) → row ≡ get_or rows at row → AreMemberRows (with_entry book e) (set rows at (record { first = row.first; acts = row.acts + 1 }))
member_again book e c g rows seen at row is now h same there read = index-again _ _ _ _ _ _ _ (member_key g c) (one_more_act (length (acting book))) rows seen at row (member_changes book e c g is now) h same there read

pub member_first : (book : Book) (e : Entry) (c g : List ℕ) (rows seen : List ClientRow) (at : ℕ) → is_act_of c e ≡ true → group_of c (with_entry book e) ≡ Some g → AreMemberRows book rows → seen ≡ rows
    → IsPositionOf (key_of_member (with_entry book e)) (member_key g c) seen (Err at) → AreMemberRows (with_entry book e) (take at rows ++ record { first = length (acting book); acts = 1 } ∷ drop at rows)
member_first book e c g rows seen at is now h same there = index-first _ _ _ _ _ _ _ (member_key g c) (one_more_act (length (acting book))) rows seen at (member_changes book e c g is now) h same there

-- a row's last mutation id is at most the book's length
pub member_bound : (book : Book) (k : List ℕ) (rows seen : List ClientRow) (at : ℕ) (row : ClientRow) → LastsFit book.page → AreMemberRows book rows → seen ≡ rows → IsPositionOf (key_of_member book) k seen (Ok at) → row ≡ get_or rows at row → row.acts ≤ size book
unfolding member_row
member_bound book k rows seen at row fit h same found read =
    let settled = subst (λ (xs : List ClientRow). IsPositionOf (key_of_member book) k xs (Ok at)) same found in
    go (group_of (client_of_key k) book) (sym (h.found k) ∙ settled.found row ∙ ap Some (sym read))
  where
    of_client : (b : Bool) → cond b (client_row book (client_of_key k)) None ≡ Some row → row.acts ≤ size book
    of_client true is = omega (arith, row_acts book (client_of_key k) row fit is)
    of_client false is = absurd (none-some row is)

    go : (o : Option (List ℕ)) → option_and_then (λ g. cond (bytes_eq k (member_key g (client_of_key k))) (client_row book (client_of_key k)) None) o ≡ Some row → row.acts ≤ size book
    go None is = absurd (none-some row is)
    go (Some g) is = of_client (bytes_eq k (member_key g (client_of_key k))) is
