-- Laws of the client index: the rows when one more entry follows.
use Rattle.std.proofs.Common.{◌≡◌, ℕ, suc, ◌+◌, ◌<◌, ◌≤◌, length, Bool, true, false, cond, List, [], ◌∷◌, ◌++◌, get_or, set, Option, Some, None, Ok, Err, take, drop, refl, sym, ap, ◌∙◌, subst, arith}
use Rattle.std.specs.List.{slice_get}
use Rattle.std.specs.Option.{option_map, option_or, option_map_or, option_and_then}
use Rattle.std.specs.Str.{bytes_eq}
use Rattle.std.proofs.lemmas.Slice.Eq.{bytes_eq-Decides}
use Rattle.std.proofs.lemmas.List.{length_push}
use Rattle.std.proofs.lemmas.List.Sums.{count_by-le-length}
use Rattle.std.proofs.lemmas.Option.{same_Some}
use Rattle.rv_base.specs.Sorted.{IsPositionOf}
use Rattle.rv_book.specs.declared.entry.Entry.{Entry}
use Rattle.rv_book.specs.declared.entry.Entry.TheVariants.{Act, Look, Retire}
use Rattle.rv_book.specs.declared.clients.ClientRow.{ClientRow}
use Rattle.rv_book.specs.Entries.{is_act_of, group_of_in}
use Rattle.rv_book.specs.Book.{Book, last, group_of, size, with_entry, empty_book}
use Rattle.rv_book.specs.BookWordLaws.{bytes_eq_back, at_before, at_end, last-with_entry}
use Rattle.rv_book.specs.Indexes.{acting, first_where, actor, client_of_row, row_from, client_row, AreClientRows, acted_in, LastsFit}
use Rattle.rv_book.proofs.IndexLaws.{index-same, index-again, index-first, Changes}
use Rattle.rv_book.proofs.BookLaws.{read_later, first-push}
use Rattle.rv_book.proofs.PageLaws.{acting-with_entry, group_of-acting, none_acted, page_last}

-- what names a client before an entry is there after it, and the entry stands at the end
pub read_before : (book : Book) (e : Entry) (i : ℕ) → i < length (acting book) → slice_get (acting (with_entry book e)) i ≡ slice_get (acting book) i
read_before book e i lt = ap (λ (xs : List Entry). slice_get xs i) (acting-with_entry book e) ∙ at_before (acting book) e i lt

pub read_end : (book : Book) (e : Entry) → slice_get (acting (with_entry book e)) (length (acting book)) ≡ Some e
read_end book e = ap (λ (xs : List Entry). slice_get xs (length (acting book))) (acting-with_entry book e) ∙ at_end (acting book) e

pub acting_more : (book : Book) (e : Entry) → length (acting (with_entry book e)) ≡ length (acting book) + 1
acting_more book e = ap length (acting-with_entry book e) ∙ length_push (acting book) e

pub client_of_row-before : (book : Book) (e : Entry) (row : ClientRow) → row.first < length (acting book) → client_of_row book row ≡ client_of_row (with_entry book e) row
unfolding client_of_row
client_of_row-before book e row lt = ap (λ (o : Option Entry). option_map_or actor o []) (sym (read_before book e row.first lt))

-- the row after one more act of its client
abbrev pub one_more_act : ℕ → Option ClientRow → ClientRow
one_more_act index None = record { first = index; acts = 1 }
one_more_act index (Some row) = record { first = row.first; acts = row.acts + 1 }

row_after : (o : Option ℕ) (b : Bool) (index acts : ℕ) → (o ≡ None → acts ≡ 0)
    → option_map (λ i. record { first = i; acts = acts + cond b 1 0 }) (option_or o (cond b (Some index) None)) ≡ cond b (Some (one_more_act index (option_map (λ i. record { first = i; acts = acts }) o))) (option_map (λ i. record { first = i; acts = acts }) o)
row_after (Some i) true index acts none = refl
row_after (Some i) false index acts none = let same : acts + 0 ≡ acts = omega arith in ap (λ (n : ℕ). Some (record { first = i; acts = n })) same
row_after None true index acts none = let same : acts + 1 ≡ 1 = omega (arith, none refl) in ap (λ (n : ℕ). Some (record { first = index; acts = n })) same
row_after None false index acts none = refl

pub client_row-push : (book : Book) (e : Entry) (k : List ℕ) → client_row (with_entry book e) k ≡ cond (is_act_of k e) (Some (one_more_act (length (acting book)) (client_row book k))) (client_row book k)
unfolding client_row
client_row-push book e k =
    (λ i. option_map (λ index. record { first = index; acts = last-with_entry k book e i }) ((ap (first_where (is_act_of k)) (acting-with_entry book e) ∙ first-push (is_act_of k) (acting book) e) i))
    ∙ row_after (first_where (is_act_of k) (acting book)) (is_act_of k e) (length (acting book)) (last k book) (none_acted k book)

pub act_is : (c : List ℕ) (e : Entry) → is_act_of c e ≡ true → (actor e ≡ c) × ((k : List ℕ) → is_act_of k e ≡ bytes_eq k c)
act_is c (Act user group client id call) is =
    let same : client ≡ c = (bytes_eq-Decides client c).0 is in
    (same, λ k. ap (λ (t : List ℕ). bytes_eq t k) same ∙ bytes_eq_back c k)
act_is c (Look user group order base) is = absurd (cc)
act_is c (Retire group) is = absurd (cc)

-- an entry that is no act
pub clients-same : (book : Book) (e : Entry) (rows : List ClientRow) → ((k : List ℕ) → is_act_of k e ≡ false) → AreClientRows book rows → AreClientRows (with_entry book e) rows
clients-same book e rows other h =
    index-same (client_of_row book) (client_of_row (with_entry book e)) (λ (row : ClientRow). row.first) (length (acting book)) (length (acting (with_entry book e))) (client_row book) (client_row (with_entry book e)) rows
    (client_of_row-before book e) (omega (arith, acting_more book e)) (λ k. client_row-push book e k ∙ ap (λ (b : Bool). cond b (Some (one_more_act (length (acting book)) (client_row book k))) (client_row book k)) (other k)) h

act_changes : (book : Book) (e : Entry) (c : List ℕ) → is_act_of c e ≡ true → Changes (client_of_row book) (client_of_row (with_entry book e)) (λ (row : ClientRow). row.first) (length (acting book)) (length (acting (with_entry book e))) (client_row book) (client_row (with_entry book e)) c (one_more_act (length (acting book)))
unfolding client_of_row
act_changes book e c is = record {
  same = client_of_row-before book e;
  grows = omega (arith, acting_more book e);
  by_name = λ x y same. ap (λ (i : ℕ). option_map_or actor (slice_get (acting (with_entry book e)) i) []) same;
  keeps = λ row. refl;
  fresh = λ none. ap (λ (o : Option Entry). option_map_or actor o []) (read_end book e) ∙ (act_is c e is).0;
  fresh_within = omega (arith, acting_more book e);
  next = λ q. client_row-push book e q ∙ ap (λ (b : Bool). cond b (Some (one_more_act (length (acting book)) (client_row book q))) (client_row book q)) ((act_is c e is).1 q);
}

-- an act
pub act_again : (book : Book) (e : Entry) (c : List ℕ) (rows seen : List ClientRow) (at : ℕ) (row : ClientRow) → is_act_of c e ≡ true → AreClientRows book rows → seen ≡ rows → IsPositionOf (client_of_row (with_entry book e)) c seen (Ok at) → row ≡ get_or rows at row
    → AreClientRows (with_entry book e) (set rows at (record { first = row.first; acts = row.acts + 1 }))
act_again book e c rows seen at row is h same there read = index-again _ _ _ _ _ _ _ c (one_more_act (length (acting book))) rows seen at row (act_changes book e c is) h same there read

pub act_first : (book : Book) (e : Entry) (c : List ℕ) (rows seen : List ClientRow) (at : ℕ) → is_act_of c e ≡ true → AreClientRows book rows → seen ≡ rows → IsPositionOf (client_of_row (with_entry book e)) c seen (Err at)
    → AreClientRows (with_entry book e) (take at rows ++ record { first = length (acting book); acts = 1 } ∷ drop at rows)
act_first book e c rows seen at is h same there = index-first _ _ _ _ _ _ _ c (one_more_act (length (acting book))) rows seen at (act_changes book e c is) h same there

-- a row's last mutation id is at most the book's length
pub last_fits : (book : Book) (c : List ℕ) → LastsFit book.page → last c book ≤ size book
last_fits book c fit = omega (arith, page_last c book.page fit, count_by-le-length (is_act_of c) book.entries)

pub row_acts : (book : Book) (c : List ℕ) (row : ClientRow) → LastsFit book.page → client_row book c ≡ Some row → row.acts ≤ size book
unfolding client_row
row_acts book c row fit is =
    elim (first_where (is_act_of c) (acting book)) as (λ o. option_map (row_from book c) o ≡ Some row → row.acts ≤ size book) [
      | None ↦ λ h. absurd (cc)
      | Some i ↦ λ h. let all : last c book ≡ row.acts = ap (λ (r : ClientRow). r.acts) (same_Some _ _ h) in omega (arith, last_fits book c fit, all)
    ] is

pub none_yet : AreClientRows empty_book []
unfolding client_row
none_yet = record { order = tt; within = tt; found = λ k. refl }

-- what the look-ups read in a row
pub first_of : (book : Book) (c : List ℕ) (o : Option ClientRow) → o ≡ client_row book c → option_map (λ row. row.first) o ≡ first_where (is_act_of c) (acting book)
unfolding client_row
first_of book c o is = ap (option_map (λ row. row.first)) is ∙ same (first_where (is_act_of c) (acting book))
  where
    same : (p : Option ℕ) → option_map (λ (row : ClientRow). row.first) (option_map (row_from book c) p) ≡ p
    same None = refl
    same (Some i) = refl

pub acts_of : (book : Book) (c : List ℕ) (o : Option ClientRow) → o ≡ client_row book c → option_map_or (λ row. row.acts) o 0 ≡ last c book
unfolding client_row
acts_of book c o is = ap (λ (p : Option ClientRow). option_map_or (λ row. row.acts) p 0) is ∙ same (first_where (is_act_of c) (acting book)) (none_acted c book)
  where
    same : (p : Option ℕ) → (p ≡ None → last c book ≡ 0) → option_map_or (λ (row : ClientRow). row.acts) (option_map (row_from book c) p) 0 ≡ last c book
    same None none = sym (none refl)
    same (Some i) none = refl

-- the group of a client is that of its first act
pub group_of-first : (c : List ℕ) (entries : List Entry) → group_of_in c entries ≡ option_and_then (λ i. option_and_then acted_in (slice_get entries i)) (first_where (is_act_of c) entries)
group_of-first c [] = refl
group_of-first c (Act user group client id call ∷ entries) =
    elim (bytes_eq client c) as (λ b. cond b (Some group) (group_of_in c entries) ≡ option_and_then (λ i. option_and_then acted_in (slice_get (Act user group client id call ∷ entries) i)) (cond b (Some 0) (option_map suc (first_where (is_act_of c) entries)))) [
      | true ↦ refl
      | false ↦ group_of-first c entries ∙ sym (read_later acted_in (Act user group client id call) entries (first_where (is_act_of c) entries))
    ]
group_of-first c (Look user group order base ∷ entries) = group_of-first c entries ∙ sym (read_later acted_in (Look user group order base) entries (first_where (is_act_of c) entries))
group_of-first c (Retire group ∷ entries) = group_of-first c entries ∙ sym (read_later acted_in (Retire group) entries (first_where (is_act_of c) entries))

pub group_of-found : (c : List ℕ) (book : Book) (o : Option ℕ) → o ≡ first_where (is_act_of c) (acting book) → option_and_then (λ i. option_and_then acted_in (slice_get (acting book) i)) o ≡ group_of c book
group_of-found c book o is = ap (option_and_then (λ i. option_and_then acted_in (slice_get (acting book) i))) is ∙ sym (group_of-first c (acting book)) ∙ sym (group_of-acting c book)

-- a client has a row exactly where it has a group
no_act : (c : List ℕ) (entries : List Entry) → group_of_in c entries ≡ None → first_where (is_act_of c) entries ≡ None
no_act c [] none = refl
no_act c (Act user group client id call ∷ entries) none =
    elim (bytes_eq client c) as (λ b. cond b (Some group) (group_of_in c entries) ≡ None → cond b (Some 0) (option_map suc (first_where (is_act_of c) entries)) ≡ None) [
      | true ↦ λ h. absurd (cc)
      | false ↦ λ h. ap (option_map suc) (no_act c entries h)
    ] none
no_act c (Look user group order base ∷ entries) none = ap (option_map suc) (no_act c entries none)
no_act c (Retire group ∷ entries) none = ap (option_map suc) (no_act c entries none)

pub no_acts : (c : List ℕ) (book : Book) → group_of c book ≡ None → last c book ≡ 0
no_acts c book none = none_acted c book (no_act c (acting book) (sym (group_of-acting c book) ∙ none))

pub no_row : (c : List ℕ) (book : Book) → group_of c book ≡ None → client_row book c ≡ None
unfolding client_row
no_row c book none = ap (option_map (row_from book c)) (no_act c (acting book) (sym (group_of-acting c book) ∙ none))

pub no_group : (c : List ℕ) (book : Book) → client_row book c ≡ None → group_of c book ≡ None
unfolding client_row
no_group c book none =
    elim (first_where (is_act_of c) (acting book)) as (λ o. first_where (is_act_of c) (acting book) ≡ o → option_map (row_from book c) o ≡ None → group_of c book ≡ None) [
      | None ↦ λ e h. sym (group_of-found c book None (sym e))
      | Some i ↦ λ e h. absurd (cc)
    ] refl none

-- what a row tells: the group of the act that it names, and the number of its acts
pub record GivesClient (book : Book) (c : List ℕ) (row : ClientRow) : Type 0 where
  pub group : option_and_then acted_in (slice_get (acting book) row.first) ≡ group_of c book
  pub acts : row.acts ≡ last c book
  pub bound : LastsFit book.page → row.acts ≤ size book

pub gives_client : (book : Book) (c : List ℕ) (row : ClientRow) → Some row ≡ client_row book c → GivesClient book c row
gives_client book c row is = record {
  group = group_of-found c book (Some row.first) (first_of book c (Some row) is);
  acts = acts_of book c (Some row) is;
  bound = λ fit. row_acts book c row fit (sym is);
}

pub gives_none : (book : Book) (c : List ℕ) → None ≡ client_row book c → (None ≡ group_of c book) × (0 ≡ last c book)
gives_none book c is = (sym (no_group c book (sym is)), acts_of book c None is)

-- what stands, or doesn't, at the place of a client
pub row_there : (book : Book) (c : List ℕ) (rows seen : List ClientRow) (at : ℕ) (row : ClientRow) → AreClientRows book rows → seen ≡ rows → IsPositionOf (client_of_row book) c seen (Ok at) → row ≡ get_or rows at row → GivesClient book c row
row_there book c rows seen at row h same found read =
    let settled = subst (λ (xs : List ClientRow). IsPositionOf (client_of_row book) c xs (Ok at)) same found in
    gives_client book c row (ap Some read ∙ sym (settled.found row) ∙ h.found c)

pub none_there : (book : Book) (c : List ℕ) (rows seen : List ClientRow) (at : ℕ) → AreClientRows book rows → seen ≡ rows → IsPositionOf (client_of_row book) c seen (Err at) → None ≡ group_of c book
none_there book c rows seen at h same found =
    let settled = subst (λ (xs : List ClientRow). IsPositionOf (client_of_row book) c xs (Err at)) same found in
    (gives_none book c (sym settled.absent ∙ h.found c)).0
