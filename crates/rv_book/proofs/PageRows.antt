-- The rows of the clients and of the groups of a page, before an entry follows: the indexes of the book that opens with it.
use Rattle.std.proofs.Common.{◌≡◌, ℕ, suc, ◌+◌, ◌<◌, Bool, true, false, cond, List, [], ◌∷◌, ◌++◌, length, map, take, get_or, Option, Some, None, refl, sym, ap, ◌∙◌, subst, arith, append_assoc}
use Rattle.std.specs.List.{slice_get, AllByRecursion}
use Rattle.std.specs.Option.{option_map, option_map_or}
use Rattle.std.specs.Str.{bytes_eq}
use Rattle.std.proofs.Math.Bool.{or-false}
use Rattle.std.proofs.lemmas.List.{length_push, length-take-le, take_more}
use Rattle.std.proofs.lemmas.Option.{slice_get_within}
use Rattle.rv_base.specs.Sorted.{find_by, InOrder, Below}
use Rattle.rv_base.specs.PositionLaws.{Above}
use Rattle.rv_book.specs.declared.entry.Entry.{Entry}
use Rattle.rv_book.specs.declared.clients.ClientRow.{ClientRow}
use Rattle.rv_book.specs.declared.groups.GroupRow.{GroupRow}
use Rattle.rv_book.specs.declared.page.Page.{Page}
use Rattle.rv_book.specs.Entries.{is_act_of}
use Rattle.rv_book.specs.Book.{book_from, last, last_order, page_client, page_group}
use Rattle.rv_book.specs.BookWordLaws.{bytes_eq_back}
use Rattle.rv_book.specs.Kept.{last_look}
use Rattle.rv_book.specs.Indexes.{acting, actor, first_where, naming, named_in, names_group, binds, page_act, page_look, client_of_row, client_row, AreClientRows, group_of_row, group_row, AreGroupRows, IsIndex}
use Rattle.rv_book.proofs.GroupLaws.{group_row_at}

abbrev Client : Type 0
Client = List ℕ × List ℕ × ℕ

abbrev Group : Type 0
Group = List ℕ × List ℕ × ℕ × Bool

-- the rows of items, each by its index and by the item
module _ {X R : Type 0} (row : ℕ → Option X → R) where
  abbrev pub rows_from : ℕ → List X → List R
  rows_from n [] = []
  rows_from n (x ∷ xs) = row n (Some x) ∷ rows_from (suc n) xs

  -- one more item
  rows-push : (n : ℕ) (xs : List X) (x : X) → rows_from n (xs ++ x ∷ []) ≡ rows_from n xs ++ row (n + length xs) (Some x) ∷ []
  rows-push n [] x = let same : n ≡ n + 0 = omega arith in ap (λ (i : ℕ). row i (Some x) ∷ []) same
  rows-push n (y ∷ ys) x =
      let same : suc n + length ys ≡ n + suc (length ys) = omega arith in
      ap (λ (rows : List R). row n (Some y) ∷ rows) (rows-push (suc n) ys x ∙ ap (λ (i : ℕ). rows_from (suc n) ys ++ row i (Some x) ∷ []) same)

  -- the rows of the items up to an index, and one more
  pub rows_more : (xs : List X) (i : ℕ) (x : X) (rows : List R) → i < length xs → x ≡ get_or xs i x → rows ≡ rows_from 0 (take i xs) → rows ++ row i (Some x) ∷ [] ≡ rows_from 0 (take (i + 1) xs)
  rows_more xs i x rows lt is so_far =
      let place : i ≡ 0 + length (take i xs) = omega (arith, length-take-le i xs) in
      (λ j. so_far j ++ row (place j) (Some x) ∷ []) ∙ sym (rows-push 0 (take i xs) x) ∙ ap (λ (y : X). rows_from 0 (take i xs ++ y ∷ [])) is ∙ ap (rows_from 0) (sym (take_more xs i x lt))

-- items as entries, which stand in a list from an index on
module _ {X : Type 0} (entry : X → Entry) where
  abbrev StandFrom : List Entry → ℕ → List X → Type 0
  StandFrom all n [] = Unit {0}
  StandFrom all n (x ∷ xs) = (slice_get all n ≡ Some (entry x)) × StandFrom all (suc n) xs

  stands_after : (before : List Entry) (e : Entry) (rest : List Entry) → slice_get (before ++ e ∷ rest) (length before) ≡ Some e
  stands_after [] e rest = refl
  stands_after (x ∷ before) e rest = stands_after before e rest

  stand_after : (before : List Entry) (n : ℕ) (xs : List X) → length before ≡ n → StandFrom (before ++ (map entry xs ++ [])) n xs
  stand_after before n [] is = tt
  stand_after before n (x ∷ xs) is = (
    subst (λ (i : ℕ). slice_get (before ++ entry x ∷ (map entry xs ++ [])) i ≡ Some (entry x)) is (stands_after before (entry x) (map entry xs ++ [])),
    subst (λ (all : List Entry). StandFrom all (suc n) xs) (append_assoc before (entry x ∷ []) (map entry xs ++ [])) (stand_after (before ++ entry x ∷ []) (suc n) xs (omega (arith, length_push before (entry x), is))),
  )

-- Items with names, as entries that a test finds by their names, and their rows, whose keys are read in a list of the entries. Of a name the
-- row is given by an index and by what is found at it among the items, if anything is.
module _ {X R : Type 0} (name : X → List ℕ) (entry : X → Entry) (test : List ℕ → Entry → Bool) (row : ℕ → Option X → R) (key : R → List ℕ) (named : R → ℕ) where
  record Reads (all : List Entry) : Type 0 where
    key_is : (n : ℕ) (x : X) → slice_get all n ≡ Some (entry x) → key (row n (Some x)) ≡ name x
    named_is : (n : ℕ) (x : X) → named (row n (Some x)) ≡ n
    test_is : (k : List ℕ) (x : X) → test k (entry x) ≡ bytes_eq (name x) k

  module _ (all : List Entry) (reads : Reads all) where
    above-rows : (k : List ℕ) (n : ℕ) (xs : List X) → StandFrom entry all n xs → Above name k xs → Above key k (rows_from row n xs)
    above-rows k n [] at h = tt
    above-rows k n (x ∷ xs) at h = (subst (Below k) (sym (reads.key_is n x at.0)) h.0, above-rows k (suc n) xs at.1 h.1)

    in_order-rows : (n : ℕ) (xs : List X) → StandFrom entry all n xs → InOrder name xs → InOrder key (rows_from row n xs)
    in_order-rows n [] at h = tt
    in_order-rows n (x ∷ xs) at h = (subst (λ (k : List ℕ). Above key k (rows_from row (suc n) xs)) (sym (reads.key_is n x at.0)) (above-rows (name x) (suc n) xs at.1 h.0), in_order-rows (suc n) xs at.1 h.1)

    within-rows : (n : ℕ) (xs : List X) → StandFrom entry all n xs → AllByRecursion (λ r. named r < length all) (rows_from row n xs)
    within-rows n [] at = tt
    within-rows n (x ∷ xs) at = (omega (arith, slice_get_within all n (entry x) at.0, reads.named_is n x), within-rows (suc n) xs at.1)

    find-rows : (k : List ℕ) (n : ℕ) (xs : List X) → StandFrom entry all n xs → find_by key k (rows_from row n xs) ≡ option_map (λ i. row (n + i) (find_by name k xs)) (first_where (test k) (map entry xs ++ []))
    find-rows k n [] at = refl
    find-rows k n (x ∷ xs) at =
        (λ i. cond (bytes_eq k (reads.key_is n x at.0 i)) (Some (row n (Some x))) (find-rows k (suc n) xs at.1 i))
        ∙ (elim (bytes_eq k (name x)) as (λ b. cond b (Some (row n (Some x))) (option_map (λ i. row (suc n + i) (find_by name k xs)) (first_where (test k) (map entry xs ++ [])))
        ≡ option_map (λ i. row (n + i) (cond b (Some x) (find_by name k xs))) (cond b (Some 0) (option_map suc (first_where (test k) (map entry xs ++ []))))) [
          | true ↦ (let same : n ≡ n + 0 = omega arith in ap (λ (i : ℕ). Some (row i (Some x))) same)
          | false ↦ later (first_where (test k) (map entry xs ++ []))
        ])
        ∙ ap (λ (b : Bool). option_map (λ i. row (n + i) (find_by name k (x ∷ xs))) (cond b (Some 0) (option_map suc (first_where (test k) (map entry xs ++ []))))) (bytes_eq_back k (name x) ∙ sym (reads.test_is k x))
      where
        later : (o : Option ℕ) → option_map (λ i. row (suc n + i) (find_by name k xs)) o ≡ option_map (λ i. row (n + i) (find_by name k xs)) (option_map suc o)
        later None = refl
        later (Some i) = let same : suc n + i ≡ n + suc i = omega arith in ap (λ (j : ℕ). Some (row j (find_by name k xs))) same

  -- so the rows are the index of that list, by what the rows at a key are to be
  index-rows : (xs : List X) (row_of : List ℕ → Option R) → Reads (map entry xs ++ []) → InOrder name xs → ((k : List ℕ) → option_map (λ i. row i (find_by name k xs)) (first_where (test k) (map entry xs ++ [])) ≡ row_of k)
      → IsIndex key named (length (map entry xs ++ [])) row_of (rows_from row 0 xs)
  index-rows xs row_of reads sorted is =
      let at = stand_after entry [] 0 xs refl in
      record {
        order = in_order-rows (map entry xs ++ []) reads 0 xs at sorted;
        within = within-rows (map entry xs ++ []) reads 0 xs at;
        found = λ k. find-rows (map entry xs ++ []) reads k 0 xs at ∙ from_start k (first_where (test k) (map entry xs ++ [])) ∙ is k;
      }
    where
      from_start : (k : List ℕ) (o : Option ℕ) → option_map (λ i. row (0 + i) (find_by name k xs)) o ≡ option_map (λ i. row i (find_by name k xs)) o
      from_start k None = refl
      from_start k (Some i) = let same : 0 + i ≡ i = omega arith in ap (λ (j : ℕ). Some (row j (find_by name k xs))) same

-- the row of a client of a page
abbrev pub page_client_row : ℕ → Option Client → ClientRow
page_client_row n client = record { first = n; acts = option_map_or (λ c. c.2) client 0 }

client_reads : (page : Page) → Reads (λ (c : Client). c.0) page_act is_act_of page_client_row (client_of_row (book_from page [])) (λ (row : ClientRow). row.first) (acting (book_from page []))
unfolding client_of_row
client_reads page = record {
  key_is = λ n c there. ap (λ (o : Option Entry). option_map_or actor o []) there;
  named_is = λ n c. refl;
  test_is = λ k c. refl;
}

pub page_clients : (page : Page) (rows : List ClientRow) → InOrder (λ c. c.0) page.clients → rows ≡ rows_from page_client_row 0 page.clients → AreClientRows (book_from page []) rows
unfolding client_row
page_clients page rows sorted is =
    subst (AreClientRows (book_from page [])) (sym is)
    (index-rows (λ (c : Client). c.0) page_act is_act_of page_client_row (client_of_row (book_from page [])) (λ (row : ClientRow). row.first) page.clients (client_row (book_from page [])) (client_reads page) sorted (λ k.
    let acts : option_map_or (λ c. c.2) (page_client k page) 0 ≡ last k (book_from page []) = omega arith in
    (λ j. option_map (λ i. record { first = i; acts = acts j }) (first_where (is_act_of k) (acting (book_from page []))))))

-- the row of a group of a page
abbrev pub page_group_row : ℕ → Option Group → GroupRow
page_group_row n group = record { named = n; bound = Some n; order = option_map_or (λ g. g.2) group 0; looks = 0; last_look = None; retired = option_map_or (λ g. g.3) group false }

group_reads : (page : Page) → Reads (λ (g : Group). g.0) page_look names_group page_group_row (group_of_row (book_from page [])) (λ (row : GroupRow). row.named) (naming (book_from page []))
unfolding group_of_row
group_reads page = record {
  key_is = λ n g there. ap (λ (o : Option Entry). option_map_or named_in o []) there;
  named_is = λ n g. refl;
  test_is = λ k g. refl;
}

-- what names a group of the page first binds it
binds_first : (k : List ℕ) (groups : List Group) → first_where (names_group k) (map page_look groups ++ []) ≡ first_where (binds k) (map page_look groups ++ [])
binds_first k [] = refl
binds_first k (g ∷ groups) = ap (λ (o : Option ℕ). cond (bytes_eq g.0 k) (Some 0) (option_map suc o)) (binds_first k groups)

pub page_groups : (page : Page) (rows : List GroupRow) → InOrder (λ g. g.0) page.groups → rows ≡ rows_from page_group_row 0 page.groups → AreGroupRows (book_from page []) rows
unfolding group_row last_look
page_groups page rows sorted is =
    subst (AreGroupRows (book_from page [])) (sym is)
    (index-rows (λ (g : Group). g.0) page_look names_group page_group_row (group_of_row (book_from page [])) (λ (row : GroupRow). row.named) page.groups (group_row (book_from page [])) (group_reads page) sorted row_at)
  where
    row_at : (k : List ℕ) → option_map (λ i. page_group_row i (page_group k page)) (first_where (names_group k) (naming (book_from page []))) ≡ group_row (book_from page []) k
    row_at k =
        let gone = sym (or-false (option_map_or (λ g. g.3) (page_group k page) false)) in
        elim (first_where (names_group k) (naming (book_from page []))) as (λ o. first_where (names_group k) (naming (book_from page [])) ≡ o → option_map (λ i. page_group_row i (page_group k page)) o ≡ option_map (group_row_at (book_from page []) k) o) [
          | None ↦ λ e. refl
          | Some i ↦ λ e. (λ j. Some (record { named = i; bound = (sym e ∙ binds_first k page.groups) j; order = last_order k (book_from page []); looks = 0; last_look = None; retired = gone j }))
        ] refl
