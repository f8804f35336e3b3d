-- Laws of what a page names, as acts and as looks that come before the entries.
use Rattle.std.proofs.Common.{◌≡◌, ℕ, suc, ◌+◌, ◌≤◌, ◌||◌, Bool, true, false, cond, List, [], ◌∷◌, ◌++◌, map, Option, Some, None, refl, sym, ap, ◌∙◌, arith, append_assoc}
use Rattle.std.specs.List.{fold, list_any, AllByRecursion}
use Rattle.std.specs.Option.{option_map, option_map_or, option_or}
use Rattle.std.specs.Str.{bytes_eq}
use Rattle.rv_base.specs.Sorted.{find_by}
use Rattle.rv_book.specs.declared.entry.Entry.{Entry}
use Rattle.rv_book.specs.declared.page.Page.{Page}
use Rattle.rv_book.specs.Entries.{bound_in, group_of_in, last_in, retired_in, is_act_of}
use Rattle.rv_book.specs.Book.{Book, bound, group_of, last, page_client, page_group, with_entry}
use Rattle.rv_book.specs.Indexes.{acting, first_where, naming, names_group, page_act, page_look, LastsFit}
use Rattle.rv_book.specs.BookWordLaws.{bytes_eq_back}
use Rattle.rv_book.proofs.BookLaws.{none_counted, none_later}

abbrev Client : Type 0
Client = List ℕ × List ℕ × ℕ

abbrev Group : Type 0
Group = List ℕ × List ℕ × ℕ × Bool

pub acting-with_entry : (book : Book) (e : Entry) → acting (with_entry book e) ≡ acting book ++ e ∷ []
acting-with_entry book e = sym (append_assoc (map page_act book.page.clients) book.entries (e ∷ []))

pub naming-with_entry : (book : Book) (e : Entry) → naming (with_entry book e) ≡ naming book ++ e ∷ []
naming-with_entry book e = sym (append_assoc (map page_look book.page.groups) book.entries (e ∷ []))

-- the group of a client, by what names it
pub group_of-acting : (k : List ℕ) (book : Book) → group_of k book ≡ group_of_in k (acting book)
group_of-acting k book = go book.page.clients
  where
    go : (cs : List Client) → option_or (option_map (λ c. c.1) (find_by (λ (c : Client). c.0) k cs)) (group_of_in k book.entries) ≡ group_of_in k (map page_act cs ++ book.entries)
    go [] = refl
    go (c ∷ cs) =
        ap (λ (b : Bool). option_or (option_map (λ c. c.1) (cond b (Some c) (find_by (λ (c : Client). c.0) k cs))) (group_of_in k book.entries)) (bytes_eq_back k c.0)
        ∙ (elim (bytes_eq c.0 k) as (λ b. option_or (option_map (λ c. c.1) (cond b (Some c) (find_by (λ (c : Client). c.0) k cs))) (group_of_in k book.entries) ≡ cond b (Some c.1) (group_of_in k (map page_act cs ++ book.entries))) [
          | true ↦ refl
          | false ↦ go cs
        ])

-- the user of a group, by what names it
pub bound-naming : (k : List ℕ) (book : Book) → bound k book ≡ bound_in k (naming book)
bound-naming k book = go book.page.groups
  where
    go : (gs : List Group) → option_or (option_map (λ g. g.1) (find_by (λ (g : Group). g.0) k gs)) (bound_in k book.entries) ≡ bound_in k (map page_look gs ++ book.entries)
    go [] = refl
    go (g ∷ gs) =
        ap (λ (b : Bool). option_or (option_map (λ g. g.1) (cond b (Some g) (find_by (λ (g : Group). g.0) k gs))) (bound_in k book.entries)) (bytes_eq_back k g.0)
        ∙ (elim (bytes_eq g.0 k) as (λ b. option_or (option_map (λ g. g.1) (cond b (Some g) (find_by (λ (g : Group). g.0) k gs))) (bound_in k book.entries) ≡ cond b (Some g.1) (bound_in k (map page_look gs ++ book.entries))) [
          | true ↦ refl
          | false ↦ go gs
        ])

-- no look of the page retires a group
pub retired-naming : (k : List ℕ) (book : Book) → retired_in k (naming book) ≡ retired_in k book.entries
retired-naming k book = go book.page.groups
  where
    go : (gs : List Group) → retired_in k (map page_look gs ++ book.entries) ≡ retired_in k book.entries
    go [] = refl
    go (g ∷ gs) = go gs

-- a client that nothing names has run nothing
pub none_acted : (k : List ℕ) (book : Book) → first_where (is_act_of k) (acting book) ≡ None → last k book ≡ 0
none_acted k book = go book.page.clients
  where
    go : (cs : List Client) → first_where (is_act_of k) (map page_act cs ++ book.entries) ≡ None → option_map_or (λ c. c.2) (find_by (λ (c : Client). c.0) k cs) 0 + last_in k book.entries ≡ 0
    go [] none = omega (arith, none_counted (is_act_of k) book.entries none)
    go (c ∷ cs) none =
        ap (λ (b : Bool). option_map_or (λ c. c.2) (cond b (Some c) (find_by (λ (c : Client). c.0) k cs)) 0 + last_in k book.entries) (bytes_eq_back k c.0)
        ∙ (elim (bytes_eq c.0 k) as (λ b. cond b (Some 0) (option_map suc (first_where (is_act_of k) (map page_act cs ++ book.entries))) ≡ None → option_map_or (λ c. c.2) (cond b (Some c) (find_by (λ (c : Client). c.0) k cs)) 0 + last_in k book.entries ≡ 0) [
          | true ↦ λ f. absurd (cc)
          | false ↦ λ f. go cs (none_later (first_where (is_act_of k) (map page_act cs ++ book.entries)) f)
        ] none)

-- no client has a last mutation id on the page above its place
pub page_last : (k : List ℕ) (page : Page) → LastsFit page → option_map_or (λ c. c.2) (page_client k page) 0 ≤ page.at
page_last k page = go page.clients
  where
    go : (cs : List Client) → AllByRecursion (λ c. c.2 ≤ page.at) cs → option_map_or (λ c. c.2) (find_by (λ (c : Client). c.0) k cs) 0 ≤ page.at
    go [] all = omega arith
    go (c ∷ cs) all =
        elim (bytes_eq k c.0) as (λ b. option_map_or (λ c. c.2) (cond b (Some c) (find_by (λ (c : Client). c.0) k cs)) 0 ≤ page.at) [
          | true ↦ all.0
          | false ↦ go cs all.1
        ]

-- a group that no look of the page names is not on the page, and what holds of all that names groups holds of the entries
pub none_on_page : (k : List ℕ) (book : Book) → AllByRecursion (λ e. names_group k e ≡ false) (naming book) → (page_group k book.page ≡ None) × AllByRecursion (λ e. names_group k e ≡ false) book.entries
none_on_page k book = go book.page.groups
  where
    go : (gs : List Group) → AllByRecursion (λ e. names_group k e ≡ false) (map page_look gs ++ book.entries) → (find_by (λ (g : Group). g.0) k gs ≡ None) × AllByRecursion (λ e. names_group k e ≡ false) book.entries
    go [] all = (refl, all)
    go (g ∷ gs) all =
        let rest = go gs all.1 in
        (ap (λ (b : Bool). cond b (Some g) (find_by (λ (g : Group). g.0) k gs)) (bytes_eq_back k g.0 ∙ all.0) ∙ rest.0, rest.1)
