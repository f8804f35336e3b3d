-- Groups and clients of lawful books, and why no entry stands twice.
use Rattle.std.proofs.Common.{◌≡◌, ℕ, zero, suc, ◌+◌, ◌<◌, ◌≤◌, Bool, true, false, not, cond, List, [], ◌∷◌, ◌++◌, ◌||◌, Option, Some, None, refl, sym, ap, ◌∙◌, subst, arith, length}
use Rattle.std.specs.Option.{option_map, option_map_or, option_or}
use Rattle.std.specs.List.{Contains}
use Rattle.std.specs.Str.{bytes_eq}
use Rattle.std.proofs.lemmas.List.Folds.{list_any-append}
use Rattle.std.proofs.lemmas.Slice.Eq.{bytes_eq-Decides}
use Rattle.rv_book.specs.declared.entry.Entry.{Entry}
use Rattle.rv_book.specs.declared.entry.Entry.TheVariants.{Act, Look, Retire}
use Rattle.rv_book.specs.Entries.{retires, order_after, bound_in, retired_in, last_in, group_of_in}
use Rattle.rv_book.specs.Book.{Book, bound, retired, group_of, last, last_order, opening, page_client, page_group, with_entry, book_from, with_entries}
use Rattle.rv_book.specs.BookWordLaws.{last_order-with_entry, with_entries-more, with_entry-more}
use Rattle.rv_history.specs.Groups.{is_of_other, is_elsewhere}
use Rattle.rv_history.specs.Lawful.{IsLawfulAfter, IsLawful}
use Rattle.rv_history.specs.Properties.{is_of_group, user_for_group, group_for_client, RetiredGroupsRest}
use Rattle.rv_history.specs.LawfulBookLaws.{lawful_front, here, onward, last_append, last_cons, orders_stay, one}

-- where an entry of a list stands
split_in : (entries : List Entry) (entry : Entry) → Contains entries entry → (before : List Entry) × (after : List Entry) × (entries ≡ before ++ entry ∷ after)
split_in [] entry (k, lt, is) = absurd (omega arith)
split_in (x ∷ entries) entry (zero, lt, is) = ([], entries, ap (λ (y : Entry). y ∷ entries) is)
split_in (x ∷ entries) entry (suc k, lt, is) =
    let less : k < length entries = omega arith in
    let rest = split_in entries entry (k, less, is) in
    (x ∷ rest.0, rest.1, ap (λ (b : List Entry). x ∷ b) rest.2)

-- where an entry of a book stands
pub split_at : (book : Book) (entry : Entry) → Contains book.entries entry → (before : Book) × (after : List Entry) × (book ≡ with_entries before (entry ∷ after))
split_at book entry there = let (before, after, is) = split_in book.entries entry there in (book_from book.page before, after, ap (book_from book.page) is)

-- a group that is bound stays so
pub bound_some : (group : List ℕ) (entries more : List Entry) (user : List ℕ) → bound_in group entries ≡ Some user → bound_in group (entries ++ more) ≡ Some user
bound_some group [] more user h = absurd (cc)
bound_some group (Act u other client id call ∷ entries) more user h =
    elim (bytes_eq other group) as (λ b. cond b (Some u) (bound_in group entries) ≡ Some user → cond b (Some u) (bound_in group (entries ++ more)) ≡ Some user) [
      | true ↦ λ is. is
      | false ↦ λ is. bound_some group entries more user is
    ] h
bound_some group (Look u other order base ∷ entries) more user h =
    elim (bytes_eq other group) as (λ b. cond b (Some u) (bound_in group entries) ≡ Some user → cond b (Some u) (bound_in group (entries ++ more)) ≡ Some user) [
      | true ↦ λ is. is
      | false ↦ λ is. bound_some group entries more user is
    ] h
bound_some group (Retire other ∷ entries) more user h = bound_some group entries more user h

-- a group that is not bound yet is bound by what follows
pub bound_none : (group : List ℕ) (entries more : List Entry) → bound_in group entries ≡ None → bound_in group (entries ++ more) ≡ bound_in group more
bound_none group [] more h = refl
bound_none group (Act u other client id call ∷ entries) more h =
    elim (bytes_eq other group) as (λ b. cond b (Some u) (bound_in group entries) ≡ None → cond b (Some u) (bound_in group (entries ++ more)) ≡ bound_in group more) [
      | true ↦ λ is. absurd (cc)
      | false ↦ λ is. bound_none group entries more is
    ] h
bound_none group (Look u other order base ∷ entries) more h =
    elim (bytes_eq other group) as (λ b. cond b (Some u) (bound_in group entries) ≡ None → cond b (Some u) (bound_in group (entries ++ more)) ≡ bound_in group more) [
      | true ↦ λ is. absurd (cc)
      | false ↦ λ is. bound_none group entries more is
    ] h
bound_none group (Retire other ∷ entries) more h = bound_none group entries more h

-- a client that has a group keeps it
pub group_some : (client : List ℕ) (entries more : List Entry) (group : List ℕ) → group_of_in client entries ≡ Some group → group_of_in client (entries ++ more) ≡ Some group
group_some client [] more group h = absurd (cc)
group_some client (Act user g actor id call ∷ entries) more group h =
    elim (bytes_eq actor client) as (λ b. cond b (Some g) (group_of_in client entries) ≡ Some group → cond b (Some g) (group_of_in client (entries ++ more)) ≡ Some group) [
      | true ↦ λ is. is
      | false ↦ λ is. group_some client entries more group is
    ] h
group_some client (Look user g order base ∷ entries) more group h = group_some client entries more group h
group_some client (Retire g ∷ entries) more group h = group_some client entries more group h

-- a client that has no group yet has the one of its first act in what follows
pub group_none : (client : List ℕ) (entries more : List Entry) → group_of_in client entries ≡ None → group_of_in client (entries ++ more) ≡ group_of_in client more
group_none client [] more h = refl
group_none client (Act user g actor id call ∷ entries) more h =
    elim (bytes_eq actor client) as (λ b. cond b (Some g) (group_of_in client entries) ≡ None → cond b (Some g) (group_of_in client (entries ++ more)) ≡ group_of_in client more) [
      | true ↦ λ is. absurd (cc)
      | false ↦ λ is. group_none client entries more is
    ] h
group_none client (Look user g order base ∷ entries) more h = group_none client entries more h
group_none client (Retire g ∷ entries) more h = group_none client entries more h

-- a group is retired by the first part of a book or by the second
pub retired_append : (group : List ℕ) (book : Book) (more : List Entry) → retired group (with_entries book more) ≡ (retired group book || retired_in group more)
retired_append group book more =
    let page = option_map_or (λ g. g.3) (page_group group book.page) false in
    ap (λ (b : Bool). page || b) (list_any-append (retires group) book.entries more) ∙ either page (retired_in group book.entries) (retired_in group more)
  where
    either : (a b c : Bool) → (a || (b || c)) ≡ ((a || b) || c)
    either true b c = refl
    either false b c = refl

-- whom a group is bound to and which group a client is of, by the page or else by the entries, as more entries follow
or_kept : {X : Type 0} (o p q : Option X) (x : X) → (p ≡ Some x → q ≡ Some x) → option_or o p ≡ Some x → option_or o q ≡ Some x
or_kept None p q x later is = later is
or_kept (Some y) p q x later is = is

or_later : {X : Type 0} (o p q r : Option X) → (p ≡ None → q ≡ r) → option_or o p ≡ None → option_or o q ≡ r
or_later None p q r later is = later is
or_later (Some y) p q r later is = absurd (cc)

pub bound_stays : (group user : List ℕ) (book : Book) (more : List Entry) → bound group book ≡ Some user → bound group (with_entries book more) ≡ Some user
bound_stays group user book more is =
    or_kept (option_map (λ g. g.1) (page_group group book.page)) (bound_in group book.entries) (bound_in group (book.entries ++ more)) user (bound_some group book.entries more user) is

pub group_stays : (client group : List ℕ) (book : Book) (more : List Entry) → group_of client book ≡ Some group → group_of client (with_entries book more) ≡ Some group
group_stays client group book more is =
    or_kept (option_map (λ c. c.1) (page_client client book.page)) (group_of_in client book.entries) (group_of_in client (book.entries ++ more)) group (group_some client book.entries more group) is

-- and a group that is retired stays so
pub retired_stays : (group : List ℕ) (book : Book) (more : List Entry) → retired group book ≡ true → retired group (with_entries book more) ≡ true
retired_stays group book more gone = retired_append group book more ∙ ap (λ (b : Bool). b || retired_in group more) gone

-- after its retirement a group is retired
pub retired_since : (group : List ℕ) (before : Book) (after : List Entry) → retired group (with_entries before (Retire group ∷ after)) ≡ true
retired_since group before after =
    let itself : bytes_eq group group ≡ true = (bytes_eq-Decides group group).1 refl in
    let second : retired_in group (Retire group ∷ after) ≡ true = ap (λ (b : Bool). b || retired_in group after) itself in
    retired_append group before (Retire group ∷ after) ∙ ap (λ (b : Bool). retired group before || b) second ∙ either (retired group before)
  where
    either : (b : Bool) → (b || true) ≡ true
    either true = refl
    either false = refl

is_not : (b : Bool) → not b ≡ false → b ≡ true
is_not true h = refl
is_not false h = absurd (cc)

-- a group that is of no other user before, and of this one in what follows, is of this one
pub owner_is : (user group : List ℕ) (before : Book) (rest : List Entry) → is_of_other user group before ≡ false → bound_in group rest ≡ Some user → bound group (with_entries before rest) ≡ Some user
owner_is user group before rest own is =
    elim (bound group before) as (λ o. bound group before ≡ o → option_map_or (λ owner. not (bytes_eq owner user)) o false ≡ false → bound group (with_entries before rest) ≡ Some user) [
      | None ↦ λ none f. or_later (option_map (λ g. g.1) (page_group group before.page)) (bound_in group before.entries) (bound_in group (before.entries ++ rest)) (bound_in group rest) (bound_none group before.entries rest) none ∙ is
      | Some owner ↦ λ some f. or_kept (option_map (λ g. g.1) (page_group group before.page)) (bound_in group before.entries) (bound_in group (before.entries ++ rest)) user (bound_some group before.entries rest user) (some ∙ ap (λ (u : List ℕ). Some u) ((bytes_eq-Decides owner user).0 (is_not (bytes_eq owner user) f)))
    ] refl own

pub home_is : (client group : List ℕ) (before : Book) (rest : List Entry) → is_elsewhere client group before ≡ false → group_of_in client rest ≡ Some group → group_of client (with_entries before rest) ≡ Some group
home_is client group before rest home is =
    elim (group_of client before) as (λ o. group_of client before ≡ o → option_map_or (λ other. not (bytes_eq other group)) o false ≡ false → group_of client (with_entries before rest) ≡ Some group) [
      | None ↦ λ none f. or_later (option_map (λ c. c.1) (page_client client before.page)) (group_of_in client before.entries) (group_of_in client (before.entries ++ rest)) (group_of_in client rest) (group_none client before.entries rest) none ∙ is
      | Some other ↦ λ some f. or_kept (option_map (λ c. c.1) (page_client client before.page)) (group_of_in client before.entries) (group_of_in client (before.entries ++ rest)) group (group_some client before.entries rest group) (some ∙ ap (λ (g : List ℕ). Some g) ((bytes_eq-Decides other group).0 (is_not (bytes_eq other group) f)))
    ] refl home

-- the user of an act or a look, who may use its group, is the group's
named : (before : Book) (rest : List Entry) (u other group user : List ℕ) → is_of_other u other before ≡ false → cond (bytes_eq other group) (Some u) None ≡ Some user
    → (bytes_eq other group ≡ true → bound_in group rest ≡ Some u) → bound group (with_entries before rest) ≡ Some user
named before rest u other group user own h mine =
    elim (bytes_eq other group) as (λ b. bytes_eq other group ≡ b → cond b (Some u) None ≡ Some user → bound group (with_entries before rest) ≡ Some user) [
      | true ↦ λ same is.
          let which : other ≡ group = (bytes_eq-Decides other group).0 same in
          owner_is u group before rest (subst (λ (g : List ℕ). is_of_other u g before ≡ false) which own) (mine same) ∙ is
      | false ↦ λ different is. absurd (cc)
    ] refl h

one_user : (before : Book) (after : List Entry) (entry : Entry) (group user : List ℕ) → IsLawfulAfter before entry → user_for_group group entry ≡ Some user → bound group (with_entries before (entry ∷ after)) ≡ Some user
one_user before after (Act u other client id call) group user next h =
    named before (Act u other client id call ∷ after) u other group user next.0.own h (λ same. ap (λ (b : Bool). cond b (Some u) (bound_in group after)) same)
one_user before after (Look u other order base) group user next h =
    named before (Look u other order base ∷ after) u other group user next.0.own h (λ same. ap (λ (b : Bool). cond b (Some u) (bound_in group after)) same)
one_user before after (Retire other) group user next h = absurd (cc)

pub groups_have_one_user : (book : Book) (group user : List ℕ) (entry : Entry) → IsLawful book → Contains book.entries entry → user_for_group group entry ≡ Some user → bound group book ≡ Some user
groups_have_one_user book group user entry lawful within h =
    let (before, after, is) = split_at book entry within in
    ap (bound group) is ∙ one_user before after entry group user (lawful.each before after entry is) h

one_group : (before : Book) (after : List Entry) (entry : Entry) (client group : List ℕ) → IsLawfulAfter before entry → group_for_client client entry ≡ Some group → group_of client (with_entries before (entry ∷ after)) ≡ Some group
one_group before after (Act user g actor id call) client group next h =
    elim (bytes_eq actor client) as (λ b. bytes_eq actor client ≡ b → cond b (Some g) None ≡ Some group → group_of client (with_entries before (Act user g actor id call ∷ after)) ≡ Some group) [
      | true ↦ λ same is.
          let which : actor ≡ client = (bytes_eq-Decides actor client).0 same in
          home_is client g before (Act user g actor id call ∷ after) (subst (λ (c : List ℕ). is_elsewhere c g before ≡ false) which next.1) (ap (λ (b : Bool). cond b (Some g) (group_of_in client after)) same) ∙ is
      | false ↦ λ different is. absurd (cc)
    ] refl h
one_group before after (Look user g order base) client group next h = absurd (cc)
one_group before after (Retire g) client group next h = absurd (cc)

pub clients_have_one_group : (book : Book) (client group : List ℕ) (entry : Entry) → IsLawful book → Contains book.entries entry → group_for_client client entry ≡ Some group → group_of client book ≡ Some group
clients_have_one_group book client group entry lawful within h =
    let (before, after, is) = split_at book entry within in
    ap (group_of client) is ∙ one_group before after entry client group (lawful.each before after entry is) h

-- a group that is not retired is another than one that is
rests : (other group : List ℕ) (book : Book) → retired other book ≡ false → retired group book ≡ true → bytes_eq other group ≡ false
rests other group book stands gone =
    elim (bytes_eq other group) as (λ b. bytes_eq other group ≡ b → b ≡ false) [
      | true ↦ λ same. (let which : other ≡ group = (bytes_eq-Decides other group).0 same in let both : retired other book ≡ true = ap (λ (g : List ℕ). retired g book) which ∙ gone in cc)
      | false ↦ λ different. refl
    ] refl

unnamed : (book : Book) (entry : Entry) (group : List ℕ) → IsLawfulAfter book entry → retired group book ≡ true → is_of_group group entry ≡ false
unnamed book (Act user other client id call) group next gone = rests other group book next.0.stands gone
unnamed book (Look user other order base) group next gone = rests other group book next.0.stands gone
unnamed book (Retire other) group next gone = rests other group book next.1 gone

-- nothing of a group that is retired follows
rest_after : (book before : Book) (more : List Entry) (group : List ℕ) (entry : Entry) → IsLawful book → retired group before ≡ true → book ≡ with_entries before more → Contains more entry → is_of_group group entry ≡ false
rest_after book before more group entry lawful gone is within =
    let (mid, rest, split) = split_in more entry within in
    let front : Book = with_entries before mid in
    let whole : book ≡ with_entries front (entry ∷ rest) = is ∙ ap (with_entries before) split ∙ sym (with_entries-more before mid (entry ∷ rest)) in
    unnamed front entry group (lawful.each front rest entry whole) (retired_stays group before mid gone)

pub retired_groups_rest : RetiredGroupsRest
retired_groups_rest = record {
  behind = λ book before after group entry lawful is within.
      rest_after book (with_entries before (Retire group ∷ [])) after group entry lawful (retired_since group before []) (is ∙ sym (with_entries-more before (Retire group ∷ []) after)) within;
  paged = λ book group entry lawful gone within. rest_after book (opening book) book.entries group entry lawful gone refl within;
}

-- what may stand after some entries may not stand again after itself
once : (before : Book) (between : List Entry) (entry : Entry) → IsLawful (with_entries before (entry ∷ between)) → IsLawfulAfter before entry → IsLawfulAfter (with_entries before (entry ∷ between)) entry → ⊥
once before between (Act user group client id call) lawful first again =
    let e : Entry = Act user group client id call in
    let itself : one client e ≡ 1 = ap (λ (b : Bool). cond b 1 0) ((bytes_eq-Decides client client).1 refl) in
    let grown : last client (with_entries before (e ∷ between)) ≡ last client before + last_in client (e ∷ between) = last_append client before (e ∷ between) in
    let more : last_in client (e ∷ between) ≡ one client e + last_in client between = last_cons client between e in
    let was : id ≡ last client before + 1 = first.2 in
    let is : id ≡ last client (with_entries before (e ∷ between)) + 1 = again.2 in
    omega arith
once before between (Look user group order base) lawful first again =
    let e : Entry = Look user group order base in
    let push : last_order group (with_entry before e) ≡ order_after group (last_order group before) e = last_order-with_entry group before e in
    let itself : order_after group (last_order group before) e ≡ order = ap (λ (b : Bool). cond b order (last_order group before)) ((bytes_eq-Decides group group).1 refl) in
    let stays : last_order group (with_entry before e) ≤ last_order group (with_entries (with_entry before e) between) = orders_stay group (with_entry before e) between (onward before between e lawful) in
    let joined : last_order group (with_entries (with_entry before e) between) ≡ last_order group (with_entries before (e ∷ between)) = ap (last_order group) (with_entry-more before e between) in
    let above : last_order group (with_entries before (e ∷ between)) < order = again.1 in
    omega arith
once before between (Retire group) lawful first again =
    let gone : retired group (with_entries before (Retire group ∷ between)) ≡ true = retired_since group before between in
    let stands : retired group (with_entries before (Retire group ∷ between)) ≡ false = again.1 in
    let both : true ≡ false = sym gone ∙ stands in
    cc

pub entries_stand_once : (book before : Book) (between after : List Entry) (entry : Entry) → IsLawful book → book ≡ with_entries before (entry ∷ (between ++ entry ∷ after)) → ⊥
entries_stand_once book before between after entry lawful is =
    let whole : book ≡ with_entries (with_entries before (entry ∷ between)) (entry ∷ after) = is ∙ sym (with_entries-more before (entry ∷ between) (entry ∷ after)) in
    let front : IsLawful (with_entries before (entry ∷ between)) = lawful_front (with_entries before (entry ∷ between)) (entry ∷ after) (subst (λ (b : Book). IsLawful b) whole lawful) in
    once before between entry front (here before between entry front) (lawful.each (with_entries before (entry ∷ between)) after entry whole)
