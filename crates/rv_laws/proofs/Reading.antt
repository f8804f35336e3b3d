-- What is entered in a lawful book is read there.
use Rattle.std.proofs.Common.{◌≡◌, ℕ, ◌≤◌, inl, inr, Bool, true, false, cond, List, [], ◌∷◌, Option, Some, None, sym, ap, ◌∙◌, subst, arith}
use Rattle.std.specs.List.{list_any, AllByRecursion, Contains}
use Rattle.std.specs.Option.{is_some, option_map_or}
use Rattle.std.specs.Str.{bytes_eq}
use Rattle.std.proofs.lemmas.List.Elements.{Contains-append_right}
use Rattle.std.proofs.lemmas.Option.{same_Some}
use Rattle.rv_base.specs.PositionLaws.{equals}
use Rattle.rv_base.specs.Sorted.{find_by}
use Rattle.rv_book.specs.Book.{Book, belongs, client_in, clients_named, group_of, ids, last, size, since, up_to, with_entries, Extends}
use Rattle.rv_book.specs.BookWordLaws.{up_to-all, up_to-since, up_to-with_entries}
use Rattle.rv_book.specs.RegisterLaws.{client_is_named, find-info}
use Rattle.rv_history.specs.Lawful.{IsLawful}
use Rattle.rv_history.specs.LawfulBookLaws.{lawful_more}
use Rattle.rv_history.specs.Properties.{HasRun, IsEntered}
use Rattle.rv_history.specs.Served.{Doubt, MayStand, Next, Settles, with_doubt}
use Rattle.rv_history.specs.SoundClosingLaws.{closed_books_go_on}
use Rattle.rv_history.specs.SuccessionLaws.{entered_ran}
use Rattle.rv_turns.specs.Asks.{Sender}
use Rattle.rv_turns.specs.declared.mutation.Mutation.{Mutation}
use Rattle.rv_wire.specs.declared.push.Push as pushes
use Rattle.rv_laws.specs.Reads.{AllRead, IsRead}
use Rattle.rv_laws.proofs.Turns.{AllStand}

-- ---- The last mutation ids of a group have each of its clients.

-- what is found is there
found_there : {X : Type 0} (key : X → List ℕ) (k : List ℕ) (xs : List X) (x : X) → find_by key k xs ≡ Some x → Contains xs x
found_there key k [] x is = absurd (cc)
found_there key k (y ∷ ys) x is = by (bytes_eq k (key y)) is (found_there key k ys x)
  where
    by : (b : Bool) → cond b (Some y) (find_by key k ys) ≡ Some x → (find_by key k ys ≡ Some x → Contains ys x) → Contains (y ∷ ys) x
    by true here rest = (0, omega arith, same_Some y x here)
    by false here rest = Contains-append_right (y ∷ []) ys x (rest here)

keyed : (group : List ℕ) (book : Book) (client : List ℕ) (pair : List ℕ × ℕ) → client_in group book client ≡ Some pair → pair.0 ≡ client
keyed group book client pair is = by (belongs client group book) is
  where
    by : (b : Bool) → cond b (Some (client, last client book)) None ≡ Some pair → pair.0 ≡ client
    by true told = sym (ap (λ (p : List ℕ × ℕ). p.0) (same_Some (client, last client book) pair told))
    by false told = absurd (cc)

id_there : (client group : List ℕ) (book : Book) → group_of client book ≡ Some group → Contains (ids group book) (client, last client book)
id_there client group book home =
    let named : list_any (λ name. bytes_eq name client) (clients_named book) ≡ true = client_is_named client book ∙ ap (λ (o : Option (List ℕ)). is_some o) home in
    let mine : belongs client group book ≡ true = ap (λ (o : Option (List ℕ)). option_map_or (λ other. bytes_eq other group) o false) home ∙ equals group in
    found_there (λ (pair : List ℕ × ℕ). pair.0) client (ids group book) (client, last client book)
    (find-info (λ (pair : List ℕ × ℕ). pair.0) (client_in group book) client (clients_named book) (keyed group book)
    ∙ (λ i. cond (named i) (cond (mine i) (Some (client, last client book)) None) None))

entered_read : (from : Sender) (m : Mutation) (book : Book) → IsLawful book → IsEntered from book m → IsRead from book m
entered_read from m book lawful entered =
    let ran : HasRun from book m = entered_ran from m book lawful entered in
    record { entered = entered; last = last m.client book; there = id_there m.client from.group book ran.home; reached = ran.id }

pub all_read : (user : List ℕ) (push : pushes.Push) (book : Book) → IsLawful book → AllStand user push book → AllRead user push book
all_read user push book lawful all = each push.mutations all
  where
    from : Sender
    from = record { user = user; group = push.group }

    each : (ms : List Mutation) → AllByRecursion (λ m. 1 ≤ m.id → IsEntered (record { user = user; group = push.group }) book m) ms → AllByRecursion (λ m. 1 ≤ m.id → IsRead (record { user = user; group = push.group }) book m) ms
    each [] all = tt
    each (m ∷ ms) (one, all) = (λ first. entered_read from m book lawful (one first), each ms all)

-- ---- A settled book is lawful.

lawful_with : (book : Book) (limit : ℕ) (doubt : Doubt) → IsLawful book → MayStand book limit doubt → IsLawful (with_doubt book doubt)
lawful_with book limit None lawful next = lawful
lawful_with book limit (Some (Next.entry entry)) lawful next = lawful_more book entry lawful next.0
lawful_with book limit (Some (Next.closed closed)) lawful (closes, below) = subst IsLawful (sym closes.is) (closed_books_go_on book closes.page lawful closes.sums).lawful

pub lawful_settled : (book settled : Book) (limit : ℕ) (doubt : Doubt) → IsLawful book → MayStand book limit doubt → Settles book doubt settled → IsLawful settled
lawful_settled book settled limit doubt lawful next (inl same) = subst IsLawful (sym same) lawful
lawful_settled book settled limit doubt lawful next (inr is) = subst IsLawful (sym is) (lawful_with book limit doubt lawful next)

-- ---- Of two fronts of a book, one goes on from the one that is not longer.

pub front_of : (book seen point : Book) → Extends book seen → Extends book point → size seen ≤ size point → Extends point seen
front_of book seen point (more, is) (rest, at) le =
    let one : up_to (size seen) book ≡ seen = ap (up_to (size seen)) is ∙ up_to-with_entries (size seen) seen more (omega arith) ∙ up_to-all (size seen) seen (omega arith) in
    let two : up_to (size seen) book ≡ up_to (size seen) point = ap (up_to (size seen)) at ∙ up_to-with_entries (size seen) point rest le in
    (since (size seen) point, sym (up_to-since (size seen) point) ∙ ap (λ (b : Book). with_entries b (since (size seen) point)) (sym two ∙ one))
