-- A look adds no client and changes no last mutation id.
use Rattle.std.proofs.Common.{◌≡◌, ℕ, cond, false, List, [], ◌∷◌, Option, Some, None, refl, ap, ◌∙◌, arith, append-nil, ◌++◌}
use Rattle.std.specs.List.{cons_option, filter_map}
use Rattle.std.specs.Option.{option_map_or, option_or}
use Rattle.std.specs.Str.{bytes_eq}
use Rattle.rv_base.specs.Sorted.{sorted_by}
use Rattle.rv_book.specs.declared.entry.Entry.{Entry}
use Rattle.rv_book.specs.declared.entry.Entry.TheVariants.{Look}
use Rattle.rv_book.specs.Book.{Book, client_in, clients_named, group_of, ids, last, with_entry}
use Rattle.rv_book.specs.BookWordLaws.{clients_named-with_entry, last-with_entry}
use Rattle.rv_book.specs.RegisterLaws.{group_of-push}

or_none : {X : Type 0} (o : Option X) → option_or o None ≡ o
or_none None = refl
or_none (Some x) = refl

group_of_look : (client : List ℕ) (book : Book) (user group : List ℕ) (order : ℕ) (base : Option ℕ) → group_of client (with_entry book (Look user group order base)) ≡ group_of client book
group_of_look client book user group order base = group_of-push client book (Look user group order base) ∙ or_none (group_of client book)

last_look : (client : List ℕ) (book : Book) (user group : List ℕ) (order : ℕ) (base : Option ℕ) → last client (with_entry book (Look user group order base)) ≡ last client book
last_look client book user group order base = last-with_entry client book (Look user group order base) ∙ omega arith

client_in_look : (group : List ℕ) (book : Book) (user other : List ℕ) (order : ℕ) (base : Option ℕ) (client : List ℕ) → client_in group (with_entry book (Look user other order base)) client ≡ client_in group book client
client_in_look group book user other order base client =
    (λ i. cond (option_map_or (λ (home : List ℕ). bytes_eq home group) (group_of_look client book user other order base i) false) (Some (client, last_look client book user other order base i)) None)

filter_map-same : {X Y : Type 0} (f g : X → Option Y) (xs : List X) → ((x : X) → f x ≡ g x) → filter_map f xs ≡ filter_map g xs
filter_map-same f g [] same = refl
filter_map-same f g (x ∷ xs) same = (λ i. cons_option (same x i) (filter_map-same f g xs same i))

pub ids_look : (group : List ℕ) (book : Book) (user other : List ℕ) (order : ℕ) (base : Option ℕ) → ids group (with_entry book (Look user other order base)) ≡ ids group book
ids_look group book user other order base =
    let e : Entry = Look user other order base in
    ap (sorted_by (λ (pair : List ℕ × ℕ). pair.0))
    (ap (filter_map (client_in group (with_entry book e))) (clients_named-with_entry book e ∙ append-nil (clients_named book))
    ∙ filter_map-same (client_in group (with_entry book e)) (client_in group book) (clients_named book) (client_in_look group book user other order base))
