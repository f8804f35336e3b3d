use Rattle.std.proofs.Common.{◌≡◌, ◌∙◌, ap, subst, sym, ℕ, List}
use Rattle.std.specs.List.{filter_map}
use Rattle.rv_base.specs.Sorted.{InOrder, sorted_by}
use Rattle.rv_base.specs.PositionLaws.{in_order-sorted}
use Rattle.rv_book.specs.Book.{Book, client_in, clients_named, ids}
use Rattle.rv_plain.proofs.Names.{name, id_keyed, if_ok_is, told-sorted}
use Rattle.rv_plain.proofs.registers.ids.Goals as goal

-- the clients of the group, told of names in order
told : (group : List ℕ) (book : Book) (names : List (List ℕ)) → names ≡ sorted_by name (clients_named book) → filter_map (client_in group book) names ≡ ids group book
told group book names is = ap (filter_map (client_in group book)) is ∙ told-sorted (λ (pair : List ℕ × ℕ). pair.0) (client_in group book) (id_keyed group book) (clients_named book)

pub returns-clause-ids : goal.returns-clause-ids
returns-clause-ids c =
    if_ok_is c.clients_in.result (λ v. v ≡ ids c.args.group.now c.args.book.now) (filter_map (client_in c.args.group.now c.args.book.now) c.deref.result.now) c.clients_in.ensures
    (told c.args.group.now c.args.book.now c.deref.result.now (c.deref.ensures.value ∙ c.in_ok-names.ensures))

pub returns-clause-order : goal.returns-clause-order
returns-clause-order c =
    let group = c.args.group.now in
    let book = c.args.book.now in
    let same = told group book c.deref.result.now (c.deref.ensures.value ∙ c.in_ok-names.ensures) in
    if_ok_is c.clients_in.result (λ v. InOrder (λ (pair : List ℕ × ℕ). pair.0) v) (filter_map (client_in group book) c.deref.result.now) c.clients_in.ensures
    (subst (InOrder (λ (pair : List ℕ × ℕ). pair.0)) (sym same) (in_order-sorted (λ (pair : List ℕ × ℕ). pair.0) (filter_map (client_in group book) (clients_named book))))
