use Rattle.std.proofs.Common.{◌≡◌, ◌∙◌, ap, ℕ, List}
use Rattle.std.specs.List.{filter_map}
use Rattle.rv_book.specs.Book.{clients_named}
use Rattle.rv_book.specs.Registers.{client_named, clients_of}
use Rattle.rv_plain.proofs.Names.{client_keyed, if_ok_is, told-sorted}
use Rattle.rv_plain.proofs.registers.clients_of.Goals as goal

pub returns-clause-clients : goal.returns-clause-clients
returns-clause-clients c =
    let of : List ℕ → _ = λ client. client_named client c.args.book.now in
    let told = ap (filter_map of) (c.deref.ensures.value ∙ c.in_ok-names.ensures) ∙ told-sorted (λ (t : List ℕ × List ℕ × ℕ). t.0) of (client_keyed c.args.book.now) (clients_named c.args.book.now) in
    if_ok_is c.told_clients.result (λ v. v ≡ clients_of c.args.book.now) (filter_map of c.deref.result.now) c.told_clients.ensures.clients told
