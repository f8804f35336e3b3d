use Rattle.std.proofs.Common.{◌≡◌, length, sym, ◌∙◌, rules}
use Rattle.rv_doubles.proofs.MemoryStores.{stands, stands_added, none_there}
use Rattle.rv_doubles.proofs.memory_place.find_or_add.Goals as goal

pub returns-in-Some-clause-ok : goal.returns-in-Some-clause-ok
returns-in-Some-clause-ok c = stands c.args.name.now c.args.stores.now.items c.in-Some.at (sym (rw c.deref.ensures.value at c.in-Some.ensures))

pub returns-clause-ok : goal.returns-clause-ok
returns-clause-ok c =
    let last : c.len-at.result ≡ length c.args.stores.now.items = search rules in
    let none = none_there c.args.name.now c.args.stores.now.items (sym (rw c.deref.ensures.value at c.in_default.ensures)) in
    let named : c.from_vec.result ≡ c.args.name.now = c.from_vec.ensures ∙ c.in_ok-to_vec.ensures.items_if_clones_equal (λ x y e. e) ∙ c.as_bytes.ensures.value in
    let added = rw (named, c.new.ensures) at c.in_ok-push.ensures.items in
    rw added (stands_added c.args.name.now c.args.stores.now.items c.len-at.result last none)
