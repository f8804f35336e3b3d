use Rattle.std.proofs.Common.{◌<◌, length, refl, sym, rules}
use Rattle.rv_doubles.specs.MemoryStores.{kept_store}
use Rattle.rv_doubles.proofs.MemoryStores.{stands, none_there, is_there, written_over}
use Rattle.rv_doubles.proofs.memory_place.MemoryPlace.put_back.Goals as goal

pub index_mut-requires : goal.index_mut-requires
index_mut-requires c =
    let there = stands c.args.name.now c.args.self.now.stores.items c.in-Some.at (sym (rw c.deref.ensures.value at c.in-Some.ensures)) in
    let in_range : c.in-Some.at < length c.args.self.now.stores.items = there.in_range in
    search rules

pub unreachable-requires : goal.unreachable-requires
unreachable-requires c =
    is_there c.args.name.now c.args.self.now.stores.items c.requires (none_there c.args.name.now c.args.self.now.stores.items (sym (rw c.deref.ensures.value at c.in-None.ensures)))

pub returns-clause-stores : goal.returns-clause-stores
returns-clause-stores c =
    let there = stands c.args.name.now c.args.self.now.stores.items c.in-Some.at (sym (rw c.deref.ensures.value at c.in-Some.ensures)) in
    written_over c.args.name.now c.args.self.now.stores.items c.args.self.now.stores.items c.in-Some.at c.index_mut.result.now c.take_back.new.self
    (kept_store c.args.name.now c.args.shelves c.args.generation) there c.index_mut.ensures.value c.take_back.ensures refl
