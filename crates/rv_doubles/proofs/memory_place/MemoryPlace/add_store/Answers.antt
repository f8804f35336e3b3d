use Rattle.std.proofs.Common.{refl}
use Rattle.rv_doubles.specs.MemoryStores.{kept_store}
use Rattle.rv_doubles.proofs.MemoryStores.{written_over}
use Rattle.rv_doubles.proofs.memory_place.MemoryPlace.add_store.Goals as goal

pub returns-clause-ok : goal.returns-clause-ok
returns-clause-ok c =
    written_over c.args.name.now c.args.self.now.stores.items c.find_or_add.new.stores.items c.in_ok-at.at c.index_mut.result.now c.take_back.new.self
    (kept_store c.args.name.now c.args.shelves c.args.generation) c.in_ok-at.ensures.ok c.index_mut.ensures.value c.take_back.ensures refl
