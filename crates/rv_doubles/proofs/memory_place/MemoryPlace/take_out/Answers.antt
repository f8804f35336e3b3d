use Rattle.std.proofs.Common.{refl, ap, ◌∙◌}
use Rattle.rv_doubles.specs.declared.store.Store.{Store}
use Rattle.rv_doubles.specs.MemoryStores.{out_store}
use Rattle.rv_doubles.proofs.MemoryStores.{written_over}
use Rattle.rv_doubles.proofs.memory_place.MemoryPlace.take_out.Goals as goal

pub returns-clause-held : goal.returns-clause-held
returns-clause-held c =
    let there = c.index_mut.ensures.value ∙ c.in_ok-at.ensures.ok.found c.index_mut.result.now in
    (c.give_out.ensures.shelves ∙ ap (λ (store : Store). store.shelves) there, c.give_out.ensures.generation ∙ ap (λ (store : Store). store.generation) there)

pub returns-clause-ok : goal.returns-clause-ok
returns-clause-ok c =
    written_over c.args.name.now c.args.self.now.stores.items c.find_or_add.new.stores.items c.in_ok-at.at c.index_mut.result.now c.give_out.new.self
    (out_store c.args.name.now) c.in_ok-at.ensures.ok c.index_mut.ensures.value c.give_out.ensures.after refl
