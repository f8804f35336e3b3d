use Rattle.std.proofs.Common.{Some, ap, ◌∙◌}
use Rattle.rv_doubles.specs.declared.memory_place.MemoryPlace.{MemoryPlace}
use Rattle.rv_doubles.specs.declared.store.Store.{Store}
use Rattle.rv_keeper.specs.Keeping.{holding}
use Rattle.rv_doubles.proofs.MemoryStores.{Closed, closed, others_stay}
use Rattle.rv_doubles.proofs.memory_place.MemoryPlacePlace.close_keeper.Goals as goal

-- what is so of the stores
is_closed : (c : goal.After-drop-kept) → Closed c.args.name.now c.args.self.now.stores.items c.put_back.new.self.stores.items (holding c.args.kept.shelves c.args.kept.generation)
is_closed c =
    let same = ap (λ (place : MemoryPlace). place.stores.items) c.count_returned.ensures.after in
    closed c.args.name.now c.args.self.now.stores.items c.put_back.new.self.stores.items (holding c.args.kept.shelves c.args.kept.generation) (rw same at c.put_back.ensures.stores)

pub returns-clause-kept : goal.returns-clause-kept
returns-clause-kept c = (is_closed c).kept

pub returns-clause-crash : goal.returns-clause-crash
returns-clause-crash c left h = h ∙ ap (λ (store : Store). Some (holding store.shelves store.generation)) (is_closed c).found

pub returns-clause-others : goal.returns-clause-others
returns-clause-others c =
    others_stay c.args.name.now c.args.self.now c.put_back.new.self (is_closed c).others (ap (λ (place : MemoryPlace). place.files) (c.put_back.ensures.rest) ∙ ap (λ (place : MemoryPlace). place.files) c.count_returned.ensures.after)
