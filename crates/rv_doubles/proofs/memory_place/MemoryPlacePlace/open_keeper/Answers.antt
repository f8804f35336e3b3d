use Rattle.std.proofs.Common.{◌||◌, true, not, ap}
use Rattle.rv_doubles.specs.InMemory.{fails_next}
use Rattle.rv_doubles.specs.declared.memory_place.MemoryPlace.{MemoryPlace}
use Rattle.rv_doubles.proofs.MemoryStores.{Opened, OpensSo, opened, others_stay, so_refused, so_steady}
use Rattle.rv_doubles.proofs.memory_place.MemoryPlacePlace.open_keeper.Goals as goal

-- what is so of the stores
is_opened : (c : goal.After-open_store) → Opened c.args.name.now c.args.self.now.stores.items c.open_store.new.self.stores.items c.open_store.result
is_opened c =
    opened c.args.name.now c.args.self.now.stores.items c.open_store.new.self.stores.items c.open_store.result c.args.self.now.schedules.items c.open_store.new.self.schedules.items
    c.open_store.ensures.gives c.open_store.ensures.ok c.open_store.ensures.err

pub returns-clause-kept : goal.returns-clause-kept
returns-clause-kept c = (is_opened c).kept

pub returns-clause-out : goal.returns-clause-out
returns-clause-out c = (is_opened c).out

pub returns-clause-crash : goal.returns-clause-crash
returns-clause-crash c = (is_opened c).left

pub returns-clause-others : goal.returns-clause-others
returns-clause-others c = others_stay c.args.name.now c.args.self.now c.open_store.new.self (is_opened c).others (ap (λ (place : MemoryPlace). place.files) c.open_store.ensures.after)

pub returns-clause-made : goal.returns-clause-made
returns-clause-made c = (is_opened c).made

-- it opens so
so : (c : goal.After-open_store) → OpensSo c.args.name.now c.args.self.now c.open_store.new.self (not true || fails_next c.args.self.now.calls c.args.self.now.failing.items) c.open_store.result
so c = let e = c.open_store.ensures in record { failed = e.fails; gives = e.gives; fresh = e.fresh; ok = e.ok; err = e.err; after = e.after }

pub returns-clause-refused : goal.returns-clause-refused
returns-clause-refused c = so_refused _ _ _ _ _ (so c)

pub returns-clause-steady : goal.returns-clause-steady
returns-clause-steady c = so_steady _ _ _ _ (Unit {0}) _ (so c) (λ there no. no)
