use Rattle.std.proofs.Common.{[], refl, sym, subst}
use Rattle.rv_keeper.specs.Keeping.{holding}
use Rattle.sqlite.specs.Held.{Held, state}
use Rattle.sqlite.specs.Steps.{over_memory}
use Rattle.rv_sqlite.specs.Table.{IsKnown}
use Rattle.rv_sqlite.specs.Telling.{Holds, Tells}
use Rattle.rv_sqlite.proofs.InMemory.{memory_is_clean, new_holds, new_tells}
use Rattle.rv_sqlite.proofs.in_memory.keeper_in_memory.Goals as goal

pub returns-in-Ok-clause-tells : goal.returns-in-Ok-clause-tells
returns-in-Ok-clause-tells c =
    let (opens, live, none) = c.in-Ok.ensures.empty in
    (c.adopt.ensures.known.1 (subst IsKnown (sym none) (record { by = refl })), subst (λ (h : Held _). Tells (state over_memory h)) (sym c.adopt.ensures.connection) (new_tells (state over_memory c.in-Ok.connection) (memory_is_clean c.in-Ok.connection) opens))

pub returns-in-Ok-clause-holds : goal.returns-in-Ok-clause-holds
returns-in-Ok-clause-holds c =
    let (opens, live, none) = c.in-Ok.ensures.empty in
    subst (λ (h : Held _). Holds (state over_memory h) (holding [] 0)) (sym c.adopt.ensures.connection) (new_holds (state over_memory c.in-Ok.connection) opens live none)
