use Rattle.std.proofs.Common.{rules, ◌≡◌, true, sym, ◌∙◌, inl}
use Rattle.rv_doubles.specs.InMemory.{fails_next}
use Rattle.rv_doubles.specs.InMemoryLaws.{not_next}
use Rattle.rv_doubles.proofs.in_memory.MemorySinkSink.write.Goals as goal

pub returns-then-contains-clause-steady : goal.returns-then-contains-clause-steady
returns-then-contains-clause-steady c = λ h.
    let next : fails_next c.args.self.now.calls c.args.self.now.failing.items ≡ true = search rules in
    let none = not_next c.args.self.now.calls c.args.self.now.failing.items h in
    absurd (let e = sym next ∙ none in cc)

pub returns-then-contains-clause-only : goal.returns-then-contains-clause-only
returns-then-contains-clause-only c = λ _.
    let next : fails_next c.args.self.now.calls c.args.self.now.failing.items ≡ true = search rules in
    inl next
