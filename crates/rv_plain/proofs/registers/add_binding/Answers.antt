use Rattle.rv_book.specs.Registers.{binding_group}
use Rattle.rv_plain.proofs.Names.{told_next}
use Rattle.rv_plain.proofs.registers.add_binding.Goals as goal

pub loop-entry-preserved : goal.loop-entry-preserved
loop-entry-preserved c =
    told_next binding_group c.args.names.now c.args.entries.now c.loop-entry.entry-index c.entry-item.result c.loop-entry-test.true c.entry-item.is c.loop-entry.invariant c.in_ok-binding_group.ensures c.in_ok-add.ensures
