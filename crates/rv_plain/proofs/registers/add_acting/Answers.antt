use Rattle.rv_book.specs.Book.{acting_client}
use Rattle.rv_plain.proofs.Names.{told_next}
use Rattle.rv_plain.proofs.registers.add_acting.Goals as goal

pub loop-entry-preserved : goal.loop-entry-preserved
loop-entry-preserved c =
    told_next acting_client c.args.names.now c.args.entries.now c.loop-entry.entry-index c.entry-item.result c.loop-entry-test.true c.entry-item.is c.loop-entry.invariant c.in_ok-acting_client.ensures c.in_ok-add.ensures
