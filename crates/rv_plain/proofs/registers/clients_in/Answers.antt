use Rattle.std.proofs.Common.{[]}
use Rattle.rv_book.specs.Book.{client_in}
use Rattle.rv_plain.proofs.Names.{told_next}
use Rattle.rv_plain.proofs.registers.clients_in.Goals as goal

pub loop-name-preserved : goal.loop-name-preserved
loop-name-preserved c =
    told_next (client_in c.args.group.now c.args.book.now) [] c.args.names.now c.loop-name.name-index c.name-item.result c.loop-name-test.true c.name-item.is c.loop-name.invariant c.in_ok-client_in.ensures c.in_ok-add.ensures
