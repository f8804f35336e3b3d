use Rattle.std.proofs.Common.{[], ◌≤◌}
use Rattle.rv_book.specs.Book.{size}
use Rattle.rv_book.specs.Registers.{client_named}
use Rattle.rv_plain.proofs.Names.{told_next, all_next}
use Rattle.rv_plain.proofs.registers.told_clients.Goals as goal

pub loop-name-preserved : goal.loop-name-preserved
loop-name-preserved c = (
  told_next (λ client. client_named client c.args.book.now) [] c.args.names.now c.loop-name.name-index c.name-item.result c.loop-name-test.true c.name-item.is c.loop-name.invariant.0 c.in_ok-client_named.ensures.told c.in_ok-add.ensures,
  all_next (λ client. client.2 ≤ size c.args.book.now) c.loop-name.clients c.in_ok-client_named.field-0 c.loop-name.invariant.1 c.in_ok-client_named.ensures.fits c.in_ok-add.ensures,
)
