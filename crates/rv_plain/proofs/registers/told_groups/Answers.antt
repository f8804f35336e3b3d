use Rattle.std.proofs.Common.{[]}
use Rattle.rv_book.specs.Registers.{group_named}
use Rattle.rv_plain.proofs.Names.{told_next}
use Rattle.rv_plain.proofs.registers.told_groups.Goals as goal

pub loop-name-preserved : goal.loop-name-preserved
loop-name-preserved c =
    told_next (λ group. group_named group c.args.book.now) [] c.args.names.now c.loop-name.name-index c.name-item.result c.loop-name-test.true c.name-item.is c.loop-name.invariant c.in_ok-group_named.ensures c.in_ok-add.ensures
