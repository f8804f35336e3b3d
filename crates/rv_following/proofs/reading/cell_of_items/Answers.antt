use Rattle.rv_following.proofs.ThreeItems.{other_items}
use Rattle.rv_following.proofs.reading.cell_of_items.Goals as goal

pub returns-then-items-ne3 : goal.returns-then-items-ne3
returns-then-items-ne3 c = other_items c.args.items.now c.if-items-ne3.true
