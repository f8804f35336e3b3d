use Rattle.std.proofs.Common.{◌∙◌}
use Rattle.rv_chunks.specs.Chunking.{items}
use Rattle.rv_rows.proofs.FiledSlots.{rises_under, tied_under}
use Rattle.rv_rows.proofs.positions.slots_under.Goals as goal

pub ties-requires : goal.ties-requires
ties-requires c = rises_under c.args.by c.args.slots.now c.args.text.now (items c.args.order.now.chunks) c.requires.slots c.requires.order

pub returns : goal.returns
returns c = c.ties.ensures ∙ tied_under c.args.by c.args.slots.now c.args.text.now (items c.args.order.now.chunks) c.requires.slots
