use Rattle.std.proofs.Common.{List, ℕ, slice_get, ap, ◌∙◌}
use Rattle.rv_chunks.specs.Chunking.{items}
use Rattle.rv_rows.proofs.FiledSlots.{rises_under, tied_under}
use Rattle.rv_rows.proofs.positions.first_under.Goals as goal

pub first_tie-requires : goal.first_tie-requires
first_tie-requires c = rises_under c.args.by c.args.slots.now c.args.text.now (items c.args.order.now.chunks) c.requires.slots c.requires.order

pub returns : goal.returns
returns c = c.copied.ensures ∙ c.first_tie.ensures ∙ ap (λ (found : List ℕ). slice_get found 0) (tied_under c.args.by c.args.slots.now c.args.text.now (items c.args.order.now.chunks) c.requires.slots)
