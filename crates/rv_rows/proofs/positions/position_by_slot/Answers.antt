use Rattle.std.proofs.Common.{length, subst}
use Rattle.std.specs.Prelude.{Ok, Err}
use Rattle.rv_base.specs.Sorted.{IsPositionOf}
use Rattle.rv_chunks.specs.Chunking.{items, index_of}
use Rattle.rv_rows.specs.Held.{Stored}
use Rattle.rv_rows.specs.Filed.{filed_key}
use Rattle.rv_rows.specs.Slots.{row_of, standing, no_row}
use Rattle.rv_rows.proofs.SlotLaws.{at_position, never_gap, any_default}
use Rattle.rv_rows.proofs.RowSlots.{slot_held, in_standing}
use Rattle.rv_rows.proofs.positions.position_by_slot.Goals as goal

pub bounds-slots-slot : goal.bounds-slots-slot
bounds-slots-slot c = slot_held (length c.args.slots.now) c.args.slot (items c.args.order.now.chunks) c.requires.slots c.requires.held

pub unreachable-requires : goal.unreachable-requires
unreachable-requires c =
    let slots = c.args.slots.now in
    let order = items c.args.order.now.chunks in
    let is = any_default slots c.args.slot c.index-slots-slot.result no_row (slot_held (length slots) c.args.slot order c.requires.slots c.requires.held) in
    never_gap (filed_key c.args.by) (row_of slots) order c.args.slot (index_of c.args.order.now.chunks c.in-Err.field-0) c.requires.order c.requires.held
    (subst (λ (s : Stored). IsPositionOf (filed_key c.args.by) (filed_key c.args.by s) (standing slots order) (Err (index_of c.args.order.now.chunks c.in-Err.field-0))) is c.in-Err.ensures.position)

pub returns-clause-in_range : goal.returns-clause-in_range
returns-clause-in_range c = in_standing c.args.slots.now (items c.args.order.now.chunks) (index_of c.args.order.now.chunks c.in-Ok.at) c.in-Ok.ensures.position.in_range

pub returns-clause-found : goal.returns-clause-found
returns-clause-found c =
    let slots = c.args.slots.now in
    let order = items c.args.order.now.chunks in
    let is = any_default slots c.args.slot c.index-slots-slot.result no_row (slot_held (length slots) c.args.slot order c.requires.slots c.requires.held) in
    at_position (filed_key c.args.by) (row_of slots) order c.args.slot (index_of c.args.order.now.chunks c.in-Ok.at) c.requires.order c.requires.held
    (subst (λ (s : Stored). IsPositionOf (filed_key c.args.by) (filed_key c.args.by s) (standing slots order) (Ok (index_of c.args.order.now.chunks c.in-Ok.at))) is c.in-Ok.ensures.position)
