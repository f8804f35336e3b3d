use Rattle.rv_chunks.specs.Chunking.{items, index_found}
use Rattle.rv_rows.specs.Keys.{key_text}
use Rattle.rv_rows.specs.Held.{stored_key}
use Rattle.rv_rows.specs.Slots.{row_of, by_slot}
use Rattle.rv_rows.proofs.SlotLaws.{settled}
use Rattle.rv_rows.proofs.RowSlots.{in_slots}
use Rattle.rv_rows.proofs.positions.position_by_key_near.Goals as goal

pub returns-clause-position : goal.returns-clause-position
returns-clause-position c =
    let k = key_text (record { kind = c.args.kind; id = c.args.id.now }) in
    let slots = c.args.slots.now in
    let order = items c.args.order.now.chunks in
    settled stored_key (row_of slots) (by_slot stored_key k slots) k order (index_found c.args.order.now.chunks c.position_near.result) (in_slots stored_key k slots order c.requires.slots) c.requires.order c.position_near.ensures.bound c.position_near.ensures.position
