use Rattle.std.proofs.Common.{◌≡◌, List, ℕ, subst}
use Rattle.rv_base.specs.Sorted.{IsPositionOf}
use Rattle.rv_chunks.specs.Chunking.{items, index_found}
use Rattle.rv_rows.specs.Keys.{key_text}
use Rattle.rv_rows.specs.Filed.{filed, filed_key, filed_text, then_of}
use Rattle.rv_rows.specs.Slots.{row_of, standing, by_slot}
use Rattle.rv_rows.proofs.SlotLaws.{settled}
use Rattle.rv_rows.proofs.RowSlots.{in_slots}
use Rattle.rv_rows.proofs.positions.position_filed.Goals as goal

pub returns-clause-position : goal.returns-clause-position
returns-clause-position c =
    let key = filed_key c.args.by in
    let k = filed c.under.result.now (then_of c.args.by c.sort.result (key_text (record { kind = c.kind.result; id = c.id.result.now }))) in
    let is : k ≡ filed_text c.args.by c.args.row.now = λ i. filed (c.under.ensures i) (then_of c.args.by (c.sort.ensures i) (key_text (record { kind = c.kind.ensures i; id = c.id.ensures i }))) in
    let slots = c.args.slots.now in
    let order = items c.args.order.now.chunks in
    let found = index_found c.args.order.now.chunks c.position.result in
    subst (λ (k : List ℕ). IsPositionOf key k (standing slots order) found) is
    (settled key (row_of slots) (by_slot key k slots) k order found (in_slots key k slots order c.requires.slots) c.requires.order c.position.ensures.bound c.position.ensures.position)
