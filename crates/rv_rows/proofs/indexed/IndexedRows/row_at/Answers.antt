use Rattle.std.proofs.Common.{◌≡◌, ◌<◌, length, get_or, sym, subst, arith}
use Rattle.rv_chunks.specs.Chunking.{items, index_of, IsItem}
use Rattle.rv_chunks.specs.IndexLaws.{item_in_range}
use Rattle.rv_rows.specs.Held.{Stored}
use Rattle.rv_rows.specs.Slots.{no_row, Slotted, rows_of}
use Rattle.rv_rows.proofs.RowSlots.{row_read, slot_there}
use Rattle.rv_rows.proofs.indexed.IndexedRows.row_at.Goals as goal

pub index-stored-requires : goal.index-stored-requires
index-stored-requires c =
    let inside = c.self.inside in
    let chunks = inside.by_key.chunks in
    let lt = item_in_range chunks c.args.at (subst (λ (v : Slotted). IsItem v.by_key c.args.at) (sym c.self.view_is) c.requires) in
    let low : c.get.result.now < length inside.slots.items = slot_there inside.slots.items (items chunks) (index_of chunks c.args.at) c.get.result.now c.self.invariant.0.key_slots lt (c.get.ensures c.get.result.now) in
    omega (arith, inside.slots.ok.0)

pub returns-clause-row : goal.returns-clause-row
returns-clause-row c =
    let inside = c.self.inside in
    let chunks = inside.by_key.chunks in
    let lt = item_in_range chunks c.args.at (subst (λ (v : Slotted). IsItem v.by_key c.args.at) (sym c.self.view_is) c.requires) in
    subst (λ (v : Slotted). ◌≡◌ {A = Stored} c.index-stored.result.now (get_or (rows_of v) (index_of v.by_key c.args.at) no_row)) c.self.view_is
    (row_read inside.slots.items (items chunks) (index_of chunks c.args.at) c.get.result.now c.index-stored.result.now c.self.invariant.0.key_slots lt (c.get.ensures c.get.result.now) c.index-stored.ensures)
