use Rattle.std.proofs.Common.{◌≡◌, ◌<◌, Ok, length, get_or, set, sym, ap, ◌∙◌, subst, arith}
use Rattle.rv_base.specs.Sorted.{IsPositionOf}
use Rattle.rv_chunks.specs.Chunking.{items, index_of, IsItem}
use Rattle.rv_chunks.specs.IndexLaws.{item_in_range}
use Rattle.rv_rows.specs.Keys.{row_text}
use Rattle.rv_rows.specs.Held.{stored_key}
use Rattle.rv_rows.specs.Sharing.{user_of}
use Rattle.rv_rows.specs.declared.filing.Filing.TheVariants as filings
use Rattle.rv_rows.specs.Filed.{sort_of, under}
use Rattle.rv_rows.specs.Slots.{standing, HasOrders, Slotted, rows_of, no_row}
use Rattle.rv_rows.proofs.RowSlots.{slot_there, written_at}
use Rattle.rv_rows.proofs.indexed.IndexedRows.rewrite_at.Goals as goal

pub rewrite-requires : goal.rewrite-requires
rewrite-requires c =
    let inside = c.self.inside in
    let chunks = inside.by_key.chunks in
    let lt = item_in_range chunks c.args.at (subst (λ (v : Slotted). IsItem v.by_key c.args.at) (sym c.self.view_is) c.requires.item) in
    let low : c.get-slot.result.now < length inside.slots.items = slot_there inside.slots.items (items chunks) (index_of chunks c.args.at) c.get-slot.result.now c.self.invariant.0.key_slots lt (c.get-slot.ensures c.get-slot.result.now) in
    omega (arith, inside.slots.ok.0)

rewritten : (c : goal.After-rewrite) → HasOrders c.rewrite.new.slots.items (items c.self.inside.by_key.chunks) (items c.self.inside.by_list.chunks) (items c.self.inside.by_user.chunks) (items c.self.inside.by_sort.chunks)
    × (standing c.rewrite.new.slots.items (items c.self.inside.by_key.chunks) ≡ set (standing c.self.inside.slots.items (items c.self.inside.by_key.chunks)) (index_of c.self.inside.by_key.chunks c.args.at) (c.args.row, c.args.version))
rewritten c =
    let inside = c.self.inside in
    let back = sym c.self.view_is in
    written_at inside.slots.items c.rewrite.new.slots.items (items inside.by_key.chunks) (items inside.by_list.chunks) (items inside.by_user.chunks) (items inside.by_sort.chunks) (index_of inside.by_key.chunks c.args.at) c.get-slot.result.now (c.args.row, c.args.version) c.self.invariant.0
    (subst (λ (v : Slotted). IsPositionOf stored_key (row_text c.args.row) (rows_of v) (Ok (index_of v.by_key c.args.at))) back c.requires.position)
    (c.get-slot.ensures c.get-slot.result.now)
    (subst (λ (v : Slotted). under filings.List (get_or (rows_of v) (index_of v.by_key c.args.at) no_row).0 ≡ under filings.List c.args.row) back c.requires.list)
    (subst (λ (v : Slotted). user_of (get_or (rows_of v) (index_of v.by_key c.args.at) no_row).0 ≡ user_of c.args.row) back c.requires.user)
    (subst (λ (v : Slotted). sort_of (get_or (rows_of v) (index_of v.by_key c.args.at) no_row).0 ≡ sort_of c.args.row) back c.requires.sort)
    c.rewrite.ensures.rows

pub invariant_of-self : goal.invariant_of-self
invariant_of-self c = (
  (rewritten c).0,
  record {
    slot_space = omega arith;
    key_space = omega arith;
    list_space = omega arith;
    user_space = omega arith;
    sort_space = omega arith;
    numbers = omega arith;
  },
)

pub returns-clause-rows : goal.returns-clause-rows
returns-clause-rows c = (rewritten c).1 ∙ ap (λ (v : Slotted). set (rows_of v) (index_of v.by_key c.args.at) (c.args.row, c.args.version)) c.self.view_is
