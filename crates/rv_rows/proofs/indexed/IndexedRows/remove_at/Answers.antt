use Rattle.std.proofs.Common.{◌≡◌, ◌-◌, ◌<◌, true, List, Some, length, sym, ap, ◌∙◌, subst, arith}
use Rattle.std.specs.List.{remove}
use Rattle.std.specs.Option.{option_map}
use Rattle.rv_base.specs.Sorted.{IsPositionOf}
use Rattle.rv_chunks.specs.Chunking.{items, index_of, index_found, IsItem}
use Rattle.rv_chunks.specs.IndexLaws.{item_in_range}
use Rattle.rv_rows.specs.Keys.{key_text}
use Rattle.rv_rows.specs.Held.{Stored, stored_key}
use Rattle.rv_rows.specs.Filed.{filed_text, filed_key, is_filed}
use Rattle.rv_rows.specs.declared.filing.Filing.TheVariants as filings
use Rattle.rv_rows.specs.Slots.{standing, row_of, no_row, StandsIn, HasOrders, Slotted, rows_of}
use Rattle.rv_rows.proofs.RowSlots.{held_at, slot_there, struck_from, vacated, read_at}
use Rattle.rv_rows.proofs.indexed.IndexedRows.remove_at.Goals as goal

pub place_of-in_list-requires-clause-slot : goal.place_of-in_list-requires-clause-slot
place_of-in_list-requires-clause-slot c =
    let inside = c.self.inside in
    let chunks = inside.by_key.chunks in
    let lt = item_in_range chunks c.args.at (subst (λ (v : Slotted). IsItem v.by_key c.args.at) (sym c.self.view_is) c.requires) in
    rw c.deref.ensures.value (slot_there inside.slots.items (items chunks) (index_of chunks c.args.at) c.get-slot.result.now c.self.invariant.0.key_slots lt (c.get-slot.ensures c.get-slot.result.now))

pub place_of-in_list-requires-clause-held : goal.place_of-in_list-requires-clause-held
place_of-in_list-requires-clause-held c filed =
    let inside = c.self.inside in
    let chunks = inside.by_key.chunks in
    let slot = c.get-slot.result.now in
    let lt = item_in_range chunks c.args.at (subst (λ (v : Slotted). IsItem v.by_key c.args.at) (sym c.self.view_is) c.requires) in
    let is = subst (λ (t : List Stored). is_filed filings.List (row_of t slot).0 ≡ true) c.deref.ensures.value filed in
    held_at filings.List inside.slots.items (items chunks) (items inside.by_list.chunks) (index_of chunks c.args.at) slot c.self.invariant.0.lists.same lt (c.get-slot.ensures slot) is

pub place_of-of_user-requires-clause-slot : goal.place_of-of_user-requires-clause-slot
place_of-of_user-requires-clause-slot c =
    let inside = c.self.inside in
    let chunks = inside.by_key.chunks in
    let lt = item_in_range chunks c.args.at (subst (λ (v : Slotted). IsItem v.by_key c.args.at) (sym c.self.view_is) c.requires) in
    rw c.deref-2.ensures.value (slot_there inside.slots.items (items chunks) (index_of chunks c.args.at) c.get-slot.result.now c.self.invariant.0.key_slots lt (c.get-slot.ensures c.get-slot.result.now))

pub place_of-of_user-requires-clause-held : goal.place_of-of_user-requires-clause-held
place_of-of_user-requires-clause-held c filed =
    let inside = c.self.inside in
    let chunks = inside.by_key.chunks in
    let slot = c.get-slot.result.now in
    let lt = item_in_range chunks c.args.at (subst (λ (v : Slotted). IsItem v.by_key c.args.at) (sym c.self.view_is) c.requires) in
    let is = subst (λ (t : List Stored). is_filed filings.User (row_of t slot).0 ≡ true) c.deref-2.ensures.value filed in
    held_at filings.User inside.slots.items (items chunks) (items inside.by_user.chunks) (index_of chunks c.args.at) slot c.self.invariant.0.users.same lt (c.get-slot.ensures slot) is

pub place_of-of_sort-requires-clause-slot : goal.place_of-of_sort-requires-clause-slot
place_of-of_sort-requires-clause-slot c =
    let inside = c.self.inside in
    let chunks = inside.by_key.chunks in
    let lt = item_in_range chunks c.args.at (subst (λ (v : Slotted). IsItem v.by_key c.args.at) (sym c.self.view_is) c.requires) in
    rw c.deref-3.ensures.value (slot_there inside.slots.items (items chunks) (index_of chunks c.args.at) c.get-slot.result.now c.self.invariant.0.key_slots lt (c.get-slot.ensures c.get-slot.result.now))

pub place_of-of_sort-requires-clause-held : goal.place_of-of_sort-requires-clause-held
place_of-of_sort-requires-clause-held c filed =
    let inside = c.self.inside in
    let chunks = inside.by_key.chunks in
    let slot = c.get-slot.result.now in
    let lt = item_in_range chunks c.args.at (subst (λ (v : Slotted). IsItem v.by_key c.args.at) (sym c.self.view_is) c.requires) in
    let is = subst (λ (t : List Stored). is_filed filings.Sort (row_of t slot).0 ≡ true) c.deref-3.ensures.value filed in
    held_at filings.Sort inside.slots.items (items chunks) (items inside.by_sort.chunks) (index_of chunks c.args.at) slot c.self.invariant.0.sorts.same lt (c.get-slot.ensures slot) is

pub overflow_sub-last : goal.overflow_sub-last
overflow_sub-last c =
    let inside = c.self.inside in
    let chunks = inside.by_key.chunks in
    let lt = item_in_range chunks c.args.at (subst (λ (v : Slotted). IsItem v.by_key c.args.at) (sym c.self.view_is) c.requires) in
    let low : c.get-slot.result.now < length inside.slots.items = slot_there inside.slots.items (items chunks) (index_of chunks c.args.at) c.get-slot.result.now c.self.invariant.0.key_slots lt (c.get-slot.ensures c.get-slot.result.now) in
    omega (arith, inside.slots.ok.0)

pub index-requires : goal.index-requires
index-requires c =
    let inside = c.self.inside in
    let chunks = inside.by_key.chunks in
    let lt = item_in_range chunks c.args.at (subst (λ (v : Slotted). IsItem v.by_key c.args.at) (sym c.self.view_is) c.requires) in
    let low : c.get-slot.result.now < length inside.slots.items = slot_there inside.slots.items (items chunks) (index_of chunks c.args.at) c.get-slot.result.now c.self.invariant.0.key_slots lt (c.get-slot.ensures c.get-slot.result.now) in
    omega (arith, inside.slots.ok.0)

pub vacate-requires : goal.vacate-requires
vacate-requires c =
    let inside = c.self.inside in
    let chunks = inside.by_key.chunks in
    let lt = item_in_range chunks c.args.at (subst (λ (v : Slotted). IsItem v.by_key c.args.at) (sym c.self.view_is) c.requires) in
    let low : c.get-slot.result.now < length inside.slots.items = slot_there inside.slots.items (items chunks) (index_of chunks c.args.at) c.get-slot.result.now c.self.invariant.0.key_slots lt (c.get-slot.ensures c.get-slot.result.now) in
    omega (arith, inside.slots.ok.0)

-- the row that moves is that of the last slot
moved : (c : goal.After-vacate) → c.index.result.now ≡ row_of c.self.inside.slots.items (c.len.result - 1)
moved c =
    let slots = c.self.inside.slots in
    let lt : c.len.result - 1 < length slots.items = omega (arith, slots.ok.0) in
    sym (read_at slots.items (c.len.result - 1) c.index.result.now no_row lt c.index.ensures)

left : (c : goal.After-vacate) → HasOrders c.vacate.new.slots.items (items c.strike.new.order.chunks) (items c.strike-2.new.order.chunks) (items c.strike-3.new.order.chunks) (items c.strike-4.new.order.chunks)
    × (standing c.vacate.new.slots.items (items c.strike.new.order.chunks) ≡ remove (standing c.self.inside.slots.items (items c.self.inside.by_key.chunks)) (index_of c.self.inside.by_key.chunks c.args.at))
left c =
    let inside = c.self.inside in
    let slots = inside.slots.items in
    let by_key = items inside.by_key.chunks in
    let by_list = items inside.by_list.chunks in
    let by_user = items inside.by_user.chunks in
    let by_sort = items inside.by_sort.chunks in
    let slot = c.get-slot.result.now in
    let last = c.len.result - 1 in
    let row = c.index.result.now.0 in
    let i = index_of inside.by_key.chunks c.args.at in
    let j = option_map (index_of inside.by_list.chunks) c.place_of-in_list.result in
    let k = option_map (index_of inside.by_user.chunks) c.place_of-of_user.result in
    let l = option_map (index_of inside.by_sort.chunks) c.place_of-of_sort.result in
    let lt = item_in_range inside.by_key.chunks c.args.at (subst (λ (v : Slotted). IsItem v.by_key c.args.at) (sym c.self.view_is) c.requires) in
    let last_is : last ≡ length slots - 1 = omega (arith, inside.slots.ok.0) in
    let key_is : key_text (record { kind = c.kind.result; id = c.id.result.now }) ≡ stored_key (row_of slots last) = (λ i. key_text (record { kind = c.kind.ensures i; id = c.id.ensures i })) ∙ ap stored_key (moved c) in
    let list_is : filed_text filings.List row ≡ filed_key filings.List (row_of slots last) = ap (filed_key filings.List) (moved c) in
    let user_is : filed_text filings.User row ≡ filed_key filings.User (row_of slots last) = ap (filed_key filings.User) (moved c) in
    let sort_is : filed_text filings.Sort row ≡ filed_key filings.Sort (row_of slots last) = ap (filed_key filings.Sort) (moved c) in
    let at_key = subst (λ (t : List Stored). IsPositionOf stored_key (key_text (record { kind = c.kind.result; id = c.id.result.now })) (standing t by_key) (index_found inside.by_key.chunks c.position_by_key-moved_by_key.result)) c.deref-4.ensures.value c.position_by_key-moved_by_key.ensures.position in
    let at_list = subst (λ (t : List Stored). IsPositionOf (filed_key filings.List) (filed_text filings.List row) (standing t by_list) (index_found inside.by_list.chunks c.position_filed-moved_by_list.result)) c.deref-5.ensures.value c.position_filed-moved_by_list.ensures.position in
    let at_user = subst (λ (t : List Stored). IsPositionOf (filed_key filings.User) (filed_text filings.User row) (standing t by_user) (index_found inside.by_user.chunks c.position_filed-moved_by_user.result)) c.deref-6.ensures.value c.position_filed-moved_by_user.ensures.position in
    let at_sort = subst (λ (t : List Stored). IsPositionOf (filed_key filings.Sort) (filed_text filings.Sort row) (standing t by_sort) (index_found inside.by_sort.chunks c.position_filed-moved_by_sort.result)) c.deref-7.ensures.value c.position_filed-moved_by_sort.ensures.position in
    let keys = struck_from stored_key slots by_key (items c.strike.new.order.chunks) (key_text (record { kind = c.kind.result; id = c.id.result.now })) (index_found inside.by_key.chunks c.position_by_key-moved_by_key.result) (Some i) slot last key_is c.self.invariant.0.key_order at_key c.strike.ensures.slots in
    let lists = struck_from (filed_key filings.List) slots by_list (items c.strike-2.new.order.chunks) (filed_text filings.List row) (index_found inside.by_list.chunks c.position_filed-moved_by_list.result) j slot last list_is c.self.invariant.0.lists.in_order at_list c.strike-2.ensures.slots in
    let users = struck_from (filed_key filings.User) slots by_user (items c.strike-3.new.order.chunks) (filed_text filings.User row) (index_found inside.by_user.chunks c.position_filed-moved_by_user.result) k slot last user_is c.self.invariant.0.users.in_order at_user c.strike-3.ensures.slots in
    let sorts = struck_from (filed_key filings.Sort) slots by_sort (items c.strike-4.new.order.chunks) (filed_text filings.Sort row) (index_found inside.by_sort.chunks c.position_filed-moved_by_sort.result) l slot last sort_is c.self.invariant.0.sorts.in_order at_sort c.strike-4.ensures.slots in
    let in_list = subst (λ (t : List Stored). StandsIn filings.List t by_list slot j) c.deref.ensures.value c.place_of-in_list.ensures.stands in
    let of_user = subst (λ (t : List Stored). StandsIn filings.User t by_user slot k) c.deref-2.ensures.value c.place_of-of_user.ensures.stands in
    let of_sort = subst (λ (t : List Stored). StandsIn filings.Sort t by_sort slot l) c.deref-3.ensures.value c.place_of-of_sort.ensures.stands in
    vacated slots c.vacate.new.slots.items by_key (items c.strike.new.order.chunks) by_list (items c.strike-2.new.order.chunks) by_user (items c.strike-3.new.order.chunks) by_sort (items c.strike-4.new.order.chunks) i slot last j k l
    c.self.invariant.0 lt (read_at by_key i slot 0 lt (c.get-slot.ensures slot)) in_list of_user of_sort c.vacate.ensures.rows last_is keys lists users sorts

pub invariant_of-self : goal.invariant_of-self
invariant_of-self c = (
  (left c).0,
  record {
    slot_space = omega arith;
    key_space = omega arith;
    list_space = omega arith;
    user_space = omega arith;
    sort_space = omega arith;
    numbers = omega arith;
  },
)

pub returns-clause-rows : goal.returns-clause-rows
returns-clause-rows c = (left c).1 ∙ ap (λ (v : Slotted). remove (rows_of v) (index_of v.by_key c.args.at)) c.self.view_is
