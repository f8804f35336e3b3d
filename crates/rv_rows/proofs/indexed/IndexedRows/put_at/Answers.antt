use Rattle.std.proofs.Common.{◌≡◌, List, None, ap, ◌∙◌, refl, subst, sym, arith, length}
use Rattle.std.specs.List.{insert}
use Rattle.std.specs.Option.{option_map}
use Rattle.rv_base.specs.Sorted.{find_by}
use Rattle.rv_chunks.specs.Chunking.{items, index_of}
use Rattle.rv_rows.specs.Keys.{row_text}
use Rattle.rv_rows.specs.Held.{Stored, stored_key, put, AreRows}
use Rattle.rv_rows.specs.declared.filing.Filing.TheVariants as filings
use Rattle.rv_rows.specs.Slots.{standing, IsGapFor, Slotted, rows_of}
use Rattle.rv_rows.proofs.RowSlots.{absent_too, pushed, standing_new}
use Rattle.rv_rows.proofs.indexed.IndexedRows.put_at.Goals as goal

pub gap_filed-in_list-requires-clause-absent : goal.gap_filed-in_list-requires-clause-absent
gap_filed-in_list-requires-clause-absent c =
    let inside = c.self.inside in
    let none = subst (λ (v : Slotted). find_by stored_key (row_text c.args.row) (rows_of v) ≡ None) (sym c.self.view_is) c.requires.position.absent in
    rw c.deref.ensures.value (absent_too filings.List inside.slots.items (items inside.by_key.chunks) (items inside.by_list.chunks) c.args.row c.self.invariant.0.key_order c.self.invariant.0.lists none)

pub gap_filed-of_user-requires-clause-absent : goal.gap_filed-of_user-requires-clause-absent
gap_filed-of_user-requires-clause-absent c =
    let inside = c.self.inside in
    let none = subst (λ (v : Slotted). find_by stored_key (row_text c.args.row) (rows_of v) ≡ None) (sym c.self.view_is) c.requires.position.absent in
    rw c.deref-2.ensures.value (absent_too filings.User inside.slots.items (items inside.by_key.chunks) (items inside.by_user.chunks) c.args.row c.self.invariant.0.key_order c.self.invariant.0.users none)

pub gap_filed-of_sort-requires-clause-absent : goal.gap_filed-of_sort-requires-clause-absent
gap_filed-of_sort-requires-clause-absent c =
    let inside = c.self.inside in
    let none = subst (λ (v : Slotted). find_by stored_key (row_text c.args.row) (rows_of v) ≡ None) (sym c.self.view_is) c.requires.position.absent in
    rw c.deref-3.ensures.value (absent_too filings.Sort inside.slots.items (items inside.by_key.chunks) (items inside.by_sort.chunks) c.args.row c.self.invariant.0.key_order c.self.invariant.0.sorts none)

pub invariant_of-self : goal.invariant_of-self
invariant_of-self c =
    let inside = c.self.inside in
    let x : Stored = (c.args.row, c.args.version) in
    let room = ap (λ (v : Slotted). v.spare) c.self.view_is in
    let slots = inside.slots.items in
    let i = index_of inside.by_key.chunks c.args.at in
    let j = option_map (index_of inside.by_list.chunks) c.gap_filed-in_list.result in
    let k = option_map (index_of inside.by_user.chunks) c.gap_filed-of_user.result in
    let l = option_map (index_of inside.by_sort.chunks) c.gap_filed-of_sort.result in
    let last : c.len-slot.result ≡ length slots = omega (arith, inside.slots.ok.0) in
    let sorted : AreRows (insert (standing slots (items inside.by_key.chunks)) i x) = subst (λ (v : Slotted). AreRows (insert (rows_of v) (index_of v.by_key c.args.at) x)) (sym c.self.view_is) (c.requires.position.inserted_order x refl) in
    let listed : IsGapFor filings.List x (standing slots (items inside.by_list.chunks)) j =
    subst (λ (t : List Stored). IsGapFor filings.List x (standing t (items inside.by_list.chunks)) j) c.deref.ensures.value (c.gap_filed-in_list.ensures.position c.args.version) in
    let named : IsGapFor filings.User x (standing slots (items inside.by_user.chunks)) k =
    subst (λ (t : List Stored). IsGapFor filings.User x (standing t (items inside.by_user.chunks)) k) c.deref-2.ensures.value (c.gap_filed-of_user.ensures.position c.args.version) in
    let ranked : IsGapFor filings.Sort x (standing slots (items inside.by_sort.chunks)) l =
    subst (λ (t : List Stored). IsGapFor filings.Sort x (standing t (items inside.by_sort.chunks)) l) c.deref-3.ensures.value (c.gap_filed-of_sort.ensures.position c.args.version) in (
      pushed slots c.push.new.slots.items (items inside.by_key.chunks) (items c.insert.new.self.chunks) (items inside.by_list.chunks) (items c.enter.new.order.chunks) (items inside.by_user.chunks) (items c.enter-2.new.order.chunks) (items inside.by_sort.chunks) (items c.enter-3.new.order.chunks)
          x i c.len-slot.result j k l c.self.invariant.0 sorted listed named ranked c.push.ensures.rows last c.insert.ensures.items c.enter.ensures.slots c.enter-2.ensures.slots c.enter-3.ensures.slots,
      record {
        slot_space = omega arith;
        key_space = omega arith;
        list_space = omega arith;
        user_space = omega arith;
        sort_space = omega arith;
        numbers = omega arith;
      },
    )

pub returns-clause-rows : goal.returns-clause-rows
returns-clause-rows c =
    let inside = c.self.inside in
    let x : Stored = (c.args.row, c.args.version) in
    let slots = inside.slots.items in
    let i = index_of inside.by_key.chunks c.args.at in
    let last : c.len-slot.result ≡ length slots = omega (arith, inside.slots.ok.0) in
    let puts : put x (standing slots (items inside.by_key.chunks)) ≡ insert (standing slots (items inside.by_key.chunks)) i x = subst (λ (v : Slotted). put x (rows_of v) ≡ insert (rows_of v) (index_of v.by_key c.args.at) x) (sym c.self.view_is) (c.requires.position.inserted x refl) in
    rw (c.push.ensures.rows, c.insert.ensures.items, last)
    (standing_new slots x (items inside.by_key.chunks) i c.self.invariant.0.key_slots ∙ sym puts ∙ ap (λ (v : Slotted). put x (rows_of v)) c.self.view_is)
