use Rattle.std.proofs.Common.{◌≡◌, List, length, refl, ap, sym, ◌∙◌, subst}
use Rattle.std.specs.List.{filter}
use Rattle.rv_chunks.specs.Chunking.{items}
use Rattle.rv_rows.specs.Held.{Stored}
use Rattle.rv_rows.specs.Sharing.{belongs}
use Rattle.rv_rows.specs.declared.filing.Filing.TheVariants as filings
use Rattle.rv_rows.specs.Slots.{standing, is_under, AreSlots, Slotted, rows_of}
use Rattle.rv_rows.proofs.FiledLaws.{filed_belongs}
use Rattle.rv_rows.proofs.FiledSlots.{filed_rows, found_slots}
use Rattle.rv_rows.proofs.indexed.IndexedRows.of_list.Goals as goal

found : (c : goal.After-slots_under) → c.slots_under.result ≡ filter (is_under filings.List c.args.list.now c.self.inside.slots.items) (items c.self.inside.by_list.chunks)
found c = c.slots_under.ensures ∙ (λ i. filter (is_under filings.List (c.as_str.ensures.value i) (c.deref-2.ensures.value i)) (items c.self.inside.by_list.chunks))

pub new-requires : goal.new-requires
new-requires c =
    let inside = c.self.inside in
    subst (λ (slots : List Stored). AreSlots (length slots) c.slots_under.result) (sym c.deref.ensures.value)
    (found_slots filings.List inside.slots.items (items inside.by_list.chunks) c.slots_under.result c.args.list.now c.self.invariant.0.lists.in_slots (found c))

found_then : (c : goal.After-new) → c.slots_under.result ≡ filter (is_under filings.List c.args.list.now c.self.inside.slots.items) (items c.self.inside.by_list.chunks)
found_then c = c.slots_under.ensures ∙ (λ i. filter (is_under filings.List (c.as_str.ensures.value i) (c.deref-2.ensures.value i)) (items c.self.inside.by_list.chunks))

pub returns-clause-rows : goal.returns-clause-rows
returns-clause-rows c =
    let inside = c.self.inside in
    c.new.ensures
    ∙ ap (λ (slots : List Stored). standing slots c.slots_under.result) c.deref.ensures.value
    ∙ filed_rows filings.List inside.slots.items (items inside.by_key.chunks) (items inside.by_list.chunks) c.slots_under.result (standing inside.slots.items (items inside.by_key.chunks)) c.args.list.now (λ _. refl) c.as_str.ensures.low c.self.invariant.0.key_order c.self.invariant.0.lists refl (found_then c)
    ∙ (λ i. filter (λ (s : Stored). filed_belongs c.args.list.now c.as_str.ensures.low s.0 i) (standing inside.slots.items (items inside.by_key.chunks)))
    ∙ ap (λ (v : Slotted). filter (λ (s : Stored). belongs c.args.list.now s.0) (rows_of v)) c.self.view_is
