use Rattle.std.proofs.Common.{◌≡◌, ◌<◌, ℕ, List, Option, Some, slice_get, drop, length, refl, sym, ap, ◌∙◌, subst, arith}
use Rattle.std.specs.List.{filter}
use Rattle.rv_chunks.specs.Chunking.{items}
use Rattle.rv_rows.specs.Held.{Stored, rows_in}
use Rattle.rv_rows.specs.declared.filing.Filing.TheVariants as filings
use Rattle.rv_rows.specs.Filed.{sort_of}
use Rattle.rv_rows.specs.Effects.{greatest_sort}
use Rattle.rv_rows.specs.Slots.{is_under, no_row, AreSlots, Slotted, rows_of}
use Rattle.rv_rows.proofs.RowSlots.{read_at}
use Rattle.rv_rows.proofs.FiledSlots.{found_slots}
use Rattle.rv_rows.proofs.SortSlots.{first_get, nothing_get, greatest_none, greatest_first}
use Rattle.rv_rows.proofs.indexed.IndexedRows.greatest_sort.Goals as goal

-- the first that is found is a slot that is there
first_slot : (list : List ℕ) (slots : List Stored) (order : List ℕ) (s : ℕ) → AreSlots (length slots) order → slice_get (filter (is_under filings.Sort list slots) order) 0 ≡ Some s → s < length slots
first_slot list slots order s all first = (subst (AreSlots (length slots)) (first_get (filter (is_under filings.Sort list slots) order) s first) (found_slots filings.Sort slots order (filter (is_under filings.Sort list slots) order) list all refl)).0

found_in : (list text : List ℕ) (read slots : List Stored) (order : List ℕ) (first : Option ℕ) → first ≡ slice_get (filter (is_under filings.Sort text read) order) 0 → text ≡ list → read ≡ slots → slice_get (filter (is_under filings.Sort list slots) order) 0 ≡ first
found_in list text read slots order first is text_is same = sym (is ∙ (λ i. slice_get (filter (is_under filings.Sort (text_is i) (same i)) order) 0))

pub index-requires : goal.index-requires
index-requires c =
    let inside = c.self.inside in
    let order = items inside.by_sort.chunks in
    let low : c.in-Some.slot < length inside.slots.items = first_slot c.args.list.now inside.slots.items order c.in-Some.slot c.self.invariant.0.sorts.in_slots (found_in c.args.list.now c.as_str.result.now c.deref.result.now inside.slots.items order c.first_under.result c.first_under.ensures c.as_str.ensures.value c.deref.ensures.value ∙ c.in-Some.is) in
    omega (arith, inside.slots.ok.0)

pub returns-in-Some : goal.returns-in-Some
returns-in-Some c =
    let inside = c.self.inside in
    let order = items inside.by_sort.chunks in
    let own = filter (is_under filings.Sort c.args.list.now inside.slots.items) order in
    let is = found_in c.args.list.now c.as_str.result.now c.deref.result.now inside.slots.items order c.first_under.result c.first_under.ensures c.as_str.ensures.value c.deref.ensures.value ∙ c.in-Some.is in
    let low = first_slot c.args.list.now inside.slots.items order c.in-Some.slot c.self.invariant.0.sorts.in_slots is in
    c.sort.ensures
    ∙ ap (λ (s : Stored). sort_of s.0) (sym (read_at inside.slots.items c.in-Some.slot c.index.result.now no_row low c.index.ensures))
    ∙ greatest_first inside.slots.items (items inside.by_key.chunks) order c.in-Some.slot (drop 1 own) c.args.list.now c.as_str.ensures.low c.self.invariant.0.sorts (first_get own c.in-Some.slot is)
    ∙ ap (λ (v : Slotted). greatest_sort c.args.list.now (rows_in (rows_of v))) c.self.view_is

pub returns-in-None : goal.returns-in-None
returns-in-None c =
    let inside = c.self.inside in
    let order = items inside.by_sort.chunks in
    let own = filter (is_under filings.Sort c.args.list.now inside.slots.items) order in
    greatest_none inside.slots.items (items inside.by_key.chunks) order c.args.list.now c.as_str.ensures.low c.self.invariant.0.sorts (nothing_get own (found_in c.args.list.now c.as_str.result.now c.deref.result.now inside.slots.items order c.first_under.result c.first_under.ensures c.as_str.ensures.value c.deref.ensures.value ∙ c.in-None.is))
    ∙ ap (λ (v : Slotted). greatest_sort c.args.list.now (rows_in (rows_of v))) c.self.view_is
