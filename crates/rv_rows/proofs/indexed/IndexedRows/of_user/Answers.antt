use Rattle.std.proofs.Common.{◌≡◌, List, length, refl, ap, sym, ◌∙◌, subst}
use Rattle.std.specs.List.{filter}
use Rattle.std.specs.Str.{bytes_eq}
use Rattle.rv_chunks.specs.Chunking.{items}
use Rattle.rv_rows.specs.Held.{Stored}
use Rattle.rv_rows.specs.Sharing.{user_of}
use Rattle.rv_rows.specs.declared.filing.Filing.TheVariants as filings
use Rattle.rv_rows.specs.Slots.{standing, is_under, AreSlots, Slotted, rows_of}
use Rattle.rv_rows.proofs.FiledSlots.{filed_rows, found_slots}
use Rattle.rv_rows.proofs.indexed.IndexedRows.of_user.Goals as goal

found : (c : goal.After-slots_under) → c.slots_under.result ≡ filter (is_under filings.User c.args.user.now c.self.inside.slots.items) (items c.self.inside.by_user.chunks)
found c = c.slots_under.ensures ∙ (λ i. filter (is_under filings.User (c.as_str.ensures.value i) (c.deref-2.ensures.value i)) (items c.self.inside.by_user.chunks))

pub new-requires : goal.new-requires
new-requires c =
    let inside = c.self.inside in
    subst (λ (slots : List Stored). AreSlots (length slots) c.slots_under.result) (sym c.deref.ensures.value)
    (found_slots filings.User inside.slots.items (items inside.by_user.chunks) c.slots_under.result c.args.user.now c.self.invariant.0.users.in_slots (found c))

found_then : (c : goal.After-new) → c.slots_under.result ≡ filter (is_under filings.User c.args.user.now c.self.inside.slots.items) (items c.self.inside.by_user.chunks)
found_then c = c.slots_under.ensures ∙ (λ i. filter (is_under filings.User (c.as_str.ensures.value i) (c.deref-2.ensures.value i)) (items c.self.inside.by_user.chunks))

pub returns-clause-rows : goal.returns-clause-rows
returns-clause-rows c =
    let inside = c.self.inside in
    c.new.ensures
    ∙ ap (λ (slots : List Stored). standing slots c.slots_under.result) c.deref.ensures.value
    ∙ filed_rows filings.User inside.slots.items (items inside.by_key.chunks) (items inside.by_user.chunks) c.slots_under.result (standing inside.slots.items (items inside.by_key.chunks)) c.args.user.now (λ _. refl) c.as_str.ensures.low c.self.invariant.0.key_order c.self.invariant.0.users refl (found_then c)
    ∙ ap (λ (v : Slotted). filter (λ (s : Stored). bytes_eq (user_of s.0) c.args.user.now) (rows_of v)) c.self.view_is
