use Rattle.std.proofs.Common.{◌≡◌, ◌∙◌, sym, ap, refl, arith, ℕ, Bool, ◌+◌, ◌<◌, true, false, List, [], ◌∷◌, drop, length, get_or}
use Rattle.std.specs.Prelude.{◌||◌}
use Rattle.std.proofs.lemmas.List.{at_drop_more, at_drop_all}
use Rattle.rv_rows.specs.declared.row.Row.{Row}
use Rattle.rv_rows.specs.Keys.{key_text}
use Rattle.rv_book.specs.declared.entry.Entry.{Entry}
use Rattle.rv_history.specs.Replay.{rows_after}
use Rattle.rv_history.specs.History.{is_written, is_touched}
use Rattle.rv_plain.proofs.history.is_touched.Goals as goal

touched_more : (key : List ℕ) (rows after : List Row) (since : List Entry) (i : ℕ) (e : Entry) → i < length since → e ≡ get_or since i e → after ≡ rows_after rows e
    → is_touched key rows (drop i since) ≡ (is_written key rows after || is_touched key after (drop (i + 1) since))
unfolding is_touched
touched_more key rows after since i e lt is next =
    at_drop_more (is_touched key rows) since i e lt ∙ ap (λ (x : Entry). is_touched key rows (x ∷ drop (i + 1) since)) (sym is)
    ∙ ap (λ (r : List Row). is_written key rows r || is_touched key r (drop (i + 1) since)) (sym next)

touched_none : (key : List ℕ) (rows : List Row) → is_touched key rows [] ≡ false
unfolding is_touched
touched_none key rows = refl

written_is : (key : List ℕ) (before after b a : List Row) (result is : Bool) → b ≡ before → a ≡ after → result ≡ is_written key b a → result ≡ is → is_written key before after ≡ is
written_is key before after b a result is same next says branch = ap (λ (r : List Row). is_written key r after) (sym same) ∙ ap (λ (r : List Row). is_written key b r) (sym next) ∙ sym says ∙ branch

pub returns-then-is_written : goal.returns-then-is_written
returns-then-is_written c =
    let key = key_text (record { kind = c.args.kind; id = c.args.id.now }) in
    let rows = c.loop-entry.before.items in
    let after = c.in_ok-after.after.items in
    let e = c.entry-item.result in
    let next = c.in_ok-after.ensures ∙ ap (λ (r : List Row). rows_after r e) c.deref.ensures.value in
    let is = written_is key rows after c.deref-in-loop-entry.result.now c.deref-in-loop-entry-2.result.now c.is_written.result true c.deref-in-loop-entry.ensures.value c.deref-in-loop-entry-2.ensures.value c.is_written.ensures c.if-is_written.true in
    sym (sym c.loop-entry.invariant ∙ touched_more key rows after c.args.since.now c.loop-entry.entry-index e c.loop-entry-test.true c.entry-item.is next
    ∙ ap (λ (b : Bool). b || is_touched key after (drop (c.loop-entry.entry-index + 1) c.args.since.now)) is)

pub loop-entry-preserved : goal.loop-entry-preserved
loop-entry-preserved c =
    let key = key_text (record { kind = c.args.kind; id = c.args.id.now }) in
    let rows = c.loop-entry.before.items in
    let after = c.in_ok-after.after.items in
    let e = c.entry-item.result in
    let next = c.in_ok-after.ensures ∙ ap (λ (r : List Row). rows_after r e) c.deref.ensures.value in
    let is = written_is key rows after c.deref-in-loop-entry.result.now c.deref-in-loop-entry-2.result.now c.is_written.result false c.deref-in-loop-entry.ensures.value c.deref-in-loop-entry-2.ensures.value c.is_written.ensures c.if-is_written.false in
    sym (touched_more key rows after c.args.since.now c.loop-entry.entry-index e c.loop-entry-test.true c.entry-item.is next
    ∙ ap (λ (b : Bool). b || is_touched key after (drop (c.loop-entry.entry-index + 1) c.args.since.now)) is) ∙ c.loop-entry.invariant

pub returns : goal.returns
returns c =
    let key = key_text (record { kind = c.args.kind; id = c.args.id.now }) in
    let rows = c.loop-entry.before.items in
    sym (sym c.loop-entry.invariant ∙ at_drop_all (is_touched key rows) c.args.since.now c.loop-entry.entry-index (omega arith) ∙ touched_none key rows)
