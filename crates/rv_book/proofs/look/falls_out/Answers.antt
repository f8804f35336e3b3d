use Rattle.std.proofs.Common.{◌≡◌, ◌-◌, ◌+◌, ◌≤◌, ap, sym, ◌∙◌, ℕ, arith}
use Rattle.rv_book.specs.Logs.{logged}
use Rattle.rv_book.specs.LookLaws.{falls_out-retired}
use Rattle.rv_book.proofs.LookBack.{looks_back, back_first, back_more, falls_nowhere, falls_back}
use Rattle.rv_book.proofs.look.falls_out.Goals as goal

pub returns-then-row : goal.returns-then-row
returns-then-row c = sym (falls_out-retired c.args.group.now (logged c.args.log) (sym c.row-row.ensures.retired ∙ c.if-row.true))

pub loop-step-init : goal.loop-step-init
loop-step-init c = c.row-row.ensures.last_look ∙ back_first c.args.group.now (logged c.args.log)

pub loop-step-preserved : goal.loop-step-preserved
loop-step-preserved c =
    let step = c.loop-step._step in
    let next : (step - 1) + 1 ≡ (step + 1) - 1 = omega (arith, c.loop-step.auto._step) in
    c.before-place.ensures
    ∙ back_more (step - 1) c.args.group.now (logged c.args.log) c.in_ok-place.field-0 (sym c.in_ok-place.was ∙ c.loop-step.invariant)
    ∙ ap (λ (n : ℕ). looks_back n c.args.group.now (logged c.args.log)) next

pub returns-in_err-place : goal.returns-in_err-place
returns-in_err-place c =
    let few : c.loop-step._step - 1 ≤ 15 = omega (arith, c.loop-step-test.true) in
    c.from_residual.ensures ∙ sym (falls_nowhere (c.loop-step._step - 1) c.args.group.now (logged c.args.log) few (sym c.in_err-place.was ∙ c.loop-step.invariant))

pub returns : goal.returns
returns c =
    let steps : c.loop-step._step - 1 ≡ 15 = omega arith in
    sym (falls_back c.args.group.now (logged c.args.log) c.loop-step.place (sym c.row-row.ensures.retired ∙ c.if-row.false) (c.loop-step.invariant ∙ ap (λ (n : ℕ). looks_back n c.args.group.now (logged c.args.log)) steps))
