use Rattle.std.proofs.Common.{◌≡◌, ◌∙◌, ◌-◌, ◌+◌, ◌≤◌, Some, length, get_or, sym, ap, subst, ℕ, arith}
use Rattle.std.specs.List.{slice_get}
use Rattle.std.proofs.lemmas.Option.{slice_get-get_or}
use Rattle.rv_book.specs.Logs.{logged}
use Rattle.rv_book.proofs.LookRowLaws.{before_get, before_page, before_past}
use Rattle.rv_book.proofs.look.before.Goals as goal

pub returns-then-place-log : goal.returns-then-place-log
returns-then-place-log c = sym (before_page (logged c.args.log) c.args.place c.if-place-log.true)

pub returns-in_err-get : goal.returns-in_err-get
returns-in_err-get c = c.from_residual.ensures ∙ sym (before_past (logged c.args.log) c.args.look_rows.now c.args.place (omega (arith, c.if-place-log.false)) (omega (arith, c.in_err-get.ensures.lookup, c.index.ensures)) c.requires)

pub returns : goal.returns
returns c =
    let rows = c.args.look_rows.now in
    let row = c.in_ok-get.field-0.now in
    let there : slice_get rows c.index.result ≡ Some row = slice_get-get_or rows c.index.result row (omega (arith, c.in_ok-get.ensures.lookup)) ∙ ap Some (sym c.in_ok-get.ensures.lookup.1) in
    before_get (logged c.args.log) rows c.args.place row (omega (arith, c.if-place-log.false)) (ap (slice_get rows) (sym c.index.ensures) ∙ there) c.requires
