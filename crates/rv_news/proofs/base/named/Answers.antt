use Rattle.std.proofs.Common.{◌∙◌, sym, arith}
use Rattle.rv_news.proofs.BaseLaws.{base_found, base_refused, base_unspelled}
use Rattle.rv_news.proofs.base.named.Goals as goal

pub returns-then-is_kept : goal.returns-then-is_kept
returns-then-is_kept c = sym (base_found c.args.user.now c.args.text.now c.args.order c.in_ok-place.place c.args.book.now.book (omega arith) (omega arith) c.in_ok-place.ensures.found (sym c.is_kept.ensures ∙ c.if-is_kept.true))

pub returns-else-is_kept : goal.returns-else-is_kept
returns-else-is_kept c = sym (base_refused c.args.user.now c.args.text.now c.args.order c.in_ok-place.place c.args.book.now.book (omega arith) (omega arith) c.in_ok-place.ensures.found (sym c.is_kept.ensures ∙ c.if-is_kept.false))

pub returns-in_err-place : goal.returns-in_err-place
returns-in_err-place c = c.from_residual.ensures ∙ sym (base_unspelled c.args.user.now c.args.text.now c.args.order c.args.book.now.book (omega arith) c.in_err-place.ensures.none)
