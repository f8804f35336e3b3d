use Rattle.std.proofs.Common.{lit<, Err, ap, ◌∙◌, subst}
use Rattle.httparse.specs.Spans.{RequestExceeds}
use Rattle.rv_http.specs.Numbers.{head_limit}
use Rattle.rv_http.specs.declared.numbers.TheConstants.{SPANS}
use Rattle.rv_http.proofs.Overflow.{no_overflow}
use Rattle.rv_http.proofs.scan.scan_head.Goals as goal

pub unreachable-requires : goal.unreachable-requires
unreachable-requires c =
    no_overflow c.args.bytes.now head_limit SPANS c.requires.few (lit< tt) (subst (λ n. RequestExceeds n c.args.bytes.now) c.requires.capacity (c.parse_request.ensures.too_many (c.in-Err-TooManyHeaders.is ∙ ap Err c.in-Err-TooManyHeaders.field-0-is)))
