use Rattle.std.proofs.Common.{arith}
use Rattle.rv_rows.proofs.IdLaws.{exact_fits}
use Rattle.rv_rows.proofs.lists.Lists.exact.Goals as goal

pub invariant_of-result : goal.invariant_of-result
invariant_of-result c = exact_fits c.args.ids c.as_slice.result.now c.into_vec.result.items c.are_in_order.result c.as_slice.ensures c.are_in_order.ensures c.if-not-are_in_order.false c.into_vec.ensures (omega (arith, c.len.ensures, c.if-len-gt-MOST.false))
