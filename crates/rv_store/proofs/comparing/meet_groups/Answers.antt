use Rattle.std.proofs.Common.{arith}
use Rattle.rv_book.specs.Registers.{groups_of}
use Rattle.rv_record.specs.CellTexts.{group_cell}
use Rattle.rv_store.proofs.Comparisons.{each_more, each_fails, each_ends, left_got, none_left, none_left_at_end}
use Rattle.rv_store.proofs.comparing.meet_groups.Goals as goal

pub returns-in_default : goal.returns-in_default
returns-in_default c = each_ends (λ t. group_cell t.0 t.1 t.2 t.3) _ _ _ _ (none_left (groups_of c.args.book.now.book) c.loop-index.index c.in_default.ensures) c.loop-index.invariant.met

pub returns-in_err-rest : goal.returns-in_err-rest
returns-in_err-rest c =
    each_fails (λ t. group_cell t.0 t.1 t.2 t.3) _ _ _ _ _ _ _ _ _ _ c.from_residual-in_err-rest.ensures.1 (left_got (groups_of c.args.book.now.book) c.loop-index.index _ c.in-Some.ensures) c.in_ok-own.ensures.cell c.in_err-rest.ensures c.loop-index.invariant.met

pub loop-index-preserved : goal.loop-index-preserved
loop-index-preserved c = record {
  met = each_more (λ t. group_cell t.0 t.1 t.2 t.3) _ _ _ _ _ _ _ _ (left_got (groups_of c.args.book.now.book) c.loop-index.index _ c.in-Some.ensures) c.in_ok-own.ensures.cell c.in_ok-rest.ensures c.loop-index.invariant.met;
}

pub returns : goal.returns
returns c = each_ends (λ t. group_cell t.0 t.1 t.2 t.3) _ _ _ _ (none_left_at_end (groups_of c.args.book.now.book) c.group_count-index-end.result c.loop-index.index c.group_count-index-end.ensures (omega (arith, c.loop-index-test.false))) c.loop-index.invariant.met
