use Rattle.std.proofs.Common.{arith}
use Rattle.rv_book.specs.Registers.{clients_of}
use Rattle.rv_record.specs.CellTexts.{client_cell}
use Rattle.rv_store.proofs.Comparisons.{each_more, each_fails, each_ends, left_got, none_left, none_left_at_end}
use Rattle.rv_store.proofs.comparing.meet_clients.Goals as goal

pub returns-in_default : goal.returns-in_default
returns-in_default c = each_ends (λ t. client_cell t.0 t.1 t.2) _ _ _ _ (none_left (clients_of c.args.book.now.book) c.loop-index.index c.in_default.ensures.info) c.loop-index.invariant.met

pub returns-in_err-rest : goal.returns-in_err-rest
returns-in_err-rest c =
    each_fails (λ t. client_cell t.0 t.1 t.2) _ _ _ _ _ _ _ _ _ _ c.from_residual-in_err-rest.ensures.1 (left_got (clients_of c.args.book.now.book) c.loop-index.index _ c.in-Some.ensures.info) c.in_ok-own.ensures.cell c.in_err-rest.ensures c.loop-index.invariant.met

pub loop-index-preserved : goal.loop-index-preserved
loop-index-preserved c = record {
  met = each_more (λ t. client_cell t.0 t.1 t.2) _ _ _ _ _ _ _ _ (left_got (clients_of c.args.book.now.book) c.loop-index.index _ c.in-Some.ensures.info) c.in_ok-own.ensures.cell c.in_ok-rest.ensures c.loop-index.invariant.met;
}

pub returns : goal.returns
returns c = each_ends (λ t. client_cell t.0 t.1 t.2) _ _ _ _ (none_left_at_end (clients_of c.args.book.now.book) c.client_count-index-end.result c.loop-index.index c.client_count-index-end.ensures (omega (arith, c.loop-index-test.false))) c.loop-index.invariant.met
