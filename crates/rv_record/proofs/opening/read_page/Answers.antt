use Rattle.std.proofs.Common.{arith}
use Rattle.rv_record.proofs.Ended.{first_fails, next_follows, read_more, read_fails, read_all}
use Rattle.rv_record.proofs.opening.read_page.Goals as goal

pub returns-in_err-read : goal.returns-in_err-read
returns-in_err-read c = first_fails c.args.limit c.args.cells.now c.in-Some.first.now c.in-Some.rest.now _ _ c.in-Some.ensures.cases.0 c.from_residual.ensures.1 (c.in_err-read.ensures c.args.cells.now c.requires)

pub returns-in_err-take : goal.returns-in_err-take
returns-in_err-take c =
    let so_far = c.loop-cell.invariant.so_far in
    let follows = next_follows c.args.limit c.args.cells.now c.in-Some.rest.now c.loop-cell.cell-index c.cell-item.result c.loop-cell.read c.requires c.loop-cell-test.true c.cell-item.is so_far in
    read_fails c.args.limit c.args.cells.now c.in-Some.rest.now c.loop-cell.cell-index c.cell-item.result c.loop-cell.read c.requires c.loop-cell-test.true c.cell-item.is so_far c.take.new.self _ _ c.from_residual-in_err-take.ensures.1
    (c.in_err-take.ensures c.args.limit so_far.has follows)

pub loop-cell-preserved : goal.loop-cell-preserved
loop-cell-preserved c =
    let so_far = c.loop-cell.invariant.so_far in
    let follows = next_follows c.args.limit c.args.cells.now c.in-Some.rest.now c.loop-cell.cell-index c.cell-item.result c.loop-cell.read c.requires c.loop-cell-test.true c.cell-item.is so_far in
    record {
      so_far = read_more c.args.limit c.args.cells.now c.in-Some.rest.now c.loop-cell.cell-index c.cell-item.result c.loop-cell.read c.requires c.loop-cell-test.true c.cell-item.is so_far c.take.new.self (c.in_ok-take.ensures c.args.limit so_far.has follows);
    }

pub returns : goal.returns
returns c = read_all c.args.limit c.args.cells.now c.in-Some.rest.now c.loop-cell.cell-index c.loop-cell.read (omega (arith, c.loop-cell-test.false)) c.loop-cell.invariant.so_far
