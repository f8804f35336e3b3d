use Rattle.std.proofs.Common.{◌+◌, ◌<◌, nat_le, subst, sym, rules, arith}
use Rattle.std.specs.List.{AllByRecursion}
use Rattle.std.proofs.lemmas.Bool.Decides.{nat_tests}
use Rattle.std.proofs.lemmas.Fn.{always_returns_same}
use Rattle.rv_keeper.specs.declared.cell.Cell.{Cell}
use Rattle.rv_keeper.specs.ShelfNumbers.{shelf_number}
use Rattle.rv_store.proofs.Restored.{all_dropped, all_taken, parted}
use Rattle.rv_store.proofs.restoring.cut.Goals as goal

pub returns-clause-before : goal.returns-clause-before
returns-clause-before c =
    let point = c.partition_point.ensures.partitioned (λ (cell : Cell). nat_le cell.shelf c.number-number.result) (always_returns_same _ _ _ (λ a r f called. search rules)) (parted c.number-number.result c.args.cells.now c.requires) in
    subst (AllByRecursion (λ (cell : Cell). cell.shelf < shelf_number c.args.last + 1)) (sym c.split_at.ensures.front)
    (all_taken (λ cell. cell.shelf < shelf_number c.args.last + 1) c.partition_point.result c.args.cells.now (λ k d below within. let passes = point.0 k d (omega arith) below in let number = c.number-number.ensures in grind (arith, nat_tests)))

pub returns-clause-behind : goal.returns-clause-behind
returns-clause-behind c =
    let point = c.partition_point.ensures.partitioned (λ (cell : Cell). nat_le cell.shelf c.number-number.result) (always_returns_same _ _ _ (λ a r f called. search rules)) (parted c.number-number.result c.args.cells.now c.requires) in
    subst (AllByRecursion (λ (cell : Cell). shelf_number c.args.last < cell.shelf)) (sym c.split_at.ensures.back)
    (all_dropped (λ cell. shelf_number c.args.last < cell.shelf) c.partition_point.result c.args.cells.now (λ k d from within. let fails = point.1 k d from within in let number = c.number-number.ensures in grind (arith, nat_tests)))
