use Rattle.std.proofs.Common.{take}
use Rattle.rv_rows.specs.Held.{rows_in}
use Rattle.rv_mutators.specs.Touched.{AddsReaders}
use Rattle.rv_mutators.proofs.staged.add_readers.Given as goal

abbrev pub invariant-loop-row : goal.invariant-loop-row
invariant-loop-row l = AddsReaders (rows_in l.tables.rows) (take l.row-index l.rows) l.initial.readers l.readers
