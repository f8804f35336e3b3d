use Rattle.std.proofs.Common.{◌≡◌, ◌++◌, length}
use Rattle.rv_csv.specs.Records.{records_of}
use Rattle.rv_csv.specs.Views.{IsView, view_records}
use Rattle.rv_csv.proofs.view_reading.rows_of.Given as goal

-- the rows so far, and the records that are left
abbrev pub invariant-loop-rows : goal.invariant-loop-rows
invariant-loop-rows l = record {
  rows : IsView l.rows.items;
  whole : records_of l.fn.bytes ≡ view_records l.rows.items ++ l.records;
}

abbrev pub decreases-loop-rows : goal.decreases-loop-rows
decreases-loop-rows l = length l.records
