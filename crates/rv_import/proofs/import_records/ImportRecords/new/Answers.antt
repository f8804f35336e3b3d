use Rattle.rv_import.proofs.Askings.{small_asked, small_numbers}
use Rattle.rv_import.proofs.import_records.ImportRecords.new.Goals as goal

pub invariant_of-result : goal.invariant_of-result
invariant_of-result c = small_numbers c.args.bytes.now _ _ c.in_ok-go_past_header.field-0 c.requires c.new-records.ensures c.if-not-branch.false c.in_ok-go_past_header.ensures

pub returns-clause-few : goal.returns-clause-few
returns-clause-few c =
    small_asked c.args.user.now c.args.name.now _
    (small_numbers c.args.bytes.now _ _ c.in_ok-go_past_header.field-0 c.requires c.new-records.ensures c.if-not-branch.false c.in_ok-go_past_header.ensures)
