use Rattle.std.proofs.Common.{◌∙◌, sym, ap, subst, not}
use Rattle.csv.specs.Records.{fields_of}
use Rattle.rv_csv.specs.Left.{Takes, left_in}
use Rattle.rv_csv.proofs.Readings.{after_read}
use Rattle.rv_csv.proofs.records.Records.read.Goals as goal

pub invariant_of-self : goal.invariant_of-self
invariant_of-self c =
    let stands = c.self.invariant c.if-self.false in
    let read = c.in-Ok.ensures in
    (after_read c.self.inside.reader c.read_byte_record.new.self c.in-Ok.found (fields_of c.read_byte_record.new.row) stands (read.reads stands.trim stands.ready) (read.ready stands.trim) read.flexible).1

pub returns-in-Ok-clause-reads : goal.returns-in-Ok-clause-reads
returns-in-Ok-clause-reads c =
    let stands = c.self.invariant c.if-self.false in
    let read = c.in-Ok.ensures in
    let after = after_read c.self.inside.reader c.read_byte_record.new.self c.in-Ok.found (fields_of c.read_byte_record.new.row) stands (read.reads stands.trim stands.ready) (read.ready stands.trim) read.flexible in
    subst (λ old. Takes c.in-Ok.found (fields_of c.read_byte_record.new.row) old (left_in (not c.in-Ok.found) c.read_byte_record.new.self)) (ap (λ over. left_in over c.self.inside.reader) (sym c.if-self.false) ∙ c.self.view_is) after.0

pub returns-in-Ok-clause-ends : goal.returns-in-Ok-clause-ends
returns-in-Ok-clause-ends c = λ none. ap (λ found. left_in (not found) c.read_byte_record.new.self) none
