use Rattle.std.proofs.Common.{◌≡◌, length, sym, arith}
use Rattle.csv.specs.Records.{fields_of}
use Rattle.rv_csv.proofs.FieldLaws.{if_none, not_three, triple_is}
use Rattle.rv_import.proofs.import_calls.three_fields.Goals as goal

pub returns-in_err-list-clause-none : goal.returns-in_err-list-clause-none
returns-in_err-list-clause-none c = if_none _ (not_three (fields_of c.args.fields.now) 0 c.in_err-list.ensures.value (omega arith))

pub returns-in_err-text-clause-none : goal.returns-in_err-text-clause-none
returns-in_err-text-clause-none c = if_none _ (not_three (fields_of c.args.fields.now) 1 c.in_err-text.ensures.value (omega arith))

pub returns-in_err-complete-clause-none : goal.returns-in_err-complete-clause-none
returns-in_err-complete-clause-none c = if_none _ (not_three (fields_of c.args.fields.now) 2 c.in_err-complete.ensures.value (omega arith))

pub returns-clause-found : goal.returns-clause-found
returns-clause-found c =
    let size : length (fields_of c.args.fields.now) ≡ 3 = omega (arith, c.len.ensures, c.if-len-ne3.false) in
    triple_is (fields_of c.args.fields.now) c.in_ok-list.list.now c.in_ok-text.text.now c.in_ok-complete.complete.now size
    (sym c.in_ok-list.ensures.value) (sym c.in_ok-text.ensures.value) (sym c.in_ok-complete.ensures.value)
