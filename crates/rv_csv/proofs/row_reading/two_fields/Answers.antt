use Rattle.std.proofs.Common.{◌≡◌, length, sym, arith}
use Rattle.csv.specs.Records.{fields_of}
use Rattle.rv_csv.proofs.FieldLaws.{if_none, no_first, no_second, pair_is}
use Rattle.rv_csv.proofs.row_reading.two_fields.Goals as goal

pub returns-in_err-first-clause-none : goal.returns-in_err-first-clause-none
returns-in_err-first-clause-none c = if_none _ (no_first (fields_of c.args.fields.now) c.in_err-first.ensures.value)

pub returns-in_err-second-clause-none : goal.returns-in_err-second-clause-none
returns-in_err-second-clause-none c = if_none _ (no_second (fields_of c.args.fields.now) c.in_err-second.ensures.value)

pub returns-clause-found : goal.returns-clause-found
returns-clause-found c =
    let size : length (fields_of c.args.fields.now) ≡ 2 = omega (arith, c.len.ensures, c.if-len-ne2.false) in
    pair_is (fields_of c.args.fields.now) c.in_ok-first.first.now c.in_ok-second.second.now size (sym c.in_ok-first.ensures.value) (sym c.in_ok-second.ensures.value)
