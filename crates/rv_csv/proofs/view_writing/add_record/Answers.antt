use Rattle.std.proofs.Common.{[], ◌∷◌}
use Rattle.rv_csv.proofs.WriterLaws.{added_record, plain}
use Rattle.rv_csv.proofs.view_writing.add_record.Goals as goal

pub returns-in-Ok : goal.returns-in-Ok
returns-in-Ok c = λ text has.
    let wrote = c.in-Ok.ensures in
    added_record (λ v. v.items) _ _ text (c.args.first.now ∷ c.args.second.now ∷ []) has (wrote.bytes has.fields has.wrote (plain _ has.setup)) wrote.ended wrote.clean wrote.setup
