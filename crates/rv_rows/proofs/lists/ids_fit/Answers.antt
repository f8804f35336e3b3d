use Rattle.std.proofs.Common.{subst, arith}
use Rattle.std.specs.List.{AllByRecursion}
use Rattle.std.specs.Str.{IsUtf8}
use Rattle.std.proofs.lemmas.List.{take_all}
use Rattle.rv_base.specs.Texts.{IsWithin}
use Rattle.rv_rows.proofs.IdLaws.{all_next}
use Rattle.rv_rows.proofs.lists.ids_fit.Goals as goal

pub loop-id-preserved : goal.loop-id-preserved
loop-id-preserved c = record {
  within = all_next (IsWithin 1 128) c.args.ids.now c.loop-id.id-index c.id-item.result c.loop-id-test.true c.id-item.is c.id_fits.ensures.within c.loop-id.invariant.within;
  valid = all_next IsUtf8 c.args.ids.now c.loop-id.id-index c.id-item.result c.loop-id-test.true c.id-item.is c.id_fits.ensures.valid c.loop-id.invariant.valid;
}

pub returns-clause-within : goal.returns-clause-within
returns-clause-within c = subst (AllByRecursion (IsWithin 1 128)) (take_all c.loop-id.id-index c.args.ids.now (omega (arith, c.loop-id-test.false))) c.loop-id.invariant.within

pub returns-clause-valid : goal.returns-clause-valid
returns-clause-valid c = subst (AllByRecursion IsUtf8) (take_all c.loop-id.id-index c.args.ids.now (omega (arith, c.loop-id-test.false))) c.loop-id.invariant.valid
