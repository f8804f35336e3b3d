use Rattle.std.proofs.Common.{take}
use Rattle.std.specs.List.{AllByRecursion}
use Rattle.std.specs.Str.{IsUtf8}
use Rattle.rv_base.specs.Texts.{IsWithin}
use Rattle.rv_rows.proofs.lists.ids_fit.Given as goal

abbrev pub invariant-loop-id : goal.invariant-loop-id
invariant-loop-id l = record {
  within : AllByRecursion (IsWithin 1 128) (take l.id-index l.ids);
  valid : AllByRecursion IsUtf8 (take l.id-index l.ids);
}
