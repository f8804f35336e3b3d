-- A law of imports: at status 0 the input was read to its end.
use Rattle.std.proofs.Common.{◌≡◌, ◌≢◌, Err, ap, arith}
use Rattle.rv_base.specs.Outside.{OutputState}
use Rattle.rv_cli.specs.declared.import_ending.ImportEnding.{ImportEnding}
use Rattle.rv_cli.specs.declared.input_fault.InputFault.{InputFault}
use Rattle.rv_cli.specs.declared.input_fault.InputFault.TheVariants.{Read, TooLarge, Memory}
use Rattle.rv_cli.specs.Importing.{WritesCame}
use Rattle.rv_cli.specs.Texts.{import_status}

-- the status of an input that was not read to its end is not 0
pub unread_fails : (fault : InputFault) (ending : ImportEnding) (old new : OutputState) → WritesCame old new (Err fault) ending → import_status ending ≢ 0
unread_fails Read ending old new (same, text) none = let told : import_status ending ≡ 6 = ap import_status same in omega (arith, told, none)
unread_fails TooLarge ending old new (same, text) none = let told : import_status ending ≡ 11 = ap import_status same in omega (arith, told, none)
unread_fails Memory ending old new (same, text) none = let told : import_status ending ≡ 8 = ap import_status same in omega (arith, told, none)
