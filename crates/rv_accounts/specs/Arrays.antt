-- How a look-up of an array in a document is seen.
use Rattle.std.specs.Prelude.{◌≡◌, List, map, Option, Some, None, Result, Ok, Err}
use Rattle.std.specs.Borrow.{Bor}
use Rattle.toml.specs.Data.{Data}
use Rattle.toml.specs.View.{view}
use Rattle.toml.specs.declared.value.Value.{Value}
use Rattle.rv_accounts.specs.declared.fault.AccountsFault.{AccountsFault}

-- the array that is there, if there is one
abbrev pub SeenArray : Result (Option (Bor (List Value))) AccountsFault → Result (Option (List Data)) AccountsFault → Type 0
SeenArray (Ok None) said = said ≡ Ok None
SeenArray (Ok (Some values)) said = said ≡ Ok (Some (map view values.now))
SeenArray (Err fault) said = said ≡ Err fault
