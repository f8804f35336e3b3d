-- An entry as JSON, as it is kept.
--   ["act",USER,GROUP,CLIENT,ID,CALL], ["look",USER,GROUP,ORDER,BASE] with null for no base, ["retire",GROUP]
use Rattle.std.specs.Prelude.{[], ◌∷◌, codes}
use Rattle.serde_json.specs.Data.{Data, number, unsigned, string}
use Rattle.rv_book.specs.declared.entry.Entry.{Entry}
use Rattle.rv_book.specs.declared.entry.Entry.TheVariants.{Act, Look, Retire}
use Rattle.rv_record.specs.CallTexts.{array_of, number_or_null, call_data}

abbrev pub entry_data : Entry → Data
entry_data (Act user group client id call) = array_of (string (codes "act") ∷ string user ∷ string group ∷ string client ∷ number (unsigned id) ∷ call_data call ∷ [])
entry_data (Look user group order base) = array_of (string (codes "look") ∷ string user ∷ string group ∷ number (unsigned order) ∷ number_or_null base ∷ [])
entry_data (Retire group) = array_of (string (codes "retire") ∷ string group ∷ [])
