-- The steps of an import: its header, its next mutation, and what comes of one.
use Rattle.std.specs.Prelude.{◌≡◌, ◌≢◌, ℕ, ◌+◌, Bool, true, false, List, [], ◌∷◌, None, Result, Ok, Err, if◌then◌else◌}
use Rattle.rv_turns.specs.Outcomes.{has_acted}
use Rattle.rv_turns.specs.declared.mutation.Mutation.{Mutation}
use Rattle.rv_turns.specs.declared.pushing.Outcome.{Outcome}
use Rattle.rv_turns.specs.declared.refusal.Refusal.{Refusal}
use Rattle.rv_turns.specs.declared.refusal.Refusal.TheVariants as refusals
use Rattle.rv_csv.specs.Records.{Record}
use Rattle.rv_import.specs.Imports.{Asked, asked_in, bad_at, is_import_header}
use Rattle.rv_import.specs.Importing.{is_skipped}
use Rattle.rv_import.specs.declared.import_end.ImportCounts.{ImportCounts}
use Rattle.rv_import.specs.declared.import_end.ImportEnd.{ImportEnd}
use Rattle.rv_import.specs.declared.import_end.ImportEnd.TheVariants as ends
use Rattle.rv_import.specs.declared.import_records.Stop.{Stop}
use Rattle.rv_import.specs.declared.import_records.Stop.TheVariants.{End, BadRecord, Memory}

-- the header was the first of the records that were left, or else another was, or none
abbrev pub HasImportHeader : Bool → List Record → List Record → Type 0
HasImportHeader true old new = (first : Record) × (old ≡ first ∷ new) × (is_import_header first ≡ true)
HasImportHeader false old new = (user name : List ℕ) → asked_in user name old ≡ bad_at 0

-- the mutation was the first of what was asked for; or there is none, or a record that is not of the form
abbrev pub NextAsked : Asked → Asked → Result Mutation Stop → Type 0
NextAsked old new (Ok mutation) = (old.mutations ≡ mutation ∷ new.mutations) × (old.bad ≡ new.bad)
NextAsked old new (Err End) = old ≡ record { mutations = []; bad = None }
NextAsked old new (Err (BadRecord n)) = old ≡ bad_at n
NextAsked old new (Err Memory) = Unit {0}

abbrev pub one_if : Bool → ℕ
one_if holds = if holds then 1 else 0

-- the counts after one more outcome
abbrev pub counts_after : ImportCounts → Outcome → ImportCounts
counts_after counts outcome = record { records = counts.records + 1; acted = counts.acted + one_if (has_acted outcome); skipped = counts.skipped + one_if (is_skipped outcome) }

-- how an import ends at this refusal
abbrev pub EndsRefused : Refusal → ImportEnd → Type 0
EndsRefused refusal (ends.Refused why) = (why ≡ refusal) × (refusal ≢ refusals.Memory)
EndsRefused refusal ends.Memory = refusal ≡ refusals.Memory
EndsRefused refusal (ends.Done counts) = ⊥
EndsRefused refusal (ends.BadRecord n) = ⊥
EndsRefused refusal ends.TooLarge = ⊥
