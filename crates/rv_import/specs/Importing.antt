-- The turns of an import, and how it ends.
use Rattle.std.specs.Prelude.{◌≡◌, ◌≢◌, ◌⊎◌, ℕ, ◌<◌, ◌≤◌, Bool, true, false, List, [], ◌∷◌, ◌++◌, length, count_by, codes, decimal, Option, Some, None}
use Rattle.std.specs.List.{AllByRecursion}
use Rattle.rv_turns.specs.Asks.{Sender, Ask}
use Rattle.rv_turns.specs.Outcomes.{has_acted, refusal_of}
use Rattle.rv_turns.specs.declared.mutation.Mutation.{Mutation}
use Rattle.rv_turns.specs.declared.pushing.Outcome.{Outcome}
use Rattle.rv_turns.specs.declared.pushing.Outcome.TheVariants as outcome
use Rattle.rv_turns.specs.declared.refusal.Refusal.TheVariants as refusals
use Rattle.rv_import.specs.Imports.{Asked, asked_of, group_id, import_limit}
use Rattle.rv_import.specs.declared.import_end.ImportCounts.{ImportCounts}
use Rattle.rv_import.specs.declared.import_end.ImportEnd.{ImportEnd}
use Rattle.rv_import.specs.declared.import_end.ImportEnd.TheVariants.{Done, TooLarge, BadRecord, Refused, Memory}

-- who sends the mutations of a user's imports
abbrev pub importer : List ℕ → Sender
importer user = record { user = user; group = group_id user }

-- each mutation is a turn, with its outcome, at the state that the one before it left
abbrev pub TakesInOrder : {S : Type 0} → (S → Ask → Outcome → S → Type 0) → Sender → List Mutation → S → List Outcome → S → Type 0
TakesInOrder takes from [] old [] new = new ≡ old
TakesInOrder takes from [] old (o ∷ os) new = ⊥
TakesInOrder takes from (m ∷ ms) old [] new = ⊥
TakesInOrder {S} takes from (m ∷ ms) old (o ∷ os) new = (mid : S) × takes old (Ask.mutation from m) o mid × TakesInOrder takes from ms mid os new

-- none is a refusal
abbrev pub AreDone : List Outcome → Type 0
AreDone outcomes = AllByRecursion (λ o. refusal_of o ≡ None) outcomes

-- the mutation was skipped
abbrev pub is_skipped : Outcome → Bool
is_skipped (outcome.Skipped last) = true
is_skipped other = false

-- how many outcomes there are, and how many of mutations that were run and that were skipped
abbrev pub counts_of : List Outcome → ImportCounts
counts_of outcomes = record { records = length outcomes; acted = count_by has_acted outcomes; skipped = count_by is_skipped outcomes }

-- records N acted A skipped S, and LF
abbrev pub import_text : ImportCounts → List ℕ
import_text counts =
    codes "records " ++ (decimal counts.records ++ (codes " acted " ++ (decimal counts.acted ++ (codes " skipped " ++ (decimal counts.skipped ++ codes "\n")))))

-- How an import ends, by its first record that is not of the form, the mutations that were not taken, and the outcomes of those that
-- were. It ends at the first refusal, and where memory is refused, to itself or to a turn, before or after any of them.
abbrev pub EndsImport : Option ℕ → List Mutation → List Outcome → ImportEnd → Type 0
EndsImport bad left outcomes (Done counts) = (bad ≡ None) × (left ≡ []) × AreDone outcomes × (counts ≡ counts_of outcomes)
EndsImport bad left outcomes (BadRecord n) = (bad ≡ Some n) × (left ≡ []) × AreDone outcomes
EndsImport bad left outcomes (Refused refusal) =
    (before : List Outcome) × (outcomes ≡ before ++ outcome.Refused refusal ∷ []) × AreDone before × (refusal ≢ refusals.Memory)
EndsImport bad left outcomes Memory =
    (before : List Outcome) × AreDone before × ((outcomes ≡ before) ⊎ (outcomes ≡ before ++ outcome.Refused refusals.Memory ∷ []))
EndsImport bad left outcomes TooLarge = ⊥

-- The first mutations of what is asked for were taken in order, one turn each, and the import ended so.
pub record Imported {S : Type 0} (takes : S → Ask → Outcome → S → Type 0) (from : Sender) (asked : Asked) (old : S) (end : ImportEnd) (new : S) : Type 0 where
  pub taken : List Mutation
  pub left : List Mutation
  pub outcomes : List Outcome
  pub all : asked.mutations ≡ taken ++ left
  pub turns : TakesInOrder takes from taken old outcomes new
  pub ends : EndsImport asked.bad left outcomes end

-- An import of bytes above the limit takes no turn. Any other takes those of what its bytes ask for.
abbrev pub Imports : {S : Type 0} → (S → Ask → Outcome → S → Type 0) → List ℕ → List ℕ → List ℕ → S → ImportEnd → S → Type 0
Imports takes user name bytes old TooLarge new = (import_limit < length bytes) × (new ≡ old)
Imports takes user name bytes old (Done counts) new = (length bytes ≤ import_limit) × Imported takes (importer user) (asked_of user name bytes) old (Done counts) new
Imports takes user name bytes old (BadRecord n) new = (length bytes ≤ import_limit) × Imported takes (importer user) (asked_of user name bytes) old (BadRecord n) new
Imports takes user name bytes old (Refused refusal) new = (length bytes ≤ import_limit) × Imported takes (importer user) (asked_of user name bytes) old (Refused refusal) new
Imports takes user name bytes old Memory new = (length bytes ≤ import_limit) × Imported takes (importer user) (asked_of user name bytes) old Memory new
