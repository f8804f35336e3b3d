-- What a call stages: the rows that it writes and the keys that it removes, and what becomes of stored rows when they are
-- written and removed.
use Rattle.std.specs.Prelude.{◌≡◌, ℕ, Bool, List, [], ◌∷◌, fold, if◌then◌else◌}
use Rattle.rv_rows.specs.declared.call.Call.{Call}
use Rattle.rv_rows.specs.declared.row.Row.{Row}
use Rattle.rv_rows.specs.Keys.{key_text, row_key}
use Rattle.rv_rows.specs.Held.{Stored, rows_in, put, remove}
use Rattle.rv_rows.specs.Effects.{effect}
use Rattle.rv_rows.specs.Changes.{written, lost}
use Rattle.rv_mutators.specs.declared.staged.Staged.{Staged}

-- the rows that the user's call writes, and the keys that it removes
abbrev pub staged : List Row → List ℕ → Call → Staged
staged rows user call = record { rows = written rows (effect rows user call); keys = lost rows (effect rows user call) }

-- the stored rows without the keys, and with the rows at this version
abbrev pub with_staged : ℕ → Staged → List Stored → List Stored
with_staged version s stored = fold (λ t row. put (row, version) t) (fold (λ t key. remove (key_text key) t) stored s.keys) s.rows

-- it was staged on these stored rows, for some call of some user
abbrev pub IsStagedOn : List Stored → Staged → Type 0
IsStagedOn stored s = (user : List ℕ) × (call : Call) × (s ≡ staged (rows_in stored) user call)

-- the row is written, where the test holds
abbrev pub written_if : Bool → Row → Staged
written_if test row = if test then record { rows = row ∷ []; keys = [] } else record { rows = []; keys = [] }

-- the row's key is removed, where the test holds
abbrev pub removed_if : Bool → Row → Staged
removed_if test row = if test then record { rows = []; keys = row_key row ∷ [] } else record { rows = []; keys = [] }
