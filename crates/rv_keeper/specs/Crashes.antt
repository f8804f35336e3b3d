-- What a crash may leave of a store: these cells and this generation, or what is none.
use Rattle.std.specs.Prelude.{◌≡◌, ◌⊎◌, ℕ, List, Option, Some}
use Rattle.rv_keeper.specs.declared.change.Change.{Change}
use Rattle.rv_keeper.specs.declared.loaded.Loaded.{Loaded}
use Rattle.rv_keeper.specs.Keeping.{committed}

-- after a call a crash may leave what it might before, and what passes this
abbrev pub LeavesMore : (Option Loaded → Type 0) → (Option Loaded → Type 0) → (Option Loaded → Type 0) → Type 0
LeavesMore Before Now More = (left : Option Loaded) → Now left → Before left ⊎ More left

-- of a keeper that tells: what it holds
abbrev pub IsHeld : Type 0 → (Loaded → Type 0) → Option Loaded → Type 0
IsHeld Tells Holds left = Tells × ((held : Loaded) → Holds held → left ≡ Some held)

-- of a keeper that tells: what it holds after these changes
abbrev pub IsMade : Type 0 → (Loaded → Type 0) → ℕ → List Change → Option Loaded → Type 0
IsMade Tells Holds from changes left = Tells × ((held : Loaded) → Holds held → left ≡ Some (committed from changes held))

-- a crash leaves nothing but what is held
abbrev pub IsSettled : (Loaded → Type 0) → (Option Loaded → Type 0) → Type 0
IsSettled Holds Leaves = (held : Loaded) → Holds held → (left : Option Loaded) → Leaves left → left ≡ Some held
