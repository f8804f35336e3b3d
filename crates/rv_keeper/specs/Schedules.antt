-- The calls at which a keeper in memory fails, and what it answers there.
use Rattle.std.specs.Prelude.{◌≡◌, ℕ, ◌+◌, ◌-◌, ◌^◌, ◌<◌, ◌==◌, min, Bool, true, false, not, ◌||◌, ◌⊎◌, List, Result, Ok, Err, if◌then◌else◌}
use Rattle.std.specs.List.{list_any, AllByRecursion}
use Rattle.rv_base.specs.declared.fault.Fault.{Fault}
use Rattle.rv_base.specs.declared.fault.Fault.TheVariants.{Failed, Memory}
use Rattle.rv_keeper.specs.declared.memory_keeper.Fails.{Fails}
use Rattle.rv_keeper.specs.declared.memory_keeper.Fails.TheVariants as calls
use Rattle.rv_keeper.specs.declared.memory_keeper.Fails.TheVariants.{Before, After, Load, Generation}
use Rattle.rv_keeper.specs.declared.change.Change.{Change}
use Rattle.rv_keeper.specs.declared.loaded.Loaded.{Loaded}
use Rattle.rv_keeper.specs.Keeping.{committed}

-- both name the same call
abbrev pub same_fails : Fails → Fails → Bool
same_fails (Before one) (Before two) = one == two
same_fails (After one) (After two) = one == two
same_fails (calls.Memory one) (calls.Memory two) = one == two
same_fails (Load one) (Load two) = one == two
same_fails (Generation one) (Generation two) = one == two
same_fails one two = false

-- the schedule names the call
abbrev pub fails_at : Fails → List Fails → Bool
fails_at call schedule = list_any (λ fails. same_fails fails call) schedule

-- one more, up to the type's end
abbrev pub next_call : ℕ → ℕ
next_call n = min (n + 1) (2 ^ 64 - 1)

-- the call is none that is still to come, after so many loads, questions for the generation and commits
abbrev pub IsPast : ℕ → ℕ → ℕ → Fails → Type 0
IsPast loads questions commits (Before n) = n < next_call commits
IsPast loads questions commits (After n) = n < next_call commits
IsPast loads questions commits (calls.Memory n) = n < next_call commits
IsPast loads questions commits (Load n) = n < next_call loads
IsPast loads questions commits (Generation n) = n < next_call questions

-- no call of the schedule is still to come
abbrev pub KeeperFailsNoMore : ℕ → ℕ → ℕ → List Fails → Type 0
KeeperFailsNoMore loads questions commits schedule = AllByRecursion (IsPast loads questions commits) schedule

-- the count of faults after a call, which was one or not
abbrev pub counted_fault : Bool → ℕ → ℕ
counted_fault fault n = if fault then next_call n else n

-- the generation can't be what a commit from this one left or found
abbrev pub is_strange : ℕ → ℕ → Bool
is_strange from generation = not ((generation == from) || (generation == from + 1))

-- the call failed, and not for want of memory
abbrev pub has_failed : {T : Type 0} → Result T Fault → Bool
has_failed (Ok x) = false
has_failed (Err Failed) = true
has_failed (Err Memory) = false

-- what a load is answered: it fails exactly where the schedule says so
abbrev pub IsLoad : Bool → Loaded → Result Loaded Fault → Type 0
IsLoad fails held (Ok loaded) = (fails ≡ false) × (loaded ≡ held)
IsLoad fails held (Err Failed) = fails ≡ true
IsLoad fails held (Err Memory) = fails ≡ false

-- What a commit is answered and leaves. It fails exactly where the schedule says so: before the changes are made, or
-- after. Memory is refused it where the schedule says so, and it doesn't fail before.
abbrev pub IsCommit : Bool → Bool → Bool → ℕ → List Change → Loaded → Loaded → Result (Unit {0}) Fault → Type 0
IsCommit before memory after from changes old new (Ok done) = (before ≡ false) × (memory ≡ false) × (after ≡ false) × (new ≡ committed from changes old)
IsCommit before memory after from changes old new (Err Failed) =
    ((before ≡ true) × (new ≡ old)) ⊎ ((before ≡ false) × (memory ≡ false) × (after ≡ true) × (new ≡ committed from changes old))
IsCommit before memory after from changes old new (Err Memory) = (before ≡ false) × (new ≡ old)

-- the same of the commit of this number, by the calls that fail
abbrev pub IsCommitBy : List Fails → ℕ → ℕ → List Change → Loaded → Loaded → Result (Unit {0}) Fault → Type 0
IsCommitBy schedule number = IsCommit (fails_at (Before number) schedule) (fails_at (calls.Memory number) schedule) (fails_at (After number) schedule)
