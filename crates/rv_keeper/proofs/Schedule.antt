-- A schedule of which no call is still to come.
use Rattle.std.proofs.Common.{◌≡◌, ℕ, ◌<◌, ◌==◌, ◌||◌, Bool, true, false, List, [], ◌∷◌, refl, sym, ◌∙◌, arith}
use Rattle.std.proofs.lemmas.Bool.Decides.{Decides-eqb}
use Rattle.std.specs.Prelude.{Result, Ok, Err, IsErrOf}
use Rattle.std.specs.Result.{IsErr, IsErrAnd}
use Rattle.rv_base.specs.declared.fault.Fault.{Fault}
use Rattle.rv_base.specs.declared.fault.Fault.TheVariants.{Failed, Memory}
use Rattle.rv_keeper.specs.declared.memory_keeper.Fails.{Fails}
use Rattle.rv_keeper.specs.declared.memory_keeper.Fails.TheVariants as calls
use Rattle.rv_keeper.specs.declared.memory_keeper.Fails.TheVariants.{Before, After, Load, Generation}
use Rattle.rv_keeper.specs.Schedules.{fails_at, next_call, KeeperFailsNoMore}

other_number : (n m : ℕ) → n < m → (n == m) ≡ false
other_number n m lt = go (n == m) refl
  where
    go : (b : Bool) → (n == m) ≡ b → b ≡ false
    go false e = refl
    go true e = absurd (omega (arith, lt, (Decides-eqb n m).0 e))

past_more : (n count : ℕ) → n < next_call count → n < next_call (next_call count)
past_more n count past = omega (arith, past)

or_else : (a b : Bool) → a ≡ false → b ≡ false → (a || b) ≡ false
or_else true b e f = e
or_else false b e f = f

-- the schedule does not name the next load, question or commit
no_load : (loads questions commits : ℕ) (schedule : List Fails) → KeeperFailsNoMore loads questions commits schedule → fails_at (Load (next_call loads)) schedule ≡ false
no_load loads questions commits [] all = refl
no_load loads questions commits (Before n ∷ schedule) all = no_load loads questions commits schedule all.1
no_load loads questions commits (After n ∷ schedule) all = no_load loads questions commits schedule all.1
no_load loads questions commits (calls.Memory n ∷ schedule) all = no_load loads questions commits schedule all.1
no_load loads questions commits (Load n ∷ schedule) all = or_else _ _ (other_number n (next_call loads) all.0) (no_load loads questions commits schedule all.1)
no_load loads questions commits (Generation n ∷ schedule) all = no_load loads questions commits schedule all.1

no_question : (loads questions commits : ℕ) (schedule : List Fails) → KeeperFailsNoMore loads questions commits schedule → fails_at (Generation (next_call questions)) schedule ≡ false
no_question loads questions commits [] all = refl
no_question loads questions commits (Before n ∷ schedule) all = no_question loads questions commits schedule all.1
no_question loads questions commits (After n ∷ schedule) all = no_question loads questions commits schedule all.1
no_question loads questions commits (calls.Memory n ∷ schedule) all = no_question loads questions commits schedule all.1
no_question loads questions commits (Load n ∷ schedule) all = no_question loads questions commits schedule all.1
no_question loads questions commits (Generation n ∷ schedule) all = or_else _ _ (other_number n (next_call questions) all.0) (no_question loads questions commits schedule all.1)

no_before : (loads questions commits : ℕ) (schedule : List Fails) → KeeperFailsNoMore loads questions commits schedule → fails_at (Before (next_call commits)) schedule ≡ false
no_before loads questions commits [] all = refl
no_before loads questions commits (Before n ∷ schedule) all = or_else _ _ (other_number n (next_call commits) all.0) (no_before loads questions commits schedule all.1)
no_before loads questions commits (After n ∷ schedule) all = no_before loads questions commits schedule all.1
no_before loads questions commits (calls.Memory n ∷ schedule) all = no_before loads questions commits schedule all.1
no_before loads questions commits (Load n ∷ schedule) all = no_before loads questions commits schedule all.1
no_before loads questions commits (Generation n ∷ schedule) all = no_before loads questions commits schedule all.1

no_after : (loads questions commits : ℕ) (schedule : List Fails) → KeeperFailsNoMore loads questions commits schedule → fails_at (After (next_call commits)) schedule ≡ false
no_after loads questions commits [] all = refl
no_after loads questions commits (Before n ∷ schedule) all = no_after loads questions commits schedule all.1
no_after loads questions commits (After n ∷ schedule) all = or_else _ _ (other_number n (next_call commits) all.0) (no_after loads questions commits schedule all.1)
no_after loads questions commits (calls.Memory n ∷ schedule) all = no_after loads questions commits schedule all.1
no_after loads questions commits (Load n ∷ schedule) all = no_after loads questions commits schedule all.1
no_after loads questions commits (Generation n ∷ schedule) all = no_after loads questions commits schedule all.1

-- one more call leaves none to come
later_load : (loads questions commits : ℕ) (schedule : List Fails) → KeeperFailsNoMore loads questions commits schedule → KeeperFailsNoMore (next_call loads) questions commits schedule
later_load loads questions commits [] all = tt
later_load loads questions commits (Before n ∷ schedule) all = (all.0, later_load loads questions commits schedule all.1)
later_load loads questions commits (After n ∷ schedule) all = (all.0, later_load loads questions commits schedule all.1)
later_load loads questions commits (calls.Memory n ∷ schedule) all = (all.0, later_load loads questions commits schedule all.1)
later_load loads questions commits (Load n ∷ schedule) all = (past_more n loads all.0, later_load loads questions commits schedule all.1)
later_load loads questions commits (Generation n ∷ schedule) all = (all.0, later_load loads questions commits schedule all.1)

later_question : (loads questions commits : ℕ) (schedule : List Fails) → KeeperFailsNoMore loads questions commits schedule → KeeperFailsNoMore loads (next_call questions) commits schedule
later_question loads questions commits [] all = tt
later_question loads questions commits (Before n ∷ schedule) all = (all.0, later_question loads questions commits schedule all.1)
later_question loads questions commits (After n ∷ schedule) all = (all.0, later_question loads questions commits schedule all.1)
later_question loads questions commits (calls.Memory n ∷ schedule) all = (all.0, later_question loads questions commits schedule all.1)
later_question loads questions commits (Load n ∷ schedule) all = (all.0, later_question loads questions commits schedule all.1)
later_question loads questions commits (Generation n ∷ schedule) all = (past_more n questions all.0, later_question loads questions commits schedule all.1)

later_commit : (loads questions commits : ℕ) (schedule : List Fails) → KeeperFailsNoMore loads questions commits schedule → KeeperFailsNoMore loads questions (next_call commits) schedule
later_commit loads questions commits [] all = tt
later_commit loads questions commits (Before n ∷ schedule) all = (past_more n commits all.0, later_commit loads questions commits schedule all.1)
later_commit loads questions commits (After n ∷ schedule) all = (past_more n commits all.0, later_commit loads questions commits schedule all.1)
later_commit loads questions commits (calls.Memory n ∷ schedule) all = (past_more n commits all.0, later_commit loads questions commits schedule all.1)
later_commit loads questions commits (Load n ∷ schedule) all = (all.0, later_commit loads questions commits schedule all.1)
later_commit loads questions commits (Generation n ∷ schedule) all = (all.0, later_commit loads questions commits schedule all.1)

-- The next call of each kind does not fail, and none is still to come after it.
pub next_load : (loads questions commits : ℕ) (schedule : List Fails) → KeeperFailsNoMore loads questions commits schedule → (fails_at (Load (next_call loads)) schedule ≡ false) × KeeperFailsNoMore (next_call loads) questions commits schedule
next_load loads questions commits schedule all = (no_load loads questions commits schedule all, later_load loads questions commits schedule all)

pub next_question : (loads questions commits : ℕ) (schedule : List Fails) → KeeperFailsNoMore loads questions commits schedule → (fails_at (Generation (next_call questions)) schedule ≡ false) × KeeperFailsNoMore loads (next_call questions) commits schedule
next_question loads questions commits schedule all = (no_question loads questions commits schedule all, later_question loads questions commits schedule all)

pub next_commit : (loads questions commits : ℕ) (schedule : List Fails) → KeeperFailsNoMore loads questions commits schedule
    → (fails_at (Before (next_call commits)) schedule ≡ false) × (fails_at (After (next_call commits)) schedule ≡ false) × KeeperFailsNoMore loads questions (next_call commits) schedule
next_commit loads questions commits schedule all = (no_before loads questions commits schedule all, no_after loads questions commits schedule all, later_commit loads questions commits schedule all)

-- it is not said of one call both that it fails and that it does not
pub both_so : {A : Type 0} {b : Bool} → b ≡ true → b ≡ false → A
both_so is other = absurd (let clash : true ≡ false = sym is ∙ other in cc)

-- want of memory is no failure
pub not_failed : {T : Type 0} (result : Result T Fault) → IsErr result × IsErrAnd result (λ fault. fault ≡ Memory) → ¬ IsErrOf result Failed
not_failed (Ok x) is h = absurd (let is = is.0 in cc)
not_failed (Err Memory) is h = absurd (cc)
not_failed (Err Failed) is h = absurd (let is = is.1 in cc)
