-- A push: the turns of its mutations.
use Rattle.std.specs.Prelude.{◌≡◌, Bool, false, ◌||◌, List, [], ◌∷◌, Option, Some, None, MatchOption}
use Rattle.rv_turns.specs.declared.mutation.Mutation.{Mutation}
use Rattle.rv_turns.specs.declared.pushing.Outcome.{Outcome}
use Rattle.rv_turns.specs.declared.refusal.Refusal.{Refusal}
use Rattle.rv_turns.specs.Asks.{Sender, Ask}
use Rattle.rv_turns.specs.Outcomes.{has_acted, refusal_of}

-- A mutation is a turn, which is told as this refusal, or none, and has acted or not.
pub record Runs {S : Type 0} (takes : S → Ask → Outcome → S → Type 0) (from : Sender) (m : Mutation) (old : S) (refused : Option Refusal) (acts : Bool) (new : S) : Type 0 where
  pub outcome : Outcome
  pub step : takes old (Ask.mutation from m) outcome new
  pub told : refused ≡ refusal_of outcome
  pub acted : acts ≡ has_acted outcome

-- A push takes its mutations in order, one turn each, from a state to the next, up to the first refusal, which is its answer. It
-- acted where one of these turns has.
abbrev pub Pushes : {S : Type 0} → (S → Ask → Outcome → S → Type 0) → Sender → List Mutation → S → Option Refusal → Bool → S → Type 0
Pushes takes from [] old refused acted new = (refused ≡ None) × (acted ≡ false) × (new ≡ old)
Pushes {S} takes from (m ∷ ms) old refused acted new =
    (outcome : Outcome) × (mid : S) × (later : Bool) × takes old (Ask.mutation from m) outcome mid × (acted ≡ (has_acted outcome || later))
    × MatchOption (refusal_of outcome) (Pushes takes from ms mid refused later new) (λ refusal. (refused ≡ Some refusal) × (later ≡ false) × (new ≡ mid))
