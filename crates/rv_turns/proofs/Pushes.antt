-- A push goes on after a mutation that is not refused, and ends at one that is.
use Rattle.std.proofs.Common.{◌≡◌, Bool, true, false, ◌||◌, List, [], ◌∷◌, length, arith, Option, Some, None, refl, sym, ap, ◌∙◌, subst}
use Rattle.std.specs.Option.{MatchOption}
use Rattle.rv_turns.specs.declared.refusal.Refusal.{Refusal}
use Rattle.rv_turns.specs.declared.mutation.Mutation.{Mutation}
use Rattle.rv_turns.specs.declared.pushing.Outcome.{Outcome}
use Rattle.rv_turns.specs.Asks.{Sender, Ask}
use Rattle.rv_turns.specs.Outcomes.{has_acted}
use Rattle.rv_turns.specs.Pushing.{Pushes, Runs}

pub or_false : (b : Bool) → (b || false) ≡ b
or_false true = refl
or_false false = refl

module _ {S : Type 0} (takes : S → Ask → Outcome → S → Type 0) (from : Sender) (m : Mutation) (ms : List Mutation) (old : S) where
  pub push_goes : (mid new : S) (refused answer : Option Refusal) (acts later : Bool) → refused ≡ None → Runs takes from m old refused acts mid → Pushes takes from ms mid answer later new → Pushes takes from (m ∷ ms) old answer (acts || later) new
  push_goes mid new refused answer acts later none t goes = (
    t.outcome,
    mid,
    later,
    t.step,
    ap (λ (b : Bool). b || later) t.acted,
    subst (λ (r : Option Refusal). MatchOption r (Pushes takes from ms mid answer later new) (λ refusal. (answer ≡ Some refusal) × (later ≡ false) × (new ≡ mid))) (sym none ∙ t.told) goes,
  )

  pub push_stops : (new : S) (refused : Option Refusal) (why : Refusal) (acts : Bool) → refused ≡ Some why → Runs takes from m old refused acts new → Pushes takes from (m ∷ ms) old refused acts new
  push_stops new refused why acts some t = (
    t.outcome,
    new,
    false,
    t.step,
    t.acted ∙ sym (or_false (has_acted t.outcome)),
    subst (λ (r : Option Refusal). MatchOption r (Pushes takes from ms new refused false new) (λ refusal. (refused ≡ Some refusal) × (false ≡ false) × (new ≡ new))) (sym some ∙ t.told) (some, refl, refl),
  )

-- the same mutations in other words, and none
module _ {S : Type 0} (takes : S → Ask → Outcome → S → Type 0) (from : Sender) where
  pub push_same : (ms others : List Mutation) (old new : S) (answer : Option Refusal) (acted : Bool) → ms ≡ others → Pushes takes from ms old answer acted new → Pushes takes from others old answer acted new
  push_same ms others old new answer acted same goes = subst (λ (rest : List Mutation). Pushes takes from rest old answer acted new) same goes

  pub push_acted : (ms : List Mutation) (old new : S) (answer : Option Refusal) (acted other : Bool) → acted ≡ other → Pushes takes from ms old answer acted new → Pushes takes from ms old answer other new
  push_acted ms old new answer acted other same goes = subst (λ (b : Bool). Pushes takes from ms old answer b new) same goes

  pub push_ends : (ms : List Mutation) (old : S) → length ms ≡ 0 → Pushes takes from ms old None false old
  push_ends [] old none = (refl, refl, refl)
  push_ends (m ∷ ms) old none = absurd (omega arith)
