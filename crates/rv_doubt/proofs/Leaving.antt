-- What a crash may leave after a commit, and when the generation was asked.
use Rattle.std.proofs.Common.{◌≡◌, ℕ, ◌+◌, List, Option, Some, None, sym, subst, ◌∙◌, arith, inl, inr, ⊎_elim}
use Rattle.std.specs.Prelude.{option_map}
use Rattle.rv_book.specs.Book.{Book, size}
use Rattle.rv_history.specs.Served.{MayFollow, Next, with_next}
use Rattle.rv_history.specs.TurnLaws.{size-with_next}
use Rattle.rv_keeper.specs.declared.change.Change.{Change}
use Rattle.rv_keeper.specs.declared.loaded.Loaded.{Loaded}
use Rattle.rv_keeper.specs.Crashes.{IsHeld, IsMade, IsSettled, LeavesMore}
use Rattle.rv_keeper.specs.Keeping.{committed}
use Rattle.rv_store.specs.StoreCells.{IsKeptWith}
use Rattle.rv_state.specs.declared.prepared.Prepared.{Prepared}
use Rattle.rv_state.specs.Ready.{IsPrepared, next_of}
use Rattle.rv_state.specs.Standing.{Standing}
use Rattle.rv_doubt.specs.Kept.{AreInStep, HoldsBook, LeavesBook, LeavesInStep}
use Rattle.rv_doubt.proofs.Holding.{Leads, kept_next, kept_surely}

-- where the keeper tells, what it holds is all that a crash may leave
pub settled_in_step : (state : Standing) (doubt : Option Prepared) (Tells Honest : Type 0) (Holds : Loaded → Type 0) (Leaves : Option Loaded → Type 0) → (Honest → Tells) → AreInStep state doubt Tells Holds → (Tells → IsSettled Holds Leaves) → LeavesInStep state doubt Honest Leaves
settled_in_step state doubt Tells Honest Holds Leaves tells step settled honest left may =
    let held : HoldsBook Holds state.book (option_map next_of doubt) = step.holds (tells honest) in
    (held.0, settled (tells honest) held.0 held.1 left may, held.2)

-- a call that changes nothing
pub left_as_held : (state : Standing) (doubt : Option Prepared) (Tells Honest HonestNow : Type 0) (Holds : Loaded → Type 0) (Leaves LeavesNow : Option Loaded → Type 0) → (HonestNow → Honest) → AreInStep state doubt Tells Holds → LeavesInStep state doubt Honest Leaves → (HonestNow → LeavesMore Leaves LeavesNow (IsHeld Tells Holds)) → LeavesInStep state doubt HonestNow LeavesNow
left_as_held state doubt Tells Honest HonestNow Holds Leaves LeavesNow then step before more honest left may =
    ⊎_elim (λ was. before (then honest) left was) (λ held. of_held (step.holds held.0) held.1) (more honest left may)
  where
    of_held : HoldsBook Holds state.book (option_map next_of doubt) → ((held : Loaded) → Holds held → left ≡ Some held) → (held : Loaded) × (left ≡ Some held) × IsKeptWith state.book (option_map next_of doubt) held
    of_held (held, holds, kept) is = (held, is held holds, kept)

-- a commit that was refused for want of memory
pub left_as_before : (state : Standing) (doubt : Option Prepared) (Honest HonestNow : Type 0) (Leaves LeavesNow : Option Loaded → Type 0) → (HonestNow → Honest) → LeavesInStep state doubt Honest Leaves → (HonestNow → LeavesMore Leaves LeavesNow (λ left. ⊥)) → LeavesInStep state doubt HonestNow LeavesNow
left_as_before state doubt Honest HonestNow Leaves LeavesNow then before more honest left may = ⊎_elim (λ was. before (then honest) left was) (λ never. absurd never) (more honest left may)

-- a commit that failed may have been made, or be made by what follows a crash
module _ (book : Book) (next : Next) (changes : List Change) (leads : Leads book next changes) (may : MayFollow book next) where
  was_kept : (left : Option Loaded) → (held : Loaded) × (left ≡ Some held) × IsKeptWith book None held → (held : Loaded) × (left ≡ Some held) × IsKeptWith book (Some next) held
  was_kept left (held, is, kept) = (held, is, inl (kept_surely book held kept))

  was_made : (Holds : Loaded → Type 0) (left : Option Loaded) → HoldsBook Holds book None → ((held : Loaded) → Holds held → left ≡ Some (committed (size book) changes held)) → (held : Loaded) × (left ≡ Some held) × IsKeptWith book (Some next) held
  was_made Holds left (held, holds, kept) is = (committed (size book) changes held, is held holds, inr (kept_next book next changes held leads may (kept_surely book held kept)))

  pub leaves_failed : (Tells : Type 0) (Holds : Loaded → Type 0) (Leaves LeavesNow : Option Loaded → Type 0) → (Tells → HoldsBook Holds book None) → LeavesBook Leaves book None → LeavesMore Leaves LeavesNow (IsMade Tells Holds (size book) changes) → LeavesBook LeavesNow book (Some next)
  leaves_failed Tells Holds Leaves LeavesNow held before more left may =
      ⊎_elim (λ was. was_kept left (before left was)) (λ made. was_made Holds left (held made.0) made.1) (more left may)

pub left_where_it_failed : (state : Standing) (doubt was : Option Prepared) (prepared : Prepared) (Tells Honest HonestNow : Type 0) (Holds : Loaded → Type 0) (Leaves LeavesNow : Option Loaded → Type 0) (from : ℕ) (changes : List Change) → doubt ≡ Some prepared → was ≡ None → IsPrepared state prepared → (HonestNow → Honest)
    → AreInStep state was Tells Holds → LeavesInStep state was Honest Leaves → from ≡ size state.book → Leads state.book (next_of prepared) changes → (HonestNow → LeavesMore Leaves LeavesNow (IsMade Tells Holds from changes)) → LeavesInStep state doubt HonestNow LeavesNow
left_where_it_failed state doubt was prepared Tells Honest HonestNow Holds Leaves LeavesNow from changes is none ready then step before at leads more honest =
    subst (λ (d : Option Prepared). LeavesBook LeavesNow state.book (option_map next_of d)) (sym is)
    (leaves_failed state.book (next_of prepared) changes leads ready.lawful Tells Holds Leaves LeavesNow
    (λ tells. subst (λ (d : Option Prepared). HoldsBook Holds state.book (option_map next_of d)) none (step.holds tells))
    (subst (λ (d : Option Prepared). LeavesBook Leaves state.book (option_map next_of d)) none (before (then honest)))
    (subst (λ (n : ℕ). LeavesMore Leaves LeavesNow (IsMade Tells Holds n changes)) at (more honest)))

-- what is held as the book, or as the book with what is in doubt, is told apart by its generation
was_dropped : (book : Book) (next : Next) (held : Loaded) → MayFollow book next → held.generation ≡ size book → IsKeptWith book (Some next) held → IsKeptWith book None held
was_dropped book next held may is (inl kept) = inl kept
was_dropped book next held may is (inr kept) = absurd (omega (arith, is, kept.generation, size-with_next book next))

was_entered : (book : Book) (next : Next) (held : Loaded) → MayFollow book next → held.generation ≡ size book + 1 → IsKeptWith book (Some next) held → IsKeptWith (with_next book next) None held
was_entered book next held may is (inl kept) = absurd (omega (arith, is, kept.generation))
was_entered book next held may is (inr kept) = inl kept

-- what is in doubt was not kept
pub dropped_in_step : (state : Standing) (doubt : Option Prepared) (prepared : Prepared) (Tells Told : Type 0) (Held Holds : Loaded → Type 0) (number : ℕ) → doubt ≡ None → (Told → Tells) → AreInStep state (Some prepared) Tells Held
    → (Told → (held : Loaded) → Held held → Holds held) → (Told → (held : Loaded) → Held held → held.generation ≡ number) → number ≡ size state.book → AreInStep state doubt Told Holds
dropped_in_step state None prepared Tells Told Held Holds number none then step same told is = record {
  ready = tt;
  holds = λ t.
      let held : HoldsBook Held state.book (Some (next_of prepared)) = step.holds (then t) in
      (held.0, same t held.0 held.1, was_dropped state.book (next_of prepared) held.0 step.ready.lawful (told t held.0 held.1 ∙ is) held.2);
}
dropped_in_step state (Some other) prepared Tells Told Held Holds number none then step same told is = absurd (cc)

-- what is in doubt was kept
pub entered_in_step : (state later : Standing) (doubt : Option Prepared) (prepared : Prepared) (Tells Told : Type 0) (Held Holds : Loaded → Type 0) (number : ℕ) → doubt ≡ None → later.book ≡ with_next state.book (next_of prepared) → (Told → Tells) → AreInStep state (Some prepared) Tells Held
    → (Told → (held : Loaded) → Held held → Holds held) → (Told → (held : Loaded) → Held held → held.generation ≡ number) → number ≡ size state.book + 1 → AreInStep later doubt Told Holds
entered_in_step state later None prepared Tells Told Held Holds number none longer then step same told is = record {
  ready = tt;
  holds = λ t.
      let held : HoldsBook Held state.book (Some (next_of prepared)) = step.holds (then t) in
      (held.0, same t held.0 held.1, subst (λ (b : Book). IsKeptWith b None held.0) (sym longer) (was_entered state.book (next_of prepared) held.0 step.ready.lawful (told t held.0 held.1 ∙ is) held.2));
}
entered_in_step state later (Some other) prepared Tells Told Held Holds number none longer then step same told is = absurd (cc)
