-- What the keeper holds after a commit, and when its generation is asked.
use Rattle.std.proofs.Common.{◌≡◌, ℕ, List, Option, Some, None, sym, subst, inl, inr, ⊎_elim, ◌⊎◌}
use Rattle.std.specs.Prelude.{Ok, Err, option_map}
use Rattle.rv_base.specs.declared.fault.Fault.TheVariants.{Failed}
use Rattle.rv_book.specs.Book.{Book, size}
use Rattle.rv_history.specs.Served.{MayFollow, Next, with_next}
use Rattle.rv_history.specs.TurnLaws.{size-with_next}
use Rattle.rv_keeper.specs.declared.cell.Cell.{Cell}
use Rattle.rv_keeper.specs.declared.change.Change.{Change}
use Rattle.rv_keeper.specs.declared.loaded.Loaded.{Loaded}
use Rattle.rv_keeper.specs.Cells.{changed}
use Rattle.rv_keeper.specs.Keeping.{Made, committed}
use Rattle.rv_store.specs.StoreCells.{AreCellsOf, IsKeptAs, IsKeptWith}
use Rattle.rv_state.specs.declared.prepared.Prepared.{Prepared}
use Rattle.rv_state.specs.Ready.{IsPrepared, next_of}
use Rattle.rv_state.specs.Standing.{Standing}
use Rattle.rv_doubt.specs.Kept.{AreInStep, HoldsBook}

-- the changes make of the book's cells those of the book with what is entered
abbrev pub Leads : Book → Next → List Change → Type 0
Leads book next changes = (cells : List Cell) → AreCellsOf book cells → AreCellsOf (with_next book next) (changed cells changes)

pub kept_next : (book : Book) (next : Next) (changes : List Change) (held : Loaded) → Leads book next changes → MayFollow book next → IsKeptAs book held → IsKeptAs (with_next book next) (committed (size book) changes held)
kept_next book next changes held leads may kept = record { cells = leads held.cells kept.cells; generation = sym (size-with_next book next may) }

-- where nothing is in doubt, it is kept as the book
pub kept_surely : (book : Book) (held : Loaded) → IsKeptWith book None held → IsKeptAs book held
kept_surely book held kept = ⊎_elim (λ same. same) (λ same. same) kept

-- what is in doubt after a commit: nothing where it was made or could not be, and what was to be kept where it failed
module _ (book : Book) (next : Next) (changes : List Change) (Held Holds : Loaded → Type 0) (leads : Leads book next changes) (may : MayFollow book next) where
  pub holds_made : HoldsBook Held book None → ((held : Loaded) → Held held → Made (size book) changes (Ok tt) Holds held) → HoldsBook Holds (with_next book next) None
  holds_made (held, was, kept) made = (committed (size book) changes held, made held was, inl (kept_next book next changes held leads may (kept_surely book held kept)))

  failed : (held : Loaded) → IsKeptAs book held → Holds held ⊎ Holds (committed (size book) changes held) → HoldsBook Holds book (Some next)
  failed held kept (inl same) = (held, same, inl kept)
  failed held kept (inr made) = (committed (size book) changes held, made, inr (kept_next book next changes held leads may kept))

  pub holds_failed : HoldsBook Held book None → ((held : Loaded) → Held held → Made (size book) changes (Err Failed) Holds held) → HoldsBook Holds book (Some next)
  holds_failed (held, was, kept) made = failed held (kept_surely book held kept) (made held was)

-- so a commit that was made leaves nothing in doubt
pub left_entered : (state later : Standing) (doubt : Option Prepared) (prepared : Prepared) (Tells Told : Type 0) (Held Holds : Loaded → Type 0) (from : ℕ) (changes : List Change) → doubt ≡ None → later.book ≡ with_next state.book (next_of prepared) → IsPrepared state prepared → (Told → Tells)
    → AreInStep state doubt Tells Held → from ≡ size state.book → Leads state.book (next_of prepared) changes → (Told → (held : Loaded) → Held held → Made from changes (Ok tt) Holds held) → AreInStep later doubt Told Holds
left_entered state later None prepared Tells Told Held Holds from changes none longer ready then step at leads made = record {
  ready = tt;
  holds = λ t. subst (λ (b : Book). HoldsBook Holds b None) (sym longer)
      (holds_made state.book (next_of prepared) changes Held Holds leads ready.lawful (step.holds (then t)) (λ held was. subst (λ (n : ℕ). Made n changes (Ok tt) Holds held) at (made t held was)));
}
left_entered state later (Some other) prepared Tells Told Held Holds from changes none longer ready then step at leads made = absurd (cc)

-- and a failed one leaves it in doubt
pub left_in_doubt : (state : Standing) (doubt was : Option Prepared) (prepared : Prepared) (Tells Told : Type 0) (Held Holds : Loaded → Type 0) (from : ℕ) (changes : List Change) → doubt ≡ Some prepared → was ≡ None → IsPrepared state prepared → (Told → Tells)
    → AreInStep state was Tells Held → from ≡ size state.book → Leads state.book (next_of prepared) changes → (Told → (held : Loaded) → Held held → Made from changes (Err Failed) Holds held) → AreInStep state doubt Told Holds
left_in_doubt state doubt was prepared Tells Told Held Holds from changes is none ready then step at leads made = subst (λ (d : Option Prepared). AreInStep state d Told Holds) (sym is) (record {
  ready = ready;
  holds = λ t.
      let before : HoldsBook Held state.book None = subst (λ (d : Option Prepared). HoldsBook Held state.book (option_map next_of d)) none (step.holds (then t)) in
      holds_failed state.book (next_of prepared) changes Held Holds leads ready.lawful before (λ held was. subst (λ (n : ℕ). Made n changes (Err Failed) Holds held) at (made t held was));
})
