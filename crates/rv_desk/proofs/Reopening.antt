-- What a desk opens again from what its keeper holds.
use Rattle.std.proofs.Common.{◌≡◌, ℕ, ◌^◌, ◌<◌, ◌≤◌, Option, Some, None, Result, Ok, IfSome, refl, ap, subst, inl, inr}
use Rattle.std.specs.Prelude.{option_map}
use Rattle.rv_book.specs.Book.{Book, size}
use Rattle.rv_history.specs.Served.{Doubt, MayStand, Settles, with_doubt}
use Rattle.rv_keeper.specs.declared.keeper.Keeper.{Ghosts}
use Rattle.rv_keeper.specs.declared.loaded.Loaded.{Loaded}
use Rattle.rv_record.specs.declared.fault.Damage.{Damage}
use Rattle.rv_state.specs.declared.prepared.Prepared.{Prepared}
use Rattle.rv_state.specs.Ready.{IsPrepared, NextFits, next_of}
use Rattle.rv_state.specs.Standing.{Standing}
use Rattle.rv_store.specs.Opening.{IsDamaged, IsSoundBook, MayOpen}
use Rattle.rv_store.specs.OpeningLaws.{opens-not_damaged}
use Rattle.rv_store.specs.StoreBookLaws.{doubt_sound, settled_unique, sound-told}
use Rattle.rv_store.specs.StoreCells.{IsKeptWith}
use Rattle.rv_doubt.specs.Kept.{AreInStep}

module _ (limit : ℕ) (book : Book) (doubt : Doubt) (sound : IsSoundBook limit book) (small : limit < 2 ^ 32) (fits : IfSome doubt NextFits) (next : MayStand book limit doubt) where
  -- what opens is the settled book
  pub opens_settled : (opened : Book) (loaded : Loaded) → MayOpen limit opened loaded → IsKeptWith book doubt loaded → Settles book doubt opened
  opens_settled opened loaded opens kept = settled_unique limit book opened doubt loaded small sound fits next (sound-told limit opened small opens.sound) opens.kept kept

  may_open : (loaded : Loaded) → IsKeptWith book doubt loaded → (opened : Book) × MayOpen limit opened loaded
  may_open loaded (inl kept) = (book, record { sound = sound; kept = kept })
  may_open loaded (inr kept) = (with_doubt book doubt, record { sound = doubt_sound limit book doubt sound fits next; kept = kept })

  -- and it is not damaged
  pub not_damaged : (loaded : Loaded) (damage : Damage) → IsKeptWith book doubt loaded → IsDamaged limit loaded damage → ⊥
  not_damaged loaded damage kept damaged = let (opened, opens) = may_open loaded kept in opens-not_damaged limit opened loaded small opens damage damaged

-- what is in doubt is of the form, and may come next
doubt_fits : (state : Standing) (doubt : Option Prepared) → IfSome doubt (IsPrepared state) → IfSome (option_map next_of doubt) NextFits
doubt_fits state None ready = tt
doubt_fits state (Some prepared) ready = ready.fits

doubt_next : (state : Standing) (doubt : Option Prepared) → IfSome doubt (IsPrepared state) → MayStand state.book state.limit (option_map next_of doubt)
doubt_next state None ready = tt
doubt_next state (Some prepared) ready = (ready.lawful, ready.below)

-- What was loaded is what the keeper of a desk held.
module _ {K : Type 0} (G : Ghosts K) (state : Standing) (doubt : Option Prepared) (keeper now : K) (step : AreInStep state doubt (G.tells keeper) (G.holds keeper)) (sound : IsSoundBook state.limit state.book) (small : state.limit < 2 ^ 32)
    (loaded : Loaded) (told : G.tells now → G.tells keeper) (was : G.tells now → (held : Loaded) → G.holds keeper held → held ≡ loaded) where
  kept_so : G.tells now → IsKeptWith state.book (option_map next_of doubt) loaded
  kept_so t = let (held, holds, with) = step.holds (told t) in subst (λ (l : Loaded). IsKeptWith state.book (option_map next_of doubt) l) (was t held holds) with

  pub settles_so : (opened : Book) → MayOpen state.limit opened loaded → G.tells now → Settles state.book (option_map next_of doubt) opened
  settles_so opened opens t = opens_settled state.limit state.book (option_map next_of doubt) sound small (doubt_fits state doubt step.ready) (doubt_next state doubt step.ready) opened loaded opens (kept_so t)

  pub undamaged : (damage : Damage) → IsDamaged state.limit loaded damage → G.tells now → ⊥
  undamaged damage damaged t = not_damaged state.limit state.book (option_map next_of doubt) sound small (doubt_fits state doubt step.ready) (doubt_next state doubt step.ready) loaded damage (kept_so t) damaged
