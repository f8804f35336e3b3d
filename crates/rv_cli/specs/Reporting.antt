-- A report and the store that it is of, before both are put together.
use Rattle.std.specs.Prelude.{◌≡◌, ◌-◌, ◌^◌, ℕ, List, Some, None, Result, Ok, Err}
use Rattle.std.specs.Io.KnownBytes.{Appends}
use Rattle.rv_base.specs.Causes.{Rose}
use Rattle.rv_base.specs.Outside.{OutputState}
use Rattle.rv_base.specs.Writes.{AppendsFront}
use Rattle.rv_base.specs.declared.memory.Memory.{Memory as Refused}
use Rattle.rv_keeper.specs.declared.keeper.Keeper.{Ghosts}
use Rattle.rv_keeper.specs.declared.loaded.Loaded.{Loaded}
use Rattle.rv_keeper.specs.declared.place.Place.{Ghosts as PlaceGhosts}
use Rattle.rv_keeper.specs.Crashes.{LeavesMore}
use Rattle.rv_keeper.specs.Stores.{OpensAs}
use Rattle.rv_book.specs.Book.{Book, size}
use Rattle.rv_doubt.specs.Kept.{LeavesBook}
use Rattle.rv_store.specs.Opening.{MayOpen}
use Rattle.rv_cli.specs.declared.ending.Ending.{Ending}
use Rattle.rv_cli.specs.declared.ending.Ending.TheVariants.{Done, Write, Memory}
use Rattle.rv_cli.specs.Texts.{status_text}
use Rattle.rv_cli.specs.Change.{change, kept_change}
use Rattle.rv_cli.specs.Headline.{IsLeftAs, IsNotOpened, WritesOnly}

-- what was written of a text
abbrev pub WritesUntil : OutputState → OutputState → List ℕ → Ending → Type 0
WritesUntil old new text Done = Appends old.written new.written text × (new.faults ≡ old.faults)
WritesUntil old new text Write = AppendsFront old.written new.written text × Rose old.faults new.faults
WritesUntil old new text ending = ⊥

-- what was written of a text, or of why there is none
abbrev pub WritesMade : OutputState → OutputState → Result (List ℕ) Refused → Ending → Type 0
WritesMade old new (Ok text) ending = WritesUntil old new text ending
WritesMade old new (Err refused) ending = (ending ≡ Memory) × WritesOnly old new (status_text Memory)

module _ {P K : Type 0} (place : PlaceGhosts P K) where
  -- the store was kept as a lawful book of so many entries, and is still
  pub record WasSound (store : List ℕ) (old new : P) (entries : ℕ) : Type 0 where
    pub loaded : Loaded
    pub book : Book
    pub stored : place.tells new → (held : Loaded) → OpensAs store (place.holds old store) held → held ≡ loaded
    pub opens : MayOpen (2 ^ 32 - 1) book loaded
    pub length : size book ≡ entries
    pub held : place.tells new → place.holds new store loaded
    pub left : place.honest new → LeavesBook (place.may_leave new store) book None
    pub same : place.faults new ≡ place.faults old

  abbrev pub ChecksStore : List ℕ → P → Result ℕ Ending → P → Type 0
  ChecksStore store old (Ok entries) new = WasSound store old new entries
  ChecksStore store old (Err ending) new =
      IsNotOpened (change place store old new) ending × IsLeftAs (change place store old new)

  -- the same of a keeper that is out, whose count of faults is 0, and which came back
  module _ (G : Ghosts K) where
    pub record KeptSound (store : List ℕ) (kept : K) (old new : P) (entries : ℕ) : Type 0 where
      pub loaded : Loaded
      pub book : Book
      pub told : place.tells new → place.tells old × G.tells kept
      pub stored : place.tells new → (held : Loaded) → G.holds kept held → held ≡ loaded
      pub opens : MayOpen (2 ^ 32 - 1) book loaded
      pub length : size book ≡ entries
      pub held : place.tells new → place.holds new store loaded
      pub left : place.honest new → LeavesBook (place.may_leave new store) book None
      pub same : place.faults new ≡ place.faults old

    abbrev pub ChecksKept : List ℕ → K → P → Result ℕ Ending → P → Type 0
    ChecksKept store kept old (Ok entries) new = G.faults kept ≡ 0 → KeptSound store kept old new entries
    ChecksKept store kept old (Err ending) new = G.faults kept ≡ 0 → (place.tells new → place.tells old × G.tells kept)
        × IsNotOpened (kept_change place G store kept old new) ending × (place.tells new → (held : Loaded) → G.holds kept held → place.holds new store held)
        × (place.tells new → G.honest kept × LeavesMore (G.may_leave kept) (place.may_leave new store) (λ left. (held : Loaded) → G.holds kept held → left ≡ Some held))
