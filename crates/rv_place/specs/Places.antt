-- What the stores of a run show of the one that it opens.
use Rattle.std.specs.Prelude.{◌≡◌, ◌≢◌, ◌⊎◌, ℕ, List, [], Option, Some, None, Result, Ok, Err, codes}
use Rattle.rv_base.specs.declared.fault.Fault.{Fault}
use Rattle.rv_keeper.specs.declared.keeper.Keeper.{Ghosts}
use Rattle.rv_keeper.specs.declared.loaded.Loaded.{Loaded}
use Rattle.rv_keeper.specs.Keeping.{holding}
use Rattle.rv_keeper.specs.Stores.{LeavesAsGiven, OpensAs, OpensWith}
use Rattle.rv_place.specs.declared.opened.Opened.{Opened}
use Rattle.rv_place.specs.declared.opened.Opened.TheVariants.{Not, Out, Back, Lost}
use Rattle.rv_place.specs.declared.run_place.RunPlace.{RunPlace}

-- a crash leaves of `memory` nothing; what it leaves of a file that was not opened is not said
abbrev pub UnopenedLeaves : List ℕ → Option Loaded → Type 0
UnopenedLeaves name left = name ≡ codes "memory" → left ≡ Some (holding [] 0)

-- no store was opened yet
abbrev pub IsUnopened : {S K : Type 0} → Opened S K → Type 0
IsUnopened (Not start) = Unit {0}
IsUnopened (Out own) = ⊥
IsUnopened (Back own kept) = ⊥
IsUnopened Lost = ⊥

-- the keeper of the store of this name is out
abbrev pub OpenedOut : {S K : Type 0} → Opened S K → List ℕ → Type 0
OpenedOut (Not start) name = ⊥
OpenedOut (Out own) name = name ≡ own
OpenedOut (Back own kept) name = ⊥
OpenedOut Lost name = ⊥

-- the keeper that came back, if one did
abbrev pub keeper_back : {S K : Type 0} → Opened S K → Option K
keeper_back (Not start) = None
keeper_back (Out own) = None
keeper_back (Back own kept) = Some kept
keeper_back Lost = None

-- before the opening nothing is to be said of the keeper, and while it is out it says it itself; once it came back this is so of it
abbrev pub OpenedTells : {S K : Type 0} → (K → Type 0) → Opened S K → Type 0
OpenedTells Tells (Not start) = Unit {0}
OpenedTells Tells (Out own) = Unit {0}
OpenedTells Tells (Back own kept) = Tells kept
OpenedTells Tells Lost = ⊥

-- what a crash may leave of a store
abbrev pub OpenedLeaves : {S K : Type 0} → (K → Option Loaded → Type 0) → Opened S K → List ℕ → Option Loaded → Type 0
OpenedLeaves Leaves (Not start) name left = UnopenedLeaves name left
OpenedLeaves Leaves (Out own) name left = (name ≢ own) × UnopenedLeaves name left
OpenedLeaves Leaves (Back own kept) name left = ((name ≡ own) × Leaves kept left) ⊎ ((name ≢ own) × UnopenedLeaves name left)
OpenedLeaves Leaves Lost name left = Unit {0}

-- What a store holds whose keeper is not out: before it is opened what its file held, which is said of the one that is opened, and `memory`
-- nothing; afterwards what its keeper held as it came back.
abbrev pub OpenedHolds : {S K : Type 0} → (K → Loaded → Type 0) → (Loaded → Type 0) → Opened S K → List ℕ → Loaded → Type 0
OpenedHolds Holds Held (Not start) name held = OpensAs name Held held
OpenedHolds Holds Held (Out own) name held = (name ≢ own) × OpensAs name Held held
OpenedHolds Holds Held (Back own kept) name held = ((name ≡ own) × Holds kept held) ⊎ ((name ≢ own) × OpensAs name Held held)
OpenedHolds Holds Held Lost name held = ⊥

module _ {K : Type 0} (G : Ghosts K) where
  -- the keeper that an opening gives: it holds what the store's file held
  pub record IsOpened (Held : Loaded → Type 0) (name : List ℕ) (kept : K) : Type 0 where
    pub fresh : G.faults kept ≡ 0
    pub holds : G.tells kept → OpensWith name Held (G.holds kept)
    pub leaves : LeavesAsGiven name (λ left. Unit {0}) (G.may_leave kept)

-- An opening, by its answer: the first keeper, which is out then; or all is as it was, or the first opening failed, and what the store
-- holds is not known.
abbrev pub Opens : {S K : Type 0} → Ghosts K → (Loaded → Type 0) → Opened S K → Opened S K → List ℕ → Result K Fault → Type 0
Opens G Held old new name (Ok kept) = IsUnopened old × (new ≡ Out name) × IsOpened G Held name kept
Opens G Held old new name (Err fault) = (new ≡ old) ⊎ (IsUnopened old × (new ≡ Lost))

-- a keeper came back for the store that was out; where that was not out it is not known
abbrev pub TakesBack : {S K : Type 0} → Opened S K → Opened S K → List ℕ → K → Type 0
TakesBack old new name kept = (OpenedOut old name × (new ≡ Back name kept)) ⊎ ((¬ OpenedOut old name) × (new ≡ Lost))

module _ {O S K : Type 0} where
  abbrev pub PlaceTells : (K → Type 0) → RunPlace O S K → Type 0
  PlaceTells Tells place = OpenedTells Tells place.opened

  abbrev pub PlaceHolds : (K → Loaded → Type 0) → (Loaded → Type 0) → RunPlace O S K → List ℕ → Loaded → Type 0
  PlaceHolds Holds Held place name held = OpenedHolds Holds Held place.opened name held

  abbrev pub PlaceLeaves : (K → Option Loaded → Type 0) → RunPlace O S K → List ℕ → Option Loaded → Type 0
  PlaceLeaves Leaves place name left = OpenedLeaves Leaves place.opened name left

  abbrev pub PlaceOut : RunPlace O S K → List ℕ → Type 0
  PlaceOut place name = OpenedOut place.opened name

  -- whether a file is there is not told of any
  abbrev pub PlaceHas : RunPlace O S K → List ℕ → Type 0
  PlaceHas place name = Unit {0}

  -- nor what an accounts file has
  abbrev pub PlaceFile : RunPlace O S K → List ℕ → List ℕ → Type 0
  PlaceFile place name file = ⊥
