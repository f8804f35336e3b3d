-- What opening a desk over a keeper answers.
use Rattle.std.specs.Prelude.{◌≡◌, ◌≤◌, ℕ, Option, Some, None, Result, Ok, Err}
use Rattle.rv_base.specs.Causes.{Rose}
use Rattle.rv_keeper.specs.declared.keeper.Keeper.{Ghosts}
use Rattle.rv_keeper.specs.declared.loaded.Loaded.{Loaded}
use Rattle.rv_keeper.specs.Crashes.{IsHeld, LeavesMore}
use Rattle.rv_keeper.specs.Cells.{AreCells}
use Rattle.rv_history.specs.Served.{Settles}
use Rattle.rv_record.specs.declared.fault.Damage.{Damage}
use Rattle.rv_store.specs.Opening.{MayOpen, IsDamaged}
use Rattle.rv_desk.specs.declared.open_fault.OpenFault.{OpenFault}
use Rattle.rv_desk.specs.declared.open_fault.OpenFault.TheVariants.{Keeper, Damaged, Memory}
use Rattle.rv_desk.specs.DeskStates.{DeskState}

-- This was loaded: the cells stand in order, and where the keeper tells, it is the one thing that was held.
pub record WasLoaded (Tells : Type 0) (Held : Loaded → Type 0) (loaded : Loaded) : Type 0 where
  pub order : AreCells loaded.cells
  pub told : Tells → (held : Loaded) → Held held → held ≡ loaded

-- a crash leaves what was loaded
abbrev pub IsLoaded : (Option Loaded → Type 0) → Loaded → Type 0
IsLoaded Leaves loaded = (left : Option Loaded) → Leaves left → left ≡ Some loaded

module _ {K : Type 0} (G : Ghosts K) where
  -- Nothing is in doubt, and the book is kept as what the keeper's load answered; a crash leaves of a keeper that is honest what it might before,
  -- or what was held; the keeper's count of faults stays.
  pub record Opens (limit : ℕ) (before : K) (desk : DeskState K) : Type 0 where
    pub loaded : Loaded
    pub loads : G.loads before (Ok loaded) desk.keeper
    pub was : WasLoaded (G.tells desk.keeper) (G.holds before) loaded
    pub opens : MayOpen limit desk.book loaded
    pub held : G.tells desk.keeper → G.holds desk.keeper loaded
    pub most : desk.limit ≡ limit
    pub doubt : desk.doubt ≡ None
    pub told : G.tells desk.keeper → G.tells before
    pub honest : G.honest desk.keeper → G.honest before
    pub crash : G.honest desk.keeper → LeavesMore (G.may_leave before) (G.may_leave desk.keeper) (IsHeld (G.tells before) (G.holds before))
    pub still : G.faults desk.keeper ≡ G.faults before
    pub goes_on : G.fails_no_more before → G.fails_no_more desk.keeper

  -- what the keeper's load answered is damaged first at this place; the keeper's count of faults stays
  pub record IsDamagedIn (limit : ℕ) (before now : K) (damage : Damage) : Type 0 where
    pub loaded : Loaded
    pub loads : G.loads before (Ok loaded) now
    pub was : WasLoaded (G.tells now) (G.holds before) loaded
    pub damaged : IsDamaged limit loaded damage
    pub still : G.faults now ≡ G.faults before

  -- A keeper that tells has told before, and holds what it held; a crash leaves of one that is honest what it might before, or what was
  -- held; its count of faults has not fallen; one that fails no more goes on so.
  pub record IsLeft (before now : K) : Type 0 where
    pub told : G.tells now → G.tells before
    pub held : G.tells now → (held : Loaded) → G.holds before held → G.holds now held
    pub honest : G.honest now → G.honest before
    pub crash : G.honest now → LeavesMore (G.may_leave before) (G.may_leave now) (IsHeld (G.tells before) (G.holds before))
    pub later : G.faults before ≤ G.faults now
    pub goes_on : G.fails_no_more before → G.fails_no_more now

  -- Why a desk is not opened: the keeper failed, so it is none that fails no more, and its count of faults rose; the store is damaged; or
  -- memory was refused, and the count stays.
  abbrev pub IsRefused : ℕ → K → OpenFault → K → Type 0
  IsRefused limit before Keeper now = Rose (G.faults before) (G.faults now) × ¬ G.fails_no_more before
  IsRefused limit before (Damaged damage) now = IsDamagedIn limit before now damage
  IsRefused limit before Memory now = G.faults now ≡ G.faults before

  abbrev pub OpensOrNot : ℕ → K → Result (DeskState K) (OpenFault × K) → Type 0
  OpensOrNot limit before (Ok desk) = Opens limit before desk
  OpensOrNot limit before (Err refused) = IsRefused limit before refused.0 refused.1 × IsLeft before refused.1

  -- A desk opens again from what its keeper holds: where that tells, what was in doubt is settled by it.
  pub record OpensAgain (old new : DeskState K) : Type 0 where
    pub opens : Opens old.limit old.keeper new
    pub settled : G.tells new.keeper → Settles old.book old.doubt new.book

  -- A desk does not open again: why is as where a desk is opened, but that one whose keeper tells is not damaged. It is as it was, with its
  -- keeper as that was left.
  pub record StaysAsItWas (old : DeskState K) (fault : OpenFault) (new : DeskState K) : Type 0 where
    pub why : IsRefused old.limit old.keeper fault new.keeper
    pub sound : (damage : Damage) → fault ≡ Damaged damage → G.tells new.keeper → ⊥
    pub left : IsLeft old.keeper new.keeper
    pub book : new.book ≡ old.book
    pub limit : new.limit ≡ old.limit
    pub doubt : new.doubt ≡ old.doubt

  abbrev pub ReopensOrNot : DeskState K → Result (Unit {0}) OpenFault → DeskState K → Type 0
  ReopensOrNot old (Ok done) new = OpensAgain old new
  ReopensOrNot old (Err fault) new = StaysAsItWas old fault new

  -- the same of what was loaded: the keeper is as it was
  abbrev pub OpensLoaded : ℕ → Loaded → K → Result (DeskState K) (OpenFault × K) → Type 0
  OpensLoaded limit loaded keeper (Ok desk) = MayOpen limit desk.book loaded × (desk ≡ record { book = desk.book; limit = limit; doubt = None; keeper = keeper })
  OpensLoaded limit loaded keeper (Err (Keeper, now)) = ⊥
  OpensLoaded limit loaded keeper (Err (Damaged damage, now)) = IsDamaged limit loaded damage × (now ≡ keeper)
  OpensLoaded limit loaded keeper (Err (Memory, now)) = now ≡ keeper
