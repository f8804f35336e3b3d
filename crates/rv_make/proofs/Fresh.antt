-- A keeper that holds nothing opens as a fresh server.
use Rattle.std.proofs.Common.{◌≡◌, ◌-◌, ◌^◌, [], refl, sym, ◌∙◌, subst, arith}
use Rattle.rv_book.specs.Book.{Book, empty_book}
use Rattle.rv_history.specs.LawfulBookLaws.{lawful_none}
use Rattle.rv_history.specs.ReplayLaws.{replay_none}
use Rattle.rv_news.specs.KeptRecordLaws.{records_none}
use Rattle.rv_keeper.specs.declared.keeper.Keeper.{Ghosts}
use Rattle.rv_keeper.specs.declared.loaded.Loaded.{Loaded}
use Rattle.rv_keeper.specs.Keeping.{holding}
use Rattle.rv_record.specs.declared.fault.Damage.{Damage}
use Rattle.rv_store.specs.Opening.{MayOpen}
use Rattle.rv_store.specs.OpeningLaws.{opens-not_damaged, opens_one}
use Rattle.rv_desk.specs.Opened.{IsDamagedIn, IsLeft, Opens}
use Rattle.rv_desk.specs.DeskStates.{DeskState, served}
use Rattle.rv_make.specs.Plays.{fresh}

-- what holds nothing is the empty book
nothing_opens : MayOpen (2 ^ 32 - 1) empty_book (holding [] 0)
nothing_opens = record {
  sound = record { lawful = lawful_none; within = omega arith; fits = tt; parts = record { rows = tt; clients = tt; groups = tt } };
  kept = record {
    cells = record { rows = []; records = []; replay = replay_none; kept = records_none; made = refl };
    generation = refl;
  };
}

only_empty : (book : Book) (loaded : Loaded) → loaded ≡ holding [] 0 → MayOpen (2 ^ 32 - 1) book loaded → book ≡ empty_book
only_empty book loaded is opens = opens_one (2 ^ 32 - 1) book empty_book loaded (omega arith) opens (subst (MayOpen (2 ^ 32 - 1) empty_book) (sym is) nothing_opens)

module _ {K : Type 0} (G : Ghosts K) (steady_tells : (keeper : K) → G.fails_no_more keeper → G.tells keeper) (keeper : K) (holds : G.holds keeper (holding [] 0)) (steady : G.fails_no_more keeper) where
  -- its desk is fresh
  pub fresh_opened : (desk : DeskState K) → G.faults keeper ≡ 0 → Opens G (2 ^ 32 - 1) keeper desk → served G.faults desk ≡ fresh
  fresh_opened desk none opens =
      let told : G.tells desk.keeper = steady_tells desk.keeper (opens.goes_on steady) in
      let empty : desk.book ≡ empty_book = only_empty desk.book opens.loaded (sym (opens.was.told told (holding [] 0) holds)) opens.opens in
      let faults : G.faults desk.keeper ≡ 0 = opens.still ∙ none in
      λ i. record { book = empty i; limit = opens.most i; doubt = opens.doubt i; faults = faults i }

  -- and it is not damaged
  pub fresh_sound : (now : K) (damage : Damage) → IsDamagedIn G (2 ^ 32 - 1) keeper now damage → IsLeft G keeper now → ⊥
  fresh_sound now damage damaged left =
      let told : G.tells now = steady_tells now (left.goes_on steady) in
      opens-not_damaged (2 ^ 32 - 1) empty_book damaged.loaded (omega arith) (subst (MayOpen (2 ^ 32 - 1) empty_book) (damaged.was.told told (holding [] 0) holds) nothing_opens) damage damaged.damaged
