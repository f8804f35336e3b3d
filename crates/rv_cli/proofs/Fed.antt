-- How the lines end: from the desk that took them to the keeper that is left.
use Rattle.std.proofs.Common.{◌≡◌, ℕ, sym, ap, ◌∙◌, subst}
use Rattle.rv_base.specs.Outside.{InputState, OutputState}
use Rattle.rv_book.specs.Book.{Book}
use Rattle.rv_history.specs.Served.{Doubt, Served}
use Rattle.rv_keeper.specs.declared.keeper.Keeper.{Ghosts}
use Rattle.rv_doubt.specs.Kept.{KeepsBook}
use Rattle.rv_desk.specs.DeskStates.{DeskKeeps, IsSoundDesk, DeskState}
use Rattle.rv_cli.specs.declared.ending.Ending.{Ending}
use Rattle.rv_cli.specs.declared.ending.Ending.TheVariants.{Done, Keeper, Damaged, Read, Write, Memory, Malformed}
use Rattle.rv_cli.specs.Feeding.{FeedsWith, RoseAt, desk_taker, seat_at}
use Rattle.rv_cli.specs.LineTaking.{TakesLines, RoseAt as RoseFor}
use Rattle.rv_cli.specs.Steadiness.{KeeperIsSteady}

module _ {K : Type 0} (G : Ghosts K) where
  rose_for : (ending : Ending) (before : ℕ) (desk : DeskState K) → RoseFor (desk_taker G).tells (desk_taker G).faults ending before desk → RoseAt G ending before desk.keeper
  rose_for Keeper before desk rose = rose
  rose_for (Damaged damage) before desk untold = untold
  rose_for Done before desk rose = tt
  rose_for Read before desk rose = tt
  rose_for Write before desk rose = tt
  rose_for Memory before desk rose = tt
  rose_for (Malformed number) before desk rose = tt

  -- a sound desk that stands as a state is sound as that state, with any keeper
  pub seat_sound : (desk : DeskState K) (now : Served) (keeper : K) → desk.book ≡ now.book → desk.limit ≡ now.limit → desk.doubt ≡ now.doubt → IsSoundDesk desk → IsSoundDesk (seat_at G now keeper)
  seat_sound desk now keeper book limit doubt sound =
      let of_all : record { book = desk.book; limit = desk.limit; doubt = desk.doubt; keeper = keeper } ≡ seat_at G now keeper = cc in
      subst (λ (s : DeskState K). IsSoundDesk s) of_all (record { book = sound.book; small = sound.small; fits = sound.fits; next = sound.next })

  -- the desk that took the lines is closed
  pub fed : (first desk : DeskState K) (keeper : K) (input input' : InputState) (output output' : OutputState) (ending : Ending) → keeper ≡ desk.keeper → DeskKeeps G desk → IsSoundDesk desk → TakesLines (desk_taker G) first input input' output output' ending desk
      → FeedsWith G first input input' output output' (ending, keeper)
  fed first desk keeper input input' output output' ending is kept sound takes = subst (λ (k : K). FeedsWith G first input input' output output' (ending, k)) (sym is) (record {
    now = takes.now;
    feeds = takes.feeds;
    left = record { kept = subst (λ (b : Book). KeepsBook G desk.keeper b takes.now.doubt) takes.stands.book (subst (λ (d : Doubt). KeepsBook G desk.keeper desk.book d) takes.stands.doubt kept); sound = seat_sound desk takes.now desk.keeper takes.stands.book takes.stands.limit takes.stands.doubt sound; later = takes.stands.later };
    told = takes.told;
    rose = rose_for ending (G.faults first.keeper) desk takes.rose;
  })

  pub fed_steady : (first desk : DeskState K) (keeper : K) (ending : Ending) → keeper ≡ desk.keeper → KeeperIsSteady (desk_taker G).fails_no_more (desk_taker G).faults first (ending, desk) → KeeperIsSteady G.fails_no_more G.faults first.keeper (ending, keeper)
  fed_steady first desk keeper ending is steady = record { goes_on = subst G.fails_no_more (sym is) steady.goes_on; still = ap G.faults is ∙ steady.still; no_fault = steady.no_fault }
