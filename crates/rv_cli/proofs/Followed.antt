-- How `follow` may end: by no ending of a store.
use Rattle.std.proofs.Common.{◌≡◌, ℕ, List, Contains, refl, sym, subst, arith, lit<, inl, inr}
use Rattle.rv_base.specs.Outside.{OutputState}
use Rattle.rv_base.specs.declared.outside.Source.{Ghosts as SourceGhosts}
use Rattle.rv_base.specs.declared.outside.Sink.{Ghosts as SinkGhosts}
use Rattle.rv_net.specs.declared.listen.Listen.{Ghosts as ListenGhosts}
use Rattle.rv_following.specs.FollowSteps.{Following}
use Rattle.rv_cli.specs.declared.ending.Ending.{Ending}
use Rattle.rv_cli.specs.declared.ending.Ending.TheVariants.{Done, Keeper, Damaged, Read, Write, Memory, Malformed}
use Rattle.rv_cli.specs.FollowPromise.{FollowsListener, IsOfLines, TellsEnd, follow_statuses}
use Rattle.rv_cli.specs.Following.{follower_taker}
use Rattle.rv_cli.specs.LineTaking.{RoseAt}
use Rattle.rv_cli.specs.Texts.{status_of}

-- a follower keeps nothing that could fail, or be damaged
pub of_lines : (ending : Ending) (last : Following) → RoseAt follower_taker.tells follower_taker.faults ending 0 last → IsOfLines ending
of_lines Keeper last rose = omega (arith, rose)
of_lines (Damaged damage) last untold = untold tt
of_lines Done last rose = tt
of_lines Read last rose = tt
of_lines Write last rose = tt
of_lines Memory last rose = tt
of_lines (Malformed number) last rose = tt

pub listener_of_lines : {L I O : Type 0} (listen : ListenGhosts L I O) (source : SourceGhosts I) (sink : SinkGhosts O) (given returned : L) (now : Following) (ending : Ending)
    → FollowsListener listen source sink given returned now ending → IsOfLines ending
listener_of_lines listen source sink given returned now ending (told, inl first) = first.follows.of_lines
listener_of_lines listen source sink given returned now ending (told, inr none) = subst IsOfLines (sym none.done) tt

-- the status is one of the command's
among : (ending : Ending) → IsOfLines ending → Contains follow_statuses (status_of ending)
among Done is = (0, lit< tt, refl)
among Read is = (1, lit< tt, refl)
among Write is = (2, lit< tt, refl)
among Memory is = (3, lit< tt, refl)
among (Malformed number) is = (5, lit< tt, refl)
among Keeper never = absurd never
among (Damaged damage) never = absurd never

-- the run ends as its lines do, or with a failed write of the length
ends_of_lines : (text : List ℕ) (old new : OutputState) (lines ending : Ending) → IsOfLines lines → TellsEnd text old new lines ending → IsOfLines ending
ends_of_lines text old new Done Done is tells = tt
ends_of_lines text old new Done Write is tells = tt
ends_of_lines text old new Done Keeper is never = never
ends_of_lines text old new Done (Damaged damage) is never = never
ends_of_lines text old new Done Read is never = tt
ends_of_lines text old new Done Memory is never = tt
ends_of_lines text old new Done (Malformed number) is never = tt
ends_of_lines text old new Read ending is (same, only) = subst IsOfLines (sym same) tt
ends_of_lines text old new Write ending is (same, only) = subst IsOfLines (sym same) tt
ends_of_lines text old new Memory ending is (same, only) = subst IsOfLines (sym same) tt
ends_of_lines text old new (Malformed number) ending is (same, only) = subst IsOfLines (sym same) tt
ends_of_lines text old new Keeper ending never tells = absurd never
ends_of_lines text old new (Damaged damage) ending never tells = absurd never

pub follow_among : (text : List ℕ) (old new : OutputState) (lines ending : Ending) (status : ℕ) → IsOfLines lines → TellsEnd text old new lines ending → status ≡ status_of ending
    → Contains follow_statuses status
follow_among text old new lines ending status is tells told =
    subst (λ (n : ℕ). Contains follow_statuses n) (sym told) (among ending (ends_of_lines text old new lines ending is tells))
