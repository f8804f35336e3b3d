-- A run after some of its requests, at a desk.
use Rattle.std.proofs.Common.{◌≡◌, ℕ, ◌+◌, ◌-◌, ◌^◌, ◌<◌, ◌≤◌, List, [], ◌∷◌, ◌++◌, length, refl, sym, ap, ◌∙◌, subst, arith, append-nil}
use Rattle.rv_desk.specs.DeskStates.{DeskState, served}
use Rattle.rv_keeper.specs.declared.keeper.Keeper.{Ghosts}
use Rattle.rv_turns.specs.declared.pushing.Outcome.{Outcome}
use Rattle.rv_make.specs.declared.counts.AnswerCounts.{AnswerCounts}
use Rattle.rv_make.specs.declared.devices.Device.{Device}
use Rattle.rv_make.specs.declared.made.MadeRequest.{MadeRequest}
use Rattle.rv_make.specs.declared.three.Three.{Three}
use Rattle.rv_make.specs.Answered.{answers_of, no_counts, MayCount}
use Rattle.rv_make.specs.Devices.{first_devices}
use Rattle.rv_make.specs.Making.{Making}
use Rattle.rv_make.specs.Plays.{first_scene, fresh, TakesRequests}
use Rattle.rv_make.specs.Playing.{PlaysOne, PlaysAll}
use Rattle.rv_make.specs.Requests.{made_from, next_made, requests, started}
use Rattle.rv_make.proofs.MakingLaws.{made_on, counted_on}
use Rattle.rv_make.proofs.PlayLaws.{answers_more, answers_room, takes_more, length_more}

-- The first requests were taken, so many, and these are the counts of their outcomes; the generator makes those that are left. The keeper
-- fails no more.
pub record IsMidway {K : Type 0} (G : Ghosts K) (seed n index : ℕ) (making : Making) (devices : Three Device) (counts : AnswerCounts) (desk : DeskState K) : Type 0 where
  pub before : List MadeRequest
  pub outcomes : List Outcome
  pub run : TakesRequests first_scene before outcomes (record { server = served G.faults desk; devices = devices })
  pub left : before ++ made_from (n - index) making ≡ requests seed n
  pub made : making.made ≡ index
  pub many : length outcomes ≡ index
  pub counted : counts ≡ answers_of outcomes
  pub steady : G.fails_no_more desk.keeper

whole : (n : ℕ) → n - 0 ≡ n
whole n = omega arith

module _ {K : Type 0} (G : Ghosts K) (seed n : ℕ) where
  -- at first none was taken
  pub midway_first : (making : Making) (devices : Three Device) (counts : AnswerCounts) (desk : DeskState K) → making ≡ started seed → devices ≡ first_devices → counts ≡ no_counts → served G.faults desk ≡ fresh → G.fails_no_more desk.keeper
      → IsMidway G seed n 0 making devices counts desk
  midway_first making devices counts desk starts first none is steady = record {
    before = [];
    outcomes = [];
    run = λ i. record { server = is i; devices = first i };
    left = ap (λ (k : ℕ). made_from k making) (whole n) ∙ ap (made_from n) starts;
    made = ap (λ (m : Making). m.made) starts;
    many = refl;
    counted = none;
    steady = steady;
  }

  -- one more is taken
  pub midway_on : (index : ℕ) (making next : Making) (devices later : Three Device) (counts more : AnswerCounts) (desk new : DeskState K) (request : MadeRequest) → index < n
      → IsMidway G seed n index making devices counts desk → request ≡ (next_made making).0 → next ≡ (next_made making).1 → PlaysOne G desk devices counts request new later more
      → IsMidway G seed n (index + 1) next later more new
  midway_on index making next devices later counts more desk new request lt m asked then one = record {
    before = m.before ++ request ∷ [];
    outcomes = m.outcomes ++ one.outcome ∷ [];
    run = takes_more m.before m.outcomes first_scene _ _ request one.outcome m.run (record { turn = one.turn.turn; memory = one.memory; trouble = one.turn.assured.sure m.steady; devices = one.kept });
    left = made_on m.before (m.before ++ request ∷ []) making next request n index (requests seed n) lt m.left asked then refl;
    made = counted_on making next index m.made then;
    many = length_more m.outcomes one.outcome ∙ ap (λ (k : ℕ). k + 1) m.many;
    counted = answers_more m.outcomes one.outcome counts more m.counted one.counted;
    steady = one.turn.assured.goes_on m.steady;
  }

  -- the generator may go on, and so may the counts
  pub midway_makes : (index : ℕ) (making : Making) (devices : Three Device) (counts : AnswerCounts) (desk : DeskState K) → index < n → n < 2 ^ 32 → IsMidway G seed n index making devices counts desk → making.made < 2 ^ 32 - 1
  midway_makes index making devices counts desk lt fits m = omega (arith, m.made)

  pub midway_counts : (index : ℕ) (making : Making) (devices : Three Device) (counts : AnswerCounts) (desk : DeskState K) → index < n → n < 2 ^ 32 → IsMidway G seed n index making devices counts desk → MayCount counts
  midway_counts index making devices counts desk lt fits m = answers_room m.outcomes counts m.counted (omega (arith, m.many))

  all_before : (before : List MadeRequest) (making : Making) (left : ℕ) (all : List MadeRequest) → left ≡ 0 → before ++ made_from left making ≡ all → before ≡ all
  all_before before making left all none is = sym (append-nil before) ∙ subst (λ (k : ℕ). before ++ made_from k making ≡ all) none is

  -- at the end all are taken
  pub midway_last : (index : ℕ) (making : Making) (devices : Three Device) (counts : AnswerCounts) (desk : DeskState K) → n ≤ index → IsMidway G seed n index making devices counts desk → PlaysAll G seed n devices counts desk
  midway_last index making devices counts desk le m = record {
    outcomes = m.outcomes;
    run = subst (λ (l : List MadeRequest). TakesRequests first_scene l m.outcomes (record { server = served G.faults desk; devices = devices })) (all_before m.before making (n - index) (requests seed n) (omega arith) m.left) m.run;
    counted = m.counted;
  }
