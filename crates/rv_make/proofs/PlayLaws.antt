-- Laws of runs.
use Rattle.std.proofs.Common.{◌≡◌, ℕ, ◌+◌, ◌-◌, ◌^◌, ◌<◌, ◌==◌, List, [], ◌∷◌, ◌++◌, length, Bool, true, false, cond, refl, sym, ap, ◌∙◌, subst, arith, zero-add, length-append}
use Rattle.std.specs.List.{count_by}
use Rattle.std.proofs.lemmas.List.Sums.{count_by-le-length, sum_by-append}
use Rattle.rv_turns.specs.Outcomes.{has_acted}
use Rattle.rv_turns.specs.declared.pushing.Outcome.{Outcome}
use Rattle.rv_make.specs.declared.counts.AnswerCounts.{AnswerCounts}
use Rattle.rv_make.specs.declared.made.MadeRequest.{MadeRequest}
use Rattle.rv_make.specs.declared.three.Three.{Three}
use Rattle.rv_make.specs.Answered.{answers_of, counts_after, is_look, is_same, is_skipped, MayCount, one_if}
use Rattle.rv_make.specs.Plays.{Scene, TakesRequest, TakesRequests}
use Rattle.rv_make.specs.Threes.{held_by, with_held}

-- a user who is given what it has leaves all as it is
first_again : {T : Type 0} (three : Three T) (first second : Bool)
    → cond first (record three { first = cond first three.first (cond second three.second three.third) }) (cond second (record three { second = cond first three.first (cond second three.second three.third) }) (record three { third = cond first three.first (cond second three.second three.third) })) ≡ three
first_again three true second = refl
first_again three false true = refl
first_again three false false = refl

pub held_again : {T : Type 0} (user : ℕ) (three : Three T) → with_held user (held_by user three) three ≡ three
held_again user three = first_again three (user == 0) (user == 1)

-- one more request is taken
pub takes_more : (requests : List MadeRequest) (outcomes : List Outcome) (first mid new : Scene) (request : MadeRequest) (outcome : Outcome) → TakesRequests first requests outcomes mid → TakesRequest mid request outcome new
    → TakesRequests first (requests ++ request ∷ []) (outcomes ++ outcome ∷ []) new
takes_more [] [] first mid new request outcome all one = (new, subst (λ (s : Scene). TakesRequest s request outcome new) all one, refl)
takes_more [] (o ∷ outcomes) first mid new request outcome all one = absurd all
takes_more (r ∷ requests) [] first mid new request outcome all one = absurd all
takes_more (r ∷ requests) (o ∷ outcomes) first mid new request outcome (next, taken, rest) one = (next, taken, takes_more requests outcomes next mid new request outcome rest one)

-- one more outcome is counted
count_more : (p : Outcome → Bool) (outcomes : List Outcome) (outcome : Outcome) → count_by p outcomes + one_if (p outcome) ≡ count_by p (outcomes ++ outcome ∷ [])
count_more p outcomes outcome = sym (sum_by-append (λ (o : Outcome). cond (p o) 1 0) outcomes (outcome ∷ []) ∙ ap (λ (k : ℕ). count_by p outcomes + k) (zero-add (one_if (p outcome))))

counts_more : (outcomes : List Outcome) (outcome : Outcome) → counts_after (answers_of outcomes) outcome ≡ answers_of (outcomes ++ outcome ∷ [])
counts_more outcomes outcome = λ i. record {
  acted = count_more has_acted outcomes outcome i;
  skipped = count_more is_skipped outcomes outcome i;
  looks = count_more is_look outcomes outcome i;
  same = count_more is_same outcomes outcome i;
}

pub answers_more : (outcomes : List Outcome) (outcome : Outcome) (counts more : AnswerCounts) → counts ≡ answers_of outcomes → more ≡ counts_after counts outcome → more ≡ answers_of (outcomes ++ outcome ∷ [])
answers_more outcomes outcome counts more is then = then ∙ ap (λ (c : AnswerCounts). counts_after c outcome) is ∙ counts_more outcomes outcome

pub length_more : (outcomes : List Outcome) (outcome : Outcome) → length (outcomes ++ outcome ∷ []) ≡ length outcomes + 1
length_more outcomes outcome = length-append outcomes (outcome ∷ [])

-- counts of fewer outcomes than a count holds may rise
pub answers_room : (outcomes : List Outcome) (counts : AnswerCounts) → counts ≡ answers_of outcomes → length outcomes < 2 ^ 32 - 1 → MayCount counts
answers_room outcomes counts is few = subst MayCount (sym is) (record {
  acted = omega (arith, count_by-le-length has_acted outcomes);
  skipped = omega (arith, count_by-le-length is_skipped outcomes);
  looks = omega (arith, count_by-le-length is_look outcomes);
  same = omega (arith, count_by-le-length is_same outcomes);
})
