-- A request that is made counts, and those that are left are one fewer.
use Rattle.std.proofs.Common.{◌≡◌, ℕ, suc, ◌+◌, ◌-◌, ◌%◌, ◌<◌, ◌++◌, ◌∷◌, List, [], Bool, true, false, cond, Option, Some, None, nat_le, ◌==◌, refl, ap, ◌∙◌, subst, arith, append_assoc}
use Rattle.rv_make.specs.declared.generator.DrawnPush.{DrawnPush}
use Rattle.rv_make.specs.declared.made.MadeRequest.{MadeRequest}
use Rattle.rv_make.specs.Making.{Making}
use Rattle.rv_make.specs.Draws.{drawn, draw_of}
use Rattle.rv_make.specs.Requests.{MadeStep, makes, repeats, next_made, made_from}
use Rattle.rv_make.specs.Threes.{held_by}

-- the generator has made one more
abbrev CountsOne : Making → MadeStep → Type 0
CountsOne making made = made.1.made ≡ making.made + 1

one_of : (making : Making) (b : Bool) (x y : MadeStep) → CountsOne making x → CountsOne making y → CountsOne making (cond b x y)
one_of making true x y first second = first
one_of making false x y first second = second

repeats_one : (making : Making) (user number count : ℕ) (last : Option DrawnPush) → CountsOne making (repeats making user number (record { count = count; last = last }))
repeats_one making user number count None = refl
repeats_one making user number count (Some push) = refl

makes_one : (making : Making) (user what number : ℕ) → CountsOne making (makes making user what number)
makes_one making user what number =
    one_of making (nat_le what 5) _ _ refl
    (one_of making (nat_le what 7) _ _ refl
    (one_of making (what == 8) _ _ refl (repeats_one making user number (held_by user making.pushed).count (held_by user making.pushed).last)))

pub step_made : (making : Making) → (next_made making).1.made ≡ making.made + 1
unfolding next_made
step_made making = makes_one making (draw_of (drawn making.number) % 3) (draw_of (drawn (drawn making.number)) % 10) (drawn (drawn making.number))

-- what is left of a list that is made
made_more : (before : List MadeRequest) (making : Making) (left : ℕ) (all : List MadeRequest) → before ++ made_from (suc left) making ≡ all
    → (before ++ (next_made making).0 ∷ []) ++ made_from left (next_made making).1 ≡ all
made_more before making left all is = append_assoc before ((next_made making).0 ∷ []) (made_from left (next_made making).1) ∙ is

one_fewer : (n i : ℕ) → i < n → n - i ≡ suc (n - (i + 1))
one_fewer n i lt = omega arith

-- the same after a next_made
pub made_on : (before after : List MadeRequest) (making next : Making) (request : MadeRequest) (n i : ℕ) (all : List MadeRequest) → i < n
    → before ++ made_from (n - i) making ≡ all → request ≡ (next_made making).0 → next ≡ (next_made making).1 → after ≡ before ++ request ∷ [] → after ++ made_from (n - (i + 1)) next ≡ all
made_on before after making next request n i all lt is asked then appended =
    let whole : before ++ made_from (suc (n - (i + 1))) making ≡ all = subst (λ (k : ℕ). before ++ made_from k making ≡ all) (one_fewer n i lt) is in
    rw (appended, asked, then) (made_more before making (n - (i + 1)) all whole)

pub counted_on : (making next : Making) (i : ℕ) → making.made ≡ i → next ≡ (next_made making).1 → next.made ≡ i + 1
counted_on making next i is then = ap (λ (m : Making). m.made) then ∙ step_made making ∙ ap (λ (k : ℕ). k + 1) is
