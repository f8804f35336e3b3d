-- The requests that a seed makes.
use Rattle.std.specs.Prelude.{ℕ, zero, suc, ◌+◌, ◌%◌, ◌==◌, nat_le, List, [], ◌∷◌, Some, if◌then◌else◌}
use Rattle.std.specs.Option.{option_map_or}
use Rattle.rv_make.specs.declared.generator.DrawnPush.{DrawnPush}
use Rattle.rv_make.specs.declared.generator.Pushed.{Pushed}
use Rattle.rv_make.specs.declared.made.MadeRequest.{MadeRequest}
use Rattle.rv_make.specs.declared.made.MadeRequest.TheVariants.{Push, PullLast, PullNull}
use Rattle.rv_make.specs.Calls.{call_of}
use Rattle.rv_make.specs.Draws.{drawn, draw_of}
use Rattle.rv_make.specs.Making.{Making, nothing_pushed}
use Rattle.rv_make.specs.Names.{user_name}
use Rattle.rv_make.specs.Threes.{held_by, with_held}

-- a request, and the generator after it
abbrev pub MadeStep : Type 0
MadeStep = MadeRequest × Making

-- one more request, after the draw that left this number
abbrev pub made_one : Making → ℕ → Making
made_one making number = record making { number = number; made = making.made + 1 }

-- the push of this number that was drawn for a user
abbrev pub push_of : ℕ → ℕ → DrawnPush → MadeRequest
push_of user id push = Push (user_name user) id (call_of push.kind user push.row push.request)

-- the user's client pushes this with its next id
abbrev pub pushes : Making → ℕ → DrawnPush → ℕ → MadeStep
pushes making user push number =
    let id = (held_by user making.pushed).count + 1 in
    (push_of user id push, made_one (record making { pushed = with_held user (record { count = id; last = Some push }) making.pushed }) number)

-- a push that is drawn: the kind of its call, of 7, and the row that it is of, of 20
abbrev pub pushes_anew : Making → ℕ → ℕ → MadeStep
pushes_anew making user number =
    let kind = drawn number in
    let row = drawn kind in
    pushes making user (record { kind = draw_of kind % 7; row = draw_of row % 20; request = making.made + 1 }) row

-- a pull with the cookie that was answered last
abbrev pub pulls_last : Making → ℕ → ℕ → MadeStep
pulls_last making user number = (PullLast (user_name user), made_one making number)

-- a pull with no cookie
abbrev pub pulls_null : Making → ℕ → ℕ → MadeStep
pulls_null making user number = (PullNull (user_name user), made_one making number)

-- the last push again, of a user who pushed this; where there is none a pull
abbrev pub repeats : Making → ℕ → ℕ → Pushed → MadeStep
repeats making user number pushed = option_map_or (λ push. (push_of user pushed.count push, made_one making number)) pushed.last (pulls_last making user number)

abbrev pub pushes_again : Making → ℕ → ℕ → MadeStep
pushes_again making user number = repeats making user number (held_by user making.pushed)

-- what was drawn, of 10, is made for a user, after the draw that left this number
abbrev pub makes : Making → ℕ → ℕ → ℕ → MadeStep
makes making user what number =
    if nat_le what 5 then pushes_anew making user number
    else if nat_le what 7 then pulls_last making user number
    else if what == 8 then pulls_null making user number
    else pushes_again making user number

-- the next request: its user is drawn, of 3, and then what it is
unfoldable pub next_made : Making → MadeStep
next_made making =
    let user = drawn making.number in
    let what = drawn user in
    makes making (draw_of user % 3) (draw_of what % 10) what

-- so many requests
abbrev pub made_from : ℕ → Making → List MadeRequest
made_from zero making = []
made_from (suc n) making = (next_made making).0 ∷ made_from n (next_made making).1

-- the generator that has made none
abbrev pub started : ℕ → Making
started seed = record { number = seed; made = 0; pushed = record { first = nothing_pushed; second = nothing_pushed; third = nothing_pushed } }

-- the first requests that a seed makes
abbrev pub requests : ℕ → ℕ → List MadeRequest
requests seed n = made_from n (started seed)
