-- What a listener answers, and what it leaves.
use Rattle.std.specs.Prelude.{◌≡◌, ℕ, ◌+◌, ◌<◌, ◌≤◌, Bool, true, false, List, [], ◌∷◌}
use Rattle.rv_net.specs.declared.accepted.Accepted.{Accepted}
use Rattle.rv_net.specs.declared.accepted.Accepted.TheVariants.{Conn, End}
use Rattle.rv_net.specs.declared.awaited.Awaited.{Awaited}
use Rattle.rv_net.specs.declared.awaited.Awaited.TheVariants.{Link, Nobody}
use Rattle.rv_net.specs.declared.awaited.Awaited.TheVariants as awaited

-- the answer is that no connection is to come
abbrev pub is_end : {C : Type 0} → Accepted C → Bool
is_end (Conn conn) = false
is_end End = true

-- Where these connections are to come and so many are out: the first of them is given, the others stay to come, and one more
-- is out. Exactly where none is to come the answer says so, and all stays.
abbrev pub Accepts : {C : Type 0} → List C → ℕ → List C → ℕ → Accepted C → Type 0
Accepts to_come out left now (Conn conn) = (to_come ≡ conn ∷ left) × (now ≡ out + 1)
Accepts to_come out left now End = (to_come ≡ []) × (left ≡ []) × (now ≡ out)

-- How many more connections a listener gives, at most: fewer after each, and no more once none is to come.
abbrev pub GivesFewer : {C : Type 0} → ℕ → ℕ → Accepted C → Type 0
GivesFewer old new (Conn conn) = new < old
GivesFewer old new End = new ≤ old

-- How many connections a listener still takes, at most: one fewer after each, and none once it has said that none is to come.
abbrev pub TakesOne : {C : Type 0} → ℕ → ℕ → Accepted C → Type 0
TakesOne old new (Conn conn) = old ≡ new + 1
TakesOne old new End = new ≡ 0

-- the answer is that no link is to come
abbrev pub is_last : {C : Type 0} → Awaited C → Bool
is_last (Link link) = false
is_last Nobody = false
is_last awaited.End = true

-- the answer is that none came for a while
abbrev pub is_nobody : {C : Type 0} → Awaited C → Bool
is_nobody (Link link) = false
is_nobody Nobody = true
is_nobody awaited.End = false

-- Where these links are to come and so many are out: the first of them is given, as a connection is; or none is to come; or none came
-- for a while, and all stays.
abbrev pub Awaits : {C : Type 0} → List C → ℕ → List C → ℕ → Awaited C → Type 0
Awaits to_come out left now (Link link) = Accepts to_come out left now (Conn link)
Awaits to_come out left now Nobody = (left ≡ to_come) × (now ≡ out)
Awaits to_come out left now awaited.End = Accepts to_come out left now End

-- How many links a listener still takes, at most: the same where none came for a while.
abbrev pub TakesOneLink : {C : Type 0} → ℕ → ℕ → Awaited C → Type 0
TakesOneLink old new (Link link) = old ≡ new + 1
TakesOneLink old new Nobody = new ≡ old
TakesOneLink old new awaited.End = new ≡ 0
