-- One request that a seed makes is taken.
use Rattle.std.proofs.Common.{◌≡◌, ℕ, ◌+◌, ◌-◌, ◌^◌, ◌<◌, ◌≤◌, inl, inr, Bool, not, cond, None, refl, sym, ap, ◌∙◌, subst, arith}
use Rattle.rv_rows.specs.declared.call.Call.{Call}
use Rattle.rv_views.specs.declared.cookie.Cookie.{Cookie}
use Rattle.rv_views.specs.declared.cookie.Cookie.TheVariants.{Null}
use Rattle.rv_turns.specs.Asks.{Ask}
use Rattle.rv_turns.specs.declared.pushing.Outcome.{Outcome}
use Rattle.rv_turns.specs.declared.pushing.Outcome.TheVariants.{Acted, Skipped, Pulled, Retired, Closed, Refused}
use Rattle.rv_turns.specs.declared.pull.PullReply.{PullReply}
use Rattle.rv_book.specs.Book.{Book, size, with_entry}
use Rattle.rv_book.specs.BookWordLaws.{size-with_entry}
use Rattle.rv_history.specs.Machine.{Step, cookie_order}
use Rattle.rv_wire.specs.Answers.{pull_json}
use Rattle.rv_make.specs.declared.made.MadeRequest.{MadeRequest}
use Rattle.rv_make.specs.declared.made.MadeRequest.TheVariants.{Push, PullLast, PullNull}
use Rattle.rv_make.specs.Answered.{one_if}
use Rattle.rv_make.specs.Asking.{ask_for, asks_by, maker}
use Rattle.rv_make.specs.Devices.{told_so, user_number}
use Rattle.rv_make.specs.Plays.{Scene, TakesRequest}
use Rattle.rv_make.specs.Threes.{held_by, with_held}
use Rattle.rv_laws.proofs.MadeUsers.{HasDevice, InBook, IsCounted, IsDevice, IsSmall, IsUnderway, Who, act_of, device_more, held_on, in_act, in_look, look_of, number, number_of, same, small_act, small_look, small_more, told_cookie, told_is, user}
use Rattle.rv_laws.proofs.MadeTurns.{CameOfPull, CameOfPush, came_of_pull, came_of_push, next_low, pulled_by, pushed_by, stepped}

-- ---- One request.

-- what is asked by a device
asked_push : (who : Who) (id : ℕ) (call : Call) (scene : Scene) (most : ℕ) → HasDevice most who scene → ask_for (Push (user who) id call) scene.devices ≡ pushed_by who id call
asked_push who id call scene most is =
    ap (λ (n : ℕ). asks_by (Push (user who) id call) (held_by n scene.devices)) (number_of who)
    ∙ (λ i. Ask.mutation (record { user = user who; group = is.group i }) (record { client = is.client i; id = id; call = call }))

asked_last : (who : Who) (scene : Scene) (most : ℕ) → HasDevice most who scene → ask_for (PullLast (user who)) scene.devices ≡ pulled_by who (held_by (number who) scene.devices).cookie
asked_last who scene most is =
    ap (λ (n : ℕ). asks_by (PullLast (user who)) (held_by n scene.devices)) (number_of who)
    ∙ (λ i. Ask.pull (user who) (record { group = is.group i; cookie = (held_by (number who) scene.devices).cookie }))

asked_null : (who : Who) (scene : Scene) (most : ℕ) → HasDevice most who scene → ask_for (PullNull (user who)) scene.devices ≡ pulled_by who Null
asked_null who scene most is =
    ap (λ (n : ℕ). asks_by (PullNull (user who)) (held_by n scene.devices)) (number_of who)
    ∙ (λ i. Ask.pull (user who) (record { group = is.group i; cookie = Null }))

module _ (taken : ℕ) (counts : Who → ℕ) (scene : Scene) (room : taken < 2 ^ 32 - 1) (under : IsUnderway taken counts scene) where
  -- what holds after one more request
  abbrev Holds : (Who → ℕ) → Outcome → Scene → Type 0
  Holds next outcome new = IsUnderway (taken + 1) next new × IsCounted outcome scene.server.book new.server.book

  -- the server and the devices after a turn of a user, without its book
  record Leaves (who : Who) (outcome : Outcome) (new : Scene) : Type 0 where
    pub doubt : new.server.doubt ≡ None
    pub limit : new.server.limit ≡ 2 ^ 32 - 1
    pub devices : new.devices ≡ with_held (number who) (told_so (held_by (number who) scene.devices) outcome) scene.devices

  devices_on : (who : Who) (outcome : Outcome) (new : Scene) → Leaves who outcome new → cookie_order (told_cookie outcome (held_by (number who) scene.devices).cookie) ≤ taken + 1 → (v : Who) → HasDevice (taken + 1) v new
  devices_on who outcome new left low v =
      subst (λ (s : Scene). HasDevice (taken + 1) v s) (λ i. record { server = new.server; devices = sym left.devices i })
      (held_on who v (told_so (held_by (number who) scene.devices) outcome) scene.devices (λ w d. IsDevice (taken + 1) w d.group d.client d.cookie)
      (told_is (taken + 1) who scene outcome (record { group = (under.devices who).group; client = (under.devices who).client; order = low }))
      (device_more taken v scene (under.devices v)))

  kept_low : (who : Who) → cookie_order (held_by (number who) scene.devices).cookie ≤ taken + 1
  kept_low who = (device_more taken who scene (under.devices who)).order

  -- a push that was run
  after_act : (who : Who) (id : ℕ) (call : Call) (next : Who → ℕ) (place : ℕ) (new : Scene) → ((v : Who) → next v ≡ counts v + cond (same who v) 1 0) → Leaves who (Acted place) new → new.server.book ≡ with_entry scene.server.book (act_of who id call) → Holds next (Acted place) new
  after_act who id call next place new more left is = (
    record {
      doubt = left.doubt;
      limit = left.limit;
      small = subst (IsSmall (taken + 1)) (sym is) (small_act taken who id call scene.server.book under.small);
      users = λ v. subst (λ (b : Book). InBook v b (next v)) (sym is) (in_act who v scene.server.book id call (counts v) (next v) (more v) (under.users v));
      devices = devices_on who (Acted place) new left (kept_low who);
    },
    record { once = refl; grows = ap size is ∙ size-with_entry scene.server.book (act_of who id call) },
  )

  -- a push that was skipped
  after_skip : (who : Who) (at : ℕ) (new : Scene) → Leaves who (Skipped at) new → new.server.book ≡ scene.server.book → Holds counts (Skipped at) new
  after_skip who at new left is = (
    record {
      doubt = left.doubt;
      limit = left.limit;
      small = subst (IsSmall (taken + 1)) (sym is) (small_more taken scene.server.book under.small);
      users = λ v. subst (λ (b : Book). InBook v b (counts v)) (sym is) (under.users v);
      devices = devices_on who (Skipped at) new left (kept_low who);
    },
    record { once = refl; grows = ap size is ∙ omega arith },
  )

  -- a pull that was answered with its own cookie, or with a look
  after_pull : (who : Who) (cookie : Cookie) (reply : PullReply) (new : Scene) → cookie_order cookie ≤ taken → Leaves who (Pulled reply) new → CameOfPull who cookie scene.server.book (Pulled reply) new.server.book → Holds counts (Pulled reply) new
  after_pull who cookie reply new low left (inl (unchanged, kept, is)) = (
    record {
      doubt = left.doubt;
      limit = left.limit;
      small = subst (IsSmall (taken + 1)) (sym is) (small_more taken scene.server.book under.small);
      users = λ v. subst (λ (b : Book). InBook v b (counts v)) (sym is) (under.users v);
      devices = devices_on who (Pulled reply) new left (subst (λ (c : Cookie). cookie_order c ≤ taken + 1) (sym kept) (omega (arith, low)));
    },
    record {
      once = ap (λ (b : Bool). ((0 + 0) + one_if (not b)) + one_if b) unchanged;
      grows = ap size is ∙ (let none : 0 + one_if (not reply.same) ≡ 0 = ap (λ (b : Bool). 0 + one_if (not b)) unchanged in omega (arith, none));
    },
  )
  after_pull who cookie reply new low left (inr (look, text, base, order, next, named, is)) =
      let le : order ≤ taken + 1 = subst (λ (n : ℕ). n ≤ taken + 1) (sym next) (next_low taken who scene.server.book (counts who) room under.small (under.users who) cookie low) in (
        record {
          doubt = left.doubt;
          limit = left.limit;
          small = subst (IsSmall (taken + 1)) (sym is) (small_look taken who order base scene.server.book under.small le);
          users = λ v. subst (λ (b : Book). InBook v b (counts v)) (sym is) (in_look who v scene.server.book order base (counts v) (under.users v));
          devices = devices_on who (Pulled reply) new left (subst (λ (c : Cookie). cookie_order c ≤ taken + 1) (sym named) le);
        },
        record {
          once = ap (λ (b : Bool). ((0 + 0) + one_if (not b)) + one_if b) look;
          grows = ap size is ∙ size-with_entry scene.server.book (look_of who order base) ∙ (let one : 0 + one_if (not reply.same) ≡ 1 = ap (λ (b : Bool). 0 + one_if (not b)) look in omega (arith, one));
        },
      )

  -- what a request asks for, its step, and what it leaves
  record Took (who : Who) (ask : Ask) (outcome : Outcome) (new : Scene) : Type 0 where
    pub step : Step pull_json (2 ^ 32 - 1) scene.server.book ask outcome new.server.book
    pub left : Leaves who outcome new

  took_as : (who : Who) (ask : Ask) (request : MadeRequest) (outcome : Outcome) (new : Scene) → maker request ≡ user who → ask_for request scene.devices ≡ ask → TakesRequest scene request outcome new → Took who ask outcome new
  took_as who ask request outcome new made asks took =
      let s = stepped scene.server new.server (ask_for request scene.devices) outcome under.doubt under.limit took.trouble took.turn in record {
        step = subst (λ (a : Ask). Step pull_json (2 ^ 32 - 1) scene.server.book a outcome new.server.book) asks s.step;
        left = record {
          doubt = s.doubt;
          limit = s.limit;
          devices = took.devices ∙ ap (λ (n : ℕ). with_held n (told_so (held_by n scene.devices) outcome) scene.devices) (ap user_number made ∙ number_of who);
        };
      }

  -- a push of the next id, and one of the last id again
  pub fresh_push : (who : Who) (id : ℕ) (call : Call) (next : Who → ℕ) (outcome : Outcome) (new : Scene) → id ≡ counts who + 1 → ((v : Who) → next v ≡ counts v + cond (same who v) 1 0) → TakesRequest scene (Push (user who) id call) outcome new → Holds next outcome new
  fresh_push who id call next outcome new is more request =
      let took = took_as who (pushed_by who id call) (Push (user who) id call) outcome new refl (asked_push who id call scene taken (under.devices who)) request in
      by outcome took.left (came_of_push taken who scene.server.book (counts who) room under.small (under.users who) id call outcome new.server.book (omega (arith, is)) request.memory took.step)
    where
      by : (outcome : Outcome) → Leaves who outcome new → CameOfPush who id call scene.server.book outcome new.server.book → Holds next outcome new
      by (Acted place) left (at, entered) = after_act who id call next place new more left entered
      by (Skipped at) left (low, stays) = absurd (let count = (under.users who).last in omega (arith, low, is, count))
      by (Pulled reply) left never = absurd never
      by (Retired place) left never = absurd never
      by (Closed place) left never = absurd never
      by (Refused refusal) left never = absurd never

  pub push_again : (who : Who) (id : ℕ) (call : Call) (outcome : Outcome) (new : Scene) → id ≡ counts who → TakesRequest scene (Push (user who) id call) outcome new → Holds counts outcome new
  push_again who id call outcome new is request =
      let took = took_as who (pushed_by who id call) (Push (user who) id call) outcome new refl (asked_push who id call scene taken (under.devices who)) request in
      by outcome took.left (came_of_push taken who scene.server.book (counts who) room under.small (under.users who) id call outcome new.server.book (omega (arith, is)) request.memory took.step)
    where
      by : (outcome : Outcome) → Leaves who outcome new → CameOfPush who id call scene.server.book outcome new.server.book → Holds counts outcome new
      by (Acted place) left (at, entered) = absurd (let count = (under.users who).last in omega (arith, at, is, count))
      by (Skipped at) left (low, stays) = after_skip who at new left stays
      by (Pulled reply) left never = absurd never
      by (Retired place) left never = absurd never
      by (Closed place) left never = absurd never
      by (Refused refusal) left never = absurd never

  -- a pull with a cookie
  pull_taken : (who : Who) (cookie : Cookie) (request : MadeRequest) (outcome : Outcome) (new : Scene) → cookie_order cookie ≤ taken → maker request ≡ user who → ask_for request scene.devices ≡ pulled_by who cookie → TakesRequest scene request outcome new → Holds counts outcome new
  pull_taken who cookie request outcome new low made asks takes =
      let took = took_as who (pulled_by who cookie) request outcome new made asks takes in
      by outcome took.left (came_of_pull taken who scene.server.book (counts who) room under.small (under.users who) cookie outcome new.server.book low takes.memory took.step)
    where
      by : (outcome : Outcome) → Leaves who outcome new → CameOfPull who cookie scene.server.book outcome new.server.book → Holds counts outcome new
      by (Pulled reply) left came = after_pull who cookie reply new low left came
      by (Acted place) left never = absurd never
      by (Skipped at) left never = absurd never
      by (Retired place) left never = absurd never
      by (Closed place) left never = absurd never
      by (Refused refusal) left never = absurd never

  pub pull_last : (who : Who) (outcome : Outcome) (new : Scene) → TakesRequest scene (PullLast (user who)) outcome new → Holds counts outcome new
  pull_last who outcome new took = pull_taken who (held_by (number who) scene.devices).cookie (PullLast (user who)) outcome new (under.devices who).order refl (asked_last who scene taken (under.devices who)) took

  pub pull_null : (who : Who) (outcome : Outcome) (new : Scene) → TakesRequest scene (PullNull (user who)) outcome new → Holds counts outcome new
  pull_null who outcome new took = pull_taken who Null (PullNull (user who)) outcome new (omega arith) refl (asked_null who scene taken (under.devices who)) took
