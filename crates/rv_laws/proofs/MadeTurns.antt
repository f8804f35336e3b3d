-- What comes of a push and of a pull of one of the three users: neither is refused.
use Rattle.std.proofs.Common.{◌≡◌, ℕ, ◌+◌, ◌-◌, ◌^◌, ◌<◌, ◌≤◌, ◌⊎◌, inl, inr, Bool, true, false, not, max, List, Option, Some, None, refl, sym, ap, ◌∙◌, subst, arith}
use Rattle.std.specs.Prelude.{decimal}
use Rattle.std.specs.Option.{option_map_or}
use Rattle.std.specs.Str.{bytes_eq}
use Rattle.std.proofs.Math.Nat.{max-le}
use Rattle.rv_base.specs.PositionLaws.{equals}
use Rattle.rv_rows.specs.declared.call.Call.{Call}
use Rattle.rv_views.specs.declared.cookie.Cookie.{Cookie}
use Rattle.rv_views.specs.declared.cookie.Cookie.TheVariants.{Named}
use Rattle.rv_turns.specs.Asks.{Ask}
use Rattle.rv_turns.specs.Outcomes.{trouble_of}
use Rattle.rv_turns.specs.declared.pushing.Outcome.{Outcome}
use Rattle.rv_turns.specs.declared.pushing.Outcome.TheVariants.{Acted, Skipped, Pulled, Retired, Closed, Refused}
use Rattle.rv_turns.specs.declared.pull.PullReply.{PullReply}
use Rattle.rv_turns.specs.declared.refusal.Refusal.{Refusal}
use Rattle.rv_turns.specs.declared.refusal.Refusal.TheVariants.{Future, GroupOfOther, ClientOfOther, NotFound, NoGroup, Behind, Limit, Trouble, Memory}
use Rattle.rv_turns.specs.declared.refusal.Trouble.{Trouble as AnyTrouble}
use Rattle.rv_turns.specs.declared.refusal.Which.TheVariants as which
use Rattle.rv_book.specs.Book.{Book, bound, group_of, last, last_order, size, with_entry}
use Rattle.rv_book.specs.RegisterLaws.{NoneBut}
use Rattle.rv_history.specs.Machine.{Replies, Refuses, Step, cookie_order, next_order}
use Rattle.rv_history.specs.Served.{Doubt, Served, Settles, TakesTurn, TurnOf, with_doubt}
use Rattle.rv_wire.specs.Answers.{pull_json}
use Rattle.rv_make.specs.Answered.{lacked_memory}
use Rattle.rv_laws.proofs.MadeUsers.{InBook, IsSmall, Who, act_of, client, group, look_of, user}

-- ---- A turn, where nothing is in doubt and no trouble is told, is a step from the book, and leaves nothing in doubt.

settled_is : (book settled : Book) (doubt : Doubt) → doubt ≡ None → Settles book doubt settled → settled ≡ book
settled_is book settled doubt none (inl is) = is
settled_is book settled doubt none (inr is) = is ∙ ap (with_doubt book) none

turn_of : (old new : Served) (settled : Book) (ask : Ask) (outcome : Outcome) (left : Doubt) (trouble : Option AnyTrouble) → trouble ≡ None → TurnOf pull_json old settled ask outcome left trouble new
    → Step pull_json old.limit settled ask outcome new.book × (new.doubt ≡ None)
turn_of old new settled ask outcome None None calm (step, none, still) = (step, none)
turn_of old new settled ask outcome (Some next) None calm never = absurd never
turn_of old new settled ask outcome left (Some trouble) calm turn = absurd (cc)

-- the server after such a turn
pub record Stepped (ask : Ask) (outcome : Outcome) (book : Book) (new : Served) : Type 0 where
  pub step : Step pull_json (2 ^ 32 - 1) book ask outcome new.book
  pub doubt : new.doubt ≡ None
  pub limit : new.limit ≡ 2 ^ 32 - 1

pub stepped : (old new : Served) (ask : Ask) (outcome : Outcome) → old.doubt ≡ None → old.limit ≡ 2 ^ 32 - 1 → trouble_of outcome ≡ None → TakesTurn pull_json old ask outcome new → Stepped ask outcome old.book new
stepped old new ask outcome none limit calm taken =
    let (step, doubt) = turn_of old new taken.settled ask outcome taken.left (trouble_of outcome) calm taken.turn in
    let same : taken.settled ≡ old.book = settled_is old.book taken.settled old.doubt none taken.settles in
    record {
      step = subst (λ (l : ℕ). Step pull_json l old.book ask outcome new.book) limit (subst (λ (b : Book). Step pull_json old.limit b ask outcome new.book) same step);
      doubt = doubt;
      limit = taken.limit ∙ limit;
    }

-- ---- What comes of a push and of a pull of a user.

abbrev pub pushed_by : Who → ℕ → Call → Ask
pushed_by who id call = Ask.mutation (record { user = user who; group = group who }) (record { client = client who; id = id; call = call })

abbrev pub pulled_by : Who → Cookie → Ask
pulled_by who cookie = Ask.pull (user who) (record { group = group who; cookie = cookie })

free : (name : List ℕ) (o : Option (List ℕ)) → NoneBut name o → option_map_or (λ other. not (bytes_eq other name)) o false ≡ false
free name o (inl none) = ap (λ (p : Option (List ℕ)). option_map_or (λ other. not (bytes_eq other name)) p false) none
free name o (inr is) = ap (λ (p : Option (List ℕ)). option_map_or (λ other. not (bytes_eq other name)) p false) is ∙ ap not (equals name)

abbrev pub CameOfPush : Who → ℕ → Call → Book → Outcome → Book → Type 0
CameOfPush who id call book (Acted place) new = (id ≡ last (client who) book + 1) × (new ≡ with_entry book (act_of who id call))
CameOfPush who id call book (Skipped at) new = (id ≤ last (client who) book) × (new ≡ book)
CameOfPush who id call book outcome new = ⊥

abbrev pub CameOfPull : Who → Cookie → Book → Outcome → Book → Type 0
CameOfPull who cookie book (Pulled reply) new =
    ((reply.same ≡ true) × (reply.cookie ≡ cookie) × (new ≡ book))
    ⊎ ((reply.same ≡ false) × (text : List ℕ) × (base : Option ℕ) × (order : ℕ) × (order ≡ max (cookie_order cookie) (last_order (group who) book) + 1) × (reply.cookie ≡ Named text order) × (new ≡ with_entry book (look_of who order base)))
CameOfPull who cookie book outcome new = ⊥

module _ (most : ℕ) (who : Who) (book : Book) (count : ℕ) (room : most < 2 ^ 32 - 1) (small : IsSmall most book) (there : InBook who book count) where
  own : option_map_or (λ other. not (bytes_eq other (user who))) (bound (group who) book) false ≡ false
  own = free (user who) (bound (group who) book) there.own

  push_kept : (id : ℕ) (call : Call) (refusal : Refusal) → id ≤ count + 1 → lacked_memory (Refused refusal) ≡ false → Refuses (2 ^ 32 - 1) book (pushed_by who id call) refusal → ⊥
  push_kept id call GroupOfOther le memory is = let both : true ≡ false = sym is ∙ own in cc
  push_kept id call NotFound le memory (mine, gone) = let both : true ≡ false = sym gone ∙ small.stands (group who) in cc
  push_kept id call ClientOfOther le memory (admits, elsewhere) = let both : true ≡ false = sym elsewhere ∙ free (group who) (group_of (client who) book) there.home in cc
  push_kept id call (Future expected got) le memory (takes, above, is, so) = omega (arith, le, above, there.last)
  push_kept id call (Limit what at) le memory (takes, next, full, is, so) = omega (arith, full, small.few, room)
  push_kept id call Memory le memory why = cc
  push_kept id call NoGroup le memory never = never
  push_kept id call (Behind length) le memory never = never
  push_kept id call (Trouble trouble) le memory never = never

  pub came_of_push : (id : ℕ) (call : Call) (outcome : Outcome) (new : Book) → id ≤ count + 1 → lacked_memory outcome ≡ false → Step pull_json (2 ^ 32 - 1) book (pushed_by who id call) outcome new → CameOfPush who id call book outcome new
  came_of_push id call (Acted place) new le memory (takes, next, below, at, is) = (next, is)
  came_of_push id call (Skipped at) new le memory (takes, low, is, stays) = (low, stays)
  came_of_push id call (Refused refusal) new le memory (why, stays) = push_kept id call refusal le memory why
  came_of_push id call (Pulled reply) new le memory never = never
  came_of_push id call (Retired place) new le memory never = never
  came_of_push id call (Closed place) new le memory never = never

  pub next_low : (cookie : Cookie) → cookie_order cookie ≤ most → max (cookie_order cookie) (last_order (group who) book) + 1 ≤ most + 1
  next_low cookie low = let le = max-le low (small.orders (group who)) in omega (arith, le)

  pull_kept : (cookie : Cookie) (refusal : Refusal) → cookie_order cookie ≤ most → lacked_memory (Refused refusal) ≡ false → Refuses (2 ^ 32 - 1) book (pulled_by who cookie) refusal → ⊥
  pull_kept cookie GroupOfOther low memory is = let both : true ≡ false = sym is ∙ own in cc
  pull_kept cookie NotFound low memory (mine, gone) = let both : true ≡ false = sym gone ∙ small.stands (group who) in cc
  pull_kept cookie (Limit which.Order at) low memory (admits, changed, high, is) = let le = next_low cookie low in omega (arith, high, le, room)
  pull_kept cookie (Limit which.Book at) low memory (admits, changed, fits, full, is) = omega (arith, full, small.few, room)
  pull_kept cookie Memory low memory why = cc
  pull_kept cookie ClientOfOther low memory never = never
  pull_kept cookie (Future expected got) low memory never = never
  pull_kept cookie NoGroup low memory never = never
  pull_kept cookie (Behind length) low memory never = never
  pull_kept cookie (Trouble trouble) low memory never = never

  came_of_reply : (cookie : Cookie) (same : Bool) (reply : PullReply) (new : Book) → reply.same ≡ same → Replies pull_json (2 ^ 32 - 1) book (user who) (record { group = group who; cookie = cookie }) same reply new
      → CameOfPull who cookie book (Pulled reply) new
  came_of_reply cookie true reply new is (unchanged, reply_is, stays) = inl (is, ap (λ (r : PullReply). r.cookie) reply_is, stays)
  came_of_reply cookie false reply new is (changed, fits, below, reply_is, entered) = inr (is, decimal (size book + 1), _, next_order (record { group = group who; cookie = cookie }) book, refl, ap (λ (r : PullReply). r.cookie) reply_is, entered)

  pub came_of_pull : (cookie : Cookie) (outcome : Outcome) (new : Book) → cookie_order cookie ≤ most → lacked_memory outcome ≡ false → Step pull_json (2 ^ 32 - 1) book (pulled_by who cookie) outcome new → CameOfPull who cookie book outcome new
  came_of_pull cookie (Pulled reply) new low memory (admits, replies) = came_of_reply cookie reply.same reply new refl replies
  came_of_pull cookie (Refused refusal) new low memory (why, stays) = pull_kept cookie refusal low memory why
  came_of_pull cookie (Acted place) new low memory never = never
  came_of_pull cookie (Skipped at) new low memory never = never
  came_of_pull cookie (Retired place) new low memory never = never
  came_of_pull cookie (Closed place) new low memory never = never
