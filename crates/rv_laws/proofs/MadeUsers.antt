-- The three users whose requests a seed makes, and what holds of them between two requests.
use Rattle.std.proofs.Common.{◌≡◌, ℕ, zero, suc, ◌+◌, ◌-◌, ◌^◌, ◌<◌, ◌≤◌, inr, Bool, true, false, cond, List, Option, Some, None, refl, sym, ap, ◌∙◌, subst, arith, ◌||◌}
use Rattle.std.specs.Fmt.{digits}
use Rattle.std.specs.Option.{option_or}
use Rattle.std.specs.Str.{bytes_eq}
use Rattle.rv_rows.specs.declared.call.Call.{Call}
use Rattle.rv_views.specs.declared.cookie.Cookie.{Cookie}
use Rattle.rv_turns.specs.Outcomes.{has_acted}
use Rattle.rv_turns.specs.declared.pushing.Outcome.{Outcome}
use Rattle.rv_turns.specs.declared.pushing.Outcome.TheVariants.{Acted, Skipped, Pulled, Retired, Closed, Refused}
use Rattle.rv_book.specs.declared.entry.Entry.{Entry}
use Rattle.rv_book.specs.declared.entry.Entry.TheVariants.{Act, Look}
use Rattle.rv_book.specs.Entries.{order_after, retires}
use Rattle.rv_book.specs.Book.{Book, bound, group_of, last, last_order, retired, size, with_entry}
use Rattle.rv_book.specs.BookWordLaws.{last-with_entry, last_order-with_entry, retired-with_entry, size-with_entry}
use Rattle.rv_book.specs.RegisterLaws.{bound-push, group_of-push, NoneBut}
use Rattle.rv_history.specs.Machine.{cookie_order}
use Rattle.rv_make.specs.Answered.{is_look, is_same, is_skipped, one_if}
use Rattle.rv_make.specs.Devices.{device_of, told_so, user_number}
use Rattle.rv_make.specs.Making.{Making}
use Rattle.rv_make.specs.Names.{user_name}
use Rattle.rv_make.specs.Plays.{Scene}
use Rattle.rv_make.specs.Requests.{pushes}
use Rattle.rv_make.specs.Threes.{held_by, with_held}

-- ---- The three users, each with its group and its client.

pub data Who : Type 0 where
  first : Who
  second : Who
  third : Who

abbrev pub number : Who → ℕ
number Who.first = 0
number Who.second = 1
number Who.third = 2

abbrev pub user : Who → List ℕ
user who = user_name (number who)

abbrev pub group : Who → List ℕ
group who = (device_of (number who)).group

abbrev pub client : Who → List ℕ
client who = (device_of (number who)).client

abbrev pub same : Who → Who → Bool
same Who.first Who.first = true
same Who.first Who.second = false
same Who.first Who.third = false
same Who.second Who.first = false
same Who.second Who.second = true
same Who.second Who.third = false
same Who.third Who.first = false
same Who.third Who.second = false
same Who.third Who.third = true

pub who_is : (n : ℕ) → n < 3 → (who : Who) × (n ≡ number who)
who_is zero lt = (Who.first, refl)
who_is (suc zero) lt = (Who.second, refl)
who_is (suc (suc zero)) lt = (Who.third, refl)
who_is (suc (suc (suc n))) lt = absurd (omega (arith, lt))

pub number_of : (who : Who) → user_number (user who) ≡ number who
unfolding digits
number_of Who.first = refl
number_of Who.second = refl
number_of Who.third = refl

groups_apart : (u v : Who) → bytes_eq (group u) (group v) ≡ same u v
unfolding digits
groups_apart Who.first Who.first = refl
groups_apart Who.first Who.second = refl
groups_apart Who.first Who.third = refl
groups_apart Who.second Who.first = refl
groups_apart Who.second Who.second = refl
groups_apart Who.second Who.third = refl
groups_apart Who.third Who.first = refl
groups_apart Who.third Who.second = refl
groups_apart Who.third Who.third = refl

clients_apart : (u v : Who) → bytes_eq (client u) (client v) ≡ same u v
unfolding digits
clients_apart Who.first Who.first = refl
clients_apart Who.first Who.second = refl
clients_apart Who.first Who.third = refl
clients_apart Who.second Who.first = refl
clients_apart Who.second Who.second = refl
clients_apart Who.second Who.third = refl
clients_apart Who.third Who.first = refl
clients_apart Who.third Who.second = refl
clients_apart Who.third Who.third = refl

-- What one of them is given, the others keep what they have.
pub held_on : {T : Type 0} (u v : Who) (new : T) (three : _) (P : Who → T → Type 0) → P u new → P v (held_by (number v) three) → P v (held_by (number v) (with_held (number u) new three))
held_on Who.first Who.first new three P own kept = own
held_on Who.first Who.second new three P own kept = kept
held_on Who.first Who.third new three P own kept = kept
held_on Who.second Who.first new three P own kept = kept
held_on Who.second Who.second new three P own kept = own
held_on Who.second Who.third new three P own kept = kept
held_on Who.third Who.first new three P own kept = kept
held_on Who.third Who.second new three P own kept = kept
held_on Who.third Who.third new three P own kept = own

-- a name that is found of one user, after what one of them entered
or_own : (name : List ℕ) (o : Option (List ℕ)) → NoneBut name o → NoneBut name (option_or o (Some name))
or_own name None free = inr refl
or_own name (Some other) free = free

or_other : (name : List ℕ) (o : Option (List ℕ)) → NoneBut name o → NoneBut name (option_or o None)
or_other name None free = free
or_other name (Some other) free = free

found_on : (name : Who → List ℕ) (u v : Who) (o : Option (List ℕ)) → NoneBut (name v) o → NoneBut (name v) (option_or o (cond (same u v) (Some (name u)) None))
found_on name Who.first Who.first o free = or_own (name Who.first) o free
found_on name Who.first Who.second o free = or_other (name Who.second) o free
found_on name Who.first Who.third o free = or_other (name Who.third) o free
found_on name Who.second Who.first o free = or_other (name Who.first) o free
found_on name Who.second Who.second o free = or_own (name Who.second) o free
found_on name Who.second Who.third o free = or_other (name Who.third) o free
found_on name Who.third Who.first o free = or_other (name Who.first) o free
found_on name Who.third Who.second o free = or_other (name Who.second) o free
found_on name Who.third Who.third o free = or_own (name Who.third) o free

-- how many pushes each user has made anew
abbrev pub count : Making → Who → ℕ
count making who = (held_by (number who) making.pushed).count

pub counted_on : (making : Making) (u v : Who) (push : _) (left : ℕ) → count (pushes making (number u) push left).1 v ≡ count making v + cond (same u v) 1 0
counted_on making Who.first Who.first push left = refl
counted_on making Who.first Who.second push left = omega arith
counted_on making Who.first Who.third push left = omega arith
counted_on making Who.second Who.first push left = omega arith
counted_on making Who.second Who.second push left = refl
counted_on making Who.second Who.third push left = omega arith
counted_on making Who.third Who.first push left = omega arith
counted_on making Who.third Who.second push left = omega arith
counted_on making Who.third Who.third push left = refl

-- ---- What holds between requests.

-- A user's group is no other's, its client is of that group, and has so many acts.
pub record InBook (who : Who) (book : Book) (count : ℕ) : Type 0 where
  pub own : NoneBut (user who) (bound (group who) book)
  pub home : NoneBut (group who) (group_of (client who) book)
  pub last : last (client who) book ≡ count

-- Its device has group and client, and its cookie's order is at most this.
pub record IsDevice (most : ℕ) (who : Who) (its_group its_client : List ℕ) (cookie : Cookie) : Type 0 where
  pub group : its_group ≡ group who
  pub client : its_client ≡ client who
  pub order : cookie_order cookie ≤ most

abbrev pub HasDevice : ℕ → Who → Scene → Type 0
HasDevice most who scene = IsDevice most who (held_by (number who) scene.devices).group (held_by (number who) scene.devices).client (held_by (number who) scene.devices).cookie

-- No group is retired, and no order nor the book's length is above this.
pub record IsSmall (most : ℕ) (book : Book) : Type 0 where
  pub few : size book ≤ most
  pub stands : (group : List ℕ) → retired group book ≡ false
  pub orders : (group : List ℕ) → last_order group book ≤ most

pub record IsUnderway (taken : ℕ) (counts : Who → ℕ) (scene : Scene) : Type 0 where
  pub doubt : scene.server.doubt ≡ None
  pub limit : scene.server.limit ≡ 2 ^ 32 - 1
  pub small : IsSmall taken scene.server.book
  pub users : (who : Who) → InBook who scene.server.book (counts who)
  pub devices : (who : Who) → HasDevice taken who scene

-- One request is counted once, and the book grows by what is entered.
pub record IsCounted (outcome : Outcome) (old new : Book) : Type 0 where
  pub once : ((one_if (has_acted outcome) + one_if (is_skipped outcome)) + one_if (is_look outcome)) + one_if (is_same outcome) ≡ 1
  pub grows : size new ≡ size old + (one_if (has_acted outcome) + one_if (is_look outcome))

-- ---- An entry more.

abbrev pub act_of : Who → ℕ → Call → Entry
act_of who id call = Act (user who) (group who) (client who) id call

abbrev pub look_of : Who → ℕ → Option ℕ → Entry
look_of who order base = Look (user who) (group who) order base

pub in_act : (u v : Who) (book : Book) (id : ℕ) (call : Call) (before after : ℕ) → after ≡ before + cond (same u v) 1 0 → InBook v book before → InBook v (with_entry book (act_of u id call)) after
in_act u v book id call before after more there = record {
  own = subst (NoneBut (user v)) (sym (bound-push (group v) book (act_of u id call) ∙ ap (λ (b : Bool). option_or (bound (group v) book) (cond b (Some (user u)) None)) (groups_apart u v))) (found_on user u v (bound (group v) book) there.own);
  home = subst (NoneBut (group v)) (sym (group_of-push (client v) book (act_of u id call) ∙ ap (λ (b : Bool). option_or (group_of (client v) book) (cond b (Some (group u)) None)) (clients_apart u v))) (found_on group u v (group_of (client v) book) there.home);
  last = last-with_entry (client v) book (act_of u id call) ∙ ap (λ (b : Bool). last (client v) book + cond b 1 0) (clients_apart u v) ∙ ap (λ (n : ℕ). n + cond (same u v) 1 0) there.last ∙ sym more;
}

pub in_look : (u v : Who) (book : Book) (order : ℕ) (base : Option ℕ) (count : ℕ) → InBook v book count → InBook v (with_entry book (look_of u order base)) count
in_look u v book order base count there = record {
  own = subst (NoneBut (user v)) (sym (bound-push (group v) book (look_of u order base) ∙ ap (λ (b : Bool). option_or (bound (group v) book) (cond b (Some (user u)) None)) (groups_apart u v))) (found_on user u v (bound (group v) book) there.own);
  home = subst (NoneBut (group v)) (sym (group_of-push (client v) book (look_of u order base))) (or_other (group v) (group_of (client v) book) there.home);
  last = last-with_entry (client v) book (look_of u order base) ∙ omega (arith, there.last);
}

pub small_more : (most : ℕ) (book : Book) → IsSmall most book → IsSmall (most + 1) book
small_more most book small = record { few = omega (arith, small.few); stands = small.stands; orders = λ group. omega (arith, small.orders group) }

small_on : (most : ℕ) (book : Book) (entry : Entry) → IsSmall most book → ((group : List ℕ) → retires group entry ≡ false) → ((group : List ℕ) → order_after group (last_order group book) entry ≤ most + 1) → IsSmall (most + 1) (with_entry book entry)
small_on most book entry small none orders = record {
  few = omega (arith, small.few, size-with_entry book entry);
  stands = λ group. retired-with_entry group book entry ∙ (λ i. small.stands group i || none group i);
  orders = λ group. subst (λ (n : ℕ). n ≤ most + 1) (sym (last_order-with_entry group book entry)) (orders group);
}

pub small_act : (most : ℕ) (who : Who) (id : ℕ) (call : Call) (book : Book) → IsSmall most book → IsSmall (most + 1) (with_entry book (act_of who id call))
small_act most who id call book small = small_on most book (act_of who id call) small (λ group. refl) (λ group. omega (arith, small.orders group))

pub small_look : (most : ℕ) (who : Who) (order : ℕ) (base : Option ℕ) (book : Book) → IsSmall most book → order ≤ most + 1 → IsSmall (most + 1) (with_entry book (look_of who order base))
small_look most who order base book small low = small_on most book (look_of who order base) small (λ other. refl) (λ other. by (bytes_eq (group who) other) (last_order other book) (small.orders other))
  where
    by : (b : Bool) (before : ℕ) → before ≤ most → cond b order before ≤ most + 1
    by true before le = low
    by false before le = omega (arith, le)

pub device_more : (most : ℕ) (who : Who) (scene : Scene) → HasDevice most who scene → HasDevice (most + 1) who scene
device_more most who scene is = record { group = is.group; client = is.client; order = omega (arith, is.order) }

-- the cookie that a device has after what came of a request
abbrev pub told_cookie : Outcome → Cookie → Cookie
told_cookie (Pulled reply) cookie = reply.cookie
told_cookie outcome cookie = cookie

pub told_is : (most : ℕ) (who : Who) (scene : Scene) (outcome : Outcome) → IsDevice most who (held_by (number who) scene.devices).group (held_by (number who) scene.devices).client (told_cookie outcome (held_by (number who) scene.devices).cookie)
    → IsDevice most who (told_so (held_by (number who) scene.devices) outcome).group (told_so (held_by (number who) scene.devices) outcome).client (told_so (held_by (number who) scene.devices) outcome).cookie
told_is most who scene (Pulled reply) is = is
told_is most who scene (Acted place) is = is
told_is most who scene (Skipped at) is = is
told_is most who scene (Retired place) is = is
told_is most who scene (Closed place) is = is
told_is most who scene (Refused refusal) is = is
