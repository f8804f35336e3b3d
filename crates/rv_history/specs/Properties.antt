-- What follows from the machine, for every book that it makes.
use Rattle.std.specs.Prelude.{◌≡◌, ℕ, ◌<◌, ◌≤◌, ◌⊎◌, Bool, true, false, List, [], ◌∷◌, ◌++◌, Option, Some, None, Contains, option_and_then, decimal, ◌+◌, if◌then◌else◌}
use Rattle.std.specs.List.{filter_map, list_any, range_with_len, AllByRecursion}
use Rattle.std.specs.Option.{option_map_or}
use Rattle.std.specs.List.Sorted.{IsStrictlyIncreasing}
use Rattle.std.specs.Str.{bytes_eq}
use Rattle.rv_turns.specs.Asks.{Sender, Ask}
use Rattle.rv_turns.specs.Outcomes.{refusal_of}
use Rattle.rv_turns.specs.Pushing.{Pushes}
use Rattle.rv_turns.specs.declared.mutation.Mutation.{Mutation}
use Rattle.rv_turns.specs.declared.op.Op.{Op}
use Rattle.rv_turns.specs.declared.op.Op.TheVariants.{Clear, Del, Put}
use Rattle.rv_turns.specs.declared.pushing.Outcome.{Outcome}
use Rattle.rv_turns.specs.declared.pushing.Outcome.TheVariants.{Pulled}
use Rattle.rv_turns.specs.declared.pull.PullReply.{PullReply}
use Rattle.rv_turns.specs.declared.pull.PullRequest.{PullRequest}
use Rattle.rv_turns.specs.declared.refusal.Refusal.{Refusal}
use Rattle.rv_book.specs.declared.entry.Entry.{Entry}
use Rattle.rv_book.specs.declared.entry.Entry.TheVariants.{Act, Look, Retire}
use Rattle.rv_book.specs.Entries.{last_in}
use Rattle.rv_book.specs.Book.{Book, bound, group_of, ids, last, last_order, opening, retired, size, up_to, with_entries, with_entry}
use Rattle.rv_rows.specs.declared.row.Row.{Row}
use Rattle.rv_rows.specs.declared.call.Call.{Call}
use Rattle.rv_rows.specs.Keys.{row_key}
use Rattle.rv_rows.specs.Sharing.{seen}
use Rattle.rv_views.specs.declared.cookie.Cookie.{Cookie}
use Rattle.rv_views.specs.declared.cookie.Cookie.TheVariants.{Named}
use Rattle.rv_history.specs.Bases.{base_of, base_group}
use Rattle.rv_history.specs.Replay.{rows_of}
use Rattle.rv_history.specs.Lawful.{IsLawful}
use Rattle.rv_history.specs.Patches.{ClientView, client_view, apply}
use Rattle.rv_history.specs.History.{patch_since}
use Rattle.rv_history.specs.Machine.{ReplyText, Step, cookie_order}
use Rattle.rv_history.specs.Served.{Served, TakesTurn, IsSound, KeepsLaw}

abbrev pub act_id : List ℕ → Entry → Option ℕ
act_id client (Act user group actor id call) = if bytes_eq actor client then Some id else None
act_id client (Look user group order base) = None
act_id client (Retire group) = None

-- the ids of a client's acts, in their order
abbrev pub act_ids : List ℕ → List Entry → List ℕ
act_ids client entries = filter_map (act_id client) entries

abbrev pub look_order : List ℕ → Entry → Option ℕ
look_order group (Act user other client id call) = None
look_order group (Look user other order base) = if bytes_eq other group then Some order else None
look_order group (Retire other) = None

-- the orders of a group's looks, in their order
abbrev pub look_orders : List ℕ → List Entry → List ℕ
look_orders group entries = filter_map (look_order group) entries

-- Each client's acts have the ids 1, 2, 3 and so on; those that follow a page go on from the client's last one there.
abbrev pub IdsCountUp : Type 0
IdsCountUp = (book : Book) (client : List ℕ) → IsLawful book → act_ids client book.entries ≡ range_with_len (last client (opening book) + 1) (last_in client book.entries)

-- The orders of each group's looks rise, and the first is above the one that the page has of the group, or above 0 where it has none.
abbrev pub OrdersRise : Type 0
OrdersRise = (book : Book) (group : List ℕ) → IsLawful book → IsStrictlyIncreasing (last_order group (opening book) ∷ look_orders group book.entries)

-- the entry names the group, as an act, a look or a retirement
abbrev pub is_of_group : List ℕ → Entry → Bool
is_of_group group (Act user other client id call) = bytes_eq other group
is_of_group group (Look user other order base) = bytes_eq other group
is_of_group group (Retire other) = bytes_eq other group

-- the user of an act or a look that names the group
abbrev pub user_for_group : List ℕ → Entry → Option (List ℕ)
user_for_group group (Act user other client id call) = if bytes_eq other group then Some user else None
user_for_group group (Look user other order base) = if bytes_eq other group then Some user else None
user_for_group group (Retire other) = None

-- the group of an act of the client
abbrev pub group_for_client : List ℕ → Entry → Option (List ℕ)
group_for_client client (Act user group actor id call) = if bytes_eq actor client then Some group else None
group_for_client client (Look user group order base) = None
group_for_client client (Retire group) = None

-- No group has two users: each act and each look of a group is by the user whom the group is bound to.
abbrev pub GroupsHaveOneUser : Type 0
GroupsHaveOneUser = (book : Book) (group user : List ℕ) (entry : Entry) → IsLawful book → Contains book.entries entry → user_for_group group entry ≡ Some user → bound group book ≡ Some user

-- No client has two groups: each of its acts is of the group of its first.
abbrev pub ClientsHaveOneGroup : Type 0
ClientsHaveOneGroup = (book : Book) (client group : List ℕ) (entry : Entry) → IsLawful book → Contains book.entries entry → group_for_client client entry ≡ Some group → group_of client book ≡ Some group

-- Nothing of a group follows its retirement: neither behind the entry that retires it, nor in a book on whose page it is retired.
pub record RetiredGroupsRest : Type 0 where
  pub behind : (book before : Book) (after : List Entry) (group : List ℕ) (entry : Entry) → IsLawful book → book ≡ with_entries before (Retire group ∷ after) → Contains after entry → is_of_group group entry ≡ false
  pub paged : (book : Book) (group : List ℕ) (entry : Entry) → IsLawful book → retired group (opening book) ≡ true → Contains book.entries entry → is_of_group group entry ≡ false

-- No entry stands twice.
abbrev pub EntriesStandOnce : Type 0
EntriesStandOnce = (book before : Book) (between after : List Entry) (entry : Entry) → IsLawful book → book ≡ with_entries before (entry ∷ (between ++ entry ∷ after)) → ⊥

-- A turn leaves a sound server sound, its book goes on by entries and closings, and its limit stays.
abbrev pub TurnsKeepLaw : ReplyText → Type 0
TurnsKeepLaw write = (ask : Ask) (old new : Served) (outcome : Outcome) → TakesTurn write old ask outcome new → IsSound old → KeepsLaw old new

-- So do those of a push.
abbrev pub PushesKeepLaw : ReplyText → Type 0
PushesKeepLaw write = (from : Sender) (mutations : List Mutation) (old new : Served) (refused : Option Refusal) (acted : Bool) → Pushes (TakesTurn write) from mutations old refused acted new → IsSound old → KeepsLaw old new

-- The book says that the sender's mutation has run: its client's last id is not below its own, the client is of the sender's group, and that
-- group is bound to the sender's user.
pub record HasRun (from : Sender) (book : Book) (m : Mutation) : Type 0 where
  pub id : m.id ≤ last m.client book
  pub home : group_of m.client book ≡ Some from.group
  pub owner : bound from.group book ≡ Some from.user

-- The mutation stands in the book, as an act of its sender, of its client and with its id; or it had run before the book opened, and the page
-- says so of its sender. If it was skipped, the call is that of the one that came first.
abbrev pub IsEntered : Sender → Book → Mutation → Type 0
IsEntered from book m = ((call : Call) × Contains book.entries (Act from.user from.group m.client m.id call)) ⊎ HasRun from (opening book) m

-- A mutation that is run or skipped at a lawful book stands in the book that is left; but for an id of 0, which is skipped and stands
-- nowhere.
abbrev pub MutationsStand : ReplyText → Type 0
MutationsStand write = (limit : ℕ) (from : Sender) (m : Mutation) (book new : Book) (outcome : Outcome) → Step write limit book (Ask.mutation from m) outcome new → refusal_of outcome ≡ None → IsLawful book → 1 ≤ m.id → IsEntered from new m

-- So does each mutation of a push that is not refused.
abbrev pub PushesStand : ReplyText → Type 0
PushesStand write = (from : Sender) (mutations : List Mutation) (old new : Served) (acted : Bool) → Pushes (TakesTurn write) from mutations old None acted new → IsSound old → AllByRecursion (λ m. 1 ≤ m.id → IsEntered from new.book m) mutations

-- A patch shows what the user sees: since any place, and so since each kept look of the user, it makes of the view at that place
-- the view at the book's end; and without a base it does so of any view.
abbrev pub PatchesShow : Type 0
PatchesShow =
    (book : Book) (user : List ℕ) → ((place : ℕ) → apply (patch_since user book (Some place)) (client_view user (up_to place book)) ≡ client_view user book)
    × ((view : ClientView) → apply (patch_since user book None) view ≡ client_view user book)

-- the view that a base names: what the user saw there; without a base it may be any view
abbrev pub IsBaseView : List ℕ → Book → Option ℕ → ClientView → Type 0
IsBaseView user book None view = Unit {0}
IsBaseView user book (Some place) view = view ≡ client_view user (up_to place book)

abbrev pub is_clear : Op → Bool
is_clear Clear = true
is_clear (Del key) = false
is_clear (Put row) = false

-- What an operation of a patch since a base may name: a row that is put is one that the user sees at the book; a key that is deleted
-- is that of a row that the user saw at the base.
abbrev pub IsPermitted : List ℕ → Book → Option ℕ → Op → Type 0
IsPermitted user book base Clear = Unit {0}
IsPermitted user book base (Put row) = Contains (seen user (rows_of book)) row
IsPermitted user book (Some place) (Del key) = (row : Row) × Contains (seen user (rows_of (up_to place book))) row × (row_key row ≡ key)
IsPermitted user book None (Del key) = ⊥

-- A patch names nothing else.
abbrev pub PatchesArePermitted : Type 0
PatchesArePermitted = (book : Book) (user : List ℕ) (base : Option ℕ) → AllByRecursion (IsPermitted user book base) (patch_since user book base)

-- without a base a patch begins with its one clear, and with a base it has none
abbrev pub ClearsWithoutBase : Option ℕ → List Op → Type 0
ClearsWithoutBase None ops = (others : List Op) × (ops ≡ Clear ∷ others) × (list_any is_clear others ≡ false)
ClearsWithoutBase (Some place) ops = list_any is_clear ops ≡ false

-- the last mutation ids that a client has by its cookie: those of the base look's own group there, and none without a base
abbrev pub known_ids : List ℕ → PullRequest → Book → List (List ℕ × ℕ)
known_ids user request book = option_map_or (λ base. ids base.1 (up_to base.0 book)) (option_and_then (base_group book) (base_of user request.cookie book)) []

-- the cookie names the look that was entered for the request, at the next place
abbrev pub EntersLook : List ℕ → PullRequest → Book → Book → Cookie → Type 0
EntersLook user request book new cookie = (order : ℕ) × (cookie ≡ Named (decimal (size book + 1)) order) × (new ≡ with_entry book (Look user request.group order (base_of user request.cookie book)))

-- What the reply to a pull tells at a book. Its patch, applied to the view that the cookie names, gives exactly what the
-- user sees; it begins with a clear exactly where there is no base, and names only what the user sees, or saw at the base. Each
-- last mutation id of the group is known by the cookie or told, and nothing else is told; what is told was not known. The order is
-- not below the request's. A reply of the same cookie has an empty patch and no ids; any other has an order above the group's last and
-- the request's. The text is what is written of the cookie, the ids and the patch.
pub record ReplyTells (write : ReplyText) (user : List ℕ) (request : PullRequest) (book : Book) (reply : PullReply) : Type 0 where
  pub shows : (view : ClientView) → IsBaseView user book (base_of user request.cookie book) view → apply reply.ops view ≡ client_view user book
  pub clears : ClearsWithoutBase (base_of user request.cookie book) reply.ops
  pub permitted : AllByRecursion (IsPermitted user book (base_of user request.cookie book)) reply.ops
  pub complete : (pair : List ℕ × ℕ) → Contains (ids request.group book) pair → Contains (known_ids user request book) pair ⊎ Contains reply.ids pair
  pub sound : (pair : List ℕ × ℕ) → Contains reply.ids pair → Contains (ids request.group book) pair
  pub news : (pair : List ℕ × ℕ) → Contains reply.ids pair → ¬ Contains (known_ids user request book) pair
  pub no_lower : cookie_order request.cookie ≤ cookie_order reply.cookie
  pub same : reply.same ≡ true → (reply.ops ≡ []) × (reply.ids ≡ []) × (reply.cookie ≡ request.cookie)
  pub above : reply.same ≡ false → (last_order request.group book < cookie_order reply.cookie) × (cookie_order request.cookie < cookie_order reply.cookie)
  pub text : reply.text ≡ write reply.cookie reply.ids reply.ops

-- What the reply to a pull tells at a book, and what it leaves of it: a reply of the same cookie leaves the book as it is; any other
-- names the look that it enters, at the next place.
pub record ReplyShows (write : ReplyText) (user : List ℕ) (request : PullRequest) (book new : Book) (reply : PullReply) : Type 0 where
  pub told : ReplyTells write user request book reply
  pub stays : reply.same ≡ true → new ≡ book
  pub looks : reply.same ≡ false → EntersLook user request book new reply.cookie

-- So does each reply that the machine gives.
abbrev pub PullsShow : ReplyText → Type 0
PullsShow write = (limit : ℕ) (user : List ℕ) (request : PullRequest) (book new : Book) (reply : PullReply) → Step write limit book (Ask.pull user request) (Pulled reply) new → ReplyShows write user request book new reply
