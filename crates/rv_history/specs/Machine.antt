-- The machine: what may come of what is asked at a book, and which book is left.
use Rattle.std.specs.Prelude.{decimal, ℕ, ◌≡◌, ◌+◌, ◌-◌, ◌^◌, ◌<◌, ◌≤◌, ◌⊎◌, Bool, true, false, max, List, [], None, IsSome, option_and_then}
use Rattle.rv_book.specs.declared.entry.Entry.{Entry}
use Rattle.rv_book.specs.declared.entry.Entry.TheVariants.{Act, Look, Retire}
use Rattle.rv_book.specs.Book.{Book, bound, retired, last, last_order, size, with_entry}
use Rattle.rv_views.specs.declared.cookie.Cookie.{Cookie}
use Rattle.rv_views.specs.declared.cookie.Cookie.TheVariants.{Null, Bare, Named}
use Rattle.rv_turns.specs.Asks.{Sender, Ask}
use Rattle.rv_turns.specs.declared.op.Op.{Op}
use Rattle.rv_turns.specs.declared.pushing.Outcome.{Outcome}
use Rattle.rv_turns.specs.declared.pushing.Outcome.TheVariants.{Acted, Skipped, Pulled, Retired, Closed, Refused}
use Rattle.rv_turns.specs.declared.pull.PullReply.{PullReply}
use Rattle.rv_turns.specs.declared.pull.PullRequest.{PullRequest}
use Rattle.rv_turns.specs.declared.refusal.Refusal.{Refusal}
use Rattle.rv_turns.specs.declared.refusal.Refusal.TheVariants.{Future, GroupOfOther, ClientOfOther, NotFound, NoGroup, Limit, Memory}
use Rattle.rv_turns.specs.declared.refusal.Which.TheVariants as which
use Rattle.rv_history.specs.Groups.{is_of_other, is_elsewhere, Admits}
use Rattle.rv_history.specs.History.{patch_since, ids_since}
use Rattle.rv_history.specs.Bases.{base_of, base_group}
use Rattle.rv_history.specs.Closing.{Closes}

-- at most one entry is added
abbrev pub Adds : Book → Book → Type 0
Adds old new = (new ≡ old) ⊎ ((e : Entry) × (new ≡ with_entry old e))

-- A mutation's id is looked at where its user may use the group and its client is of no other group.
pub record TakesMutation (from : Sender) (client : List ℕ) (book : Book) : Type 0 where
  pub admits : Admits from.user from.group book
  pub here : is_elsewhere client from.group book ≡ false

abbrev pub cookie_order : Cookie → ℕ
cookie_order Null = 0
cookie_order (Bare order) = order
cookie_order (Named place order) = order

-- the order of the next cookie: above the request's and above the group's last
abbrev pub next_order : PullRequest → Book → ℕ
next_order request book = max (cookie_order request.cookie) (last_order request.group book) + 1

-- what a pull is told: the patch and the last mutation ids since the base that its cookie names, both at one book
abbrev pub patch_for : List ℕ → PullRequest → Book → List Op
patch_for user request book = patch_since user book (base_of user request.cookie book)

abbrev pub ids_for : List ℕ → PullRequest → Book → List (List ℕ × ℕ)
ids_for user request book = ids_since request.group book (option_and_then (base_group book) (base_of user request.cookie book))

-- There is nothing to tell. Without a base there always is: the patch begins with a clear.
abbrev pub IsUnchanged : List ℕ → PullRequest → Book → Type 0
IsUnchanged user request book = (patch_for user request book ≡ []) × (ids_for user request book ≡ [])

-- Why what is asked is refused: the first case that holds. Of a mutation: the group is bound to another user; it is retired; the client
-- is of another group; the id is above the client's last + 1, from the future; the book is full. One whose id is not above the client's
-- last is skipped. Of a pull: the group is bound to another user; it is retired; the next order is above 2^53 - 1; the book is full. One
-- with nothing to tell is answered whatever the limits. Of a retirement: no act or look names the group; it is retired already; the
-- book is full. Of a closing: the book is full. Memory may be refused to a mutation, to a retirement and to a closing only where they would
-- have been done, and to a pull wherever the group is the user's and not retired. The machine has no trouble with what keeps the book, and
-- is not behind another: that is told of a whole server.
abbrev pub Refuses : ℕ → Book → Ask → Refusal → Type 0
Refuses limit book (Ask.mutation from m) GroupOfOther = is_of_other from.user from.group book ≡ true
Refuses limit book (Ask.mutation from m) NotFound = (is_of_other from.user from.group book ≡ false) × (retired from.group book ≡ true)
Refuses limit book (Ask.mutation from m) ClientOfOther = Admits from.user from.group book × (is_elsewhere m.client from.group book ≡ true)
Refuses limit book (Ask.mutation from m) (Future expected got) = TakesMutation from m.client book × (last m.client book + 1 < m.id) × (expected ≡ last m.client book + 1) × (got ≡ m.id)
Refuses limit book (Ask.mutation from m) (Limit what at) = TakesMutation from m.client book × (m.id ≡ last m.client book + 1) × (size book ≡ limit) × (what ≡ which.Book) × (at ≡ limit)
Refuses limit book (Ask.mutation from m) Memory = TakesMutation from m.client book × (m.id ≡ last m.client book + 1) × (size book < limit)
Refuses limit book (Ask.pull user request) GroupOfOther = is_of_other user request.group book ≡ true
Refuses limit book (Ask.pull user request) NotFound = (is_of_other user request.group book ≡ false) × (retired request.group book ≡ true)
Refuses limit book (Ask.pull user request) (Limit which.Order at) = Admits user request.group book × ¬ IsUnchanged user request book × (2 ^ 53 ≤ next_order request book) × (at ≡ 2 ^ 53 - 1)
Refuses limit book (Ask.pull user request) (Limit which.Book at) = Admits user request.group book × ¬ IsUnchanged user request book × (next_order request book < 2 ^ 53) × (size book ≡ limit) × (at ≡ limit)
Refuses limit book (Ask.pull user request) Memory = Admits user request.group book
Refuses limit book (Ask.retirement group) NoGroup = bound group book ≡ None
Refuses limit book (Ask.retirement group) NotFound = IsSome (bound group book) × (retired group book ≡ true)
Refuses limit book (Ask.retirement group) (Limit what at) = IsSome (bound group book) × (retired group book ≡ false) × (size book ≡ limit) × (what ≡ which.Book) × (at ≡ limit)
Refuses limit book (Ask.retirement group) Memory = IsSome (bound group book) × (retired group book ≡ false) × (size book < limit)
Refuses limit book Ask.closing (Limit what at) = (size book ≡ limit) × (what ≡ which.Book) × (at ≡ limit)
Refuses limit book Ask.closing Memory = size book < limit
Refuses limit book ask refusal = ⊥

-- How the text of a reply is written is not the machine's: it is any function of the reply's cookie, last mutation ids and patch.
abbrev pub ReplyText : Type 0
ReplyText = Cookie → List (List ℕ × ℕ) → List Op → List ℕ

module _ (write : ReplyText) where
  -- the reply where there is nothing to tell: the request's cookie
  abbrev pub same_reply : PullRequest → PullReply
  same_reply request = record { cookie = request.cookie; same = true; ids = []; ops = []; text = write request.cookie [] [] }

  -- the reply with a cookie of its own
  abbrev pub new_reply : Cookie → List (List ℕ × ℕ) → List Op → PullReply
  new_reply cookie ids ops = record { cookie = cookie; same = false; ids = ids; ops = ops; text = write cookie ids ops }

  -- The reply that is entered at the next place: the cookie has that place and the next order.
  abbrev pub reply_to : List ℕ → PullRequest → Book → PullReply
  reply_to user request book = new_reply (Named (decimal (size book + 1)) (next_order request book)) (ids_for user request book) (patch_for user request book)

  -- A pull is answered: by its own cookie where there is nothing to tell, whatever the limits, and then nothing is entered; and
  -- else as one entry, a look with its base.
  abbrev pub Replies : ℕ → Book → List ℕ → PullRequest → Bool → PullReply → Book → Type 0
  Replies limit book user request true reply new = IsUnchanged user request book × (reply ≡ same_reply request) × (new ≡ book)
  Replies limit book user request false reply new =
      ¬ IsUnchanged user request book × (next_order request book < 2 ^ 53) × (size book < limit) × (reply ≡ reply_to user request book)
      × (new ≡ with_entry book (Look user request.group (next_order request book) (base_of user request.cookie book)))

  -- One step, under a limit, from a book: what is asked, what comes of it, and the book that is left. What is refused and a mutation that is
  -- skipped leave the book as it is. A mutation that is run becomes one entry, at the book's end; so does a retirement; and so does a pull
  -- that has something to tell. A closing leaves the closed book, whose page stands at the place after the last.
  abbrev pub Step : ℕ → Book → Ask → Outcome → Book → Type 0
  Step limit book ask (Refused refusal) new = Refuses limit book ask refusal × (new ≡ book)
  Step limit book (Ask.mutation from m) (Skipped number) new = TakesMutation from m.client book × (m.id ≤ last m.client book) × (number ≡ last m.client book) × (new ≡ book)
  Step limit book (Ask.mutation from m) (Acted place) new =
      TakesMutation from m.client book × (m.id ≡ last m.client book + 1) × (size book < limit) × (place ≡ size book + 1) × (new ≡ with_entry book (Act from.user from.group m.client m.id m.call))
  Step limit book (Ask.pull user request) (Pulled reply) new = Admits user request.group book × Replies limit book user request reply.same reply new
  Step limit book (Ask.retirement group) (Retired place) new =
      IsSome (bound group book) × (retired group book ≡ false) × (size book < limit) × (place ≡ size book + 1) × (new ≡ with_entry book (Retire group))
  Step limit book Ask.closing (Closed place) new = (size book < limit) × (place ≡ size book + 1) × Closes book new
  Step limit book ask outcome new = ⊥
