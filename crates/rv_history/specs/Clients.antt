-- A client of the server: what it holds after pulls of its own, and that this is what its user sees.
use Rattle.std.specs.Prelude.{◌≡◌, ℕ, ◌<◌, ◌^◌, List, [], ◌∷◌, ◌++◌, Some, Contains}
use Rattle.std.specs.List.{AllByRecursion}
use Rattle.rv_base.specs.Sorted.{find_by}
use Rattle.rv_views.specs.declared.cookie.Cookie.{Cookie}
use Rattle.rv_views.specs.declared.cookie.Cookie.TheVariants.{Null}
use Rattle.rv_turns.specs.declared.pull.PullRequest.{PullRequest}
use Rattle.rv_book.specs.Book.{Book, ids, size, Extends}
use Rattle.rv_turns.specs.declared.pull.PullReply.{PullReply}
use Rattle.rv_history.specs.Patches.{ClientView, client_view, apply}
use Rattle.rv_history.specs.Machine.{ReplyText}
use Rattle.rv_history.specs.Properties.{ReplyShows}

-- What a client holds under a cookie: its view, and the last mutation ids that it was told, of which the first of a client counts.
pub record ClientState : Type 0 where
  pub cookie : Cookie
  pub view : ClientView
  pub ids : List (List ℕ × ℕ)

-- A client begins with nothing, under the null cookie.
abbrev pub nothing : ClientState
nothing = record { cookie = Null; view = []; ids = [] }

-- a pull of a client: what it began from, what it asked and what it was replied
pub record ClientPull : Type 0 where
  pub base : ClientState
  pub request : PullRequest
  pub reply : PullReply

-- What the client holds then, under the cookie of the reply: the patch is applied, and the ids that were told come first.
abbrev pub held_then : ClientPull → ClientState
held_then pull = record { cookie = pull.reply.cookie; view = apply pull.reply.ops pull.base.view; ids = pull.reply.ids ++ pull.base.ids }

-- The pulls of a client that holds this much: each begins from something that the client holds, and asks with its cookie. A reply that
-- was lost is none of them.
abbrev pub ArePulls : List ClientState → List ClientPull → Type 0
ArePulls held [] = Unit {0}
ArePulls held (pull ∷ pulls) = Contains held pull.base × (pull.request.cookie ≡ pull.base.cookie) × ArePulls (held_then pull ∷ held) pulls

-- a client that begins with nothing
abbrev pub IsClient : List ClientPull → Type 0
IsClient pulls = ArePulls (nothing ∷ []) pulls

-- What is held is what the user sees at the book, with the last mutation id of each client of the group that has one.
pub record IsCurrent (user group : List ℕ) (book : Book) (held : ClientState) : Type 0 where
  pub view : held.view ≡ client_view user book
  pub ids : (pair : List ℕ × ℕ) → Contains (ids group book) pair → find_by (λ other. other.0) pair.0 held.ids ≡ Some pair

-- The pull was answered at a point of the book, and the book goes on from the one that it left.
pub record WasSent (write : ReplyText) (user : List ℕ) (book : Book) (pull : ClientPull) : Type 0 where
  pub point : Book
  pub new : Book
  pub tells : ReplyShows write user pull.request point new pull.reply
  pub within : Extends book new

-- each pull leaves the client with what its user sees at the point at which it was answered
abbrev pub EachCurrent : (write : ReplyText) (user : List ℕ) (book : Book) (pulls : List ClientPull) → AllByRecursion (WasSent write user book) pulls → Type 0
EachCurrent write user book [] told = Unit {0}
EachCurrent write user book (pull ∷ pulls) (told, rest) = IsCurrent user pull.request.group told.point (held_then pull) × EachCurrent write user book pulls rest

-- Clients follow: a client that begins with nothing, and whose pulls were answered at points of one book, holds after each of them what
-- its user sees at that point, whatever else stands in the book and whichever replies it lost.
abbrev pub ClientsFollow : ReplyText → Type 0
ClientsFollow write = (user : List ℕ) (book : Book) (pulls : List ClientPull) → size book < 2 ^ 64 → IsClient pulls → (told : AllByRecursion (WasSent write user book) pulls) → EachCurrent write user book pulls told

-- Books one after another: each opens with a page behind the places of those before it.
abbrev pub AreSuccessive : List Book → Type 0
AreSuccessive [] = Unit {0}
AreSuccessive (book ∷ books) = AllByRecursion (λ later. size book < later.page.at) books × AreSuccessive books

-- The pull was answered at a point of one of the books.
pub record WasSentIn (write : ReplyText) (user : List ℕ) (books : List Book) (pull : ClientPull) : Type 0 where
  pub book : Book
  pub among : Contains books book
  pub sent : WasSent write user book pull

-- each pull leaves the client with what its user sees at the point at which it was answered, of whichever of the books
abbrev pub EachCurrentIn : (write : ReplyText) (user : List ℕ) (books : List Book) (pulls : List ClientPull) → AllByRecursion (WasSentIn write user books) pulls → Type 0
EachCurrentIn write user books [] told = Unit {0}
EachCurrentIn write user books (pull ∷ pulls) (told, rest) = IsCurrent user pull.request.group told.sent.point (held_then pull) × EachCurrentIn write user books pulls rest

-- So do clients of books that are closed: one that begins with nothing, and whose pulls were answered at points of books of which each opens
-- behind those before it, holds after each of them what its user sees at that point, whichever of the books that is a point of.
abbrev pub ClientsFollowOn : ReplyText → Type 0
ClientsFollowOn write =
    (user : List ℕ) (books : List Book) (pulls : List ClientPull) → AreSuccessive books → AllByRecursion (λ book. size book < 2 ^ 64) books → IsClient pulls
    → (told : AllByRecursion (WasSentIn write user books) pulls) → EachCurrentIn write user books pulls told
