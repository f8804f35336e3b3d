-- What imports under a name enter: each record once, however often its file is imported.
use Rattle.std.specs.Prelude.{◌≡◌, ℕ, true, List, ◌++◌, length, map, Option, Some, None, if◌then◌else◌}
use Rattle.std.specs.List.{filter_map, AllByRecursion}
use Rattle.std.specs.Str.{bytes_eq}
use Rattle.rv_rows.specs.declared.call.Call.{Call}
use Rattle.rv_book.specs.declared.entry.Entry.{Entry}
use Rattle.rv_book.specs.declared.entry.Entry.TheVariants.{Act, Look, Retire}
use Rattle.rv_book.specs.Book.{Book, last, opening}
use Rattle.rv_turns.specs.declared.mutation.Mutation.{Mutation}
use Rattle.rv_turns.specs.declared.pushing.Outcome.{Outcome}
use Rattle.rv_history.specs.Machine.{ReplyText}
use Rattle.rv_history.specs.Served.{Served, TakesTurn, with_doubt}
use Rattle.rv_import.specs.Imports.{asked_of, client_id}
use Rattle.rv_import.specs.Importing.{importer, TakesInOrder, AreDone, is_skipped, Imports}
use Rattle.rv_import.specs.declared.import_end.ImportEnd.{ImportEnd}

abbrev pub act_call : List ℕ → Entry → Option Call
act_call client (Act user group actor id call) = if bytes_eq actor client then Some call else None
act_call client (Look user group order base) = None
act_call client (Retire group) = None

-- the calls of a client's acts, in their order
abbrev pub calls_of : List ℕ → List Entry → List Call
calls_of client entries = filter_map (act_call client) entries

-- the calls that an import of these bytes asks for
abbrev pub calls_asked : List ℕ → List ℕ → List ℕ → List Call
calls_asked user name bytes = map (λ m. m.call) (asked_of user name bytes).mutations

-- The client's acts, those that the book's page sums up and those since, are the first of these calls. Of those on the page the number is
-- known, and not what they were.
pub record AreFirst (client : List ℕ) (asked : List Call) (book : Book) : Type 0 where
  pub paged : List Call
  pub left : List Call
  pub count : length paged ≡ last client (opening book)
  pub whole : asked ≡ (paged ++ calls_of client book.entries) ++ left

-- they are just these calls
pub record AreAll (client : List ℕ) (asked : List Call) (book : Book) : Type 0 where
  pub paged : List Call
  pub count : length paged ≡ last client (opening book)
  pub whole : asked ≡ paged ++ calls_of client book.entries

-- the acts of the import's client are the first of what the bytes ask for: so it is where nothing but imports of them has used the client
abbrev pub HasFirst : List ℕ → List ℕ → List ℕ → Book → Type 0
HasFirst user name bytes book = AreFirst (client_id user name) (calls_asked user name bytes) book

-- they are so at a server, in its book and in the book with what is in doubt: an entry in doubt adds to the book, and so the one follows from
-- the other; of a book that closing leaves it does not
abbrev pub StartsFirst : List ℕ → List ℕ → List ℕ → Served → Type 0
StartsFirst user name bytes served = HasFirst user name bytes served.book × HasFirst user name bytes (with_doubt served.book served.doubt)

-- they are just what the bytes ask for
abbrev pub HasAll : List ℕ → List ℕ → List ℕ → Book → Type 0
HasAll user name bytes book = AreAll (client_id user name) (calls_asked user name bytes) book

module _ (write : ReplyText) where
  -- The acts of the import's client are just what is asked for. Where the same mutations, or the first of them, are taken again, each is
  -- skipped, and the book stays.
  pub record ActsOnce (user name bytes : List ℕ) (now : Served) : Type 0 where
    pub all : HasAll user name bytes now.book
    pub again : (taken left : List Mutation) (outcomes : List Outcome) (later : Served) → (asked_of user name bytes).mutations ≡ taken ++ left
        → TakesInOrder (TakesTurn write) (importer user) taken now outcomes later → (later.book ≡ now.book) × AllByRecursion (λ o. is_skipped o ≡ true) outcomes

  -- So it is once each mutation was run or skipped, where the client's acts were the first of what is asked for, with what was in doubt and
  -- without.
  abbrev pub ImportsActOnce : Type 0
  ImportsActOnce =
      (user name bytes : List ℕ) (first now : Served) (outcomes : List Outcome) → StartsFirst user name bytes first
      → TakesInOrder (TakesTurn write) (importer user) (asked_of user name bytes).mutations first outcomes now → AreDone outcomes → ActsOnce user name bytes now

  -- Where they were the first, they are so after an import, however it ends.
  abbrev pub ImportsGoOn : Type 0
  ImportsGoOn =
      (user name bytes : List ℕ) (first now : Served) (end : ImportEnd) → StartsFirst user name bytes first
      → Imports (TakesTurn write) user name bytes first end now → StartsFirst user name bytes now

  -- Where they are all, and nothing is in doubt, an import enters nothing, however it ends, and whatever else the book has.
  abbrev pub ImportsAddNothing : Type 0
  ImportsAddNothing =
      (user name bytes : List ℕ) (first now : Served) (end : ImportEnd) → HasAll user name bytes first.book → first.doubt ≡ None
      → Imports (TakesTurn write) user name bytes first end now → now.book ≡ first.book
