-- What follows of what the words ask for.
use Rattle.std.specs.Int.{IsInRange}
use Rattle.std.specs.Prelude.{◌≡◌, ◌≢◌, ◌==◌, ◌++◌, Bool, true, false, ℕ, List, [], ◌∷◌, Some, None, codes, decimal, length}
use Rattle.std.specs.List.{list_any}
use Rattle.rv_words.specs.Words.{command_in, is_id}
use Rattle.rv_words.specs.Plain.{plainly_in}
use Rattle.rv_words.specs.declared.command.Command.{Command}
use Rattle.rv_words.specs.declared.command.Command.TheVariants.{Activity, Check, CloseBook, Export, Feed, Import, Lists, Make, Retire, Ship}

-- a first `-` (45)
abbrev pub begins_with_hyphen : List ℕ → Bool
begins_with_hyphen [] = false
begins_with_hyphen (byte ∷ rest) = byte == 45

abbrev pub LinesArePlain : Type 0
LinesArePlain = (words : List (List ℕ)) → command_in words ≡ plainly_in words

-- the command's name and a store, which doesn't begin with `-`, ask for this of that store
abbrev pub IsAskedOfStores : List ℕ → (List ℕ → Command) → Type 0
IsAskedOfStores verb command = (name store : List ℕ) → begins_with_hyphen store ≡ false → command_in (name ∷ verb ∷ store ∷ []) ≡ Some (command store)

pub record StoresAreAsked : Type 0 where
  pub feed : IsAskedOfStores (codes "feed") (λ store. Feed store)
  pub lists : IsAskedOfStores (codes "lists") (λ store. Lists store)
  pub activity : IsAskedOfStores (codes "activity") (λ store. Activity store)
  pub check : IsAskedOfStores (codes "check") (λ store. Check store)
  pub close_book : IsAskedOfStores (codes "close-book") (λ store. CloseBook store)
  pub ship : IsAskedOfStores (codes "ship") (λ store. Ship store)

abbrev pub RetireIsAsked : Type 0
RetireIsAsked = (name store group : List ℕ) → is_id group ≡ true → begins_with_hyphen store ≡ false → begins_with_hyphen group ≡ false
    → command_in (name ∷ codes "retire" ∷ store ∷ group ∷ []) ≡ Some (Retire store group)

-- after `--` any store is taken
abbrev pub IsAskedOfAnyStore : List ℕ → (List ℕ → Command) → Type 0
IsAskedOfAnyStore verb command = (name store : List ℕ) → command_in (name ∷ verb ∷ codes "--" ∷ store ∷ []) ≡ Some (command store)

-- so it is for each command, and `retire` takes any `Id` beside it
pub record EachStoreIsAsked : Type 0 where
  pub feed : IsAskedOfAnyStore (codes "feed") (λ store. Feed store)
  pub lists : IsAskedOfAnyStore (codes "lists") (λ store. Lists store)
  pub activity : IsAskedOfAnyStore (codes "activity") (λ store. Activity store)
  pub check : IsAskedOfAnyStore (codes "check") (λ store. Check store)
  pub retire : (name store group : List ℕ) → is_id group ≡ true
      → command_in (name ∷ codes "retire" ∷ codes "--" ∷ store ∷ group ∷ []) ≡ Some (Retire store group)
  pub close_book : IsAskedOfAnyStore (codes "close-book") (λ store. CloseBook store)
  pub ship : IsAskedOfAnyStore (codes "ship") (λ store. Ship store)

-- any `Id` is taken too where `--` stands before it alone
abbrev pub EachGroupIsAsked : Type 0
EachGroupIsAsked = (name store group : List ℕ) → is_id group ≡ true → begins_with_hyphen store ≡ false
    → command_in (name ∷ codes "retire" ∷ store ∷ codes "--" ∷ group ∷ []) ≡ Some (Retire store group)

abbrev pub GroupsAreIds : Type 0
GroupsAreIds = (words : List (List ℕ)) (store group : List ℕ) → command_in words ≡ Some (Retire store group) → is_id group ≡ true

-- a seed and a number of requests, both in bounds and in decimal, are taken, with `--` before them too
pub record MakeIsAsked : Type 0 where
  pub plain : (name : List ℕ) (seed requests : ℕ) → IsInRange 0 2147483647 seed → IsInRange 0 1000000 requests
      → command_in (name ∷ codes "make" ∷ decimal seed ∷ decimal requests ∷ []) ≡ Some (Make seed requests)
  pub after_hyphens : (name : List ℕ) (seed requests : ℕ) → IsInRange 0 2147483647 seed → IsInRange 0 1000000 requests
      → command_in (name ∷ codes "make" ∷ codes "--" ∷ decimal seed ∷ decimal requests ∷ []) ≡ Some (Make seed requests)

-- no other numbers are
abbrev pub SeedsAreInBounds : Type 0
SeedsAreInBounds = (words : List (List ℕ)) (seed requests : ℕ) → command_in words ≡ Some (Make seed requests) → IsInRange 0 2147483647 seed × IsInRange 0 1000000 requests

-- none of these words begins with `-`
abbrev pub NoneBeginsWithHyphen : List (List ℕ) → Type 0
NoneBeginsWithHyphen words = list_any begins_with_hyphen words ≡ false

-- a command's name and its values ask for this where no value begins with `-`; where `--` stands, those after it may
pub record IsAskedWith (verb : List ℕ) (values : List (List ℕ)) (command : Command) : Type 0 where
  pub plain : (name : List ℕ) → NoneBeginsWithHyphen values → command_in (name ∷ verb ∷ values) ≡ Some command
  pub after_hyphens : (name : List ℕ) (before after : List (List ℕ)) → before ++ after ≡ values → NoneBeginsWithHyphen before
      → command_in (name ∷ verb ∷ (before ++ codes "--" ∷ after)) ≡ Some command

abbrev pub IsUser : List ℕ → Type 0
IsUser text = IsInRange 1 64 (length text)

-- no byte is a `/` (47)
abbrev pub NamesImport : List ℕ → Type 0
NamesImport text = IsInRange 1 48 (length text) × (list_any (λ byte. byte == 47) text ≡ false)

abbrev pub ImportIsAsked : Type 0
ImportIsAsked = (store user import : List ℕ) → IsUser user → NamesImport import
    → IsAskedWith (codes "import") (store ∷ user ∷ import ∷ []) (Import store user import)

abbrev pub ExportIsAsked : Type 0
ExportIsAsked = (store user : List ℕ) → IsUser user → IsAskedWith (codes "export") (store ∷ user ∷ []) (Export store user)

-- no other users are, and imports go by no other names
pub record UsersAreUsers : Type 0 where
  pub imports : (words : List (List ℕ)) (store user import : List ℕ) → command_in words ≡ Some (Import store user import) → IsUser user × NamesImport import
  pub exports : (words : List (List ℕ)) (store user : List ℕ) → command_in words ≡ Some (Export store user) → IsUser user

-- lines that end too early
pub record AskForNothing : Type 0 where
  pub no_words : command_in [] ≡ None
  pub no_command : (name : List ℕ) → command_in (name ∷ []) ≡ None
  pub feed_alone : (name : List ℕ) → command_in (name ∷ codes "feed" ∷ []) ≡ None
  pub lists_alone : (name : List ℕ) → command_in (name ∷ codes "lists" ∷ []) ≡ None
  pub activity_alone : (name : List ℕ) → command_in (name ∷ codes "activity" ∷ []) ≡ None
  pub check_alone : (name : List ℕ) → command_in (name ∷ codes "check" ∷ []) ≡ None
  pub retire_alone : (name : List ℕ) → command_in (name ∷ codes "retire" ∷ []) ≡ None
  pub make_alone : (name : List ℕ) → command_in (name ∷ codes "make" ∷ []) ≡ None
  pub import_alone : (name : List ℕ) → command_in (name ∷ codes "import" ∷ []) ≡ None
  pub export_alone : (name : List ℕ) → command_in (name ∷ codes "export" ∷ []) ≡ None
  pub serve_alone : (name : List ℕ) → command_in (name ∷ codes "serve" ∷ []) ≡ None
  pub close_book_alone : (name : List ℕ) → command_in (name ∷ codes "close-book" ∷ []) ≡ None
  pub ship_alone : (name : List ℕ) → command_in (name ∷ codes "ship" ∷ []) ≡ None
  pub follow_alone : (name : List ℕ) → command_in (name ∷ codes "follow" ∷ []) ≡ None
  pub no_requests : (name seed : List ℕ) → command_in (name ∷ codes "make" ∷ seed ∷ []) ≡ None
  pub no_group : (name store : List ℕ) → command_in (name ∷ codes "retire" ∷ store ∷ []) ≡ None
  pub no_user : (name store : List ℕ) → command_in (name ∷ codes "import" ∷ store ∷ []) ≡ None
  pub no_import : (name store user : List ℕ) → command_in (name ∷ codes "import" ∷ store ∷ user ∷ []) ≡ None
  pub no_user_to_export : (name store : List ℕ) → command_in (name ∷ codes "export" ∷ store ∷ []) ≡ None

-- no command goes by any other name: not by `help`, `--help`, `-h`, `--version` or `--` either
abbrev pub OthersAskForNothing : Type 0
OthersAskForNothing = (name verb : List ℕ) (words : List (List ℕ))
    → verb ≢ codes "feed" → verb ≢ codes "retire" → verb ≢ codes "lists" → verb ≢ codes "activity" → verb ≢ codes "check" → verb ≢ codes "make"
    → verb ≢ codes "import" → verb ≢ codes "export" → verb ≢ codes "serve" → verb ≢ codes "close-book" → verb ≢ codes "ship" → verb ≢ codes "follow"
    → command_in (name ∷ verb ∷ words) ≡ None
