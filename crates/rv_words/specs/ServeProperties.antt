-- What follows of what the words of `serve` ask for.
use Rattle.std.specs.Prelude.{◌≡◌, ◌≢◌, ◌<◌, ◌&&◌, ◌++◌, ⊤, true, false, not, ℕ, List, [], ◌∷◌, Some, None, codes, decimal, filter, is_none, is_some, length, if◌then◌else◌}
use Rattle.std.specs.Int.{IsInRange}
use Rattle.std.specs.List.{list_any}
use Rattle.std.specs.Str.{bytes_eq}
use Rattle.rv_words.specs.Numbers.{number_in}
use Rattle.rv_words.specs.Words.{command_in}
use Rattle.rv_words.specs.Plain.{Part, is_flag, is_option, needed_names, option_name, option_names, parts_from}
use Rattle.rv_words.specs.Properties.{begins_with_hyphen}
use Rattle.rv_words.specs.declared.command.Command.TheVariants.{Serve}
use Rattle.rv_words.specs.declared.serve_options.ServeOptions.{ServeOptions}

-- `--NAME=VALUE`
abbrev pub joined : List ℕ → List ℕ → List ℕ
joined name value = codes "--" ++ (name ++ (codes "=" ++ value))

-- with each store and each accounts file that pass, and each port, number of workers and number of connections in
-- bounds, these words ask to serve; the options of pokes are left out and have their defaults
abbrev pub AskToServe : (List ℕ → List ℕ → Type 0) → (List ℕ → List ℕ → List ℕ → List ℕ → List ℕ → List (List ℕ)) → Type 0
AskToServe Pass words = (name store accounts : List ℕ) (port workers connections : ℕ)
    → Pass store accounts → IsInRange 1 65535 port → IsInRange 1 16 workers → IsInRange 1 1000000 connections
    → command_in (name ∷ codes "serve" ∷ words store accounts (decimal port) (decimal workers) (decimal connections))
    ≡ Some (Serve store (record { accounts = accounts; port = port; workers = workers; connections = connections; poke_port = 8091; pokes = 0 }))

abbrev pub NeitherBeginsWithHyphen : List ℕ → List ℕ → Type 0
NeitherBeginsWithHyphen store accounts = (begins_with_hyphen store ≡ false) × (begins_with_hyphen accounts ≡ false)

pub record ServeIsAsked : Type 0 where
  pub in_order : AskToServe NeitherBeginsWithHyphen (λ store accounts port workers connections.
      store ∷ codes "--accounts" ∷ accounts ∷ codes "--port" ∷ port ∷ codes "--workers" ∷ workers ∷ codes "--connections" ∷ connections ∷ [])
  pub store_last : AskToServe NeitherBeginsWithHyphen (λ store accounts port workers connections.
      codes "--accounts" ∷ accounts ∷ codes "--port" ∷ port ∷ codes "--workers" ∷ workers ∷ codes "--connections" ∷ connections ∷ store ∷ [])
  -- any accounts file stands after `=`, and any store after `--`
  pub joined_values : AskToServe (λ store accounts. begins_with_hyphen store ≡ false) (λ store accounts port workers connections.
      store ∷ joined (codes "accounts") accounts ∷ joined (codes "port") port ∷ joined (codes "workers") workers ∷ joined (codes "connections") connections ∷ [])
  pub any_store : AskToServe (λ store accounts. ⊤) (λ store accounts port workers connections.
      joined (codes "accounts") accounts ∷ joined (codes "port") port ∷ joined (codes "workers") workers ∷ joined (codes "connections") connections ∷ codes "--" ∷ store ∷ [])

-- the words before a first `--`
abbrev pub before_hyphens : List (List ℕ) → List (List ℕ)
before_hyphens [] = []
before_hyphens (word ∷ words) = if bytes_eq word (codes "--") then [] else word ∷ before_hyphens words

-- how many words before a first `--` are `--NAME` or `--NAME=VALUE` with this name
abbrev pub namings : List ℕ → List (List ℕ) → ℕ
namings name words = length (filter (λ word. is_option word && bytes_eq (option_name word) name) (before_hyphens words))

pub record EachOptionStandsOnce : Type 0 where
  -- an option that must be given is missing or doubled
  pub needed : (name option : List ℕ) (words : List (List ℕ)) → list_any (λ o. bytes_eq o option) needed_names ≡ true → namings option words ≢ 1
      → command_in (name ∷ codes "serve" ∷ words) ≡ None
  -- any option is doubled
  pub doubled : (name option : List ℕ) (words : List (List ℕ)) → list_any (λ o. bytes_eq o option) option_names ≡ true → 1 < namings option words
      → command_in (name ∷ codes "serve" ∷ words) ≡ None

abbrev pub AsksToServe : List ℕ → List (List ℕ) → List ℕ → ServeOptions → Type 0
AsksToServe name words store options = command_in (name ∷ codes "serve" ∷ words) ≡ Some (Serve store options)

-- no word is `--`, and at the end no option waits for its value
abbrev pub IsWhole : List (List ℕ) → Type 0
IsWhole words = (list_any (λ word. bytes_eq word (codes "--")) words ≡ false) × (is_some (parts_from None words) ≡ true)

-- Where a line asks to serve without this option, each number in bounds may be given after words that are whole, in the
-- next word or with `=`: the line then asks for the same but for this number.
abbrev pub IsSetAnywhere : List ℕ → ℕ → ℕ → (ℕ → ServeOptions → ServeOptions) → Type 0
IsSetAnywhere option least most set = (name store : List ℕ) (before after : List (List ℕ)) (options : ServeOptions) (number : ℕ)
    → IsWhole before → AsksToServe name (before ++ after) store options → namings option (before ++ after) ≡ 0 → IsInRange least most number
    → AsksToServe name (before ++ (codes "--" ++ option) ∷ decimal number ∷ after) store (set number options)
    × AsksToServe name (before ++ joined option (decimal number) ∷ after) store (set number options)

pub record PokesAreAsked : Type 0 where
  pub poke_port : IsSetAnywhere (codes "poke-port") 1 65535 (λ number options. record options { poke_port = number })
  pub pokes : IsSetAnywhere (codes "pokes") 0 16 (λ number options. record options { pokes = number })

-- a line that asks to serve without one of these options has its default
pub record PokesHaveDefaults : Type 0 where
  pub poke_port : (name store : List ℕ) (words : List (List ℕ)) (options : ServeOptions) → AsksToServe name words store options → namings (codes "poke-port") words ≡ 0
      → options.poke_port ≡ 8091
  pub pokes : (name store : List ℕ) (words : List (List ℕ)) (options : ServeOptions) → AsksToServe name words store options → namings (codes "pokes") words ≡ 0 → options.pokes ≡ 0

-- words that give this option a value that is no number between the bounds ask for nothing
abbrev pub IsInBounds : List ℕ → ℕ → ℕ → Type 0
IsInBounds option least most = (name : List ℕ) (words : List (List ℕ)) (parts : List Part) → parts_from None words ≡ Some parts
    → list_any (λ part. bytes_eq part.0 option && is_none (number_in least most part.1)) parts ≡ true → command_in (name ∷ codes "serve" ∷ words) ≡ None

pub record NumbersAreInBounds : Type 0 where
  pub port : IsInBounds (codes "port") 1 65535
  pub workers : IsInBounds (codes "workers") 1 16
  pub connections : IsInBounds (codes "connections") 1 1000000
  pub poke_port : IsInBounds (codes "poke-port") 1 65535
  pub pokes : IsInBounds (codes "pokes") 0 16

-- a flag that is no option
abbrev pub NoOtherFlagStands : Type 0
NoOtherFlagStands = (name : List ℕ) (words : List (List ℕ)) → list_any (λ word. is_flag word && not (is_option word)) (before_hyphens words) ≡ true
    → command_in (name ∷ codes "serve" ∷ words) ≡ None
