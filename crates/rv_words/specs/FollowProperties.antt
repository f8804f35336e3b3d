-- What follows of what the words of `follow` ask for.
use Rattle.std.specs.Prelude.{◌≡◌, ◌≢◌, ℕ, List, [], ◌∷◌, Some, None, codes, decimal, map}
use Rattle.std.specs.Int.{IsInRange}
use Rattle.rv_words.specs.Words.{command_in}
use Rattle.rv_words.specs.Plain.{Part, parts_from}
use Rattle.rv_words.specs.ServeProperties.{joined}
use Rattle.rv_words.specs.declared.command.Command.TheVariants.{Follow}

-- with each port in bounds these words ask to follow
abbrev pub AskToFollow : (List ℕ → List (List ℕ)) → Type 0
AskToFollow words = (name : List ℕ) (port : ℕ) → IsInRange 1 65535 port → command_in (name ∷ codes "follow" ∷ words (decimal port)) ≡ Some (Follow port)

-- the port in the next word or after `=`, and with `--` at the end too
pub record FollowIsAsked : Type 0 where
  pub apart : AskToFollow (λ port. codes "--port" ∷ port ∷ [])
  pub joined_value : AskToFollow (λ port. joined (codes "port") port ∷ [])
  pub closed : AskToFollow (λ port. codes "--port" ∷ port ∷ codes "--" ∷ [])

-- no other ports are followed at
abbrev pub PortsAreInBounds : Type 0
PortsAreInBounds = (words : List (List ℕ)) (port : ℕ) → command_in words ≡ Some (Follow port) → IsInRange 1 65535 port

-- words that give anything but one port ask for nothing: none, two, a STORE, another option
abbrev pub OnlyAPortIsFollowed : Type 0
OnlyAPortIsFollowed = (name : List ℕ) (words : List (List ℕ)) (parts : List Part) → parts_from None words ≡ Some parts → map (λ part. part.0) parts ≢ codes "port" ∷ []
    → command_in (name ∷ codes "follow" ∷ words) ≡ None
