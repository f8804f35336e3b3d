-- The laws of `follow`, from what its words ask for without clap.
use Rattle.std.proofs.Common.{◌≡◌, ◌≢◌, ◌∙◌, ap, arith, refl, sym, List, [], ◌∷◌, Some, None, Bool, cond, true, false, codes, decimal, map, ℕ}
use Rattle.std.specs.Prelude.{option_and_then, option_map}
use Rattle.std.specs.Int.{IsInRange}
use Rattle.std.specs.Str.{bytes_eq}
use Rattle.std.specs.Cmp.Lexicographic.{same_text}
use Rattle.rv_words.specs.Words.{command_in, follow_of}
use Rattle.rv_words.specs.Plain.{Part, follow_with, parts_from, with_part}
use Rattle.rv_words.specs.FollowProperties.{FollowIsAsked, OnlyAPortIsFollowed}
use Rattle.rv_words.specs.ServeProperties.{joined}
use Rattle.rv_words.specs.declared.command.Command.TheVariants.{Follow}
use Rattle.rv_words.proofs.ServeLaws.{decimal_is_plain, in_bounds, plain_value}
use Rattle.rv_words.proofs.Lines.{line_is_plain}

-- a line of one port
of_port : (name : List ℕ) (words : List (List ℕ)) (port : ℕ) → IsInRange 1 65535 port → parts_from None words ≡ Some ((codes "port", decimal port) ∷ [])
    → command_in (name ∷ codes "follow" ∷ words) ≡ Some (Follow port)
of_port name words port range is =
    line_is_plain (name ∷ codes "follow" ∷ words) ∙ ap (option_and_then follow_with) is
    ∙ ap (option_map (λ p. Follow p)) (in_bounds 1 65535 port (omega arith) range)

abbrev port_words : List (List ℕ) → List ℕ → List (List ℕ)
port_words rest port = codes "--port" ∷ port ∷ rest

apart_parts : (rest : List (List ℕ)) (port : ℕ) → IsInRange 1 65535 port → parts_from None rest ≡ Some []
    → parts_from None (port_words rest (decimal port)) ≡ Some ((codes "port", decimal port) ∷ [])
apart_parts rest port range none =
    plain_value (codes "port") (decimal port) rest (decimal_is_plain port (omega (arith, range.1))) ∙ ap (with_part (codes "port", decimal port)) none

pub follow_asked : FollowIsAsked
follow_asked = record {
  apart = λ name port range. of_port name (port_words [] (decimal port)) port range (apart_parts [] port range refl);
  joined_value = λ name port range. of_port name (joined (codes "port") (decimal port) ∷ []) port range refl;
  closed = λ name port range. of_port name (port_words (codes "--" ∷ []) (decimal port)) port range (apart_parts (codes "--" ∷ []) port range refl);
}

-- parts of other names
others_ask_nothing : (parts : List Part) → map (λ part. part.0) parts ≢ codes "port" ∷ [] → follow_with parts ≡ None
others_ask_nothing [] other = refl
others_ask_nothing (part ∷ []) other = go (bytes_eq part.0 (codes "port")) refl
  where
    go : (named : Bool) → bytes_eq part.0 (codes "port") ≡ named → cond named (follow_of part.1) None ≡ None
    go true is = absurd (other (ap (λ name. name ∷ []) (same_text part.0 (codes "port") (sym is))))
    go false is = refl
others_ask_nothing (part ∷ more ∷ parts) other = refl

pub only_a_port : OnlyAPortIsFollowed
only_a_port name words parts is other = line_is_plain (name ∷ codes "follow" ∷ words) ∙ ap (option_and_then follow_with) is ∙ others_ask_nothing parts other
