-- How clap reads the words of `make`.
use Rattle.std.proofs.Common.{◌≡◌, ◌∙◌, ap, refl, List, [], ◌∷◌, Some, None, true, false, codes}
use Rattle.std.specs.Prelude.{option_and_then}
use Rattle.clap.specs.Walk.{Row, Text}
use Rattle.clap.specs.Simple.{Shape}
use Rattle.clap.proofs.OnLiterals.{clap_on_literals}
use Rattle.clap.specs.declared.parser.matches.ValueSource.TheVariants.{CommandLine}
use Rattle.clap.specs.declared.builder.value_parser.Reading.TheVariants.{AsWritten}
use Rattle.rv_words.specs.Table.{make_app}
use Rattle.rv_words.specs.Words.{is_taken, make_in}
use Rattle.rv_words.specs.Plain.{make_with, values_in}
use Rattle.rv_words.proofs.Leaves.{HasNoFlags, at, by_word, goes, plain_turn, plain_walk, read_from, refuses}
use Rattle.rv_words.proofs.Verbs.{leaf, no_more}

abbrev seed : Text
seed = codes "SEED"

abbrev pub make_leaf : Shape
make_leaf = leaf make_app

make_flags : HasNoFlags make_leaf
make_flags = (λ name. refl, λ letter. refl)

-- the row of the seed, once the next value has come
abbrev seeded : Text → List Row
seeded v = record { id = seed; values = v ∷ []; count = None; source = Some CommandLine; reading = AsWritten } ∷ []

abbrev requests : Text
requests = codes "N"

make_3_ended : (v n : Text) (words : List Text)
    → read_from make_leaf make_in (at (seeded v) (Some (requests, n ∷ [])) 3 true) words ≡ make_with (v ∷ n ∷ words)
unfolding clap_on_literals
make_3_ended v n [] = refl
make_3_ended v n (w ∷ ws) = refuses make_leaf make_in (at (seeded v) (Some (requests, n ∷ [])) 3 true) w ws refl

make_2_ended : (v : Text) (words : List Text) → read_from make_leaf make_in (at [] (Some (seed, v ∷ [])) 2 true) words ≡ make_with (v ∷ words)
unfolding clap_on_literals
make_2_ended v [] = refl
make_2_ended v (n ∷ ws) =
    goes make_leaf make_in (at [] (Some (seed, v ∷ [])) 2 true) (at (seeded v) (Some (requests, n ∷ [])) 3 true) n ws refl refl ∙ make_3_ended v n ws

make_1_ended : (words : List Text) → read_from make_leaf make_in (at [] None 1 true) words ≡ make_with words
unfolding clap_on_literals
make_1_ended [] = refl
make_1_ended (v ∷ ws) = goes make_leaf make_in (at [] None 1 true) (at [] (Some (seed, v ∷ [])) 2 true) v ws refl refl ∙ make_2_ended v ws

make_3 : (v n : Text) (words : List Text) → read_from make_leaf make_in (at (seeded v) (Some (requests, n ∷ [])) 3 false) words
    ≡ option_and_then (λ values. make_with (v ∷ n ∷ values)) (values_in words)
unfolding clap_on_literals
make_3 v n [] = refl
make_3 v n (w ∷ ws) = by_word make_leaf make_flags make_in (seeded v) (Some (requests, n ∷ [])) 3 (λ values. make_with (v ∷ n ∷ values)) w ws
    (make_3_ended v n ws)
    (λ p. refuses make_leaf make_in (at (seeded v) (Some (requests, n ∷ [])) 3 false) w ws
    (ap is_taken (plain_turn make_leaf (seeded v) (Some (requests, n ∷ [])) 3 w p))
    ∙ no_more (values_in ws))

make_2 : (v : Text) (words : List Text) → read_from make_leaf make_in (at [] (Some (seed, v ∷ [])) 2 false) words
    ≡ option_and_then (λ values. make_with (v ∷ values)) (values_in words)
unfolding clap_on_literals
make_2 v [] = refl
make_2 v (n ∷ ws) = by_word make_leaf make_flags make_in [] (Some (seed, v ∷ [])) 2 (λ values. make_with (v ∷ values)) n ws (make_2_ended v ws)
    (λ p. goes make_leaf make_in (at [] (Some (seed, v ∷ [])) 2 false) (at (seeded v) (Some (requests, n ∷ [])) 3 false) n ws
    (plain_turn make_leaf [] (Some (seed, v ∷ [])) 2 n p)
    (plain_walk make_leaf [] (Some (seed, v ∷ [])) 2 n p)
    ∙ make_3 v n ws)

pub make_1 : (words : List Text) → read_from make_leaf make_in (at [] None 1 false) words ≡ option_and_then make_with (values_in words)
unfolding clap_on_literals
make_1 [] = refl
make_1 (v ∷ ws) = by_word make_leaf make_flags make_in [] None 1 make_with v ws (make_1_ended ws)
    (λ p. goes make_leaf make_in (at [] None 1 false) (at [] (Some (seed, v ∷ [])) 2 false) v ws
    (plain_turn make_leaf [] None 1 v p) (plain_walk make_leaf [] None 1 v p)
    ∙ make_2 v ws)
