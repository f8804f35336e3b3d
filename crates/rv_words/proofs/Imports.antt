-- How clap reads the words of `import` and `export`.
use Rattle.std.proofs.Common.{◌≡◌, ◌∙◌, ap, refl, List, [], ◌∷◌, Option, Some, None, Bool, true, false, codes}
use Rattle.std.specs.Prelude.{option_and_then}
use Rattle.clap.specs.Walk.{Row, Text, Walk}
use Rattle.clap.specs.Simple.{Shape}
use Rattle.clap.proofs.OnLiterals.{clap_on_literals}
use Rattle.clap.specs.declared.parser.matches.ValueSource.TheVariants.{CommandLine}
use Rattle.clap.specs.declared.builder.value_parser.Reading.TheVariants.{AsWritten}
use Rattle.rv_words.specs.Table.{export_app, import_app}
use Rattle.rv_words.specs.Words.{export_in, import_in, is_taken}
use Rattle.rv_words.specs.Plain.{export_with, import_with, values_in}
use Rattle.rv_words.proofs.Leaves.{HasNoFlags, at, by_word, goes, plain_turn, plain_walk, read_from, refuses}
use Rattle.rv_words.proofs.Verbs.{leaf, no_more}

abbrev given : Text → Text → Row
given name value = record { id = name; values = value ∷ []; count = None; source = Some CommandLine; reading = AsWritten }

abbrev rows_1 : Text → List Row
rows_1 s = given (codes "STORE") s ∷ []

abbrev rows_2 : Text → Text → List Row
rows_2 s u = given (codes "STORE") s ∷ given (codes "USER") u ∷ []

abbrev Last : Type 0
Last = Option (Text × List Text)

abbrev last_1 : Text → Last
last_1 s = Some (codes "STORE", s ∷ [])

abbrev last_2 : Text → Last
last_2 u = Some (codes "USER", u ∷ [])

abbrev last_3 : Text → Last
last_3 n = Some (codes "NAME", n ∷ [])

-- where the walk stands after no value, a store, a user, and a name; and whether `--` stood before
abbrev at_0 : Bool → Walk
at_0 ended = at [] None 1 ended

abbrev at_1 : Text → Bool → Walk
at_1 s ended = at [] (last_1 s) 2 ended

abbrev at_2 : Text → Text → Bool → Walk
at_2 s u ended = at (rows_1 s) (last_2 u) 3 ended

abbrev at_3 : Text → Text → Text → Bool → Walk
at_3 s u n ended = at (rows_2 s u) (last_3 n) 4 ended

-- ---- export

abbrev pub export_leaf : Shape
export_leaf = leaf export_app

export_flags : HasNoFlags export_leaf
export_flags = (λ name. refl, λ letter. refl)

export_2_ended : (s u : Text) (words : List Text) → read_from export_leaf export_in (at_2 s u true) words ≡ export_with (s ∷ u ∷ words)
unfolding clap_on_literals
export_2_ended s u [] = refl
export_2_ended s u (w ∷ ws) = refuses export_leaf export_in (at_2 s u true) w ws refl

export_1_ended : (s : Text) (words : List Text) → read_from export_leaf export_in (at_1 s true) words ≡ export_with (s ∷ words)
unfolding clap_on_literals
export_1_ended s [] = refl
export_1_ended s (u ∷ ws) = goes export_leaf export_in (at_1 s true) (at_2 s u true) u ws refl refl ∙ export_2_ended s u ws

export_0_ended : (words : List Text) → read_from export_leaf export_in (at_0 true) words ≡ export_with words
unfolding clap_on_literals
export_0_ended [] = refl
export_0_ended (s ∷ ws) = goes export_leaf export_in (at_0 true) (at_1 s true) s ws refl refl ∙ export_1_ended s ws

export_2 : (s u : Text) (words : List Text)
    → read_from export_leaf export_in (at_2 s u false) words ≡ option_and_then (λ values. export_with (s ∷ u ∷ values)) (values_in words)
unfolding clap_on_literals
export_2 s u [] = refl
export_2 s u (w ∷ ws) = by_word export_leaf export_flags export_in (rows_1 s) (last_2 u) 3 (λ values. export_with (s ∷ u ∷ values)) w ws
    (export_2_ended s u ws)
    (λ p. refuses export_leaf export_in (at_2 s u false) w ws
    (ap is_taken (plain_turn export_leaf (rows_1 s) (last_2 u) 3 w p))
    ∙ no_more (values_in ws))

export_1 : (s : Text) (words : List Text)
    → read_from export_leaf export_in (at_1 s false) words ≡ option_and_then (λ values. export_with (s ∷ values)) (values_in words)
unfolding clap_on_literals
export_1 s [] = refl
export_1 s (u ∷ ws) = by_word export_leaf export_flags export_in [] (last_1 s) 2 (λ values. export_with (s ∷ values)) u ws (export_1_ended s ws)
    (λ p. goes export_leaf export_in (at_1 s false) (at_2 s u false) u ws
    (plain_turn export_leaf [] (last_1 s) 2 u p) (plain_walk export_leaf [] (last_1 s) 2 u p)
    ∙ export_2 s u ws)

pub export_0 : (words : List Text) → read_from export_leaf export_in (at [] None 1 false) words ≡ option_and_then export_with (values_in words)
unfolding clap_on_literals
export_0 [] = refl
export_0 (s ∷ ws) = by_word export_leaf export_flags export_in [] None 1 export_with s ws (export_0_ended ws)
    (λ p. goes export_leaf export_in (at_0 false) (at_1 s false) s ws
    (plain_turn export_leaf [] None 1 s p) (plain_walk export_leaf [] None 1 s p)
    ∙ export_1 s ws)

-- ---- import

abbrev pub import_leaf : Shape
import_leaf = leaf import_app

import_flags : HasNoFlags import_leaf
import_flags = (λ name. refl, λ letter. refl)

import_3_ended : (s u n : Text) (words : List Text) → read_from import_leaf import_in (at_3 s u n true) words ≡ import_with (s ∷ u ∷ n ∷ words)
unfolding clap_on_literals
import_3_ended s u n [] = refl
import_3_ended s u n (w ∷ ws) = refuses import_leaf import_in (at_3 s u n true) w ws refl

import_2_ended : (s u : Text) (words : List Text) → read_from import_leaf import_in (at_2 s u true) words ≡ import_with (s ∷ u ∷ words)
unfolding clap_on_literals
import_2_ended s u [] = refl
import_2_ended s u (n ∷ ws) = goes import_leaf import_in (at_2 s u true) (at_3 s u n true) n ws refl refl ∙ import_3_ended s u n ws

import_1_ended : (s : Text) (words : List Text) → read_from import_leaf import_in (at_1 s true) words ≡ import_with (s ∷ words)
unfolding clap_on_literals
import_1_ended s [] = refl
import_1_ended s (u ∷ ws) = goes import_leaf import_in (at_1 s true) (at_2 s u true) u ws refl refl ∙ import_2_ended s u ws

import_0_ended : (words : List Text) → read_from import_leaf import_in (at_0 true) words ≡ import_with words
unfolding clap_on_literals
import_0_ended [] = refl
import_0_ended (s ∷ ws) = goes import_leaf import_in (at_0 true) (at_1 s true) s ws refl refl ∙ import_1_ended s ws

import_3 : (s u n : Text) (words : List Text)
    → read_from import_leaf import_in (at_3 s u n false) words ≡ option_and_then (λ values. import_with (s ∷ u ∷ n ∷ values)) (values_in words)
unfolding clap_on_literals
import_3 s u n [] = refl
import_3 s u n (w ∷ ws) = by_word import_leaf import_flags import_in (rows_2 s u) (last_3 n) 4 (λ values. import_with (s ∷ u ∷ n ∷ values)) w ws
    (import_3_ended s u n ws)
    (λ p. refuses import_leaf import_in (at_3 s u n false) w ws
    (ap is_taken (plain_turn import_leaf (rows_2 s u) (last_3 n) 4 w p))
    ∙ no_more (values_in ws))

import_2 : (s u : Text) (words : List Text)
    → read_from import_leaf import_in (at_2 s u false) words ≡ option_and_then (λ values. import_with (s ∷ u ∷ values)) (values_in words)
unfolding clap_on_literals
import_2 s u [] = refl
import_2 s u (n ∷ ws) = by_word import_leaf import_flags import_in (rows_1 s) (last_2 u) 3 (λ values. import_with (s ∷ u ∷ values)) n ws (import_2_ended s u ws)
    (λ p. goes import_leaf import_in (at_2 s u false) (at_3 s u n false) n ws
    (plain_turn import_leaf (rows_1 s) (last_2 u) 3 n p) (plain_walk import_leaf (rows_1 s) (last_2 u) 3 n p)
    ∙ import_3 s u n ws)

import_1 : (s : Text) (words : List Text)
    → read_from import_leaf import_in (at_1 s false) words ≡ option_and_then (λ values. import_with (s ∷ values)) (values_in words)
unfolding clap_on_literals
import_1 s [] = refl
import_1 s (u ∷ ws) = by_word import_leaf import_flags import_in [] (last_1 s) 2 (λ values. import_with (s ∷ values)) u ws (import_1_ended s ws)
    (λ p. goes import_leaf import_in (at_1 s false) (at_2 s u false) u ws
    (plain_turn import_leaf [] (last_1 s) 2 u p) (plain_walk import_leaf [] (last_1 s) 2 u p)
    ∙ import_2 s u ws)

pub import_0 : (words : List Text) → read_from import_leaf import_in (at [] None 1 false) words ≡ option_and_then import_with (values_in words)
unfolding clap_on_literals
import_0 [] = refl
import_0 (s ∷ ws) = by_word import_leaf import_flags import_in [] None 1 import_with s ws (import_0_ended ws)
    (λ p. goes import_leaf import_in (at_0 false) (at_1 s false) s ws
    (plain_turn import_leaf [] None 1 s p) (plain_walk import_leaf [] None 1 s p)
    ∙ import_1 s ws)
