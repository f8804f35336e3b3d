-- How clap reads the words of each command.
use Rattle.std.proofs.Common.{◌≡◌, ◌∙◌, ap, refl, List, [], ◌∷◌, Option, Some, None, true, false, codes}
use Rattle.std.specs.Prelude.{option_and_then}
use Rattle.clap.specs.Walk.{Row, Text}
use Rattle.clap.specs.Simple.{App, Shape, built_leaf, inherited, marked_built, with_leaf_noted}
use Rattle.clap.proofs.OnLiterals.{clap_on_literals}
use Rattle.clap.specs.declared.parser.matches.ValueSource.TheVariants.{CommandLine}
use Rattle.clap.specs.declared.builder.value_parser.Reading.TheVariants.{AsWritten}
use Rattle.rv_words.specs.Table.{bare_app, retire_app, serve_app, store_app}
use Rattle.rv_words.specs.Words.{is_taken, on_store_in, retire_in}
use Rattle.rv_words.specs.Plain.{on_store_with, retire_with, values_in}
use Rattle.rv_words.specs.declared.command.Command.{Command}
use Rattle.rv_words.proofs.Leaves.{HasNoFlags, at, by_word, goes, plain_turn, plain_walk, read_from, refuses}

-- a command of the table, once it is built
abbrev pub leaf : App → Shape
leaf a = built_leaf (inherited (with_leaf_noted (marked_built bare_app.top)) a.top)

abbrev store : Text
store = codes "STORE"

-- no value asks for nothing
pub no_more : (o : Option (List Text)) → ◌≡◌ {A = Option Command} None (option_and_then (λ values. None) o)
no_more None = refl
no_more (Some x) = refl

-- ---- a command of one STORE

module _ (verb : Text) where
  abbrev pub store_leaf : Shape
  store_leaf = leaf (store_app verb)

  abbrev reads : List Row → Option Command
  reads = on_store_in verb

  store_flags : HasNoFlags store_leaf
  store_flags = (λ name. refl, λ letter. refl)

  store_2_ended : (v : Text) (words : List Text) → read_from store_leaf reads (at [] (Some (store, v ∷ [])) 2 true) words ≡ on_store_with verb (v ∷ words)
  unfolding clap_on_literals
  store_2_ended v [] = refl
  store_2_ended v (w ∷ ws) = refuses store_leaf reads (at [] (Some (store, v ∷ [])) 2 true) w ws refl

  store_1_ended : (words : List Text) → read_from store_leaf reads (at [] None 1 true) words ≡ on_store_with verb words
  unfolding clap_on_literals
  store_1_ended [] = refl
  store_1_ended (v ∷ ws) = goes store_leaf reads (at [] None 1 true) (at [] (Some (store, v ∷ [])) 2 true) v ws refl refl ∙ store_2_ended v ws

  store_2 : (v : Text) (words : List Text)
      → read_from store_leaf reads (at [] (Some (store, v ∷ [])) 2 false) words ≡ option_and_then (λ values. on_store_with verb (v ∷ values)) (values_in words)
  unfolding clap_on_literals
  store_2 v [] = refl
  store_2 v (w ∷ ws) = by_word store_leaf store_flags reads [] (Some (store, v ∷ [])) 2 (λ values. on_store_with verb (v ∷ values)) w ws (store_2_ended v ws)
      (λ p. refuses store_leaf reads (at [] (Some (store, v ∷ [])) 2 false) w ws
      (ap is_taken (plain_turn store_leaf [] (Some (store, v ∷ [])) 2 w p))
      ∙ no_more (values_in ws))

  pub store_1 : (words : List Text) → read_from store_leaf reads (at [] None 1 false) words ≡ option_and_then (on_store_with verb) (values_in words)
  unfolding clap_on_literals
  store_1 [] = refl
  store_1 (v ∷ ws) = by_word store_leaf store_flags reads [] None 1 (on_store_with verb) v ws (store_1_ended ws)
      (λ p. goes store_leaf reads (at [] None 1 false) (at [] (Some (store, v ∷ [])) 2 false) v ws
      (plain_turn store_leaf [] None 1 v p) (plain_walk store_leaf [] None 1 v p)
      ∙ store_2 v ws)

-- ---- serve

abbrev pub serve_leaf : Shape
serve_leaf = leaf serve_app

-- ---- retire

abbrev pub retire_leaf : Shape
retire_leaf = leaf retire_app

retire_flags : HasNoFlags retire_leaf
retire_flags = (λ name. refl, λ letter. refl)

-- the row of the store, once the next value has come
abbrev stored : Text → List Row
stored v = record { id = store; values = v ∷ []; count = None; source = Some CommandLine; reading = AsWritten } ∷ []

abbrev group : Text
group = codes "GROUP"

retire_3_ended : (v g : Text) (words : List Text)
    → read_from retire_leaf retire_in (at (stored v) (Some (group, g ∷ [])) 3 true) words ≡ retire_with (v ∷ g ∷ words)
unfolding clap_on_literals
retire_3_ended v g [] = refl
retire_3_ended v g (w ∷ ws) = refuses retire_leaf retire_in (at (stored v) (Some (group, g ∷ [])) 3 true) w ws refl

retire_2_ended : (v : Text) (words : List Text) → read_from retire_leaf retire_in (at [] (Some (store, v ∷ [])) 2 true) words ≡ retire_with (v ∷ words)
unfolding clap_on_literals
retire_2_ended v [] = refl
retire_2_ended v (g ∷ ws) =
    goes retire_leaf retire_in (at [] (Some (store, v ∷ [])) 2 true) (at (stored v) (Some (group, g ∷ [])) 3 true) g ws refl refl ∙ retire_3_ended v g ws

retire_1_ended : (words : List Text) → read_from retire_leaf retire_in (at [] None 1 true) words ≡ retire_with words
unfolding clap_on_literals
retire_1_ended [] = refl
retire_1_ended (v ∷ ws) = goes retire_leaf retire_in (at [] None 1 true) (at [] (Some (store, v ∷ [])) 2 true) v ws refl refl ∙ retire_2_ended v ws

retire_3 : (v g : Text) (words : List Text) → read_from retire_leaf retire_in (at (stored v) (Some (group, g ∷ [])) 3 false) words
    ≡ option_and_then (λ values. retire_with (v ∷ g ∷ values)) (values_in words)
unfolding clap_on_literals
retire_3 v g [] = refl
retire_3 v g (w ∷ ws) = by_word retire_leaf retire_flags retire_in (stored v) (Some (group, g ∷ [])) 3 (λ values. retire_with (v ∷ g ∷ values)) w ws
    (retire_3_ended v g ws)
    (λ p. refuses retire_leaf retire_in (at (stored v) (Some (group, g ∷ [])) 3 false) w ws
    (ap is_taken (plain_turn retire_leaf (stored v) (Some (group, g ∷ [])) 3 w p))
    ∙ no_more (values_in ws))

retire_2 : (v : Text) (words : List Text) → read_from retire_leaf retire_in (at [] (Some (store, v ∷ [])) 2 false) words
    ≡ option_and_then (λ values. retire_with (v ∷ values)) (values_in words)
unfolding clap_on_literals
retire_2 v [] = refl
retire_2 v (g ∷ ws) = by_word retire_leaf retire_flags retire_in [] (Some (store, v ∷ [])) 2 (λ values. retire_with (v ∷ values)) g ws (retire_2_ended v ws)
    (λ p. goes retire_leaf retire_in (at [] (Some (store, v ∷ [])) 2 false) (at (stored v) (Some (group, g ∷ [])) 3 false) g ws
    (plain_turn retire_leaf [] (Some (store, v ∷ [])) 2 g p)
    (plain_walk retire_leaf [] (Some (store, v ∷ [])) 2 g p)
    ∙ retire_3 v g ws)

pub retire_1 : (words : List Text) → read_from retire_leaf retire_in (at [] None 1 false) words ≡ option_and_then retire_with (values_in words)
unfolding clap_on_literals
retire_1 [] = refl
retire_1 (v ∷ ws) = by_word retire_leaf retire_flags retire_in [] None 1 retire_with v ws (retire_1_ended ws)
    (λ p. goes retire_leaf retire_in (at [] None 1 false) (at [] (Some (store, v ∷ [])) 2 false) v ws
    (plain_turn retire_leaf [] None 1 v p) (plain_walk retire_leaf [] None 1 v p)
    ∙ retire_2 v ws)
