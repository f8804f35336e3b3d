-- How clap reads the words of `follow`.
use Rattle.std.proofs.Common.{◌≡◌, ◌∙◌, ◌==◌, ◌||◌, ◌++◌, ap, ap₂, refl, subst, sym, List, [], ◌∷◌, Option, Some, None, Bool, cond, true, false, codes, map, ℕ}
use Rattle.std.specs.Prelude.{option_and_then}
use Rattle.std.specs.List.{fold, list_any}
use Rattle.std.specs.Option.{option_map_or}
use Rattle.std.specs.Str.{bytes_eq}
use Rattle.std.specs.Cmp.Lexicographic.{same_text}
use Rattle.rv_base.specs.PositionLaws.{not_same}
use Rattle.clap.specs.Lexer.{name_and_value}
use Rattle.clap.specs.Kinds.{Kinds, or_else}
use Rattle.clap.specs.Walk.{Held, Row, Rule, Step, Text, Walk, after_step, option, settled_rows, used, walked, with_default}
use Rattle.clap.specs.Simple.{Shape, filled}
use Rattle.clap.specs.Faults.{check_fault, defaults_fault, long_fault, settle_fault, step_fault, turn_fault, use_fault, walk_fault}
use Rattle.clap.proofs.OnLiterals.{clap_on_literals}
use Rattle.rv_words.specs.Table.{follow_app, required_option}
use Rattle.rv_words.specs.Words.{follow_in, follow_of, is_taken}
use Rattle.rv_words.specs.Plain.{Part, follow_with, is_flag, is_option, option_name, option_names, option_value, parts_from, with_part}
use Rattle.rv_words.specs.declared.command.Command.{Command}
use Rattle.rv_words.proofs.Leaves.{HasNoLetters, IsLong, at, by_form, fault_at, goes, held, not_empty, plain_met, plain_turn, read_from, refuses}
use Rattle.rv_words.proofs.Parts.{row, rows_with}
use Rattle.rv_words.proofs.Serving.{closing_is_flag, no_option}
use Rattle.rv_words.proofs.Verbs.{leaf}

abbrev pub follow_leaf : Shape
follow_leaf = leaf follow_app

abbrev rules : List Rule
rules = follow_leaf.rules

abbrev port : Text
port = codes "port"

no_letters : HasNoLetters follow_leaf
no_letters letter = refl

abbrev reads : Walk → List Text → Option Command
reads = read_from follow_leaf follow_in

-- where the port waits for its value
abbrev waits_at : List Row → Bool → Walk
waits_at rows ended = record (at rows (Some (port, [])) 1 ended) { waiting = option port }

-- ---- parts that ask for nothing

-- the port that was given, if one was
abbrev given_parts : Option Text → List Part
given_parts None = []
given_parts (Some v) = (port, v) ∷ []

-- what a port that was given asks for with the parts after it
abbrev asked : Option Text → Option (List Part) → Option Command
asked given more = option_and_then (λ parts. follow_with (given_parts given ++ parts)) more

nothing : (more : Option (List Part)) → option_and_then {U = Command} (λ parts. None) more ≡ None
nothing None = refl
nothing (Some parts) = refl

-- a second part
two_ask_nothing : (v : Text) (part : Part) (more : Option (List Part)) → asked (Some v) (with_part part more) ≡ None
two_ask_nothing v part None = refl
two_ask_nothing v part (Some parts) = refl

-- a first part
asked_one : (v : Text) (more : Option (List Part)) → asked None (with_part (port, v) more) ≡ asked (Some v) more
asked_one v None = refl
asked_one v (Some parts) = refl

-- a part of another name
other_asks_nothing : (given : Option Text) (part : Part) (more : Option (List Part)) → bytes_eq part.0 port ≡ false → asked given (with_part part more) ≡ None
other_asks_nothing given part None other = refl
other_asks_nothing (Some v) part (Some parts) other = refl
other_asks_nothing None part (Some []) other = ap (λ b. cond b (follow_of part.1) None) other
other_asks_nothing None part (Some (p ∷ parts)) other = refl

-- the parts of an option and the words after it
abbrev option_parts : Text → Option Text → List Text → Option (List Part)
option_parts name v words = option_map_or (λ x. with_part (name, x) (parts_from None words)) v (parts_from (Some name) words)

waiting_asks_nothing : (given : Option Text) (name : Text) (words : List Text) → bytes_eq name port ≡ false → asked given (parts_from (Some name) words) ≡ None
waiting_asks_nothing given name [] other = refl
waiting_asks_nothing given name (word ∷ words) other = go (is_flag word)
  where
    go : (flag : Bool) → asked given (cond flag None (with_part (name, word) (parts_from None words))) ≡ None
    go true = refl
    go false = other_asks_nothing given (name, word) (parts_from None words) other

-- an option of another name
other_option_asks_nothing : (given : Option Text) (name : Text) (v : Option Text) (words : List Text) → bytes_eq name port ≡ false
    → asked given (option_parts name v words) ≡ None
other_option_asks_nothing given name None words other = waiting_asks_nothing given name words other
other_option_asks_nothing given name (Some v) words other = other_asks_nothing given (name, v) (parts_from None words) other

-- ---- what the walk holds

-- the rows and what is pending come to the port that was given
record Fine (rows : List Row) (pending : Option (Text × List Text)) (given : Option Text) : Type 0 where
  settles : settle_fault rules false (held rows pending) ≡ []
  rows_are : settled_rows rules pending rows ≡ rows_with (given_parts given)

-- what is pending is given twice
abbrev IsTwice : List Row → Option (Text × List Text) → Type 0
IsTwice rows pending = is_taken (settle_fault rules false (held rows pending)) ≡ false

given_fine : (given : Option Text) → Fine (rows_with (given_parts given)) None given
given_fine None = record { settles = refl; rows_are = refl }
given_fine (Some v) = record { settles = refl; rows_are = refl }

abbrev Idle : List Text → Type 0
Idle words = (rows : List Row) (pending : Option (Text × List Text)) (given : Option Text) → Fine rows pending given
    → reads (at rows pending 1 false) words ≡ asked given (parts_from None words)

abbrev Waits : List Text → Type 0
Waits words = (given : Option Text) → reads (waits_at (rows_with (given_parts given)) false) words ≡ asked given (parts_from (Some port) words)

abbrev Fails : Bool → List Text → Type 0
Fails ended words = (rows : List Row) (pending : Option (Text × List Text)) → IsTwice rows pending → reads (at rows pending 1 ended) words ≡ None

-- ---- no word is left

complete : (given : Option Text) (ended : Bool) → reads (at (rows_with (given_parts given)) None 1 ended) [] ≡ asked given (Some [])
unfolding clap_on_literals
complete None ended = refl
complete (Some v) ended = refl

-- what ends a walk, by what settles and by the rows
ends : (ended : Bool) (rows : List Row) (pending : Option (Text × List Text)) (given : Option Text) → Fine rows pending given
    → reads (at rows pending 1 ended) [] ≡ asked given (Some [])
unfolding walk_fault
ends ended rows pending given fine =
    let settled : List Row = settled_rows rules pending rows in
    ap (λ (k : Kinds). cond (is_taken (or_else k (or_else (defaults_fault settled rules) (check_fault follow_leaf (fold with_default settled rules) false))))
    (follow_in (fold with_default settled rules)) None) fine.settles
    ∙ ap (λ (rs : List Row). cond (is_taken (or_else (defaults_fault rs rules) (check_fault follow_leaf (fold with_default rs rules) false)))
    (follow_in (fold with_default rs rules)) None) fine.rows_are
    ∙ complete given ended

twice_ends : (ended : Bool) → Fails ended []
unfolding walk_fault
twice_ends ended rows pending twice = rw (not_empty (settle_fault rules false (held rows pending)) _ twice) refl

-- ---- the words after `--`

-- a word that has no argument is refused
ended_word : (rows : List Row) (pending : Option (Text × List Text)) (word : Text) (words : List Text) → reads (at rows pending 1 true) (word ∷ words) ≡ None
ended_word rows pending word words = refuses follow_leaf follow_in (at rows pending 1 true) word words refl

abbrev stores : List Text → List Part
stores = map (λ v. (codes "STORE", v))

stores_ask_nothing : (given : Option Text) (word : Text) (words : List Text) → asked given (Some (stores (word ∷ words))) ≡ None
stores_ask_nothing given word words = other_asks_nothing given (codes "STORE", word) (Some (stores words)) refl

closed : (words : List Text) (rows : List Row) (pending : Option (Text × List Text)) (given : Option Text) → Fine rows pending given
    → reads (at rows pending 1 true) words ≡ asked given (Some (stores words))
closed [] rows pending given fine = ends true rows pending given fine
closed (word ∷ words) rows pending given fine = ended_word rows pending word words ∙ sym (stores_ask_nothing given word words)

twice_closed : (words : List Text) → Fails true words
twice_closed [] = twice_ends true
twice_closed (word ∷ words) = λ rows pending twice. ended_word rows pending word words

-- ---- a word that gives the port

abbrev port_rule : Rule
port_rule = filled (required_option port)

module _ (rows : List Row) (pending : Option (Text × List Text)) (word : Text) (words : List Text) where
  abbrev here : Walk
  here = at rows pending 1 false

  -- after one that is given twice
  after_twice : (v : Option Text) → IsTwice rows pending → IsLong follow_leaf here word port v → reads here (word ∷ words) ≡ None
  after_twice None twice long = refuses follow_leaf follow_in here word words (ap is_taken long.0 ∙ not_empty (settle_fault rules false (held rows pending)) [] twice)
  after_twice (Some v) twice long =
      refuses follow_leaf follow_in here word words
      (ap is_taken long.0
      ∙ not_empty _ [] (not_empty (settle_fault rules false (held rows pending)) (use_fault false port_rule (v ∷ []) (settled_rows rules pending rows)) twice))

  -- its value is in the next word
  bare : (given : Option Text) → Fine rows pending given → Waits words → IsLong follow_leaf here word port None
      → reads here (word ∷ words) ≡ asked given (parts_from (Some port) words)
  bare given fine waits long =
      goes follow_leaf follow_in here (waits_at (rows_with (given_parts given)) false) word words
      (long.0 ∙ ap (λ k. or_else k []) fine.settles)
      (long.1 ∙ ap (λ rs. waits_at rs false) fine.rows_are)
      ∙ waits given

  -- its value is in its word
  joined : (given : Option Text) (v : Text) → Fine rows pending given → Idle words → IsLong follow_leaf here word port (Some v)
      → reads here (word ∷ words) ≡ asked given (with_part (port, v) (parts_from None words))
  joined given v fine idles long = go given fine
    where
      turn_is : (given : Option Text) → Fine rows pending given
          → turn_fault follow_leaf [] here word ≡ or_else (use_fault false port_rule (v ∷ []) (rows_with (given_parts given))) []
      turn_is given fine = long.0
          ∙ ap₂ (λ (k : Kinds) (rs : List Row). or_else (or_else k (use_fault false port_rule (v ∷ []) rs)) []) fine.settles fine.rows_are

      go : (given : Option Text) → Fine rows pending given → reads here (word ∷ words) ≡ asked given (with_part (port, v) (parts_from None words))
      go (Some u) fine =
          refuses follow_leaf follow_in here word words (ap is_taken (turn_is (Some u) fine))
          ∙ sym (two_ask_nothing u (port, v) (parts_from None words))
      go None fine =
          goes follow_leaf follow_in here (at (row (port, v) ∷ []) None 1 false) word words
          (turn_is None fine)
          (long.1 ∙ ap (λ rs. at (used port_rule (v ∷ []) rs) None 1 false) fine.rows_are)
          ∙ idles (row (port, v) ∷ []) None (Some v) (given_fine (Some v))
          ∙ sym (asked_one v (parts_from None words))

  a_port : (given : Option Text) (v : Option Text) → Fine rows pending given → Idle words → Waits words → IsLong follow_leaf here word port v
      → reads here (word ∷ words) ≡ asked given (option_parts port v words)
  a_port given None fine idles waits long = bare given fine waits long
  a_port given (Some v) fine idles waits long = joined given v fine idles long

-- ---- any word, where nothing waits

abbrev is_port : Text → Bool
is_port name = bytes_eq port name

-- a long flag of another name is refused
unknown_long : (rows : List Row) (pending : Option (Text × List Text)) (y : ℕ) (ys : Text) → is_port (name_and_value (y ∷ ys)).0 ≡ false
    → is_taken (fault_at follow_leaf rows pending (45 ∷ 45 ∷ y ∷ ys)) ≡ false
unknown_long rows pending y ys unknown =
    ap (λ b. is_taken (long_fault rules false (cond b (Some port_rule) None) (name_and_value (y ∷ ys)).1 (held rows pending))) (ap (λ b. b || false) unknown)

module _ (rows : List Row) (pending : Option (Text × List Text)) (given : Option Text) (fine : Fine rows pending given)
    (words : List Text) (idles : Idle words) (waits : Waits words) where
  abbrev at_flag : Text → Option (List Part)
  at_flag word = cond (is_option word) (option_parts (option_name word) (option_value word) words) None

  abbrev flag_is : Text → Type 0
  flag_is word = reads (at rows pending 1 false) (word ∷ words) ≡ asked given (at_flag word)

  -- an option of `serve` that is not the port
  other_flag : (word : Text) → bytes_eq (option_name word) port ≡ false → asked given (at_flag word) ≡ None
  other_flag word other = go (is_option word)
    where
      go : (option : Bool) → asked given (cond option (option_parts (option_name word) (option_value word) words) None) ≡ None
      go true = other_option_asks_nothing given (option_name word) (option_value word) words other
      go false = refl

  long_flag : (y : ℕ) (ys : Text) → flag_is (45 ∷ 45 ∷ y ∷ ys)
  unfolding walked
  long_flag y ys = go (is_port (name_and_value (y ∷ ys)).0) refl
    where
      word : Text
      word = 45 ∷ 45 ∷ y ∷ ys

      go : (known : Bool) → is_port (name_and_value (y ∷ ys)).0 ≡ known → flag_is word
      go true known =
          let name : Text = (name_and_value (y ∷ ys)).0 in
          let v : Option Text = (name_and_value (y ∷ ys)).1 in
          let is : port ≡ name = same_text port name (sym known) in
          let option : is_option word ≡ true = ap (λ n. list_any (λ o. bytes_eq o n) option_names) (sym is) in
          a_port rows pending word words given v fine idles waits (subst (λ n. IsLong follow_leaf (at rows pending 1 false) word n v) (sym is) (refl, refl))
          ∙ ap (λ n. asked given (option_parts n v words)) is
          ∙ sym (ap (λ b. asked given (cond b (option_parts (option_name word) (option_value word) words) None)) option)
      go false unknown =
          refuses follow_leaf follow_in (at rows pending 1 false) word words (not_empty (fault_at follow_leaf rows pending word) _ (unknown_long rows pending y ys unknown))
          ∙ sym (other_flag word (not_same port (name_and_value (y ∷ ys)).0 unknown))

  short_flag : (x : ℕ) (xs : Text) → (x == 45) ≡ false → is_taken (fault_at follow_leaf rows pending (45 ∷ x ∷ xs)) ≡ false → flag_is (45 ∷ x ∷ xs)
  short_flag x xs other fails =
      let none : is_option (45 ∷ x ∷ xs) ≡ false = rw other refl in
      refuses follow_leaf follow_in (at rows pending 1 false) (45 ∷ x ∷ xs) words (not_empty (fault_at follow_leaf rows pending (45 ∷ x ∷ xs)) _ fails)
      ∙ sym (ap (λ b. asked given (cond b (option_parts (option_name (45 ∷ x ∷ xs)) (option_value (45 ∷ x ∷ xs)) words) None)) none)

  idle_word : (word : Text) → reads (at rows pending 1 false) (word ∷ words) ≡ asked given (parts_from None (word ∷ words))
  unfolding walked
  idle_word word = go (bytes_eq word (codes "--")) refl (is_flag word) refl
    where
      go : (closes : Bool) → bytes_eq word (codes "--") ≡ closes → (flag : Bool) → is_flag word ≡ flag
          → reads (at rows pending 1 false) (word ∷ words)
          ≡ asked given (cond closes (Some (stores words)) (cond (is_option word) (option_parts (option_name word) (option_value word) words) (cond flag None (with_part (codes "STORE", word) (parts_from None words)))))
      go true closes flag is_it =
          let is : word ≡ codes "--" = same_text word (codes "--") (sym closes) in
          subst (λ (w : Text). reads (at rows pending 1 false) (w ∷ words) ≡ asked given (Some (stores words))) (sym is)
          (goes follow_leaf follow_in (at rows pending 1 false) (at rows pending 1 true) (codes "--") words refl refl
          ∙ closed words rows pending given fine)
      go false goes_on true is_it = by_form follow_leaf no_letters rows pending flag_is long_flag short_flag word goes_on is_it
      go false goes_on false is_it =
          refuses follow_leaf follow_in (at rows pending 1 false) word words (ap is_taken (plain_turn follow_leaf rows pending 1 word (goes_on, is_it)))
          ∙ sym (other_asks_nothing given (codes "STORE", word) (parts_from None words) refl)
          ∙ sym (ap (λ b. asked given (cond b (option_parts (option_name word) (option_value word) words) (with_part (codes "STORE", word) (parts_from None words)))) (no_option word is_it))

-- ---- any word after a port that is given twice

module _ (rows : List Row) (pending : Option (Text × List Text)) (twice : IsTwice rows pending) (words : List Text) where
  abbrev fails_on : Text → Type 0
  fails_on word = reads (at rows pending 1 false) (word ∷ words) ≡ None

  twice_long : (y : ℕ) (ys : Text) → fails_on (45 ∷ 45 ∷ y ∷ ys)
  unfolding walked
  twice_long y ys = go (is_port (name_and_value (y ∷ ys)).0) refl
    where
      word : Text
      word = 45 ∷ 45 ∷ y ∷ ys

      go : (known : Bool) → is_port (name_and_value (y ∷ ys)).0 ≡ known → fails_on word
      go true known =
          let is : port ≡ (name_and_value (y ∷ ys)).0 = same_text port (name_and_value (y ∷ ys)).0 (sym known) in
          after_twice rows pending word words (name_and_value (y ∷ ys)).1 twice
          (subst (λ n. IsLong follow_leaf (at rows pending 1 false) word n (name_and_value (y ∷ ys)).1) (sym is) (refl, refl))
      go false unknown =
          refuses follow_leaf follow_in (at rows pending 1 false) word words (not_empty (fault_at follow_leaf rows pending word) _ (unknown_long rows pending y ys unknown))

  twice_short : (x : ℕ) (xs : Text) → (x == 45) ≡ false → is_taken (fault_at follow_leaf rows pending (45 ∷ x ∷ xs)) ≡ false → fails_on (45 ∷ x ∷ xs)
  twice_short x xs other fails =
      refuses follow_leaf follow_in (at rows pending 1 false) (45 ∷ x ∷ xs) words (not_empty (fault_at follow_leaf rows pending (45 ∷ x ∷ xs)) _ fails)

  twice_word : (word : Text) → fails_on word
  unfolding walked
  twice_word word = go (bytes_eq word (codes "--")) refl (is_flag word) refl
    where
      go : (closes : Bool) → bytes_eq word (codes "--") ≡ closes → (flag : Bool) → is_flag word ≡ flag → fails_on word
      go true closes flag is_it =
          subst fails_on (sym (same_text word (codes "--") (sym closes)))
          (goes follow_leaf follow_in (at rows pending 1 false) (at rows pending 1 true) (codes "--") words refl refl ∙ twice_closed words rows pending twice)
      go false goes_on true is_it = by_form follow_leaf no_letters rows pending fails_on twice_long twice_short word goes_on is_it
      go false goes_on false is_it =
          refuses follow_leaf follow_in (at rows pending 1 false) word words (ap is_taken (plain_turn follow_leaf rows pending 1 word (goes_on, is_it)))

-- ---- any word, where the port waits

-- after `--` it gets no value
never_gets : (rows : List Row) (words : List Text) → reads (waits_at rows true) words ≡ None
unfolding walk_fault
never_gets rows [] = refl
never_gets rows (word ∷ words) = refuses follow_leaf follow_in (waits_at rows true) word words refl

module _ (given : Option Text) where
  abbrev rows : List Row
  rows = rows_with (given_parts given)

  abbrev waiting : Walk
  waiting = waits_at rows false

  no_next : reads waiting [] ≡ None
  unfolding walk_fault
  no_next = refl

  abbrev refused : Text → Type 0
  refused word = is_taken (fault_at follow_leaf rows (Some (port, [])) word) ≡ false

  long_next : (y : ℕ) (ys : Text) → refused (45 ∷ 45 ∷ y ∷ ys)
  long_next y ys = go (is_port (name_and_value (y ∷ ys)).0) refl
    where
      known_long : (v : Option Text) → is_taken (long_fault rules false (Some port_rule) v (held rows (Some (port, [])))) ≡ false
      known_long None = refl
      known_long (Some v) = refl

      go : (known : Bool) → is_port (name_and_value (y ∷ ys)).0 ≡ known → refused (45 ∷ 45 ∷ y ∷ ys)
      go true known =
          ap (λ b. is_taken (long_fault rules false (cond b (Some port_rule) None) (name_and_value (y ∷ ys)).1 (held rows (Some (port, []))))) (ap (λ b. b || false) known)
          ∙ known_long (name_and_value (y ∷ ys)).1
      go false unknown = unknown_long rows (Some (port, [])) y ys unknown

  -- the port with its value
  with_value : (word : Text) (words : List Text) → Idle words → Fails false words → reads (at rows (Some (port, word ∷ [])) 1 false) words ≡ asked given (with_part (port, word) (parts_from None words))
  with_value word words idles fails = go given
    where
      go : (given : Option Text) → reads (at (rows_with (given_parts given)) (Some (port, word ∷ [])) 1 false) words ≡ asked given (with_part (port, word) (parts_from None words))
      go None = idles [] (Some (port, word ∷ [])) (Some word) (record { settles = refl; rows_are = refl }) ∙ sym (asked_one word (parts_from None words))
      go (Some v) = fails (row (port, v) ∷ []) (Some (port, word ∷ [])) refl ∙ sym (two_ask_nothing v (port, word) (parts_from None words))

  waiting_word : (word : Text) (words : List Text) → Idle words → Fails false words → reads waiting (word ∷ words) ≡ asked given (parts_from (Some port) (word ∷ words))
  unfolding walked
  waiting_word word words idles fails = go (bytes_eq word (codes "--")) refl (is_flag word) refl
    where
      go : (closes : Bool) → bytes_eq word (codes "--") ≡ closes → (flag : Bool) → is_flag word ≡ flag
          → reads waiting (word ∷ words) ≡ asked given (cond flag None (with_part (port, word) (parts_from None words)))
      go true closes flag is_it =
          let closing : word ≡ codes "--" = same_text word (codes "--") (sym closes) in
          let flag_is : flag ≡ true = sym is_it ∙ ap is_flag closing ∙ closing_is_flag in
          ap (λ (w : Text). reads waiting (w ∷ words)) closing
          ∙ goes follow_leaf follow_in waiting (waits_at rows true) (codes "--") words refl refl
          ∙ never_gets rows words
          ∙ sym (ap (λ b. asked given (cond b None (with_part (port, word) (parts_from None words)))) flag_is)
      go false goes_on true is_it = refuses follow_leaf follow_in waiting word words
          (not_empty (fault_at follow_leaf rows (Some (port, [])) word) _
          (by_form follow_leaf no_letters rows (Some (port, [])) refused long_next (λ x xs other fails. fails) word goes_on is_it))
      go false goes_on false is_it =
          let read = plain_met follow_leaf rows (Some (port, [])) (option port) 1 word (goes_on, is_it) in
          let gets : ◌≡◌ {A = Held × Step} _ _ = read.0 in
          goes follow_leaf follow_in waiting (at rows (Some (port, word ∷ [])) 1 false) word words
          (ap₂ (λ (k : Kinds) (m : Held × Step). or_else k (step_fault follow_leaf 1 m.0 m.1)) read.1 gets)
          (ap (λ (m : Held × Step). after_step rules word waiting m.0 m.1) gets)
          ∙ with_value word words idles fails

-- ---- all words

record Read (words : List Text) : Type 0 where
  idles : Idle words
  waits : Waits words
  fails : Fails false words

all_read : (words : List Text) → Read words
all_read [] = record {
  idles = λ rows pending given fine. ends false rows pending given fine;
  waits = λ given. no_next given;
  fails = twice_ends false;
}
all_read (word ∷ words) =
    let rest = all_read words in
    record {
      idles = λ rows pending given fine. idle_word rows pending given fine words rest.idles rest.waits word;
      waits = λ given. waiting_word given word words rest.idles rest.fails;
      fails = λ rows pending twice. twice_word rows pending twice words word;
    }

-- the words of `follow` ask for what their parts do
pub followed : (words : List Text) → reads (at [] None 1 false) words ≡ option_and_then follow_with (parts_from None words)
followed words = (all_read words).idles [] None None (given_fine None)
