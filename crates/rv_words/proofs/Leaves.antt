-- How clap reads the words of a command that has values only, word by word.
use Rattle.std.proofs.Common.{◌≡◌, ◌∙◌, ◌==◌, ℕ, ap, ap₂, refl, sym, subst, List, [], ◌∷◌, Option, Some, None, option_map, Bool, cond, true, false, true≢false, length, codes, is_some, eqb-true}
use Rattle.std.specs.Prelude.{drop, encode_utf8, slice_get, option_and_then}
use Rattle.std.specs.List.{fold}
use Rattle.std.specs.Option.{option_map_or}
use Rattle.std.specs.Str.{bytes_eq, chars}
use Rattle.std.specs.Cmp.Lexicographic.{same_text}
use Rattle.clap.specs.Lexer.{long_of, name_and_value, short_of}
use Rattle.clap.specs.Walk.{Held, Row, Rule, Step, Text, Waiting, Walk, after_step, arg_by_index, arg_by_long, arg_by_short, finished, idle, long_met, long_or_other, plain_word, subcommand_or_other, trailing, to_positional, value, walked}
use Rattle.clap.specs.Simple.{Shape}
use Rattle.clap.specs.Kinds.{Kinds, or_else}
use Rattle.clap.specs.Faults.{bundle_fault, bundle_step_fault, long_fault, short_fault, check_fault, defaults_fault, flag_word_fault, flags_fault, other_fault, settle_fault, step_fault, turn_fault, walk_fault}
use Rattle.clap.specs.Walk.{Outcome, after_flag, plain, settled, short_or_plain}
use Rattle.clap.proofs.WalkLemmas.{bundle_ends}
use Rattle.clap.proofs.FaultLemmas.{fault_ends}
use Rattle.rv_words.specs.Words.{is_taken}
use Rattle.rv_words.specs.Plain.{is_flag, values_in}
use Rattle.rv_words.specs.declared.command.Command.{Command}

-- where the walk stands before its next word
abbrev pub at : List Row → Option (Text × List Text) → ℕ → Bool → Walk
at rows pending position ended = record {
  held = record { rows = rows; pending = pending; skip = 0 };
  waiting = idle;
  position = position;
  is_trailing = ended;
  stopped = None;
}

-- what ends a walk that left this
abbrev pub end_fault : Shape → Held → Kinds
end_fault s end = or_else (settle_fault s.rules s.args_override_self end)
    (or_else (defaults_fault (settled s.rules end).rows s.rules) (check_fault s (finished s.rules end) false))

-- what the words ask for from here on
abbrev pub read_from : Shape → (List Row → Option Command) → Walk → List Text → Option Command
read_from s reads w words =
    let end = (fold (walked s.rules []) w words).held in
    cond (is_taken (or_else (walk_fault s [] w words) (end_fault s end))) (reads (finished s.rules end)) None

pub not_empty : (a b : Kinds) → is_taken a ≡ false → is_taken (or_else a b) ≡ false
not_empty [] b fails = absurd (true≢false fails)
not_empty (kind ∷ kinds) b fails = refl

pub more_fails : (a b c : Kinds) → is_taken a ≡ false → is_taken (or_else (or_else a b) c) ≡ false
more_fails a b c fails = not_empty (or_else a b) c (not_empty a b fails)

module _ (s : Shape) (reads : List Row → Option Command) where
  -- a word that clap refuses
  pub refuses : (w : Walk) (word : Text) (words : List Text) → is_taken (turn_fault s [] w word) ≡ false → read_from s reads w (word ∷ words) ≡ None
  unfolding walk_fault
  refuses w word words fails = rw (more_fails (turn_fault s [] w word) _ _ fails) refl

  -- a word that it takes
  pub goes : (w after : Walk) (word : Text) (words : List Text) → turn_fault s [] w word ≡ [] → walked s.rules [] w word ≡ after
      → read_from s reads w (word ∷ words) ≡ read_from s reads after words
  unfolding walk_fault
  goes w after word words fine is =
      ap₂ (λ (k : Kinds) (v : Walk).
      let end = (fold (walked s.rules []) v words).held in
      cond (is_taken (or_else (or_else k (walk_fault s [] v words)) (end_fault s end))) (reads (finished s.rules end)) None)
      fine is

-- ---- what a word looks like

-- no word but a flag and `--` is read as one
abbrev pub IsPlain : Text → Type 0
IsPlain word = (bytes_eq word (codes "--") ≡ false) × (is_flag word ≡ false)

-- a hyphen is a character
pub hyphen_counts : (rest : Text) → is_some (slice_get (chars (45 ∷ rest)) 0) ≡ true
unfolding chars
hyphen_counts [] = refl
hyphen_counts (b ∷ rest) = refl

no_char : (o : Option ℕ) → is_some o ≡ false → o ≡ None
no_char None e = refl
no_char (Some c) e = absurd (true≢false e)

abbrev pub held : List Row → Option (Text × List Text) → Held
held rows pending = record { rows = rows; pending = pending; skip = 0 }

-- clap's step at a word that names no command, and its fault
abbrev pub met : Shape → List Row → Option (Text × List Text) → Waiting → ℕ → Text → Held × Step
met s rows pending waiting position word = subcommand_or_other s.rules None waiting position word (held rows pending)

abbrev pub fault_at : Shape → List Row → Option (Text × List Text) → Text → Kinds
fault_at s rows pending word = other_fault s None word (held rows pending)

module _ (s : Shape) (rows : List Row) (pending : Option (Text × List Text)) (waiting : Waiting) (position : ℕ) where
  abbrev h : Held
  h = held rows pending

  -- a word of no long flag, by what its short flags are
  pub no_long : (word : Text) (flags : Option Text) → bytes_eq word (codes "--") ≡ false → long_of word ≡ None → short_of word ≡ flags
      → (met s rows pending waiting position word ≡ short_or_plain s.rules waiting word flags h)
      × (fault_at s rows pending word ≡ option_map_or (λ f. bundle_fault s.rules s.args_override_self f h) flags [])
  no_long word flags goes_on is_no_long is_short = (
    ap (λ b. cond b (h, trailing position) (long_or_other s.rules waiting word (long_of word) h)) goes_on
        ∙ ap (λ l. long_or_other s.rules waiting word l h) is_no_long ∙ ap (λ f. short_or_plain s.rules waiting word f h) is_short,
    ap (λ b. cond b [] (flag_word_fault s.rules s.args_override_self (long_of word) word h)) goes_on
        ∙ ap (λ l. flag_word_fault s.rules s.args_override_self l word h) is_no_long
        ∙ ap (λ f. option_map_or (λ g. bundle_fault s.rules s.args_override_self g h) f []) is_short,
  )

  -- what clap makes of a plain word
  abbrev IsValue : Text → Type 0
  IsValue word = (met s rows pending waiting position word ≡ plain_word s.rules waiting word h) × (fault_at s rows pending word ≡ [])

  short_plain : (x : ℕ) (xs : Text) → (x == 45) ≡ false → slice_get (chars (x ∷ xs)) 0 ≡ None → IsValue (45 ∷ x ∷ xs)
  short_plain x xs other none =
      let word : Text = 45 ∷ x ∷ xs in
      let n : ℕ = length (x ∷ xs) in
      let read = no_long word (Some (x ∷ xs)) (rw other refl) (rw other refl) (rw other refl) in (
        read.0 ∙ ap (λ (p : Held × Outcome). after_flag s.rules waiting word p.0 p.1) (sym (bundle_ends s.rules n (x ∷ xs) 0 plain h (sym none))),
        read.1 ∙ sym (fault_ends s.rules s.args_override_self n (x ∷ xs) 0 h (sym none)),
      )

  after_hyphen : (x : ℕ) (xs : Text) (same : Bool) → (x == 45) ≡ same → is_some (slice_get (chars (x ∷ xs)) 0) ≡ false → IsValue (45 ∷ x ∷ xs)
  after_hyphen x xs true same none =
      let is : x ≡ 45 = eqb-true x 45 same in
      let some = subst (λ (y : ℕ). is_some (slice_get (chars (y ∷ xs)) 0) ≡ true) (sym is) (hyphen_counts xs) in
      absurd (true≢false (sym some ∙ none))
  after_hyphen x xs false same none = short_plain x xs same (no_char _ none)

  hyphen : (rest : Text) → is_some (slice_get (chars rest) 0) ≡ false → IsValue (45 ∷ rest)
  hyphen [] none = (refl, refl)
  hyphen (x ∷ xs) none = after_hyphen x xs (x == 45) refl none

  by_byte : (b : ℕ) (rest : Text) (same : Bool) → (b == 45) ≡ same → IsPlain (b ∷ rest) → IsValue (b ∷ rest)
  by_byte b rest true same is_plain =
      let is : b ≡ 45 = eqb-true b 45 same in
      subst (λ (y : ℕ). IsPlain (y ∷ rest) → IsValue (y ∷ rest)) (sym is) (λ p. hyphen rest p.1) is_plain
  by_byte b rest false same is_plain = no_long (b ∷ rest) None (rw same refl) (rw same refl) (rw same refl)

  -- a plain word is a value
  pub plain_met : (word : Text) → IsPlain word → IsValue word
  plain_met [] is_plain = (refl, refl)
  plain_met (b ∷ rest) is_plain = by_byte b rest (b == 45) refl is_plain

some_char : (o : Option ℕ) → is_some o ≡ true → (c : ℕ) × (o ≡ Some c)
some_char None e = absurd (true≢false (sym e))
some_char (Some c) e = (c, refl)

-- no argument has a short name
abbrev pub HasNoLetters : Shape → Type 0
HasNoLetters s = (letter : ℕ) → arg_by_short s.rules letter ≡ None

-- a flag, by its form: that of a long one, and that of short ones, which are refused
module _ (s : Shape) (no_letters : HasNoLetters s) (rows : List Row) (pending : Option (Text × List Text)) (P : Text → Type 0) where
  abbrev pub FailsOn : Text → Type 0
  FailsOn word = is_taken (fault_at s rows pending word) ≡ false

  abbrev LongHolds : Type 0
  LongHolds = (y : ℕ) (ys : Text) → P (45 ∷ 45 ∷ y ∷ ys)

  abbrev ShortHolds : Type 0
  ShortHolds = (x : ℕ) (xs : Text) → (x == 45) ≡ false → FailsOn (45 ∷ x ∷ xs) → P (45 ∷ x ∷ xs)

  short_fails : (x : ℕ) (xs : Text) → (x == 45) ≡ false → is_some (slice_get (chars (x ∷ xs)) 0) ≡ true → FailsOn (45 ∷ x ∷ xs)
  unfolding flags_fault
  short_fails x xs other some =
      let word : Text = 45 ∷ x ∷ xs in
      let read = no_long s rows pending idle 1 word (Some (x ∷ xs)) (rw other refl) (rw other refl) (rw other refl) in
      let first = some_char _ some in
      let again : Bool = s.args_override_self in
      let next : Text → ℕ → Held → Kinds = flags_fault s.rules again (length xs) in
      ap is_taken read.1
      ∙ ap (λ o. is_taken (bundle_step_fault s.rules again o (x ∷ xs) 0 (held rows pending) next)) first.1
      ∙ ap (λ a. is_taken (short_fault s.rules again a (drop (length (encode_utf8 first.0)) (x ∷ xs)) (held rows pending)
      (next (drop (length (encode_utf8 first.0)) (x ∷ xs)) 0))) (no_letters first.0)

  after_one : LongHolds → ShortHolds → (x : ℕ) (xs : Text) (same : Bool) → (x == 45) ≡ same → bytes_eq (45 ∷ x ∷ xs) (codes "--") ≡ false
      → is_some (slice_get (chars (x ∷ xs)) 0) ≡ true → P (45 ∷ x ∷ xs)
  after_one long short x [] true same goes_on some =
      let bad : bytes_eq (45 ∷ x ∷ []) (codes "--") ≡ true = rw same refl in
      absurd (true≢false (sym bad ∙ goes_on))
  after_one long short x (y ∷ ys) true same goes_on some = subst (λ (z : ℕ). P (45 ∷ z ∷ y ∷ ys)) (sym (eqb-true x 45 same)) (long y ys)
  after_one long short x xs false same goes_on some = short x xs same (short_fails x xs same some)

  after_first : LongHolds → ShortHolds → (rest : Text) → bytes_eq (45 ∷ rest) (codes "--") ≡ false → is_some (slice_get (chars rest) 0) ≡ true → P (45 ∷ rest)
  unfolding chars
  after_first long short [] goes_on some = absurd (true≢false (sym some))
  after_first long short (x ∷ xs) goes_on some = after_one long short x xs (x == 45) refl goes_on some

  from_byte : LongHolds → ShortHolds → (b : ℕ) (rest : Text) (same : Bool) → (b == 45) ≡ same → bytes_eq (b ∷ rest) (codes "--") ≡ false
      → is_flag (b ∷ rest) ≡ true → P (b ∷ rest)
  from_byte long short b rest true same goes_on flag =
      subst (λ (z : ℕ). bytes_eq (z ∷ rest) (codes "--") ≡ false → is_flag (z ∷ rest) ≡ true → P (z ∷ rest)) (sym (eqb-true b 45 same))
      (λ e f. after_first long short rest e f) goes_on flag
  from_byte long short b rest false same goes_on flag =
      let bad : is_flag (b ∷ rest) ≡ false = rw same refl in
      absurd (true≢false (sym flag ∙ bad))

  pub by_form : LongHolds → ShortHolds → (word : Text) → bytes_eq word (codes "--") ≡ false → is_flag word ≡ true → P word
  by_form long short [] goes_on flag = absurd (true≢false (sym flag))
  by_form long short (b ∷ rest) goes_on flag = from_byte long short b rest (b == 45) refl goes_on flag

-- no argument has a long or a short name
abbrev pub HasNoFlags : Shape → Type 0
HasNoFlags s = ((name : Text) → arg_by_long s.rules name ≡ None) × ((letter : ℕ) → arg_by_short s.rules letter ≡ None)

module _ (s : Shape) (has_none : HasNoFlags s) (rows : List Row) (pending : Option (Text × List Text)) where
  long_fails : (y : ℕ) (ys : Text) → is_taken (fault_at s rows pending (45 ∷ 45 ∷ y ∷ ys)) ≡ false
  long_fails y ys =
      ap (λ a. is_taken (long_fault s.rules s.args_override_self a (name_and_value (y ∷ ys)).1 (held rows pending)))
      (has_none.0 (name_and_value (y ∷ ys)).0)

  -- a flag is refused
  pub flag_fails : (word : Text) → bytes_eq word (codes "--") ≡ false → is_flag word ≡ true → is_taken (fault_at s rows pending word) ≡ false
  flag_fails = by_form s has_none.1 rows pending (λ word. is_taken (fault_at s rows pending word) ≡ false) long_fails (λ x xs other fails. fails)

-- ---- what clap makes of a long flag of this argument and this value

module _ (s : Shape) where
  abbrev pub long_read : Held → Text → Option Rule → Option Text → Held × Step
  long_read h word a v = after_flag s.rules idle word (long_met s.rules a v h).0 (long_met s.rules a v h).1

  abbrev pub long_turn : Walk → Text → Option Rule → Option Text → Kinds
  long_turn w word a v =
      or_else (long_fault s.rules s.args_override_self a v w.held) (step_fault s w.position (long_read w.held word a v).0 (long_read w.held word a v).1)

  abbrev pub long_walk : Walk → Text → Option Rule → Option Text → Walk
  long_walk w word a v = after_step s.rules word w (long_read w.held word a v).0 (long_read w.held word a v).1

  -- it reads the word as a long flag of this name and this value
  abbrev pub IsLong : Walk → Text → Text → Option Text → Type 0
  IsLong w word name v = (turn_fault s [] w word ≡ long_turn w word (arg_by_long s.rules name) v)
      × (walked s.rules [] w word ≡ long_walk w word (arg_by_long s.rules name) v)

-- ---- the three kinds of words

module _ (s : Shape) (rows : List Row) (pending : Option (Text × List Text)) (position : ℕ) where
  abbrev here : Walk
  here = at rows pending position false

  pub plain_turn : (word : Text) → IsPlain word → turn_fault s [] here word ≡ step_fault s position here.held value
  plain_turn word is_plain =
      let read = plain_met s rows pending idle position word is_plain in
      ap₂ (λ (k : Kinds) (m : Held × Step). or_else k (step_fault s position m.0 m.1)) read.1 read.0

  pub plain_walk : (word : Text) → IsPlain word → walked s.rules [] here word ≡ to_positional s.rules (arg_by_index s.rules position) word here here.held
  unfolding walked
  plain_walk word is_plain =
      let read = plain_met s rows pending idle position word is_plain in
      ap (λ (m : Held × Step). after_step s.rules word here m.0 m.1) read.0

module _ (s : Shape) (has_none : HasNoFlags s) (reads : List Row → Option Command) (rows : List Row) (pending : Option (Text × List Text)) (position : ℕ) where
  ends_here : (k : List Text → Option Command) (words : List Text) → read_from s reads (at rows pending position true) words ≡ k words
      → read_from s reads (at rows pending position false) (codes "--" ∷ words) ≡ k words
  unfolding walked
  ends_here k words after = goes s reads (at rows pending position false) (at rows pending position true) (codes "--") words refl refl ∙ after

  flag_here : (word : Text) (words : List Text) → bytes_eq word (codes "--") ≡ false → is_flag word ≡ true → read_from s reads (at rows pending position false) (word ∷ words) ≡ None
  flag_here word words goes_on flag = refuses s reads (at rows pending position false) word words
      (not_empty (fault_at s rows pending word) _ (flag_fails s has_none rows pending word goes_on flag))

  -- what the words ask for, by what the first looks like
  pub by_word : (k : List Text → Option Command) (word : Text) (words : List Text) → read_from s reads (at rows pending position true) words ≡ k words
      → (IsPlain word → read_from s reads (at rows pending position false) (word ∷ words) ≡ option_and_then (λ values. k (word ∷ values)) (values_in words))
      → read_from s reads (at rows pending position false) (word ∷ words) ≡ option_and_then k (values_in (word ∷ words))
  by_word k word words after as_value = go (bytes_eq word (codes "--")) refl (is_flag word) refl
    where
      go : (ends : Bool) → bytes_eq word (codes "--") ≡ ends → (flag : Bool) → is_flag word ≡ flag
          → read_from s reads (at rows pending position false) (word ∷ words) ≡ option_and_then k (cond ends (Some words) (cond flag None (option_map (λ values. word ∷ values) (values_in words))))
      go true ends flag is_it =
          let is : word ≡ codes "--" = same_text word (codes "--") (sym ends) in
          subst (λ (w : Text). read_from s reads (at rows pending position false) (w ∷ words) ≡ k words) (sym is) (ends_here k words after)
      go false goes_on true is_it = flag_here word words goes_on is_it
      go false goes_on false is_it = as_value (goes_on, is_it) ∙ through (values_in words)
        where
          through : (o : Option (List Text)) → option_and_then (λ values. k (word ∷ values)) o ≡ option_and_then k (option_map (λ values. word ∷ values) o)
          through None = refl
          through (Some values) = refl
