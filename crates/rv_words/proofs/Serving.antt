-- How clap reads the words of `serve`.
use Rattle.std.proofs.Common.{◌≡◌, ◌∙◌, ◌||◌, ◌&&◌, ◌++◌, ◌==◌, ap, ap₂, eqb-true, is_some, refl, subst, sym, inl, inr, List, [], ◌∷◌, Option, Some, None, Bool, cond, true, false, true≢false, codes, ℕ}
use Rattle.std.specs.Prelude.{slice_get, option_and_then}
use Rattle.std.specs.Option.{option_map_or}
use Rattle.std.specs.Str.{bytes_eq, chars}
use Rattle.std.specs.Cmp.Lexicographic.{same_text}
use Rattle.clap.specs.Lexer.{name_and_value}
use Rattle.clap.specs.Kinds.{Kinds, or_else}
use Rattle.clap.specs.Walk.{Held, Row, Rule, Step, Text, Waiting, Walk, after_step, arg_by_index, arg_by_long, has_row, idle, is_pending, next, option, option_word, pushed, settled, settled_rows, to_positional, used, value, walked}
use Rattle.clap.specs.Faults.{long_fault, settle_fault, step_fault, turn_fault, use_fault, walk_fault}
use Rattle.rv_words.specs.Words.{is_taken, serve_in}
use Rattle.rv_words.specs.Plain.{Part, is_flag, is_option, option_name, option_value, parts_from, serve_with, with_part}
use Rattle.rv_words.proofs.Leaves.{IsLong, hyphen_counts, at, by_form, fault_at, goes, held, long_turn, long_walk, not_empty, plain_met, plain_turn, plain_walk, refuses}
use Rattle.rv_words.proofs.Parts.{AreOnce, asked, asked_more, asks_nothing, has_row_last, has_row_more, needs_store, once_more, rows_more, rows_with, serves_twice}
use Rattle.rv_words.proofs.Verbs.{serve_leaf}
use Rattle.rv_words.proofs.Rules.{Broken, Ended, Fine, Holds, Idle, IsOption, IsStored, WaitsForWord, ends, is_known, known_option, no_letters, option_rule, pending_holds, position_for, reads, rules, settled_holds, store, store_once, store_rule, stores, unknown_option, waits_at}

-- ---- a word that is a STORE

passes_by : {X : Type 0} (b : Bool) (x y : X) → cond (b && false) x y ≡ y
passes_by true x y = refl
passes_by false x y = refl

or_false : (b : Bool) → (b || false) ≡ b
or_false true = refl
or_false false = refl

-- clap takes the word for a value
abbrev IsTaken : Walk → Text → Type 0
IsTaken w word = (turn_fault serve_leaf [] w word ≡ step_fault serve_leaf w.position w.held value)
    × (walked rules [] w word ≡ to_positional rules (arg_by_index rules w.position) word w w.held)

-- the words after a STORE ask for this
abbrev FollowsFlag : Bool → List Text → Option (List Part) → Type 0
FollowsFlag ended words more = (rows : List Row) (pending : Option (Text × List Text)) (parts : List Part) → Holds rows pending parts → IsStored true parts
    → reads (at rows pending 2 ended) words ≡ asked parts more

first_store : (ended : Bool) (rows : List Row) (pending : Option (Text × List Text)) (parts : List Part) (word : Text) (words : List Text) (more : Option (List Part))
    → Fine rows pending parts → IsTaken (at rows pending 1 ended) word → FollowsFlag ended words more
    → reads (at rows pending 1 ended) (word ∷ words) ≡ asked parts (with_part (store, word) more)
first_store ended rows pending parts word words more fine taken follows =
    let h = held rows pending in
    let b = is_pending store_rule pending in
    goes serve_leaf serve_in (at rows pending 1 ended) (at (rows_with parts) (Some (store, word ∷ [])) 2 ended) word words
    (taken.0 ∙ passes_by b [] (settle_fault rules false h) ∙ fine.settles)
    (taken.1 ∙ ap₂ (λ (k : Held) (t : Bool). record { held = pushed store word k; waiting = idle; position = 2; is_trailing = t; stopped = None }) (passes_by b h (settled rules h)) (or_false ended)
    ∙ ap (λ rs. at rs (Some (store, word ∷ [])) 2 ended) fine.rows_are)
    ∙ follows (rows_with parts) (Some (store, word ∷ [])) (parts ++ (store, word) ∷ []) (pending_holds store_rule store_once parts word fine.once)
    (λ _. has_row_last parts (store, word))
    ∙ sym (asked_more parts (store, word) more)

a_store : (ended stored : Bool) (rows : List Row) (pending : Option (Text × List Text)) (parts : List Part) (word : Text) (words : List Text) (more : Option (List Part))
    → Holds rows pending parts → IsStored stored parts → IsTaken (at rows pending (position_for stored) ended) word → FollowsFlag ended words more
    → reads (at rows pending (position_for stored) ended) (word ∷ words) ≡ asked parts (with_part (store, word) more)
a_store ended true rows pending parts word words more holds has taken follows =
    refuses serve_leaf serve_in (at rows pending 2 ended) word words (ap is_taken taken.0)
    ∙ sym (asked_more parts (store, word) more ∙ asks_nothing (parts ++ (store, word) ∷ []) more (serves_twice parts (store, word) needs_store (has refl)))
a_store ended false rows pending parts word words more (inl fine) has taken follows = first_store ended rows pending parts word words more fine taken follows
a_store ended false rows pending parts word words more (inr broken) has taken follows =
    refuses serve_leaf serve_in (at rows pending 1 ended) word words
    (ap is_taken (taken.0 ∙ passes_by (is_pending store_rule pending) [] (settle_fault rules false (held rows pending))) ∙ broken.fails)
    ∙ sym (asks_nothing parts (with_part (store, word) more) broken.serves)

ended_word : (word : Text) (words : List Text) → Ended words → Ended (word ∷ words)
unfolding walked
ended_word word words rest rows pending parts stored holds has =
    a_store true stored rows pending parts word words (Some (stores words)) holds has (refl, refl) (λ rs p ps hs is. rest rs p ps true hs is)

-- ---- a word that is an option

-- the parts of an option and the words after it
abbrev option_parts : Text → Option Text → List Text → Option (List Part)
option_parts name v words = option_map_or (λ x. with_part (name, x) (parts_from None words)) v (parts_from (Some name) words)

module _ (rows : List Row) (pending : Option (Text × List Text)) (parts : List Part) (stored : Bool) (has : IsStored stored parts)
    (word : Text) (words : List Text) (idles : Idle words) (waits : WaitsForWord words) where
  abbrev here : Walk
  here = at rows pending (position_for stored) false

  abbrev h : Held
  h = held rows pending

  -- an option after one that is given twice
  after_twice : (name : Text) (v : Option Text) → Broken rows pending parts → IsOption name → IsLong serve_leaf here word name v
      → reads here (word ∷ words) ≡ asked parts (option_parts name v words)
  after_twice name None broken is long =
      refuses serve_leaf serve_in here word words
      (ap is_taken (long.0 ∙ ap (λ a. long_turn serve_leaf here word a None) is.by_long) ∙ not_empty (settle_fault rules false h) [] broken.fails)
      ∙ sym (asks_nothing parts (option_parts name None words) broken.serves)
  after_twice name (Some v) broken is long =
      refuses serve_leaf serve_in here word words
      (ap is_taken (long.0 ∙ ap (λ a. long_turn serve_leaf here word a (Some v)) is.by_long)
      ∙ not_empty _ [] (not_empty (settle_fault rules false h) (use_fault false (option_rule name) (v ∷ []) (settled_rows rules pending rows)) broken.fails))
      ∙ sym (asks_nothing parts (option_parts name (Some v) words) broken.serves)

  -- an option whose value is in the next word
  bare : (name : Text) → Fine rows pending parts → IsOption name → IsLong serve_leaf here word name None → reads here (word ∷ words) ≡ asked parts (parts_from (Some name) words)
  bare name fine is long =
      goes serve_leaf serve_in here (waits_at (rows_with parts) name (position_for stored) false) word words
      (long.0 ∙ ap (λ a. long_turn serve_leaf here word a None) is.by_long ∙ ap (λ k. or_else k []) fine.settles)
      (long.1 ∙ ap (λ a. long_walk serve_leaf here word a None) is.by_long ∙ ap (λ rs. waits_at rs name (position_for stored) false) fine.rows_are)
      ∙ waits parts stored name is fine.once has

  -- an option with its value
  joined : (name v : Text) → Fine rows pending parts → IsOption name → IsLong serve_leaf here word name (Some v)
      → reads here (word ∷ words) ≡ asked parts (with_part (name, v) (parts_from None words))
  joined name v fine is long = go (has_row name (rows_with parts)) refl
    where
      a : Rule
      a = option_rule name

      turn_is : turn_fault serve_leaf [] here word ≡ or_else (use_fault false (option_rule name) (v ∷ []) (rows_with parts)) []
      turn_is = long.0 ∙ ap (λ o. long_turn serve_leaf here word o (Some v)) is.by_long
          ∙ ap₂ (λ (k : Kinds) (rs : List Row). or_else (or_else k (use_fault false (option_rule name) (v ∷ []) rs)) []) fine.settles fine.rows_are

      go : (b : Bool) → has_row name (rows_with parts) ≡ b → reads here (word ∷ words) ≡ asked parts (with_part (name, v) (parts_from None words))
      go true twice =
          refuses serve_leaf serve_in here word words
          (ap is_taken turn_is ∙ not_empty (use_fault false (option_rule name) (v ∷ []) (rows_with parts)) [] (is.once.twice v (rows_with parts) twice))
          ∙ sym (asked_more parts (name, v) (parts_from None words)
          ∙ asks_nothing (parts ++ (name, v) ∷ []) (parts_from None words) (serves_twice parts (name, v) is.once.needed twice))
      go false new =
          goes serve_leaf serve_in here (at (rows_with (parts ++ (name, v) ∷ [])) None (position_for stored) false) word words
          (turn_is ∙ ap (λ k. or_else k []) (is.once.fine v (rows_with parts) new))
          (long.1 ∙ ap (λ o. long_walk serve_leaf here word o (Some v)) is.by_long
          ∙ ap (λ rs. at (used (option_rule name) (v ∷ []) rs) None (position_for stored) false) fine.rows_are
          ∙ ap (λ rs. at rs None (position_for stored) false) (is.once.adds v (rows_with parts) new ∙ rows_more parts (name, v)))
          ∙ idles (rows_with (parts ++ (name, v) ∷ [])) None (parts ++ (name, v) ∷ []) stored
          (settled_holds (parts ++ (name, v) ∷ []) (once_more parts (name, v) fine.once new))
          (λ e. has_row_more parts ((name, v) ∷ []) store (has e))
          ∙ sym (asked_more parts (name, v) (parts_from None words))

  an_option : (name : Text) (v : Option Text) → Holds rows pending parts → IsOption name → IsLong serve_leaf here word name v
      → reads here (word ∷ words) ≡ asked parts (option_parts name v words)
  an_option name v (inr broken) is long = after_twice name v broken is long
  an_option name None (inl fine) is long = bare name fine is long
  an_option name (Some v) (inl fine) is long = joined name v fine is long

-- ---- any word, where nothing waits

-- an option is a flag
pub no_option : (word : Text) → is_flag word ≡ false → is_option word ≡ false
no_option [] plain = refl
no_option (b ∷ []) plain = elim (b == 45) as (λ x. ((x && false) && is_known (option_name (b ∷ []))) ≡ false) [ true ↦ refl | false ↦ refl ]
no_option (b ∷ c ∷ rest) plain = go (b == 45) refl (c == 45) refl
  where
    go : (x : Bool) → (b == 45) ≡ x → (y : Bool) → (c == 45) ≡ y → ((x && (y && true)) && is_known (option_name (b ∷ c ∷ rest))) ≡ false
    go true first true second =
        let some : is_some (slice_get (chars (c ∷ rest)) 0) ≡ true = subst (λ (z : ℕ). is_some (slice_get (chars (z ∷ rest)) 0) ≡ true) (sym (eqb-true c 45 second)) (hyphen_counts rest) in
        absurd (true≢false (sym (ap₂ (λ x y. x && y) first some) ∙ plain))
    go true first false second = refl
    go false first y second = refl

-- a long flag of another name is refused
unknown_long : (rows : List Row) (pending : Option (Text × List Text)) (y : ℕ) (ys : Text) → is_known (name_and_value (y ∷ ys)).0 ≡ false
    → is_taken (fault_at serve_leaf rows pending (45 ∷ 45 ∷ y ∷ ys)) ≡ false
unknown_long rows pending y ys unknown =
    ap (λ a. is_taken (long_fault rules false a (name_and_value (y ∷ ys)).1 (held rows pending))) (unknown_option (name_and_value (y ∷ ys)).0 unknown)

module _ (rows : List Row) (pending : Option (Text × List Text)) (parts : List Part) (stored : Bool) (holds : Holds rows pending parts) (has : IsStored stored parts)
    (words : List Text) (idles : Idle words) (waits : WaitsForWord words) (ended : Ended words) where
  abbrev at_flag : Text → Option (List Part)
  at_flag word = cond (is_option word) (option_parts (option_name word) (option_value word) words) None

  abbrev flag_is : Text → Type 0
  flag_is word = reads (at rows pending (position_for stored) false) (word ∷ words) ≡ asked parts (at_flag word)

  long_flag : (y : ℕ) (ys : Text) → flag_is (45 ∷ 45 ∷ y ∷ ys)
  unfolding walked
  long_flag y ys = go (is_known (name_and_value (y ∷ ys)).0) refl
    where
      go : (known : Bool) → is_known (name_and_value (y ∷ ys)).0 ≡ known
          → reads (at rows pending (position_for stored) false) ((45 ∷ 45 ∷ y ∷ ys) ∷ words)
          ≡ asked parts (cond known (option_parts (name_and_value (y ∷ ys)).0 (name_and_value (y ∷ ys)).1 words) None)
      go true known = an_option rows pending parts stored has (45 ∷ 45 ∷ y ∷ ys) words idles waits (name_and_value (y ∷ ys)).0 (name_and_value (y ∷ ys)).1 holds
          (known_option (name_and_value (y ∷ ys)).0 known) (refl, refl)
      go false unknown = refuses serve_leaf serve_in (at rows pending (position_for stored) false) (45 ∷ 45 ∷ y ∷ ys) words
          (not_empty (fault_at serve_leaf rows pending (45 ∷ 45 ∷ y ∷ ys)) _ (unknown_long rows pending y ys unknown))

  short_flag : (x : ℕ) (xs : Text) → (x == 45) ≡ false → is_taken (fault_at serve_leaf rows pending (45 ∷ x ∷ xs)) ≡ false → flag_is (45 ∷ x ∷ xs)
  short_flag x xs other fails =
      let none : is_option (45 ∷ x ∷ xs) ≡ false = rw other refl in
      refuses serve_leaf serve_in (at rows pending (position_for stored) false) (45 ∷ x ∷ xs) words (not_empty (fault_at serve_leaf rows pending (45 ∷ x ∷ xs)) _ fails)
      ∙ sym (ap (λ b. asked parts (cond b (option_parts (option_name (45 ∷ x ∷ xs)) (option_value (45 ∷ x ∷ xs)) words) None)) none)

  idle_word : (word : Text) → reads (at rows pending (position_for stored) false) (word ∷ words) ≡ asked parts (parts_from None (word ∷ words))
  unfolding walked
  idle_word word = go (bytes_eq word (codes "--")) refl (is_flag word) refl
    where
      go : (closes : Bool) → bytes_eq word (codes "--") ≡ closes → (flag : Bool) → is_flag word ≡ flag
          → reads (at rows pending (position_for stored) false) (word ∷ words)
          ≡ asked parts (cond closes (Some (stores words)) (cond (is_option word) (option_parts (option_name word) (option_value word) words) (cond flag None (with_part (store, word) (parts_from None words)))))
      go true closes flag is_it =
          let is : word ≡ codes "--" = same_text word (codes "--") (sym closes) in
          subst (λ (w : Text). reads (at rows pending (position_for stored) false) (w ∷ words) ≡ asked parts (Some (stores words))) (sym is)
          (goes serve_leaf serve_in (at rows pending (position_for stored) false) (at rows pending (position_for stored) true) (codes "--") words refl refl
          ∙ ended rows pending parts stored holds has)
      go false goes_on true is_it = by_form serve_leaf no_letters rows pending flag_is long_flag short_flag word goes_on is_it
      go false goes_on false is_it =
          a_store false stored rows pending parts word words (parts_from None words) holds has
          (plain_turn serve_leaf rows pending (position_for stored) word (goes_on, is_it), plain_walk serve_leaf rows pending (position_for stored) word (goes_on, is_it))
          (λ rs p ps held_so is. idles rs p ps true held_so is)
          ∙ sym (ap (λ b. asked parts (cond b (option_parts (option_name word) (option_value word) words) (with_part (store, word) (parts_from None words)))) (no_option word is_it))

-- ---- any word, where an option waits

pub closing_is_flag : is_flag (codes "--") ≡ true
unfolding chars
closing_is_flag = refl

-- an option with no value
no_value_fault : (name : Text) → IsOption name → (rows : List Row) → is_taken (settle_fault rules false (held rows (Some (name, [])))) ≡ false
no_value_fault name is rows = ap (λ o. is_taken (option_map_or (λ a. use_fault false a [] rows) o [])) is.once.by_id

-- after `--` it gets none
never_gets : (rows : List Row) (stored : Bool) (name : Text) → IsOption name → (words : List Text) → reads (waits_at rows name (position_for stored) true) words ≡ None
unfolding walk_fault
never_gets rows stored name is [] = rw (not_empty (settle_fault rules false (held rows (Some (name, [])))) _ (no_value_fault name is rows)) refl
never_gets rows true name is (word ∷ words) = refuses serve_leaf serve_in (waits_at rows name 2 true) word words refl
never_gets rows false name is (word ∷ words) =
    refuses serve_leaf serve_in (waits_at rows name 1 true) word words
    (ap is_taken (passes_by (is_pending store_rule (Some (name, []))) [] (settle_fault rules false (held rows (Some (name, []))))) ∙ no_value_fault name is rows)

module _ (parts : List Part) (stored : Bool) (name : Text) (is : IsOption name) (once : AreOnce parts) (has : IsStored stored parts) where
  abbrev waiting : Walk
  waiting = waits_at (rows_with parts) name (position_for stored) false

  no_next : reads waiting [] ≡ None
  unfolding walk_fault
  no_next = rw (not_empty (settle_fault rules false (held (rows_with parts) (Some (name, [])))) _ (no_value_fault name is (rows_with parts))) refl

  abbrev refused : Text → Type 0
  refused word = is_taken (fault_at serve_leaf (rows_with parts) (Some (name, [])) word) ≡ false

  known_long : (o : Text) (v : Option Text) → IsOption o → is_taken (long_fault rules false (arg_by_long rules o) v (held (rows_with parts) (Some (name, [])))) ≡ false
  known_long o None is_o = ap (λ a. is_taken (long_fault rules false a None (held (rows_with parts) (Some (name, []))))) is_o.by_long ∙ no_value_fault name is (rows_with parts)
  known_long o (Some v) is_o = ap (λ a. is_taken (long_fault rules false a (Some v) (held (rows_with parts) (Some (name, []))))) is_o.by_long
      ∙ not_empty (settle_fault rules false (held (rows_with parts) (Some (name, [])))) _ (no_value_fault name is (rows_with parts))

  long_next : (y : ℕ) (ys : Text) → refused (45 ∷ 45 ∷ y ∷ ys)
  long_next y ys = go (is_known (name_and_value (y ∷ ys)).0) refl
    where
      go : (known : Bool) → is_known (name_and_value (y ∷ ys)).0 ≡ known → is_taken (fault_at serve_leaf (rows_with parts) (Some (name, [])) (45 ∷ 45 ∷ y ∷ ys)) ≡ false
      go true known = known_long (name_and_value (y ∷ ys)).0 (name_and_value (y ∷ ys)).1 (known_option (name_and_value (y ∷ ys)).0 known)
      go false unknown = unknown_long (rows_with parts) (Some (name, [])) y ys unknown

  waiting_word : (word : Text) (words : List Text) → Idle words → reads waiting (word ∷ words) ≡ asked parts (parts_from (Some name) (word ∷ words))
  unfolding walked
  waiting_word word words idles = go (bytes_eq word (codes "--")) refl (is_flag word) refl
    where
      go : (closes : Bool) → bytes_eq word (codes "--") ≡ closes → (flag : Bool) → is_flag word ≡ flag
          → reads waiting (word ∷ words) ≡ asked parts (cond flag None (with_part (name, word) (parts_from None words)))
      go true closes flag is_it =
          let closing : word ≡ codes "--" = same_text word (codes "--") (sym closes) in
          let flag_is : flag ≡ true = sym is_it ∙ ap is_flag closing ∙ closing_is_flag in
          ap (λ (w : Text). reads waiting (w ∷ words)) closing
          ∙ goes serve_leaf serve_in waiting (waits_at (rows_with parts) name (position_for stored) true) (codes "--") words refl refl
          ∙ never_gets (rows_with parts) stored name is words
          ∙ sym (ap (λ b. asked parts (cond b None (with_part (name, word) (parts_from None words)))) flag_is)
      go false goes_on true is_it = refuses serve_leaf serve_in waiting word words
          (not_empty (fault_at serve_leaf (rows_with parts) (Some (name, [])) word) _
          (by_form serve_leaf no_letters (rows_with parts) (Some (name, [])) refused long_next (λ x xs other fails. fails) word goes_on is_it))
      go false goes_on false is_it =
          let read = plain_met serve_leaf (rows_with parts) (Some (name, [])) (option name) (position_for stored) word (goes_on, is_it) in
          let gets = read.0 ∙ ap (λ o. ((option_word o name word (held (rows_with parts) (Some (name, [])))).0, next (option_word o name word (held (rows_with parts) (Some (name, [])))).1)) is.once.by_id
          ∙ ap (λ (m : Held × Waiting). (m.0, next m.1)) (is.gets (rows_with parts) word) in
          goes serve_leaf serve_in waiting (at (rows_with parts) (Some (name, word ∷ [])) (position_for stored) false) word words
          (ap₂ (λ (k : Kinds) (m : Held × Step). or_else k (step_fault serve_leaf (position_for stored) m.0 m.1)) read.1 gets)
          (ap (λ (m : Held × Step). after_step rules word waiting m.0 m.1) gets)
          ∙ idles (rows_with parts) (Some (name, word ∷ [])) (parts ++ (name, word) ∷ []) stored
          (pending_holds (option_rule name) is.once parts word once) (λ e. has_row_more parts ((name, word) ∷ []) store (has e))
          ∙ sym (asked_more parts (name, word) (parts_from None words))

-- ---- all words

record Read (words : List Text) : Type 0 where
  idles : Idle words
  waits : WaitsForWord words
  ended : Ended words

all_read : (words : List Text) → Read words
all_read [] = record {
  idles = λ rows pending parts stored holds has. ends false stored rows pending parts holds;
  waits = λ parts stored name is once has. no_next parts stored name is once has;
  ended = λ rows pending parts stored holds has. ends true stored rows pending parts holds;
}
all_read (word ∷ words) =
    let rest = all_read words in
    record {
      idles = λ rows pending parts stored holds has. idle_word rows pending parts stored holds has words rest.idles rest.waits rest.ended word;
      waits = λ parts stored name is once has. waiting_word parts stored name is once has word words rest.idles;
      ended = ended_word word words rest.ended;
    }

-- the words of `serve` ask for what their parts do
pub served : (words : List Text) → reads (at [] None 1 false) words ≡ option_and_then serve_with (parts_from None words)
served words = (all_read words).idles [] None [] false (settled_holds [] (λ name. refl)) (λ e. absurd (true≢false (sym e)))
