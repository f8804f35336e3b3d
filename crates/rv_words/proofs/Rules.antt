-- What clap holds of the options of `serve` and of its STORE, and what that comes to at the end.
use Rattle.std.proofs.Common.{◌≡◌, ◌∙◌, ◌||◌, ◌++◌, ap, ap₂, refl, subst, sym, inl, inr, List, [], ◌∷◌, Option, Some, None, Bool, cond, true, false, true≢false, append-nil, codes, is_some, map, not, ℕ}
use Rattle.std.specs.Prelude.{◌&&◌, ◌⊎◌, find}
use Rattle.std.specs.List.{AllByRecursion, fold, list_all, list_any}
use Rattle.std.specs.Option.{option_map_or}
use Rattle.std.specs.Str.{bytes_eq}
use Rattle.std.specs.Cmp.Lexicographic.{same_text}
use Rattle.clap.specs.Kinds.{Kinds, check_kinds, or_else}
use Rattle.clap.specs.Walk.{Row, Rule, Text, Walk, arg_by_id, arg_by_long, at_row, default_rows, first_of, has_long, has_row, idle, is_empty, more_values, option, option_word, reading_by, settled_rows, used, used_by_id, with_default, with_values, without}
use Rattle.clap.specs.Simple.{filled, new_rule, with_index}
use Rattle.clap.specs.Faults.{check_fault, default_fault, defaults_fault, given_default_fault, settle_fault, use_fault, walk_fault}
use Rattle.clap.proofs.WalkLemmas.{both}
use Rattle.clap.proofs.SimpleLemmas.{is_nil}
use Rattle.clap.specs.declared.parser.matches.ValueSource.TheVariants.{CommandLine, DefaultValue}
use Rattle.clap.specs.declared.builder.value_parser.Reading.TheVariants.{AsWritten}
use Rattle.rv_words.specs.Table.{required_value}
use Rattle.rv_words.specs.Words.{is_taken, serve_by, serve_in}
use Rattle.rv_words.specs.Plain.{Part, defaults, needed_names, option_names, part_values, parts_from, serve_with}
use Rattle.rv_words.specs.declared.command.Command.{Command}
use Rattle.rv_words.proofs.Leaves.{HasNoLetters, at, held, not_empty, read_from}
use Rattle.rv_words.proofs.Parts.{AreOnce, NeedsWord, ServesNothing, asked, has_any, needs_accounts, needs_connections, needs_poke_port, needs_pokes, needs_port, needs_store, needs_word, needs_workers, once_more, row, rows_more, rows_with, serves_twice}
use Rattle.rv_words.proofs.Defaults.{completed, default_row, given_still, serves_completed, with_default_row}
use Rattle.rv_words.proofs.Verbs.{serve_leaf}

abbrev pub rules : List Rule
rules = serve_leaf.rules

abbrev pub store : Text
store = codes "STORE"

-- ---- the rules of the table

-- an option, by its name: it has its default value, and is required where it has none
abbrev pub option_rule : Text → Rule
option_rule name =
    let values : List Text = part_values defaults name in
    filled (record (new_rule name) { long = Some name; defaults = values; required = not (has_any values) })

abbrev pub store_rule : Rule
store_rule = with_index 1 (filled (required_value store))

-- an argument of one value that is given once at most
pub record IsOnce (a : Rule) : Type 0 where
  pub by_id : arg_by_id rules a.id ≡ Some a
  pub adds : (v : Text) (rows : List Row) → has_row a.id rows ≡ false → used a (v ∷ []) rows ≡ rows ++ row (a.id, v) ∷ []
  pub fine : (v : Text) (rows : List Row) → has_row a.id rows ≡ false → use_fault false a (v ∷ []) rows ≡ []
  pub twice : (v : Text) (rows : List Row) → has_row a.id rows ≡ true → is_taken (use_fault false a (v ∷ []) rows) ≡ false
  pub needed : NeedsWord a.id

pub at_row_missing : (id : Text) (change : Row → List Row) (missing : List Row) (rows : List Row) → has_row id rows ≡ false → at_row id change missing rows ≡ rows ++ missing
at_row_missing id change missing [] none = refl
at_row_missing id change missing (r ∷ rs) none = go (bytes_eq r.id id) (at_row_missing id change missing rs) none
  where
    go : (b : Bool) → (has_row id rs ≡ false → at_row id change missing rs ≡ rs ++ missing) → (b || has_row id rs) ≡ false → cond b (change r ++ rs) (r ∷ at_row id change missing rs) ≡ r ∷ (rs ++ missing)
    go true rest e = absurd (true≢false e)
    go false rest e = ap (λ xs. r ∷ xs) (rest e)

pub adds_row : (id v : Text) (rows : List Row) → has_row id rows ≡ false
    → with_values id AsWritten CommandLine (v ∷ []) (without id rows) ≡ rows ++ row (id, v) ∷ []
adds_row id v rows none =
    ap (with_values id AsWritten CommandLine (v ∷ [])) (at_row_missing id (λ _. []) [] rows none ∙ append-nil rows) ∙ at_row_missing id (more_values CommandLine (v ∷ [])) (row (id, v) ∷ []) rows none

pub store_once : IsOnce store_rule
store_once = record {
  by_id = refl;
  adds = λ v rows none. adds_row store v rows none;
  fine = λ v rows none. rw none refl;
  twice = λ v rows some. rw some refl;
  needed = needs_store;
}

pub option_once : (name : Text) → arg_by_id rules name ≡ Some (option_rule name) → NeedsWord name → IsOnce (option_rule name)
option_once name by_id needed = record {
  by_id = by_id;
  adds = λ v rows none. adds_row name v rows none;
  fine = λ v rows none. rw none refl;
  twice = λ v rows some. rw some refl;
  needed = needed;
}

-- an option's name
pub record IsOption (name : Text) : Type 0 where
  pub once : IsOnce (option_rule name)
  pub by_long : arg_by_long rules name ≡ Some (option_rule name)
  pub gets : (rows : List Row) (word : Text)
      → option_word (Some (option_rule name)) name word (held rows (Some (name, []))) ≡ (held rows (Some (name, word ∷ [])), idle)
  pub no_store : bytes_eq store name ≡ false

pub each_option : AllByRecursion IsOption option_names
each_option = (
  known_as (codes "accounts") refl refl needs_accounts (λ rows word. refl) refl,
  (
    known_as (codes "port") refl refl (needs_word (codes "port") 1 65535 needs_port) (λ rows word. refl) refl,
    (
      known_as (codes "workers") refl refl (needs_word (codes "workers") 1 16 needs_workers) (λ rows word. refl) refl,
      (
        known_as (codes "connections") refl refl (needs_word (codes "connections") 1 1000000 needs_connections) (λ rows word. refl) refl,
        (
          known_as (codes "poke-port") refl refl (needs_word (codes "poke-port") 1 65535 needs_poke_port) (λ rows word. refl) refl,
          (known_as (codes "pokes") refl refl (needs_word (codes "pokes") 0 16 needs_pokes) (λ rows word. refl) refl, tt),
        ),
      ),
    ),
  ),
)
  where
    known_as : (name : Text) → arg_by_id rules name ≡ Some (option_rule name) → arg_by_long rules name ≡ Some (option_rule name) → NeedsWord name
        → ((rows : List Row) (word : Text) → option_word (Some (option_rule name)) name word (held rows (Some (name, []))) ≡ (held rows (Some (name, word ∷ [])), idle))
        → bytes_eq store name ≡ false → IsOption name
    known_as name by_id by_long needed gets no_store =
        record { once = option_once name by_id needed; by_long = by_long; gets = gets; no_store = no_store }

abbrev pub is_known : Text → Bool
is_known name = list_any (λ o. bytes_eq o name) option_names

pub among : (P : Text → Type 0) (name : Text) (names : List Text) → AllByRecursion P names → list_any (λ o. bytes_eq o name) names ≡ true → P name
among P name [] each known = absurd (true≢false (sym known))
among P name (o ∷ os) each known = go (bytes_eq o name) refl (among P name os each.1) known
  where
    go : (b : Bool) → bytes_eq o name ≡ b → (list_any (λ x. bytes_eq x name) os ≡ true → P name) → (b || list_any (λ x. bytes_eq x name) os) ≡ true → P name
    go true same rest e = subst P (same_text o name (sym same)) each.0
    go false same rest e = rest e

pub known_option : (name : Text) → is_known name ≡ true → IsOption name
known_option name known = among IsOption name option_names each_option known

pub unknown_option : (name : Text) → is_known name ≡ false → arg_by_long rules name ≡ None
unknown_option name unknown = go option_names unknown
  where
    go : (names : List Text) → list_any (λ o. bytes_eq o name) names ≡ false → find (λ a. not (is_some a.index) && has_long a name) (map option_rule names) ≡ None
    go [] none = refl
    go (o ∷ os) none = first (bytes_eq o name) none (go os)
      where
        first : (b : Bool) → (b || list_any (λ x. bytes_eq x name) os) ≡ false
            → (list_any (λ x. bytes_eq x name) os ≡ false → find (λ a. not (is_some a.index) && has_long a name) (map option_rule os) ≡ None)
            → cond (b || false) (Some (option_rule o)) (find (λ a. not (is_some a.index) && has_long a name) (map option_rule os)) ≡ None
        first true none rest = absurd (true≢false none)
        first false none rest = rest none

pub no_letters : HasNoLetters serve_leaf
no_letters letter = refl

-- ---- what the walk holds

-- the rows and what is pending come to these parts, of which none is given twice
pub record Fine (rows : List Row) (pending : Option (Text × List Text)) (parts : List Part) : Type 0 where
  pub settles : settle_fault rules false (held rows pending) ≡ []
  pub rows_are : settled_rows rules pending rows ≡ rows_with parts
  pub once : AreOnce parts

-- what is pending is given twice
pub record Broken (rows : List Row) (pending : Option (Text × List Text)) (parts : List Part) : Type 0 where
  pub fails : is_taken (settle_fault rules false (held rows pending)) ≡ false
  pub serves : ServesNothing parts

abbrev pub Holds : List Row → Option (Text × List Text) → List Part → Type 0
Holds rows pending parts = Fine rows pending parts ⊎ Broken rows pending parts

pub settled_holds : (parts : List Part) → AreOnce parts → Holds (rows_with parts) None parts
settled_holds parts once = inl (record { settles = refl; rows_are = refl; once = once })

pub pending_holds : (a : Rule) → IsOnce a → (parts : List Part) (v : Text) → AreOnce parts → Holds (rows_with parts) (Some (a.id, v ∷ [])) (parts ++ (a.id, v) ∷ [])
pending_holds a is parts v once = go (has_row a.id (rows_with parts)) refl
  where
    go : (b : Bool) → has_row a.id (rows_with parts) ≡ b → Holds (rows_with parts) (Some (a.id, v ∷ [])) (parts ++ (a.id, v) ∷ [])
    go true has = inr (record {
      fails = ap (λ o. is_taken (option_map_or (λ r. use_fault false r (v ∷ []) (rows_with parts)) o [])) is.by_id ∙ is.twice v (rows_with parts) has;
      serves = serves_twice parts (a.id, v) is.needed has;
    })
    go false new = inl (record {
      settles = ap (λ o. option_map_or (λ r. use_fault false r (v ∷ []) (rows_with parts)) o []) is.by_id ∙ is.fine v (rows_with parts) new;
      rows_are = ap (λ o. used_by_id o (v ∷ []) (rows_with parts)) is.by_id ∙ is.adds v (rows_with parts) new ∙ rows_more parts (a.id, v);
      once = once_more parts (a.id, v) once new;
    })

-- a STORE has been given
abbrev pub IsStored : Bool → List Part → Type 0
IsStored stored parts = stored ≡ true → has_row store (rows_with parts) ≡ true

abbrev pub position_for : Bool → ℕ
position_for stored = cond stored 2 1

-- where an option waits for its value
abbrev pub waits_at : List Row → Text → ℕ → Bool → Walk
waits_at rows name position ended = record (at rows (Some (name, [])) position ended) { waiting = option name }

abbrev pub reads : Walk → List Text → Option Command
reads = read_from serve_leaf serve_in

abbrev pub stores : List Text → List Part
stores = map (λ v. (store, v))

abbrev pub Idle : List Text → Type 0
Idle words = (rows : List Row) (pending : Option (Text × List Text)) (parts : List Part) (stored : Bool) → Holds rows pending parts → IsStored stored parts
    → reads (at rows pending (position_for stored) false) words ≡ asked parts (parts_from None words)

abbrev pub Ended : List Text → Type 0
Ended words = (rows : List Row) (pending : Option (Text × List Text)) (parts : List Part) (stored : Bool) → Holds rows pending parts → IsStored stored parts
    → reads (at rows pending (position_for stored) true) words ≡ asked parts (Some (stores words))

abbrev pub WaitsForWord : List Text → Type 0
WaitsForWord words = (parts : List Part) (stored : Bool) (name : Text) → IsOption name → AreOnce parts → IsStored stored parts
    → reads (waits_at (rows_with parts) name (position_for stored) false) words ≡ asked parts (parts_from (Some name) words)

-- ---- no word is left

no_default : (rows : List Row) (a : Rule) → is_empty a.defaults ≡ true → with_default rows a ≡ rows
no_default rows a none = ap (λ (vs : List Text). cond (has_row a.id rows) rows (default_rows a.id (reading_by a) vs rows)) (is_nil a.defaults none) ∙ go (has_row a.id rows)
  where
    go : (b : Bool) → cond b rows rows ≡ rows
    go true = refl
    go false = refl

no_defaults : (more : List Rule) (rows : List Row) → list_all (λ a. is_empty a.defaults) more ≡ true → fold with_default rows more ≡ rows
no_defaults [] rows none = refl
no_defaults (a ∷ more) rows none =
    let parts = both (is_empty a.defaults) _ none in
    ap (λ (rs : List Row). fold with_default rs more) (no_default rows a parts.0) ∙ no_defaults more rows parts.1

a_default : (rows : List Row) (part : Part) → cond (has_row part.0 rows) rows (default_rows part.0 AsWritten (part.1 ∷ []) rows) ≡ with_default_row rows part
a_default rows part = go (has_row part.0 rows) refl
  where
    go : (b : Bool) → has_row part.0 rows ≡ b → cond b rows (default_rows part.0 AsWritten (part.1 ∷ []) rows) ≡ cond b rows (rows ++ default_row part ∷ [])
    go true has = refl
    go false new = at_row_missing part.0 (more_values DefaultValue (part.1 ∷ [])) (default_row part ∷ []) rows new

-- the STORE and the first four options have no default, and the other two have
completes : (rows : List Row) → fold with_default rows rules ≡ completed rows
completes rows =
    ap (λ (rs : List Row). with_default (with_default rs (option_rule (codes "poke-port"))) (option_rule (codes "pokes")))
    (no_defaults (store_rule ∷ map option_rule needed_names) rows refl)
    ∙ ap (λ (rs : List Row). with_default rs (option_rule (codes "pokes"))) (a_default rows (codes "poke-port", codes "8091"))
    ∙ a_default (with_default_row rows (codes "poke-port", codes "8091")) (codes "pokes", codes "0")

-- each default is a value that clap takes
abbrev HasFineDefault : Rule → Type 0
HasFineDefault a = given_default_fault a a.defaults ≡ []

fine_default : (rows : List Row) (a : Rule) → HasFineDefault a → default_fault rows a ≡ []
fine_default rows a fine = ap (λ (k : Kinds). cond (has_row a.id rows || is_empty a.defaults) [] k) fine ∙ go (has_row a.id rows || is_empty a.defaults)
  where
    go : (b : Bool) → ◌≡◌ {A = Kinds} (cond b [] []) []
    go true = refl
    go false = refl

fine_defaults : (more : List Rule) (rows : List Row) → AllByRecursion HasFineDefault more → defaults_fault rows more ≡ []
unfolding defaults_fault
fine_defaults [] rows fine = refl
fine_defaults (a ∷ more) rows fine = ap₂ or_else (fine_default rows a fine.0) (fine_defaults more (with_default rows a) fine.1)

-- clap wants each of the five
pub wants : (values : Text → Option Text) → (a b c d e : Option Text)
    → values store ≡ a → values (codes "accounts") ≡ b → values (codes "port") ≡ c → values (codes "workers") ≡ d → values (codes "connections") ≡ e
    → cond (is_taken (check_kinds false false (not (is_some a) || (not (is_some b) || (not (is_some c) || (not (is_some d) || (not (is_some e) || false)))))))
    (serve_by values) None ≡ serve_by values
wants values None b c d e is_a is_b is_c is_d is_e = sym (needs_store values is_a)
wants values (Some v) None c d e is_a is_b is_c is_d is_e = sym (needs_accounts values is_b)
wants values (Some v) (Some w) None d e is_a is_b is_c is_d is_e = sym (needs_word (codes "port") 1 65535 needs_port values is_c)
wants values (Some v) (Some w) (Some x) None e is_a is_b is_c is_d is_e = sym (needs_word (codes "workers") 1 16 needs_workers values is_d)
wants values (Some v) (Some w) (Some x) (Some y) None is_a is_b is_c is_d is_e = sym (needs_word (codes "connections") 1 1000000 needs_connections values is_e)
wants values (Some v) (Some w) (Some x) (Some y) (Some z) is_a is_b is_c is_d is_e = refl

pub complete : (parts : List Part)
    → cond (is_taken (check_fault serve_leaf (completed (rows_with parts)) false)) (serve_in (completed (rows_with parts))) None ≡ serve_in (completed (rows_with parts))
complete parts =
    let values : Text → Option Text = λ name. first_of name (completed (rows_with parts)) in
    rw (
      given_still parts store (refl, refl),
      given_still parts (codes "accounts") (refl, refl),
      given_still parts (codes "port") (refl, refl),
      given_still parts (codes "workers") (refl, refl),
      given_still parts (codes "connections") (refl, refl),
    )
    (wants values (values store) (values (codes "accounts")) (values (codes "port")) (values (codes "workers")) (values (codes "connections")) refl refl refl refl refl)

pub ends : (ended stored : Bool) (rows : List Row) (pending : Option (Text × List Text)) (parts : List Part) → Holds rows pending parts
    → reads (at rows pending (position_for stored) ended) [] ≡ asked parts (Some [])
unfolding walk_fault
ends ended stored rows pending parts (inl fine) =
    let h = held rows pending in
    let settled = settled_rows rules pending rows in
    ap (λ (k : Kinds). cond (is_taken (or_else k (or_else (defaults_fault settled rules) (check_fault serve_leaf (fold with_default settled rules) false))))
    (serve_in (fold with_default settled rules)) None) fine.settles
    ∙ ap (λ (k : Kinds). cond (is_taken (or_else k (check_fault serve_leaf (fold with_default settled rules) false))) (serve_in (fold with_default settled rules)) None)
    (fine_defaults rules settled (refl, (refl, (refl, (refl, (refl, (refl, (refl, tt))))))))
    ∙ ap (λ (rs : List Row). cond (is_taken (check_fault serve_leaf rs false)) (serve_in rs) None) (completes settled ∙ ap completed fine.rows_are)
    ∙ complete parts ∙ sym (serves_completed parts fine.once) ∙ sym (ap serve_with (append-nil parts))
ends ended stored rows pending parts (inr broken) =
    rw (not_empty (settle_fault rules false (held rows pending)) _ broken.fails) (sym (broken.serves []))
