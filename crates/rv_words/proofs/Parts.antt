-- The names and values that are given to `serve`, and the rows that clap makes of them.
use Rattle.std.proofs.Common.{◌≡◌, ◌∙◌, ◌||◌, ◌++◌, ap, refl, subst, sym, List, [], ◌∷◌, Option, Some, None, Bool, cond, true, false, true≢false, append-nil, append_assoc, codes, is_some, map, ℕ}
use Rattle.std.specs.Prelude.{find, option_and_then, option_map, slice_get}
use Rattle.std.specs.Option.{option_map_or}
use Rattle.std.proofs.lemmas.List.{map-append}
use Rattle.std.specs.Str.{bytes_eq}
use Rattle.std.specs.Cmp.Lexicographic.{same_text}
use Rattle.clap.specs.Facts.{explicit_source}
use Rattle.clap.specs.Walk.{Row, Text, first_of, has_row}
use Rattle.clap.specs.Takes.{is_given}
use Rattle.clap.specs.declared.parser.matches.ValueSource.TheVariants.{CommandLine}
use Rattle.clap.specs.declared.builder.value_parser.Reading.TheVariants.{AsWritten}
use Rattle.rv_base.specs.PositionLaws.{equals}
use Rattle.rv_base.specs.Options.{◌>>=◌}
use Rattle.rv_words.specs.Numbers.{number_in}
use Rattle.rv_words.specs.Words.{options_with, serve_by}
use Rattle.rv_words.specs.Plain.{Part, defaults, the_value, serve_with, the_only, part_values, values_or, with_part}
use Rattle.rv_words.specs.declared.command.Command.{Command}
use Rattle.rv_words.specs.declared.command.Command.TheVariants.{Serve}
use Rattle.rv_words.specs.declared.serve_options.ServeOptions.{ServeOptions}

abbrev pub row : Part → Row
row part = record { id = part.0; values = part.1 ∷ []; count = None; source = Some CommandLine; reading = AsWritten }

abbrev pub rows_with : List Part → List Row
rows_with parts = map row parts

abbrev pub has_any : List Text → Bool
has_any [] = false
has_any (value ∷ values) = true

pub values_append : (xs ys : List Part) (name : Text) → part_values (xs ++ ys) name ≡ part_values xs name ++ part_values ys name
values_append [] ys name = refl
values_append (x ∷ xs) ys name = go (bytes_eq x.0 name) (values_append xs ys name)
  where
    go : (b : Bool) → part_values (xs ++ ys) name ≡ part_values xs name ++ part_values ys name
        → cond b (x.1 ∷ part_values (xs ++ ys) name) (part_values (xs ++ ys) name) ≡ cond b (x.1 ∷ part_values xs name) (part_values xs name) ++ part_values ys name
    go true e = ap (λ vs. x.1 ∷ vs) e
    go false e = e

-- a name has a row where it has a value
pub has_row_any : (parts : List Part) (name : Text) → has_row name (rows_with parts) ≡ has_any (part_values parts name)
has_row_any [] name = refl
has_row_any (x ∷ xs) name = go (bytes_eq x.0 name) (has_row_any xs name)
  where
    go : (b : Bool) → has_row name (rows_with xs) ≡ has_any (part_values xs name)
        → (b || has_row name (rows_with xs)) ≡ has_any (cond b (x.1 ∷ part_values xs name) (part_values xs name))
    go true e = refl
    go false e = e

-- the first value of a name
pub first_is : (parts : List Part) (name : Text) → first_of name (rows_with parts) ≡ slice_get (part_values parts name) 0
first_is [] name = refl
first_is (x ∷ xs) name = go (bytes_eq x.0 name) (first_is xs name)
  where
    go : (b : Bool) → first_of name (rows_with xs) ≡ slice_get (part_values xs name) 0
        → option_and_then (λ (r : Row). slice_get r.values 0) (cond b (Some (row x)) (find (λ r. bytes_eq r.id name) (rows_with xs)))
        ≡ slice_get (cond b (x.1 ∷ part_values xs name) (part_values xs name)) 0
    go true e = refl
    go false e = e

pub given_is : (parts : List Part) (name : Text) → is_given name (rows_with parts) ≡ is_some (first_of name (rows_with parts))
given_is [] name = refl
given_is (x ∷ xs) name = go (bytes_eq x.0 name) (given_is xs name)
  where
    go : (b : Bool) → is_given name (rows_with xs) ≡ is_some (first_of name (rows_with xs))
        → option_map_or (λ (r : Row). explicit_source r.source) (cond b (Some (row x)) (find (λ r. bytes_eq r.id name) (rows_with xs))) false
        ≡ is_some (option_and_then (λ (r : Row). slice_get r.values 0) (cond b (Some (row x)) (find (λ r. bytes_eq r.id name) (rows_with xs))))
    go true e = refl
    go false e = e

-- ---- no name is given twice

abbrev pub AreOnce : List Part → Type 0
AreOnce parts = (name : Text) → the_only (part_values parts name) ≡ first_of name (rows_with parts)

one_more : (values : List Text) (value : Text) → has_any values ≡ false → the_only (values ++ value ∷ []) ≡ slice_get (values ++ value ∷ []) 0
one_more [] value none = refl
one_more (v ∷ vs) value none = absurd (true≢false none)

pub once_more : (parts : List Part) (part : Part) → AreOnce parts → has_row part.0 (rows_with parts) ≡ false → AreOnce (parts ++ part ∷ [])
once_more parts part once new name =
    ap the_only (values_append parts (part ∷ []) name) ∙ go (bytes_eq part.0 name) refl
    ∙ sym (ap (λ (vs : List Text). slice_get vs 0) (values_append parts (part ∷ []) name)) ∙ sym (first_is (parts ++ part ∷ []) name)
  where
    go : (b : Bool) → bytes_eq part.0 name ≡ b
        → the_only (part_values parts name ++ cond b (part.1 ∷ []) []) ≡ slice_get (part_values parts name ++ cond b (part.1 ∷ []) []) 0
    go true e = one_more (part_values parts name) part.1
        (sym (has_row_any parts name) ∙ subst (λ (n : Text). has_row n (rows_with parts) ≡ false) (same_text part.0 name (sym e)) new)
    go false e = ap the_only (append-nil (part_values parts name)) ∙ once name ∙ first_is parts name
        ∙ sym (ap (λ (vs : List Text). slice_get vs 0) (append-nil (part_values parts name)))

-- ---- a name that is given twice has no value

two_more : (values more others : List Text) (value : Text) → has_any values ≡ true → the_only (values_or (values ++ value ∷ more) others) ≡ None
two_more [] more others value some = absurd (true≢false (sym some))
two_more (v ∷ []) more others value some = refl
two_more (v ∷ u ∷ us) more others value some = refl

pub given_twice : (parts more : List Part) (part : Part) → has_row part.0 (rows_with parts) ≡ true → the_value (parts ++ part ∷ more) part.0 ≡ None
given_twice parts more part has =
    let others : List Text = part_values defaults part.0 in
    ap (λ vs. the_only (values_or vs others)) (values_append parts (part ∷ more) part.0)
    ∙ ap (λ b. the_only (values_or (part_values parts part.0 ++ cond b (part.1 ∷ part_values more part.0) (part_values more part.0)) others)) (equals part.0)
    ∙ two_more (part_values parts part.0) (part_values more part.0) others part.1 (sym (has_row_any parts part.0) ∙ has)

-- ---- what lacks a name serves nothing

abbrev pub NeedsWord : Text → Type 0
NeedsWord name = (values : Text → Option Text) → values name ≡ None → serve_by values ≡ None

no_value : {A B : Type 0} (o : Option A) → option_and_then {T = A} {U = B} (λ x. None) o ≡ None
no_value None = refl
no_value (Some x) = refl

pub needs_store : NeedsWord (codes "STORE")
needs_store values none = rw none refl

pub needs_accounts : NeedsWord (codes "accounts")
needs_accounts values none = rw none (no_value (values (codes "STORE")))

-- ---- what has no number of a name, between the bounds, serves nothing

abbrev pub NeedsNumber : Text → ℕ → ℕ → Type 0
NeedsNumber name least most = (values : Text → Option Text) → option_and_then (number_in least most) (values name) ≡ None → serve_by values ≡ None

-- no number, no options
abbrev pub made : Text → Option ℕ → Option ℕ → Option ℕ → Option ℕ → Option ℕ → Option ServeOptions
made accounts ports crew counts poke_ports jobs = ports >>= (λ port. crew >>= (λ workers. counts >>= (λ connections. poke_ports >>= (λ poke_port. jobs >>= (λ pokes.
    Some (record { accounts = accounts; port = port; workers = workers; connections = connections; poke_port = poke_port; pokes = pokes }))))))

no_crew : (accounts : Text) (a c d e : Option ℕ) → made accounts a None c d e ≡ None
no_crew accounts None c d e = refl
no_crew accounts (Some x) c d e = refl

no_counts : (accounts : Text) (a b d e : Option ℕ) → made accounts a b None d e ≡ None
no_counts accounts None b d e = refl
no_counts accounts (Some x) None d e = refl
no_counts accounts (Some x) (Some y) d e = refl

no_poke_ports : (accounts : Text) (a b c e : Option ℕ) → made accounts a b c None e ≡ None
no_poke_ports accounts None b c e = refl
no_poke_ports accounts (Some x) None c e = refl
no_poke_ports accounts (Some x) (Some y) None e = refl
no_poke_ports accounts (Some x) (Some y) (Some z) e = refl

no_jobs : (accounts : Text) (a b c d : Option ℕ) → made accounts a b c d None ≡ None
no_jobs accounts None b c d = refl
no_jobs accounts (Some x) None c d = refl
no_jobs accounts (Some x) (Some y) None d = refl
no_jobs accounts (Some x) (Some y) (Some z) None = refl
no_jobs accounts (Some x) (Some y) (Some z) (Some u) = refl

module _ (values : Text → Option Text) where
  abbrev pub ports : Option ℕ
  ports = option_and_then (number_in 1 65535) (values (codes "port"))

  abbrev pub crew : Option ℕ
  crew = option_and_then (number_in 1 16) (values (codes "workers"))

  abbrev pub counts : Option ℕ
  counts = option_and_then (number_in 1 1000000) (values (codes "connections"))

  abbrev pub poke_ports : Option ℕ
  poke_ports = option_and_then (number_in 1 65535) (values (codes "poke-port"))

  abbrev pub jobs : Option ℕ
  jobs = option_and_then (number_in 0 16) (values (codes "pokes"))

  -- no options, no command
  no_options : ((accounts : Text) → made accounts ports crew counts poke_ports jobs ≡ None) → serve_by values ≡ None
  unfolding options_with
  no_options none = go (values (codes "STORE")) (values (codes "accounts"))
    where
      go : (store accounts : Option Text)
          → option_and_then (λ s. option_map (λ options. Serve s options) (option_and_then (options_with values) accounts)) store ≡ None
      go None accounts = refl
      go (Some s) None = refl
      go (Some s) (Some a) = ap (λ o. option_map (λ options. Serve s options) o) (none a)

pub needs_port : NeedsNumber (codes "port") 1 65535
needs_port values none = no_options values (λ accounts. ap (λ o. made accounts o (crew values) (counts values) (poke_ports values) (jobs values)) none)

pub needs_workers : NeedsNumber (codes "workers") 1 16
needs_workers values none = no_options values (λ accounts.
    ap (λ o. made accounts (ports values) o (counts values) (poke_ports values) (jobs values)) none
    ∙ no_crew accounts (ports values) (counts values) (poke_ports values) (jobs values))

pub needs_connections : NeedsNumber (codes "connections") 1 1000000
needs_connections values none = no_options values (λ accounts.
    ap (λ o. made accounts (ports values) (crew values) o (poke_ports values) (jobs values)) none
    ∙ no_counts accounts (ports values) (crew values) (poke_ports values) (jobs values))

pub needs_poke_port : NeedsNumber (codes "poke-port") 1 65535
needs_poke_port values none = no_options values (λ accounts.
    ap (λ o. made accounts (ports values) (crew values) (counts values) o (jobs values)) none
    ∙ no_poke_ports accounts (ports values) (crew values) (counts values) (jobs values))

pub needs_pokes : NeedsNumber (codes "pokes") 0 16
needs_pokes values none = no_options values (λ accounts.
    ap (λ o. made accounts (ports values) (crew values) (counts values) (poke_ports values) o) none
    ∙ no_jobs accounts (ports values) (crew values) (counts values) (poke_ports values))

-- a name of a number is needed
pub needs_word : (name : Text) (least most : ℕ) → NeedsNumber name least most → NeedsWord name
needs_word name least most needed values none = needed values (ap (option_and_then (number_in least most)) none)

-- ---- more parts

pub rows_more : (parts : List Part) (part : Part) → rows_with parts ++ row part ∷ [] ≡ rows_with (parts ++ part ∷ [])
rows_more parts part = sym (map-append row parts (part ∷ []))

any_left : (xs ys : List Text) → has_any xs ≡ true → has_any (xs ++ ys) ≡ true
any_left [] ys some = absurd (true≢false (sym some))
any_left (x ∷ xs) ys some = refl

any_last : (xs : List Text) (y : Text) → has_any (xs ++ y ∷ []) ≡ true
any_last [] y = refl
any_last (x ∷ xs) y = refl

-- a name that has a row keeps it
pub has_row_more : (parts more : List Part) (name : Text) → has_row name (rows_with parts) ≡ true → has_row name (rows_with (parts ++ more)) ≡ true
has_row_more parts more name has =
    has_row_any (parts ++ more) name ∙ ap has_any (values_append parts more name)
    ∙ any_left (part_values parts name) (part_values more name) (sym (has_row_any parts name) ∙ has)

pub has_row_last : (parts : List Part) (part : Part) → has_row part.0 (rows_with (parts ++ part ∷ [])) ≡ true
has_row_last parts part =
    has_row_any (parts ++ part ∷ []) part.0 ∙ ap has_any (values_append parts (part ∷ []) part.0)
    ∙ ap (λ b. has_any (part_values parts part.0 ++ cond b (part.1 ∷ []) [])) (equals part.0) ∙ any_last (part_values parts part.0) part.1

-- what parts ask for with those after them
abbrev pub asked : List Part → Option (List Part) → Option Command
asked parts more = option_and_then (λ ps. serve_with (parts ++ ps)) more

pub asked_more : (parts : List Part) (part : Part) (more : Option (List Part)) → asked parts (with_part part more) ≡ asked (parts ++ part ∷ []) more
asked_more parts part None = refl
asked_more parts part (Some ps) = ap serve_with (sym (append_assoc parts (part ∷ []) ps))

abbrev pub ServesNothing : List Part → Type 0
ServesNothing parts = (more : List Part) → serve_with (parts ++ more) ≡ None

pub asks_nothing : (parts : List Part) (more : Option (List Part)) → ServesNothing parts → asked parts more ≡ None
asks_nothing parts None none = refl
asks_nothing parts (Some ps) none = none ps

pub serves_twice : (parts : List Part) (part : Part) → NeedsWord part.0 → has_row part.0 (rows_with parts) ≡ true → ServesNothing (parts ++ part ∷ [])
serves_twice parts part needed has more =
    ap serve_with (append_assoc parts (part ∷ []) more) ∙ needed (the_value (parts ++ part ∷ more)) (given_twice parts more part has)
