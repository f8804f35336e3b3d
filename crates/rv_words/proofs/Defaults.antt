-- The rows that clap makes of the options that are left out.
use Rattle.std.proofs.Common.{◌≡◌, ◌∙◌, ◌||◌, ◌++◌, ap, ap₂, refl, subst, sym, List, [], ◌∷◌, Option, Some, None, Bool, cond, true, false, true≢false, codes, is_some}
use Rattle.std.specs.Prelude.{find, option_and_then, slice_get}
use Rattle.std.specs.List.{fold}
use Rattle.std.specs.Option.{option_map_or}
use Rattle.std.specs.Str.{bytes_eq}
use Rattle.std.specs.Cmp.Lexicographic.{same_text}
use Rattle.clap.specs.Facts.{explicit_source}
use Rattle.clap.specs.Walk.{Row, Text, first_of, has_row}
use Rattle.clap.specs.Takes.{is_given}
use Rattle.clap.specs.declared.parser.matches.ValueSource.TheVariants.{DefaultValue}
use Rattle.clap.specs.declared.builder.value_parser.Reading.TheVariants.{AsWritten}
use Rattle.rv_words.specs.Words.{serve_by, serve_in}
use Rattle.rv_words.specs.Plain.{Part, defaults, part_values, serve_with, the_only, the_value, values_or}
use Rattle.rv_words.proofs.Parts.{AreOnce, given_is, has_any, has_row_any, rows_with}

abbrev pub default_row : Part → Row
default_row part = record { id = part.0; values = part.1 ∷ []; count = None; source = Some DefaultValue; reading = AsWritten }

abbrev pub with_default_row : List Row → Part → List Row
with_default_row rows part = cond (has_row part.0 rows) rows (rows ++ default_row part ∷ [])

-- the rows with those of the options that are left out
abbrev pub completed : List Row → List Row
completed rows = fold with_default_row rows defaults

-- ---- the row of a name

abbrev found : Text → List Row → Option Row
found name = find (λ r. bytes_eq r.id name)

abbrev or_found : Option Row → Option Row → Option Row
or_found (Some r) other = Some r
or_found None other = other

abbrev row_if : Bool → Part → Option Row
row_if same part = cond same (Some (default_row part)) None

has_found : (rows : List Row) (name : Text) → has_row name rows ≡ is_some (found name rows)
has_found [] name = refl
has_found (r ∷ rs) name = go (bytes_eq r.id name) (has_found rs name)
  where
    go : (b : Bool) → has_row name rs ≡ is_some (found name rs) → (b || has_row name rs) ≡ is_some (cond b (Some r) (found name rs))
    go true e = refl
    go false e = e

-- one row more
found_more : (rows : List Row) (part : Part) (name : Text) → found name (rows ++ default_row part ∷ []) ≡ or_found (found name rows) (row_if (bytes_eq part.0 name) part)
found_more [] part name = refl
found_more (r ∷ rs) part name = go (bytes_eq r.id name) (found_more rs part name)
  where
    go : (b : Bool) → found name (rs ++ default_row part ∷ []) ≡ or_found (found name rs) (row_if (bytes_eq part.0 name) part)
        → cond b (Some r) (found name (rs ++ default_row part ∷ [])) ≡ or_found (cond b (Some r) (found name rs)) (row_if (bytes_eq part.0 name) part)
    go true e = refl
    go false e = e

-- a row that is there stays the first of its name
found_there : (rows : List Row) (part : Part) (name : Text) → has_row part.0 rows ≡ true → found name rows ≡ or_found (found name rows) (row_if (bytes_eq part.0 name) part)
found_there rows part name has = go (found name rows) refl (bytes_eq part.0 name) refl
  where
    go : (o : Option Row) → found name rows ≡ o → (same : Bool) → bytes_eq part.0 name ≡ same → o ≡ or_found o (row_if same part)
    go (Some r) is same e = refl
    go None is true e = absurd (true≢false (sym has ∙ ap (λ n. has_row n rows) (same_text part.0 name (sym e)) ∙ has_found rows name ∙ ap is_some is))
    go None is false e = refl

found_default : (rows : List Row) (part : Part) (name : Text) → found name (with_default_row rows part) ≡ or_found (found name rows) (row_if (bytes_eq part.0 name) part)
found_default rows part name = go (has_row part.0 rows) refl
  where
    go : (b : Bool) → has_row part.0 rows ≡ b → found name (cond b rows (rows ++ default_row part ∷ [])) ≡ or_found (found name rows) (row_if (bytes_eq part.0 name) part)
    go true has = found_there rows part name has
    go false new = found_more rows part name

abbrev poke_port : Part
poke_port = (codes "poke-port", codes "8091")

abbrev pokes : Part
pokes = (codes "pokes", codes "0")

found_completed : (rows : List Row) (name : Text)
    → found name (completed rows) ≡ or_found (or_found (found name rows) (row_if (bytes_eq (codes "poke-port") name) poke_port)) (row_if (bytes_eq (codes "pokes") name) pokes)
found_completed rows name =
    found_default (with_default_row rows poke_port) pokes name
    ∙ ap (λ o. or_found o (row_if (bytes_eq (codes "pokes") name) pokes)) (found_default rows poke_port name)

-- ---- a name that has no default

abbrev pub HasNoDefault : Text → Type 0
HasNoDefault name = (bytes_eq (codes "poke-port") name ≡ false) × (bytes_eq (codes "pokes") name ≡ false)

found_still : (rows : List Row) (name : Text) → HasNoDefault name → found name (completed rows) ≡ found name rows
found_still rows name none =
    found_completed rows name ∙ ap₂ (λ x y. or_found (or_found (found name rows) (row_if x poke_port)) (row_if y pokes)) none.0 none.1 ∙ go (found name rows)
  where
    go : (o : Option Row) → or_found (or_found o None) None ≡ o
    go None = refl
    go (Some r) = refl

pub given_still : (parts : List Part) (name : Text) → HasNoDefault name → is_given name (completed (rows_with parts)) ≡ is_some (first_of name (completed (rows_with parts)))
given_still parts name none =
    let still = found_still (rows_with parts) name none in
    ap (λ (o : Option Row). option_map_or (λ r. explicit_source r.source) o false) still
    ∙ given_is parts name
    ∙ sym (ap (λ (o : Option Row). is_some (option_and_then (λ r. slice_get r.values 0) o)) still)

-- ---- any name

-- the value of a name, by the values that are given and by the first row of it
value_is : (values : List Text) (o : Option Row) (p q : Bool) → has_any values ≡ is_some o → the_only values ≡ option_and_then (λ r. slice_get r.values 0) o → (p ≡ true → q ≡ false)
    → the_only (values_or values (cond p (codes "8091" ∷ cond q (codes "0" ∷ []) []) (cond q (codes "0" ∷ []) [])))
    ≡ option_and_then (λ r. slice_get r.values 0) (or_found (or_found o (row_if p poke_port)) (row_if q pokes))
value_is [] None true true has once apart = absurd (true≢false (apart refl))
value_is [] None true false has once apart = refl
value_is [] None false true has once apart = refl
value_is [] None false false has once apart = refl
value_is [] (Some r) p q has once apart = absurd (true≢false (sym has))
value_is (v ∷ vs) None p q has once apart = absurd (true≢false has)
value_is (v ∷ vs) (Some r) p q has once apart = once

not_pokes : (name : Text) → bytes_eq (codes "poke-port") name ≡ true → bytes_eq (codes "pokes") name ≡ false
not_pokes name is = subst (λ n. bytes_eq (codes "pokes") n ≡ false) (same_text (codes "poke-port") name (sym is)) refl

pub value_completed : (parts : List Part) → AreOnce parts → (name : Text) → the_value parts name ≡ first_of name (completed (rows_with parts))
value_completed parts once name =
    let rows : List Row = rows_with parts in
    value_is (part_values parts name) (found name rows) (bytes_eq (codes "poke-port") name) (bytes_eq (codes "pokes") name)
    (sym (has_row_any parts name) ∙ has_found rows name) (once name) (not_pokes name)
    ∙ sym (ap (λ (o : Option Row). option_and_then (λ r. slice_get r.values 0) o) (found_completed rows name))

-- what is given once serves what clap's rows do
pub serves_completed : (parts : List Part) → AreOnce parts → serve_with parts ≡ serve_in (completed (rows_with parts))
serves_completed parts once = ap serve_by (λ i name. value_completed parts once name i)
