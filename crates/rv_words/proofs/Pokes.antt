-- What the options of pokes add to words that ask to serve.
use Rattle.std.proofs.Common.{◌≡◌, ◌∙◌, ◌+◌, ◌++◌, ◌||◌, ap, ap₂, arith, refl, subst, sym, List, [], ◌∷◌, Option, Some, None, Bool, cond, true, false, true≢false, codes, decimal, is_some, length, ℕ}
use Rattle.std.specs.Prelude.{option_and_then, option_map}
use Rattle.std.specs.Fmt.{digits}
use Rattle.std.specs.Int.{IsInRange}
use Rattle.std.specs.List.{list_any}
use Rattle.std.specs.Option.{option_map_or}
use Rattle.std.specs.Str.{bytes_eq}
use Rattle.rv_base.specs.PositionLaws.{equals}
use Rattle.rv_words.specs.Numbers.{number_in}
use Rattle.rv_words.specs.Words.{options_with, serve_by}
use Rattle.rv_words.specs.Plain.{Part, defaults, is_flag, is_option, option_name, option_value, part_values, parts_from, serve_with, the_only, the_value, values_or, with_part}
use Rattle.rv_words.specs.ServeProperties.{AsksToServe, IsWhole, PokesAreAsked, PokesHaveDefaults, joined, namings}
use Rattle.rv_words.specs.declared.command.Command.{Command}
use Rattle.rv_words.specs.declared.command.Command.TheVariants.{Serve}
use Rattle.rv_words.specs.declared.serve_options.ServeOptions.{ServeOptions}
use Rattle.rv_words.proofs.Parts.{counts, crew, jobs, made, needs_poke_port, needs_pokes, poke_ports, ports, values_append}
use Rattle.rv_words.proofs.ServeLaws.{CountsOf, counted, decimal_is_plain, in_bounds, known, plain_store, plain_value, stray}
use Rattle.rv_words.proofs.Lines.{line_is_plain}

-- the command with options that are changed so
abbrev changed : (ServeOptions → ServeOptions) → Option Command → Option Command
changed set None = None
changed set (Some (Serve store options)) = Some (Serve store (set options))
changed set (Some other) = Some other

-- what is served, by the values
abbrev served : Option (List ℕ) → Option (List ℕ) → Option ℕ → Option ℕ → Option ℕ → Option ℕ → Option ℕ → Option Command
served store accounts a b c d e = option_and_then (λ s. option_map (λ options. Serve s options) (option_and_then (λ file. made file a b c d e) accounts)) store

served_is : (values : List ℕ → Option (List ℕ))
    → serve_by values ≡ served (values (codes "STORE")) (values (codes "accounts")) (ports values) (crew values) (counts values) (poke_ports values) (jobs values)
unfolding options_with
served_is values = refl

served_as : (new old : List ℕ → Option (List ℕ)) → new (codes "STORE") ≡ old (codes "STORE") → new (codes "accounts") ≡ old (codes "accounts")
    → new (codes "port") ≡ old (codes "port") → new (codes "workers") ≡ old (codes "workers") → new (codes "connections") ≡ old (codes "connections") → (d e : Option ℕ)
    → served (new (codes "STORE")) (new (codes "accounts")) (ports new) (crew new) (counts new) d e
    ≡ served (old (codes "STORE")) (old (codes "accounts")) (ports old) (crew old) (counts old) d e
served_as new old store accounts port workers connections d e = rw (store, accounts, port, workers, connections) refl

-- another number changes nothing else
other_port : (store accounts : Option (List ℕ)) (a b c e : Option ℕ) (before after : ℕ)
    → served store accounts a b c (Some after) e ≡ changed (λ options. record options { poke_port = after }) (served store accounts a b c (Some before) e)
other_port None accounts a b c e before after = refl
other_port (Some s) None a b c e before after = refl
other_port (Some s) (Some f) None b c e before after = refl
other_port (Some s) (Some f) (Some x) None c e before after = refl
other_port (Some s) (Some f) (Some x) (Some y) None e before after = refl
other_port (Some s) (Some f) (Some x) (Some y) (Some z) None before after = refl
other_port (Some s) (Some f) (Some x) (Some y) (Some z) (Some u) before after = refl

other_jobs : (store accounts : Option (List ℕ)) (a b c d : Option ℕ) (before after : ℕ)
    → served store accounts a b c d (Some after) ≡ changed (λ options. record options { pokes = after }) (served store accounts a b c d (Some before))
other_jobs None accounts a b c d before after = refl
other_jobs (Some s) None a b c d before after = refl
other_jobs (Some s) (Some f) None b c d before after = refl
other_jobs (Some s) (Some f) (Some x) None c d before after = refl
other_jobs (Some s) (Some f) (Some x) (Some y) None d before after = refl
other_jobs (Some s) (Some f) (Some x) (Some y) (Some z) None before after = refl
other_jobs (Some s) (Some f) (Some x) (Some y) (Some z) (Some u) before after = refl

-- ---- one part more

-- parts that serve, with one more among them
abbrev IsSet : List ℕ → (ℕ → ServeOptions → ServeOptions) → ℕ → Type 0
IsSet option set number = (front back : List Part) (store : List ℕ) (options : ServeOptions) → serve_with (front ++ back) ≡ Some (Serve store options)
    → part_values (front ++ back) option ≡ [] → serve_with (front ++ (option, decimal number) ∷ back) ≡ Some (Serve store (set number options))

-- the values of other names stay
values_stay : (front back : List Part) (part : Part) (name : List ℕ) → bytes_eq part.0 name ≡ false → the_value (front ++ part ∷ back) name ≡ the_value (front ++ back) name
values_stay front back part name other =
    ap (λ values. the_only (values_or values (part_values defaults name)))
    (values_append front (part ∷ back) name
    ∙ ap (λ b. part_values front name ++ cond b (part.1 ∷ part_values back name) (part_values back name)) other
    ∙ sym (values_append front back name))

alone : (front back : List (List ℕ)) (value : List ℕ) → front ++ back ≡ [] → front ++ value ∷ back ≡ value ∷ []
alone [] back value none = ap (λ values. value ∷ values) none
alone (v ∷ vs) back value none = absurd (cc)

-- a name that had no value has this one
value_set : (front back : List Part) (part : Part) → part_values (front ++ back) part.0 ≡ [] → the_value (front ++ part ∷ back) part.0 ≡ Some part.1
value_set front back part none =
    ap (λ values. the_only (values_or values (part_values defaults part.0)))
    (values_append front (part ∷ back) part.0
    ∙ ap (λ b. part_values front part.0 ++ cond b (part.1 ∷ part_values back part.0) (part_values back part.0)) (equals part.0)
    ∙ alone (part_values front part.0) (part_values back part.0) part.1 (sym (values_append front back part.0) ∙ none))

port_set : (number : ℕ) → IsInRange 1 65535 number → IsSet (codes "poke-port") (λ n options. record options { poke_port = n }) number
port_set number range front back store options is none = go (poke_ports (the_value (front ++ back))) refl
  where
    go : (before : Option ℕ) → poke_ports (the_value (front ++ back)) ≡ before
        → serve_with (front ++ (codes "poke-port", decimal number) ∷ back) ≡ Some (Serve store (record options { poke_port = number }))
    go None was = absurd (let both : None ≡ Some (Serve store options) = sym (needs_poke_port (the_value (front ++ back)) was) ∙ is in cc)
    go (Some before) was =
        let old : List ℕ → Option (List ℕ) = the_value (front ++ back) in
        let new : List ℕ → Option (List ℕ) = the_value (front ++ (codes "poke-port", decimal number) ∷ back) in
        let stays = values_stay front back (codes "poke-port", decimal number) in
        let given = ap (option_and_then (number_in 1 65535)) (value_set front back (codes "poke-port", decimal number) none) ∙ in_bounds 1 65535 number (omega arith) range in
        served_is new
        ∙ served_as new old (stays (codes "STORE") refl) (stays (codes "accounts") refl) (stays (codes "port") refl) (stays (codes "workers") refl) (stays (codes "connections") refl)
        (poke_ports new) (jobs new)
        ∙ ap₂ (served (old (codes "STORE")) (old (codes "accounts")) (ports old) (crew old) (counts old)) given (ap (option_and_then (number_in 0 16)) (stays (codes "pokes") refl))
        ∙ other_port (old (codes "STORE")) (old (codes "accounts")) (ports old) (crew old) (counts old) (jobs old) before number
        ∙ ap (changed (λ o. record o { poke_port = number }))
        (sym (ap (λ o. served (old (codes "STORE")) (old (codes "accounts")) (ports old) (crew old) (counts old) o (jobs old)) was) ∙ sym (served_is old) ∙ is)

jobs_set : (number : ℕ) → IsInRange 0 16 number → IsSet (codes "pokes") (λ n options. record options { pokes = n }) number
jobs_set number range front back store options is none = go (jobs (the_value (front ++ back))) refl
  where
    go : (before : Option ℕ) → jobs (the_value (front ++ back)) ≡ before
        → serve_with (front ++ (codes "pokes", decimal number) ∷ back) ≡ Some (Serve store (record options { pokes = number }))
    go None was = absurd (let both : None ≡ Some (Serve store options) = sym (needs_pokes (the_value (front ++ back)) was) ∙ is in cc)
    go (Some before) was =
        let old : List ℕ → Option (List ℕ) = the_value (front ++ back) in
        let new : List ℕ → Option (List ℕ) = the_value (front ++ (codes "pokes", decimal number) ∷ back) in
        let stays = values_stay front back (codes "pokes", decimal number) in
        let given = ap (option_and_then (number_in 0 16)) (value_set front back (codes "pokes", decimal number) none) ∙ in_bounds 0 16 number (omega arith) range in
        served_is new
        ∙ served_as new old (stays (codes "STORE") refl) (stays (codes "accounts") refl) (stays (codes "port") refl) (stays (codes "workers") refl) (stays (codes "connections") refl)
        (poke_ports new) (jobs new)
        ∙ ap₂ (served (old (codes "STORE")) (old (codes "accounts")) (ports old) (crew old) (counts old)) (ap (option_and_then (number_in 1 65535)) (stays (codes "poke-port") refl)) given
        ∙ other_jobs (old (codes "STORE")) (old (codes "accounts")) (ports old) (crew old) (counts old) (poke_ports old) before number
        ∙ ap (changed (λ o. record o { pokes = number }))
        (sym (ap (served (old (codes "STORE")) (old (codes "accounts")) (ports old) (crew old) (counts old) (poke_ports old)) was) ∙ sym (served_is old) ∙ is)

-- ---- words after words

-- parts and those after them
abbrev together : Option (List Part) → Option (List Part) → Option (List Part)
together front back = option_and_then (λ ps. option_map (λ qs. ps ++ qs) back) front

nothing_together : (back : Option (List Part)) → back ≡ together (Some []) back
nothing_together None = refl
nothing_together (Some ps) = refl

part_together : (part : Part) (front back : Option (List Part)) → with_part part (together front back) ≡ together (with_part part front) back
part_together part None back = refl
part_together part (Some ps) None = refl
part_together part (Some ps) (Some qs) = refl

still_some : (part : Part) (front : Option (List Part)) → is_some (with_part part front) ≡ true → is_some front ≡ true
still_some part None some = some
still_some part (Some ps) some = refl

-- what words come to with others after them
abbrev Follows : List (List ℕ) → List (List ℕ) → Option (List ℕ) → Type 0
Follows before after waiting = is_some (parts_from waiting before) ≡ true → parts_from waiting (before ++ after) ≡ together (parts_from waiting before) (parts_from None after)

one_follows : (part : Part) (before after : List (List ℕ)) → Follows before after None → is_some (with_part part (parts_from None before)) ≡ true
    → with_part part (parts_from None (before ++ after)) ≡ together (with_part part (parts_from None before)) (parts_from None after)
one_follows part before after rest some =
    ap (with_part part) (rest (still_some part (parts_from None before) some)) ∙ part_together part (parts_from None before) (parts_from None after)

option_follows : (option : List ℕ) (value : Option (List ℕ)) (before after : List (List ℕ)) → ((waiting : Option (List ℕ)) → Follows before after waiting)
    → is_some (option_map_or (λ v. with_part (option, v) (parts_from None before)) value (parts_from (Some option) before)) ≡ true
    → option_map_or (λ v. with_part (option, v) (parts_from None (before ++ after))) value (parts_from (Some option) (before ++ after))
    ≡ together (option_map_or (λ v. with_part (option, v) (parts_from None before)) value (parts_from (Some option) before)) (parts_from None after)
option_follows option None before after rest some = rest (Some option) some
option_follows option (Some v) before after rest some = one_follows (option, v) before after (rest None) some

abbrev has_end : List (List ℕ) → Bool
has_end = list_any (λ word. bytes_eq word (codes "--"))

later : (here rest : Bool) → (here || rest) ≡ false → rest ≡ false
later true rest none = absurd (true≢false none)
later false rest none = none

follows : (before after : List (List ℕ)) → has_end before ≡ false → (waiting : Option (List ℕ)) → Follows before after waiting
follows [] after no_end None some = nothing_together (parts_from None after)
follows [] after no_end (Some option) some = absurd (true≢false (sym some))
follows (word ∷ words) after no_end None some =
    go (bytes_eq word (codes "--")) refl no_end (is_option word) refl (is_flag word) refl (follows words after) some
  where
    go : (closes : Bool) → bytes_eq word (codes "--") ≡ closes → (closes || has_end words) ≡ false → (option : Bool) → is_option word ≡ option → (flag : Bool) → is_flag word ≡ flag
        → (has_end words ≡ false → (waiting : Option (List ℕ)) → Follows words after waiting) → Follows (word ∷ words) after None
    go true closes ends option o flag f rest some = absurd (true≢false ends)
    go false goes_on ends true o flag f rest some =
        known word (words ++ after) goes_on o
        ∙ option_follows (option_name word) (option_value word) words after (rest ends) (sym (ap is_some (known word words goes_on o)) ∙ some)
        ∙ sym (ap (λ ps. together ps (parts_from None after)) (known word words goes_on o))
    go false goes_on ends false o true f rest some = absurd (true≢false (sym some ∙ ap is_some (stray word words goes_on o f)))
    go false goes_on ends false o false f rest some =
        plain_store word (words ++ after) f
        ∙ one_follows (codes "STORE", word) words after (rest ends None) (sym (ap is_some (plain_store word words f)) ∙ some)
        ∙ sym (ap (λ ps. together ps (parts_from None after)) (plain_store word words f))
follows (word ∷ words) after no_end (Some option) some = go (is_flag word) refl (follows words after (later (bytes_eq word (codes "--")) (has_end words) no_end) None) some
  where
    go : (flag : Bool) → is_flag word ≡ flag → Follows words after None → Follows (word ∷ words) after (Some option)
    go true f rest some = absurd (true≢false (sym some ∙ rw f refl))
    go false f rest some =
        plain_value option word (words ++ after) f
        ∙ one_follows (option, word) words after rest (sym (ap is_some (plain_value option word words f)) ∙ some)
        ∙ sym (ap (λ ps. together ps (parts_from None after)) (plain_value option word words f))

empty : (values : List (List ℕ)) → length values ≡ 0 → values ≡ []
empty [] none = refl
empty (v ∷ vs) none = absurd (omega (arith, none))

-- words that ask to serve, with the words of one part among them
with_one : (option : List ℕ) (set : ℕ → ServeOptions → ServeOptions) (name store : List ℕ) (before words after : List (List ℕ)) (options : ServeOptions) (number : ℕ)
    → bytes_eq (codes "STORE") option ≡ false → IsSet option set number → IsWhole before → AsksToServe name (before ++ after) store options
    → namings option (before ++ after) ≡ 0 → parts_from None words ≡ with_part (option, decimal number) (parts_from None after)
    → AsksToServe name (before ++ words) store (set number options)
with_one option set name store before words after options number no_store is_set whole asks unnamed is =
    line_is_plain (name ∷ codes "serve" ∷ (before ++ words))
    ∙ ap (option_and_then serve_with) (follows before words whole.0 None whole.1 ∙ ap (together (parts_from None before)) is)
    ∙ go (parts_from None before) (parts_from None after)
    (subst (λ o. CountsOf option o (0 + namings option (before ++ after))) (follows before after whole.0 None whole.1) (counted option no_store (before ++ after) None))
    (sym (line_is_plain (name ∷ codes "serve" ∷ (before ++ after)) ∙ ap (option_and_then serve_with) (follows before after whole.0 None whole.1)) ∙ asks)
  where
    go : (front back : Option (List Part)) → CountsOf option (together front back) (0 + namings option (before ++ after))
        → option_and_then serve_with (together front back) ≡ Some (Serve store options)
        → option_and_then serve_with (together front (with_part (option, decimal number) back)) ≡ Some (Serve store (set number options))
    go None back counts serves = absurd (cc)
    go (Some ps) None counts serves = absurd (cc)
    go (Some ps) (Some qs) counts serves = is_set ps qs store options serves (empty (part_values (ps ++ qs) option) (omega (arith, counts, unnamed)))

pub pokes_asked : PokesAreAsked
pokes_asked = record {
  poke_port = λ name store before after options number whole asks unnamed range. (
    with_one (codes "poke-port") (λ n o. record o { poke_port = n }) name store before (codes "--poke-port" ∷ decimal number ∷ after) after options number refl
        (port_set number range) whole asks unnamed (plain_value (codes "poke-port") (decimal number) after (decimal_is_plain number (omega (arith, range.1)))),
    with_one (codes "poke-port") (λ n o. record o { poke_port = n }) name store before (joined (codes "poke-port") (decimal number) ∷ after) after options number refl
        (port_set number range) whole asks unnamed refl,
  );
  pokes = λ name store before after options number whole asks unnamed range. (
    with_one (codes "pokes") (λ n o. record o { pokes = n }) name store before (codes "--pokes" ∷ decimal number ∷ after) after options number refl
        (jobs_set number range) whole asks unnamed (plain_value (codes "pokes") (decimal number) after (decimal_is_plain number (omega (arith, range.1)))),
    with_one (codes "pokes") (λ n o. record o { pokes = n }) name store before (joined (codes "pokes") (decimal number) ∷ after) after options number refl
        (jobs_set number range) whole asks unnamed refl,
  );
}

-- ---- no part of the name

-- what holds of the parts of words that ask to serve without this option
of_parts : (P : Type 0) (option name store : List ℕ) (words : List (List ℕ)) (options : ServeOptions) → bytes_eq (codes "STORE") option ≡ false
    → AsksToServe name words store options → namings option words ≡ 0
    → ((parts : List Part) → serve_with parts ≡ Some (Serve store options) → part_values parts option ≡ [] → P) → P
of_parts P option name store words options no_store asks unnamed holds =
    go (parts_from None words) (counted option no_store words None) (sym (line_is_plain (name ∷ codes "serve" ∷ words)) ∙ asks)
  where
    go : (parts : Option (List Part)) → CountsOf option parts (0 + namings option words) → option_and_then serve_with parts ≡ Some (Serve store options) → P
    go None counts serves = absurd (cc)
    go (Some ps) counts serves = holds ps serves (empty (part_values ps option) (omega (arith, counts, unnamed)))

port_of : (s f : Option (List ℕ)) (a b c : Option ℕ) (number : ℕ) (e : Option ℕ) (store : List ℕ) (options : ServeOptions)
    → served s f a b c (Some number) e ≡ Some (Serve store options) → options.poke_port ≡ number
port_of None f a b c number e store options is = absurd (cc)
port_of (Some s) None a b c number e store options is = absurd (cc)
port_of (Some s) (Some f) None b c number e store options is = absurd (cc)
port_of (Some s) (Some f) (Some x) None c number e store options is = absurd (cc)
port_of (Some s) (Some f) (Some x) (Some y) None number e store options is = absurd (cc)
port_of (Some s) (Some f) (Some x) (Some y) (Some z) number None store options is = absurd (cc)
port_of (Some s) (Some f) (Some x) (Some y) (Some z) number (Some u) store options is =
    let same : record { accounts = f; port = x; workers = y; connections = z; poke_port = number; pokes = u } ≡ options = cc in
    sym (ap (λ (o : ServeOptions). o.poke_port) same)

jobs_of : (s f : Option (List ℕ)) (a b c d : Option ℕ) (number : ℕ) (store : List ℕ) (options : ServeOptions)
    → served s f a b c d (Some number) ≡ Some (Serve store options) → options.pokes ≡ number
jobs_of None f a b c d number store options is = absurd (cc)
jobs_of (Some s) None a b c d number store options is = absurd (cc)
jobs_of (Some s) (Some f) None b c d number store options is = absurd (cc)
jobs_of (Some s) (Some f) (Some x) None c d number store options is = absurd (cc)
jobs_of (Some s) (Some f) (Some x) (Some y) None d number store options is = absurd (cc)
jobs_of (Some s) (Some f) (Some x) (Some y) (Some z) None number store options is = absurd (cc)
jobs_of (Some s) (Some f) (Some x) (Some y) (Some z) (Some u) number store options is =
    let same : record { accounts = f; port = x; workers = y; connections = z; poke_port = u; pokes = number } ≡ options = cc in
    sym (ap (λ (o : ServeOptions). o.pokes) same)

default_port : (parts : List Part) → part_values parts (codes "poke-port") ≡ [] → poke_ports (the_value parts) ≡ Some 8091
unfolding digits
default_port parts none = ap (λ values. option_and_then (number_in 1 65535) (the_only (values_or values (part_values defaults (codes "poke-port"))))) none

default_jobs : (parts : List Part) → part_values parts (codes "pokes") ≡ [] → jobs (the_value parts) ≡ Some 0
unfolding digits
default_jobs parts none = ap (λ values. option_and_then (number_in 0 16) (the_only (values_or values (part_values defaults (codes "pokes"))))) none

pub pokes_default : PokesHaveDefaults
pokes_default = record {
  poke_port = λ name store words options asks unnamed. of_parts (options.poke_port ≡ 8091) (codes "poke-port") name store words options refl asks unnamed (λ parts is none.
      let old : List ℕ → Option (List ℕ) = the_value parts in
      port_of (old (codes "STORE")) (old (codes "accounts")) (ports old) (crew old) (counts old) 8091 (jobs old) store options
      (sym (ap (λ o. served (old (codes "STORE")) (old (codes "accounts")) (ports old) (crew old) (counts old) o (jobs old)) (default_port parts none)) ∙ sym (served_is old) ∙ is));
  pokes = λ name store words options asks unnamed. of_parts (options.pokes ≡ 0) (codes "pokes") name store words options refl asks unnamed (λ parts is none.
      let old : List ℕ → Option (List ℕ) = the_value parts in
      jobs_of (old (codes "STORE")) (old (codes "accounts")) (ports old) (crew old) (counts old) (poke_ports old) 0 store options
      (sym (ap (served (old (codes "STORE")) (old (codes "accounts")) (ports old) (crew old) (counts old) (poke_ports old)) (default_jobs parts none)) ∙ sym (served_is old) ∙ is));
}
