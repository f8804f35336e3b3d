-- The laws of `serve`, from what its words ask for without clap.
use Rattle.std.proofs.Common.{◌≡◌, ◌≢◌, ◌∙◌, ◌&&◌, ◌==◌, ◌+◌, ◌<◌, ◌≤◌, ap, arith, eqb-true, refl, subst, sym, List, [], ◌∷◌, Option, Some, None, Bool, cond, not, true, false, true≢false, codes, decimal, length, ℕ}
use Rattle.std.specs.Prelude.{IfSome, filter, option_and_then}
use Rattle.std.specs.Int.{IsInRange}
use Rattle.std.specs.List.{list_any}
use Rattle.std.specs.Option.{option_map_or}
use Rattle.std.specs.Str.{bytes_eq}
use Rattle.std.specs.Char.{digit_value}
use Rattle.std.specs.Fmt.{digits}
use Rattle.std.specs.Str.Parse.{AllDigits}
use Rattle.std.specs.Cmp.Lexicographic.{same_text}
use Rattle.std.proofs.lemmas.Fmt.{decimal_is_IsNumeral}
use Rattle.rv_base.specs.PositionLaws.{equals}
use Rattle.rv_words.specs.Numbers.{number_in}
use Rattle.rv_words.specs.Words.{command_in, options_with, serve_by}
use Rattle.rv_words.specs.Plain.{Part, defaults, the_value, is_flag, is_option, needed_names, option_name, option_value, parts_from, serve_with, the_only, part_values, values_or, with_part}
use Rattle.rv_words.specs.Properties.{begins_with_hyphen}
use Rattle.rv_words.specs.ServeProperties.{EachOptionStandsOnce, NoOtherFlagStands, ServeIsAsked, before_hyphens, joined, namings}
use Rattle.rv_words.specs.declared.command.Command.{Command}
use Rattle.rv_words.specs.declared.command.Command.TheVariants.{Serve}
use Rattle.rv_words.proofs.Numbers.{number_read}
use Rattle.rv_words.proofs.Rules.{IsOption, among, known_option, stores}
use Rattle.rv_words.proofs.Serving.{closing_is_flag, no_option}
use Rattle.rv_words.proofs.Lines.{line_is_plain}

-- ---- a word that does not begin with a hyphen

pub no_flag : (word : List ℕ) → begins_with_hyphen word ≡ false → is_flag word ≡ false
no_flag [] plain = refl
no_flag (b ∷ rest) plain = rw plain refl

no_end : (word : List ℕ) → is_flag word ≡ false → bytes_eq word (codes "--") ≡ false
no_end word plain = go (bytes_eq word (codes "--")) refl
  where
    go : (b : Bool) → bytes_eq word (codes "--") ≡ b → b ≡ false
    go true is = absurd (true≢false (sym closing_is_flag ∙ ap is_flag (sym (same_text word (codes "--") (sym is))) ∙ plain))
    go false is = refl

-- a plain word is a STORE where nothing waits, and the value of what waits
pub plain_store : (word : List ℕ) (words : List (List ℕ)) → is_flag word ≡ false → parts_from None (word ∷ words) ≡ with_part (codes "STORE", word) (parts_from None words)
plain_store word words plain = rw (no_end word plain, no_option word plain, plain) refl

pub plain_value : (name word : List ℕ) (words : List (List ℕ)) → is_flag word ≡ false → parts_from (Some name) (word ∷ words) ≡ with_part (name, word) (parts_from None words)
plain_value name word words plain = rw plain refl

pub digit_is_plain : (digits : List ℕ) → AllDigits 10 digits → begins_with_hyphen digits ≡ false
digit_is_plain [] all = refl
digit_is_plain (d ∷ ds) all = go (d == 45) refl
  where
    go : (b : Bool) → (d == 45) ≡ b → b ≡ false
    go true is = absurd (omega (arith, subst (λ (x : ℕ). digit_value x < 10) (eqb-true d 45 is) all.0))
    go false is = refl

pub decimal_is_plain : (number : ℕ) → number ≤ 1000000 → is_flag (decimal number) ≡ false
decimal_is_plain number most = no_flag (decimal number) (digit_is_plain (decimal number) (decimal_is_IsNumeral number (omega (arith, most))).0.1)

-- ---- numbers in bounds

pub in_bounds : (least most number : ℕ) → most ≤ 1000000 → IsInRange least most number → number_in least most (decimal number) ≡ Some number
in_bounds least most number small range = sym (number_read least most number (decimal number) (omega (arith, small)) (equals (decimal number)) range.0 range.1)

abbrev asks_to_serve : List ℕ → List ℕ → ℕ → ℕ → ℕ → Option Command
asks_to_serve store accounts port workers connections =
    Some (Serve store (record { accounts = accounts; port = port; workers = workers; connections = connections; poke_port = 8091; pokes = 0 }))

serves_values : (values : List ℕ → Option (List ℕ)) (store accounts : List ℕ) (port workers connections : ℕ)
    → IsInRange 1 65535 port → IsInRange 1 16 workers → IsInRange 1 1000000 connections
    → values (codes "STORE") ≡ Some store → values (codes "accounts") ≡ Some accounts → values (codes "port") ≡ Some (decimal port)
    → values (codes "workers") ≡ Some (decimal workers) → values (codes "connections") ≡ Some (decimal connections)
    → values (codes "poke-port") ≡ Some (codes "8091") → values (codes "pokes") ≡ Some (codes "0")
    → serve_by values ≡ asks_to_serve store accounts port workers connections
unfolding options_with digits
serves_values values store accounts port workers connections ports crew counts is_store is_accounts is_port is_workers is_connections is_poke_port is_pokes =
    rw (
      is_store,
      is_accounts,
      is_port,
      is_workers,
      is_connections,
      is_poke_port,
      is_pokes,
      in_bounds 1 65535 port (omega arith) ports,
      in_bounds 1 16 workers (omega arith) crew,
      in_bounds 1 1000000 connections (omega arith) counts,
    ) refl

-- ---- lines that ask to serve

-- a line of these parts
by_parts : (name : List ℕ) (words : List (List ℕ)) (parts : List Part) → parts_from None words ≡ Some parts → command_in (name ∷ codes "serve" ∷ words) ≡ serve_with parts
by_parts name words parts is = line_is_plain (name ∷ codes "serve" ∷ words) ∙ ap (option_and_then serve_with) is

abbrev option_words : List ℕ → List ℕ → List ℕ → List ℕ → List (List ℕ) → List (List ℕ)
option_words accounts port workers connections rest =
    codes "--accounts" ∷ accounts ∷ codes "--port" ∷ port ∷ codes "--workers" ∷ workers ∷ codes "--connections" ∷ connections ∷ rest

abbrev joined_words : List ℕ → List ℕ → List ℕ → List ℕ → List (List ℕ) → List (List ℕ)
joined_words accounts port workers connections rest =
    joined (codes "accounts") accounts ∷ joined (codes "port") port ∷ joined (codes "workers") workers ∷ joined (codes "connections") connections ∷ rest

abbrev option_parts : List ℕ → List ℕ → List ℕ → List ℕ → List Part → List Part
option_parts accounts port workers connections rest =
    (codes "accounts", accounts) ∷ (codes "port", port) ∷ (codes "workers", workers) ∷ (codes "connections", connections) ∷ rest

options_apart : (accounts port workers connections : List ℕ) (rest : List (List ℕ)) (parts : List Part)
    → is_flag accounts ≡ false → is_flag port ≡ false → is_flag workers ≡ false → is_flag connections ≡ false
    → parts_from None rest ≡ Some parts → parts_from None (option_words accounts port workers connections rest) ≡ Some (option_parts accounts port workers connections parts)
options_apart accounts port workers connections rest parts no_a no_p no_w no_c is =
    let counted : List (List ℕ) = codes "--connections" ∷ connections ∷ rest in
    let working : List (List ℕ) = codes "--workers" ∷ workers ∷ counted in
    let ported : List (List ℕ) = codes "--port" ∷ port ∷ working in
    plain_value (codes "accounts") accounts ported no_a
    ∙ ap (with_part (codes "accounts", accounts)) (plain_value (codes "port") port working no_p
    ∙ ap (with_part (codes "port", port)) (plain_value (codes "workers") workers counted no_w
    ∙ ap (with_part (codes "workers", workers)) (plain_value (codes "connections") connections rest no_c
    ∙ ap (with_part (codes "connections", connections)) is)))

options_joined : (accounts port workers connections : List ℕ) (rest : List (List ℕ)) (parts : List Part) → parts_from None rest ≡ Some parts
    → parts_from None (joined_words accounts port workers connections rest) ≡ Some (option_parts accounts port workers connections parts)
options_joined accounts port workers connections rest parts is = ap (λ more.
    with_part (codes "accounts", accounts) (with_part (codes "port", port) (with_part (codes "workers", workers) (with_part (codes "connections", connections) more)))) is

store_first : (store accounts : List ℕ) (port workers connections : ℕ) → IsInRange 1 65535 port → IsInRange 1 16 workers → IsInRange 1 1000000 connections
    → serve_with ((codes "STORE", store) ∷ option_parts accounts (decimal port) (decimal workers) (decimal connections) []) ≡ asks_to_serve store accounts port workers connections
store_first store accounts port workers connections ports crew counts =
    serves_values (the_value ((codes "STORE", store) ∷ option_parts accounts (decimal port) (decimal workers) (decimal connections) []))
    store accounts port workers connections ports crew counts refl refl refl refl refl refl refl

store_at_end : (store accounts : List ℕ) (port workers connections : ℕ) → IsInRange 1 65535 port → IsInRange 1 16 workers → IsInRange 1 1000000 connections
    → serve_with (option_parts accounts (decimal port) (decimal workers) (decimal connections) ((codes "STORE", store) ∷ [])) ≡ asks_to_serve store accounts port workers connections
store_at_end store accounts port workers connections ports crew counts =
    serves_values (the_value (option_parts accounts (decimal port) (decimal workers) (decimal connections) ((codes "STORE", store) ∷ [])))
    store accounts port workers connections ports crew counts refl refl refl refl refl refl refl

pub serve_asked : ServeIsAsked
serve_asked = record {
  in_order = λ name store accounts port workers connections pass ports crew counts.
      by_parts name (store ∷ option_words accounts (decimal port) (decimal workers) (decimal connections) []) _
      (plain_store store (option_words accounts (decimal port) (decimal workers) (decimal connections) []) (no_flag store pass.0)
      ∙ ap (with_part (codes "STORE", store)) (options_apart accounts (decimal port) (decimal workers) (decimal connections) [] [] (no_flag accounts pass.1)
      (decimal_is_plain port (omega (arith, ports.1))) (decimal_is_plain workers (omega (arith, crew.1))) (decimal_is_plain connections counts.1) refl))
      ∙ store_first store accounts port workers connections ports crew counts;
  store_last = λ name store accounts port workers connections pass ports crew counts.
      by_parts name (option_words accounts (decimal port) (decimal workers) (decimal connections) (store ∷ [])) _
      (options_apart accounts (decimal port) (decimal workers) (decimal connections) (store ∷ []) ((codes "STORE", store) ∷ []) (no_flag accounts pass.1)
      (decimal_is_plain port (omega (arith, ports.1))) (decimal_is_plain workers (omega (arith, crew.1))) (decimal_is_plain connections counts.1) (plain_store store [] (no_flag store pass.0)))
      ∙ store_at_end store accounts port workers connections ports crew counts;
  joined_values = λ name store accounts port workers connections pass ports crew counts.
      by_parts name (store ∷ joined_words accounts (decimal port) (decimal workers) (decimal connections) []) _
      (plain_store store (joined_words accounts (decimal port) (decimal workers) (decimal connections) []) (no_flag store pass)
      ∙ ap (with_part (codes "STORE", store)) (options_joined accounts (decimal port) (decimal workers) (decimal connections) [] [] refl))
      ∙ store_first store accounts port workers connections ports crew counts;
  any_store = λ name store accounts port workers connections pass ports crew counts.
      by_parts name (joined_words accounts (decimal port) (decimal workers) (decimal connections) (codes "--" ∷ store ∷ [])) _
      (options_joined accounts (decimal port) (decimal workers) (decimal connections) (codes "--" ∷ store ∷ []) ((codes "STORE", store) ∷ []) refl)
      ∙ store_at_end store accounts port workers connections ports crew counts;
}

-- ---- what the first word comes to, where nothing waits

module _ (word : List ℕ) (words : List (List ℕ)) where
  abbrev pub known_parts : Option (List Part)
  known_parts = option_map_or (λ v. with_part (option_name word, v) (parts_from None words)) (option_value word) (parts_from (Some (option_name word)) words)

  closed : bytes_eq word (codes "--") ≡ true → parts_from None (word ∷ words) ≡ Some (stores words)
  closed is = rw is refl

  pub known : bytes_eq word (codes "--") ≡ false → is_option word ≡ true → parts_from None (word ∷ words) ≡ known_parts
  known no_end is = rw (no_end, is) refl

  pub stray : bytes_eq word (codes "--") ≡ false → is_option word ≡ false → is_flag word ≡ true → parts_from None (word ∷ words) ≡ None
  stray no_end no_option is = rw (no_end, no_option, is) refl

-- ---- other flags

abbrev is_other : List ℕ → Bool
is_other word = is_flag word && not (is_option word)

abbrev has_other : List (List ℕ) → Bool
has_other words = list_any is_other (before_hyphens words)

either_none : (name : List ℕ) (v : Option (List ℕ)) (one two : Option (List Part)) → one ≡ None → two ≡ None
    → option_map_or (λ x. with_part (name, x) one) v two ≡ None
either_none name None one two no_one no_two = no_two
either_none name (Some x) one two no_one no_two = ap (with_part (name, x)) no_one

no_parts : (words : List (List ℕ)) (waiting : Option (List ℕ)) → has_other words ≡ true → parts_from waiting words ≡ None
no_parts [] waiting some = absurd (true≢false (sym some))
no_parts (word ∷ words) None some = go (bytes_eq word (codes "--")) refl (is_option word) refl (is_flag word) refl (no_parts words)
  where
    go : (closes : Bool) → bytes_eq word (codes "--") ≡ closes → (option : Bool) → is_option word ≡ option → (flag : Bool) → is_flag word ≡ flag
        → ((w : Option (List ℕ)) → has_other words ≡ true → parts_from w words ≡ None) → parts_from None (word ∷ words) ≡ None
    go true closes option o flag f rest = absurd (true≢false (sym (rw closes at some)))
    go false goes_on true o true f rest =
        let later : has_other words ≡ true = rw (goes_on, f, o) at some in
        known word words goes_on o ∙ either_none (option_name word) (option_value word) _ _ (rest None later) (rest (Some (option_name word)) later)
    go false goes_on true o false f rest = absurd (true≢false (sym o ∙ no_option word f))
    go false goes_on false o true f rest = stray word words goes_on o f
    go false goes_on false o false f rest =
        let later : has_other words ≡ true = rw (goes_on, f) at some in
        plain_store word words f ∙ ap (with_part (codes "STORE", word)) (rest None later)
no_parts (word ∷ words) (Some name) some = go (is_flag word) refl (no_parts words None)
  where
    go : (flag : Bool) → is_flag word ≡ flag → (has_other words ≡ true → parts_from None words ≡ None) → parts_from (Some name) (word ∷ words) ≡ None
    go true f rest = rw f refl
    go false f rest =
        let later : has_other words ≡ true = rw (no_end word f, f) at some in
        plain_value name word words f ∙ ap (with_part (name, word)) (rest later)

pub no_other_flag : NoOtherFlagStands
no_other_flag name words some = line_is_plain (name ∷ codes "serve" ∷ words) ∙ ap (option_and_then serve_with) (no_parts words None some)

-- ---- how often an option is given

abbrev pub CountsOf : List ℕ → Option (List Part) → ℕ → Type 0
CountsOf name parts n = IfSome parts (λ ps. length (part_values ps name) ≡ n)

abbrev once_if : Bool → ℕ
once_if b = cond b 1 0

-- the value that is waited for counts
abbrev waited : List ℕ → Option (List ℕ) → ℕ
waited name None = 0
waited name (Some waiting) = once_if (bytes_eq waiting name)

counts_more : (name one v : List ℕ) (parts : Option (List Part)) (n : ℕ) → CountsOf name parts n → CountsOf name (with_part (one, v) parts) (once_if (bytes_eq one name) + n)
counts_more name one v None n counts = tt
counts_more name one v (Some ps) n counts = go (bytes_eq one name)
  where
    go : (b : Bool) → length (cond b (v ∷ part_values ps name) (part_values ps name)) ≡ once_if b + n
    go true = omega (arith, counts)
    go false = omega (arith, counts)

counts_as : (name : List ℕ) (parts other : Option (List Part)) (n m : ℕ) → parts ≡ other → n ≡ m → CountsOf name other m → CountsOf name parts n
counts_as name parts other n m same is counts = subst (λ o. CountsOf name o n) (sym same) (subst (λ k. CountsOf name other k) (sym is) counts)

no_stores : (name : List ℕ) → bytes_eq (codes "STORE") name ≡ false → (words : List (List ℕ)) → part_values (stores words) name ≡ []
no_stores name other [] = refl
no_stores name other (word ∷ words) = rw other (no_stores name other words)

either_counts : (name one : List ℕ) (v : Option (List ℕ)) (now later : Option (List Part)) (n : ℕ) → CountsOf name now n → CountsOf name later (once_if (bytes_eq one name) + n)
    → CountsOf name (option_map_or (λ x. with_part (one, x) now) v later) (once_if (bytes_eq one name) + n)
either_counts name one None now later n is_now is_later = is_later
either_counts name one (Some x) now later n is_now is_later = counts_more name one x now n is_now

abbrev found : List ℕ → List (List ℕ) → List (List ℕ)
found name words = filter (λ w. is_option w && bytes_eq (option_name w) name) (before_hyphens words)

-- one word more
names_here : (name word : List ℕ) (words : List (List ℕ)) → bytes_eq word (codes "--") ≡ false → is_option word ≡ true
    → namings name (word ∷ words) ≡ once_if (bytes_eq (option_name word) name) + namings name words
names_here name word words goes_on option = rw (goes_on, option) (go (bytes_eq (option_name word) name))
  where
    go : (b : Bool) → length (cond b (word ∷ found name words) (found name words)) ≡ once_if b + length (found name words)
    go true = omega arith
    go false = omega arith

names_later : (name word : List ℕ) (words : List (List ℕ)) → bytes_eq word (codes "--") ≡ false → is_option word ≡ false → namings name (word ∷ words) ≡ namings name words
names_later name word words goes_on none = rw (goes_on, none) refl

-- where nothing waits
at_idle : (name : List ℕ) (words : List (List ℕ)) → CountsOf name (parts_from None words) (0 + namings name words) → CountsOf name (parts_from None words) (namings name words)
at_idle name words counts = counts_as name _ _ _ (0 + namings name words) refl (omega arith) counts

pub counted : (name : List ℕ) → bytes_eq (codes "STORE") name ≡ false → (words : List (List ℕ)) (waiting : Option (List ℕ))
    → CountsOf name (parts_from waiting words) (waited name waiting + namings name words)
counted name other [] None = refl
counted name other [] (Some waiting) = tt
counted name no_store (word ∷ words) None = go (bytes_eq word (codes "--")) refl (is_option word) refl (is_flag word) refl (counted name no_store words)
  where
    go : (closes : Bool) → bytes_eq word (codes "--") ≡ closes → (option : Bool) → is_option word ≡ option → (flag : Bool) → is_flag word ≡ flag
        → ((w : Option (List ℕ)) → CountsOf name (parts_from w words) (waited name w + namings name words))
        → CountsOf name (parts_from None (word ∷ words)) (0 + namings name (word ∷ words))
    go true closes option o flag f rest =
        let none : namings name (word ∷ words) ≡ 0 = rw closes refl in
        counts_as name _ _ _ 0 (closed word words closes) (omega (arith, none)) (ap length (no_stores name no_store words))
    go false goes_on true o flag f rest =
        counts_as name _ _ _ (once_if (bytes_eq (option_name word) name) + namings name words) (known word words goes_on o)
        (omega (arith, names_here name word words goes_on o))
        (either_counts name (option_name word) (option_value word) _ _ (namings name words) (at_idle name words (rest None)) (rest (Some (option_name word))))
    go false goes_on false o true f rest = subst (λ p. CountsOf name p (0 + namings name (word ∷ words))) (sym (stray word words goes_on o f)) tt
    go false goes_on false o false f rest =
        counts_as name _ _ _ (once_if (bytes_eq (codes "STORE") name) + namings name words) (plain_store word words f)
        (omega (arith, names_later name word words goes_on o, ap once_if no_store))
        (counts_more name (codes "STORE") word _ (namings name words) (at_idle name words (rest None)))
counted name no_store (word ∷ words) (Some waiting) = go (is_flag word) refl (counted name no_store words None)
  where
    go : (flag : Bool) → is_flag word ≡ flag → CountsOf name (parts_from None words) (0 + namings name words)
        → CountsOf name (parts_from (Some waiting) (word ∷ words)) (once_if (bytes_eq waiting name) + namings name (word ∷ words))
    go true f rest =
        let none : parts_from (Some waiting) (word ∷ words) ≡ None = rw f refl in
        subst (λ p. CountsOf name p (once_if (bytes_eq waiting name) + namings name (word ∷ words))) (sym none) tt
    go false f rest =
        counts_as name _ _ _ (once_if (bytes_eq waiting name) + namings name words) (plain_value waiting word words f)
        (ap (λ n. once_if (bytes_eq waiting name) + n) (names_later name word words (no_end word f) (no_option word f)))
        (counts_more name waiting word _ (namings name words) (at_idle name words rest))

not_one : (values others : List (List ℕ)) → length values ≢ 1 → others ≡ [] → the_only (values_or values others) ≡ None
not_one [] others other none = ap the_only none
not_one (v ∷ []) others other none = absurd (other refl)
not_one (v ∷ w ∷ more) others other none = refl

not_many : (values others : List (List ℕ)) → 1 < length values → the_only (values_or values others) ≡ None
not_many [] others many = absurd (omega (arith, many))
not_many (v ∷ []) others many = absurd (omega (arith, many))
not_many (v ∷ w ∷ more) others many = refl

-- an option that has no default
abbrev IsNeeded : List ℕ → Type 0
IsNeeded name = IsOption name × (part_values defaults name ≡ [])

needed_option : (name : List ℕ) → list_any (λ o. bytes_eq o name) needed_names ≡ true → IsNeeded name
needed_option name is_needed = among IsNeeded name needed_names (
  (known_option (codes "accounts") refl, refl),
  ((known_option (codes "port") refl, refl), ((known_option (codes "workers") refl, refl), ((known_option (codes "connections") refl, refl), tt))),
) is_needed

-- where what the words give an option is no value, they ask for nothing
lacks_value : (name option : List ℕ) (words : List (List ℕ)) → IsOption option
    → ((parts : List Part) → length (part_values parts option) ≡ namings option words → the_value parts option ≡ None)
    → command_in (name ∷ codes "serve" ∷ words) ≡ None
lacks_value name option words is lacks = line_is_plain (name ∷ codes "serve" ∷ words) ∙ go (parts_from None words) (counted option is.no_store words None)
  where
    go : (parts : Option (List Part)) → CountsOf option parts (0 + namings option words) → option_and_then serve_with parts ≡ None
    go None counts = refl
    go (Some ps) counts = is.once.needed (the_value ps) (lacks ps (omega (arith, counts)))

pub each_option_once : EachOptionStandsOnce
each_option_once = record {
  needed = λ name option words is_needed other.
      let is : IsNeeded option = needed_option option is_needed in
      lacks_value name option words is.0 (λ parts counts. not_one (part_values parts option) (part_values defaults option) (λ one. other (omega (arith, one, counts))) is.1);
  doubled = λ name option words is_known many.
      lacks_value name option words (known_option option is_known)
      (λ parts counts. not_many (part_values parts option) (part_values defaults option) (omega (arith, counts, many)));
}
