-- What the words ask for, said without clap.
use Rattle.std.specs.Prelude.{ℕ, ◌==◌, ◌&&◌, ◌++◌, List, [], ◌∷◌, Option, Some, None, Bool, false, codes, drop, is_some, map, slice_get, take, if◌then◌else◌, option_and_then, option_map}
use Rattle.std.specs.List.{after_first, before_first, list_any}
use Rattle.std.specs.Option.{option_map_or}
use Rattle.std.specs.Str.{bytes_eq, chars}
use Rattle.rv_words.specs.Words.{export_of, follow_of, import_of, make_of, on_store, retire_group_in, serve_by}
use Rattle.rv_words.specs.declared.command.Command.{Command}

-- a `-` (45) with a character after it
abbrev pub is_flag : List ℕ → Bool
is_flag [] = false
is_flag (byte ∷ rest) = byte == 45 && is_some (slice_get (chars rest) 0)

-- The values among the words after a command's name. The first `--` is none, and what follows it are values whatever
-- they look like. Before it no word may be a flag.
abbrev pub values_in : List (List ℕ) → Option (List (List ℕ))
values_in [] = Some []
values_in (word ∷ words) =
    if bytes_eq word (codes "--") then Some words
    else if is_flag word then None
    else option_map (λ values. word ∷ values) (values_in words)

abbrev pub on_store_with : List ℕ → List (List ℕ) → Option Command
on_store_with verb (store ∷ []) = on_store verb store
on_store_with verb other = None

abbrev pub retire_with : List (List ℕ) → Option Command
retire_with (store ∷ group ∷ []) = retire_group_in store group
retire_with other = None

abbrev pub make_with : List (List ℕ) → Option Command
make_with (seed ∷ requests ∷ []) = make_of seed requests
make_with other = None

abbrev pub import_with : List (List ℕ) → Option Command
import_with (store ∷ user ∷ name ∷ []) = import_of store user name
import_with other = None

abbrev pub export_with : List (List ℕ) → Option Command
export_with (store ∷ user ∷ []) = export_of store user
export_with other = None

abbrev pub asked_with : List ℕ → List (List ℕ) → Option Command
asked_with verb values =
    if bytes_eq verb (codes "retire") then retire_with values
    else if bytes_eq verb (codes "make") then make_with values
    else if bytes_eq verb (codes "import") then import_with values
    else if bytes_eq verb (codes "export") then export_with values
    else on_store_with verb values

-- ---- commands with options

-- a name with its value: STORE, or an option's
abbrev pub Part : Type 0
Part = List ℕ × List ℕ

-- the options that `serve` must be given
abbrev pub needed_names : List (List ℕ)
needed_names = codes "accounts" ∷ codes "port" ∷ codes "workers" ∷ codes "connections" ∷ []

-- the options of `serve` that may be left out, with the values that they then have
abbrev pub defaults : List Part
defaults = (codes "poke-port", codes "8091") ∷ (codes "pokes", codes "0") ∷ []

abbrev pub option_names : List (List ℕ)
option_names = needed_names ++ map (λ part. part.0) defaults

-- the NAME in `--NAME` or `--NAME=VALUE`, which ends before the first `=` (61), and the VALUE if there is one
abbrev pub option_name : List ℕ → List ℕ
option_name word = before_first (λ byte. byte == 61) (drop 2 word)

abbrev pub option_value : List ℕ → Option (List ℕ)
option_value word =
    if list_any (λ byte. byte == 61) (drop 2 word) then Some (after_first (λ byte. byte == 61) (drop 2 word)) else None

-- the word is `--NAME` or `--NAME=VALUE` of an option of `serve`; `follow` has `--port` alone
abbrev pub is_option : List ℕ → Bool
is_option word = bytes_eq (take 2 word) (codes "--") && list_any (λ name. bytes_eq name (option_name word)) option_names

abbrev pub with_part : Part → Option (List Part) → Option (List Part)
with_part part = option_map (λ parts. part ∷ parts)

-- The words after `serve` or `follow` as names with their values, in the order of the words. The first argument is the
-- option that waits for its value, which the next word is if it is no flag. Where none waits, each word after a first
-- `--` is a STORE, an option has its value in its word or waits for it, no other word may be a flag, and what is none is
-- a STORE.
abbrev pub parts_from : Option (List ℕ) → List (List ℕ) → Option (List Part)
parts_from None [] = Some []
parts_from (Some name) [] = None
parts_from None (word ∷ words) =
    if bytes_eq word (codes "--") then Some (map (λ store. (codes "STORE", store)) words)
    else if is_option word then option_map_or (λ value. with_part (option_name word, value) (parts_from None words))
    (option_value word) (parts_from (Some (option_name word)) words)
    else if is_flag word then None
    else with_part (codes "STORE", word) (parts_from None words)
parts_from (Some name) (word ∷ words) = if is_flag word then None else with_part (name, word) (parts_from None words)

-- the values of a name, in order
abbrev pub part_values : List Part → List ℕ → List (List ℕ)
part_values [] name = []
part_values (part ∷ parts) name = if bytes_eq part.0 name then part.1 ∷ part_values parts name else part_values parts name

abbrev pub the_only : List (List ℕ) → Option (List ℕ)
the_only (value ∷ []) = Some value
the_only other = None

-- the values, or these others where there are none
abbrev pub values_or : List (List ℕ) → List (List ℕ) → List (List ℕ)
values_or [] others = others
values_or (value ∷ values) others = value ∷ values

-- the value of a name that is given exactly once, or that is left out and has a default
abbrev pub the_value : List Part → List ℕ → Option (List ℕ)
the_value parts name = the_only (values_or (part_values parts name) (part_values defaults name))

abbrev pub serve_with : List Part → Option Command
serve_with parts = serve_by (the_value parts)

-- `follow` is given a port, once, and nothing else
abbrev pub follow_with : List Part → Option Command
follow_with (part ∷ []) = if bytes_eq part.0 (codes "port") then follow_of part.1 else None
follow_with other = None

-- ---- every line

-- the program's name, the command's, and its values
abbrev pub plainly_in : List (List ℕ) → Option Command
plainly_in (name ∷ verb ∷ words) =
    if bytes_eq verb (codes "serve") then option_and_then serve_with (parts_from None words)
    else if bytes_eq verb (codes "follow") then option_and_then follow_with (parts_from None words)
    else option_and_then (asked_with verb) (values_in words)
plainly_in other = None
