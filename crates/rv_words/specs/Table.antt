-- The commands of `rv`, as clap's contracts see them.
use Rattle.std.specs.Prelude.{true, List, [], ◌∷◌, Some, codes, fold}
use Rattle.clap.specs.Words.{App, Rule, Text, new_app, new_rule, with_rule, with_subcommand}
use Rattle.clap.specs.Simple.{on_top}

-- a word that must be given
abbrev pub required_value : Text → Rule
required_value name = record (new_rule name) { required = true }

-- an option that must be given, with its value
abbrev pub required_option : Text → Rule
required_option name = record (new_rule name) { long = Some name; required = true }

-- an option that may be left out, and then has this value
abbrev pub option_with_default : Text → Text → Rule
option_with_default name value = record (new_rule name) { long = Some name; defaults = value ∷ [] }

-- VERB STORE
abbrev pub store_app : Text → App
store_app verb = with_rule (new_app verb) (required_value (codes "STORE"))

-- retire STORE GROUP
abbrev pub retire_app : App
retire_app = with_rule (store_app (codes "retire")) (required_value (codes "GROUP"))

-- make SEED N
abbrev pub make_app : App
make_app = with_rule (with_rule (new_app (codes "make")) (required_value (codes "SEED"))) (required_value (codes "N"))

-- import STORE USER NAME
abbrev pub import_app : App
import_app = with_rule (with_rule (store_app (codes "import")) (required_value (codes "USER"))) (required_value (codes "NAME"))

-- export STORE USER
abbrev pub export_app : App
export_app = with_rule (store_app (codes "export")) (required_value (codes "USER"))

-- the options of serve: --accounts FILE --port PORT --workers WORKERS --connections CONNECTIONS [--poke-port PORT] [--pokes POKES]
abbrev pub serve_options : List Rule
serve_options =
    required_option (codes "accounts") ∷ required_option (codes "port") ∷ required_option (codes "workers") ∷ required_option (codes "connections")
    ∷ option_with_default (codes "poke-port") (codes "8091") ∷ option_with_default (codes "pokes") (codes "0") ∷ []

-- serve STORE and its options
abbrev pub serve_app : App
serve_app = fold with_rule (store_app (codes "serve")) serve_options

-- follow --port PORT
abbrev pub follow_app : App
follow_app = with_rule (new_app (codes "follow")) (required_option (codes "port"))

-- one of the commands must be named, and nothing asks for help or for the version
abbrev pub bare_app : App
bare_app = on_top (λ shape. record shape {
  subcommand_required = true;
  disable_help_flag = true;
  disable_help_subcommand = true;
  disable_version_flag = true;
}) (new_app (codes "rv"))

abbrev pub commands : List App
commands =
    store_app (codes "feed") ∷ store_app (codes "lists") ∷ store_app (codes "activity") ∷ store_app (codes "check") ∷ retire_app ∷ make_app ∷ import_app ∷ export_app ∷ serve_app
    ∷ store_app (codes "close-book") ∷ store_app (codes "ship") ∷ follow_app ∷ []

abbrev pub with_commands : App → List App → App
with_commands = fold (λ app command. with_subcommand app command.top)

unfoldable pub rv_app : App
rv_app = with_commands bare_app commands
