-- What the words of a command line ask for. The first is the program's name.
use Rattle.std.specs.Prelude.{◌≡◌, ◌==◌, ◌&&◌, List, [], ◌∷◌, Option, Some, None, Bool, true, false, codes, length, nat_le, not, if◌then◌else◌, option_and_then, option_map}
use Rattle.std.specs.List.{list_any}
use Rattle.std.specs.Str.{bytes_eq}
use Rattle.clap.specs.Words.{Kinds, Row, Text, first_of, fault_of, subcommand_of, subcommand_rows_of}
use Rattle.clap.specs.declared.parser.ArgMatches.{ArgMatches}
use Rattle.rv_base.specs.Options.{◌>>=◌}
use Rattle.rv_words.specs.Numbers.{number_in}
use Rattle.rv_words.specs.Table.{rv_app}
use Rattle.rv_words.specs.declared.command.Command.{Command}
use Rattle.rv_words.specs.declared.command.Command.TheVariants.{Activity, Check, CloseBook, Export, Feed, Follow, Import, Lists, Make, Retire, Serve, Ship}
use Rattle.rv_words.specs.declared.serve_options.ServeOptions.{ServeOptions}

-- the text is an `Id`
abbrev pub is_id : Text → Bool
is_id text = nat_le 1 (length text) && nat_le (length text) 128

-- what a command of one STORE asks for; any text names a store
abbrev pub on_store : Text → Text → Option Command
on_store verb store =
    if bytes_eq verb (codes "feed") then Some (Feed store)
    else if bytes_eq verb (codes "lists") then Some (Lists store)
    else if bytes_eq verb (codes "activity") then Some (Activity store)
    else if bytes_eq verb (codes "check") then Some (Check store)
    else if bytes_eq verb (codes "close-book") then Some (CloseBook store)
    else if bytes_eq verb (codes "ship") then Some (Ship store)
    else None

abbrev pub on_store_in : Text → List Row → Option Command
on_store_in verb rows = option_and_then (on_store verb) (first_of (codes "STORE") rows)

abbrev pub retire_group_in : Text → Text → Option Command
retire_group_in store group = if is_id group then Some (Retire store group) else None

abbrev pub retire_in : List Row → Option Command
retire_in rows = option_and_then (λ store. option_and_then (retire_group_in store) (first_of (codes "GROUP") rows)) (first_of (codes "STORE") rows)

-- what `make` asks for with a seed and a number of requests
abbrev pub make_of : Text → Text → Option Command
make_of seed requests = option_and_then (λ s. option_map (λ n. Make s n) (number_in 0 1000000 requests)) (number_in 0 2147483647 seed)

abbrev pub make_in : List Row → Option Command
make_in rows = option_and_then (λ seed. option_and_then (make_of seed) (first_of (codes "N") rows)) (first_of (codes "SEED") rows)

-- the text, where it is a `User`
abbrev pub as_user : Text → Option Text
as_user text = if nat_le 1 (length text) && nat_le (length text) 64 then Some text else None

-- the text, where it may name an import: no byte is a `/` (47)
abbrev pub as_import_name : Text → Option Text
as_import_name text = if not (list_any (λ byte. byte == 47) text) && nat_le 1 (length text) && nat_le (length text) 48 then Some text else None

-- what `import` asks for with a user and the name of an import
abbrev pub import_of : Text → Text → Text → Option Command
import_of store user name = option_and_then (λ u. option_map (λ n. Import store u n) (as_import_name name)) (as_user user)

abbrev pub import_in : List Row → Option Command
import_in rows = option_and_then (λ store. option_and_then (λ user. option_and_then (import_of store user) (first_of (codes "NAME") rows)) (first_of (codes "USER") rows))
    (first_of (codes "STORE") rows)

abbrev pub export_of : Text → Text → Option Command
export_of store user = option_map (λ u. Export store u) (as_user user)

abbrev pub export_in : List Row → Option Command
export_in rows = option_and_then (λ store. option_and_then (export_of store) (first_of (codes "USER") rows)) (first_of (codes "STORE") rows)

-- how requests are served, by the values of the names: a port, a number of workers, one of connections, a port for
-- pokes, and a number of poke jobs
unfoldable pub options_with : (Text → Option Text) → Text → Option ServeOptions
options_with given accounts = do
  port ← option_and_then (number_in 1 65535) (given (codes "port"))
  workers ← option_and_then (number_in 1 16) (given (codes "workers"))
  connections ← option_and_then (number_in 1 1000000) (given (codes "connections"))
  poke_port ← option_and_then (number_in 1 65535) (given (codes "poke-port"))
  pokes ← option_and_then (number_in 0 16) (given (codes "pokes"))
  Some (record { accounts = accounts; port = port; workers = workers; connections = connections; poke_port = poke_port; pokes = pokes })

-- what `serve` asks for, by the values of its names
abbrev pub serve_by : (Text → Option Text) → Option Command
serve_by given = option_and_then (λ store. option_map (λ options. Serve store options) (option_and_then (options_with given) (given (codes "accounts")))) (given (codes "STORE"))

abbrev pub serve_in : List Row → Option Command
serve_in rows = serve_by (λ name. first_of name rows)

-- what `follow` asks for with the number of a port
abbrev pub follow_of : Text → Option Command
follow_of text = option_map (λ port. Follow port) (number_in 1 65535 text)

abbrev pub follow_in : List Row → Option Command
follow_in rows = option_and_then follow_of (first_of (codes "port") rows)

-- what the command that was named asks for with its values
abbrev pub command_named : Text × List Row → Option Command
command_named named =
    if bytes_eq named.0 (codes "retire") then retire_in named.1
    else if bytes_eq named.0 (codes "make") then make_in named.1
    else if bytes_eq named.0 (codes "import") then import_in named.1
    else if bytes_eq named.0 (codes "export") then export_in named.1
    else if bytes_eq named.0 (codes "serve") then serve_in named.1
    else if bytes_eq named.0 (codes "follow") then follow_in named.1
    else on_store_in named.0 named.1

-- clap's command takes the words
abbrev pub is_taken : Kinds → Bool
is_taken [] = true
is_taken (fault ∷ faults) = false

-- what the words ask for, where clap's command takes them and their values spell something
unfoldable pub command_in : List Text → Option Command
command_in words =
    if is_taken (fault_of rv_app words) then option_and_then command_named (subcommand_of rv_app words)
    else None

-- what clap finds in the words
abbrev pub Parses : List Text → Option ArgMatches → Type 0
Parses words None = is_taken (fault_of rv_app words) ≡ false
Parses words (Some matches) = (is_taken (fault_of rv_app words) ≡ true) × (subcommand_rows_of matches ≡ subcommand_of rv_app words)
