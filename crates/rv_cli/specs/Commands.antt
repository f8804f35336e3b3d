-- What words ask for, whether that is to follow, and that an accounts file is there.
use Rattle.std.specs.Prelude.{ℕ, Bool, true, false, List, Option, Some, String, map, string_bytes}
use Rattle.std.specs.Global.{Global}
use Rattle.rv_words.specs.Words.{command_in}
use Rattle.rv_words.specs.declared.command.Command.{Command}
use Rattle.rv_words.specs.declared.command.Command.TheVariants.{Follow}

-- what the words of a run ask for
abbrev pub asked_by : List (String Global) → Option Command
asked_by words = command_in (map string_bytes words)

-- they ask to follow the lines of a connection, which then stands for the input and the output
abbrev pub is_follow : Option Command → Bool
is_follow (Some (Follow port)) = true
is_follow other = false

abbrev pub asks_to_follow : List (String Global) → Bool
asks_to_follow words = is_follow (asked_by words)

-- there is an accounts file of the name
abbrev pub HasFile : (List ℕ → List ℕ → Type 0) → List ℕ → Type 0
HasFile accounts name = (file : List ℕ) × accounts name file
