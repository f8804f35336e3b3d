-- From the promise of the command that the words ask for to what `run` promises.
use Rattle.std.proofs.Common.{◌≡◌, List, Option, String, inl, subst}
use Rattle.std.specs.Global.{Global}
use Rattle.rv_words.specs.declared.command.Command.{Command}
use Rattle.rv_cli.specs.Commands.{asked_by}
use Rattle.rv_cli.specs.Promises.{Obeys, Promises}
use Rattle.rv_cli.specs.Running.{Outside, Run}

pub obeys : (o : Outside) (words : List (String Global)) (r : Run o) (asked : Option Command) → asked ≡ asked_by words → Promises o asked r → Obeys o words r
obeys o words r asked is kept = inl (subst (λ (a : Option Command). Promises o a r) is kept)
