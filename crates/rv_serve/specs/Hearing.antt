-- What a gate has heard, where it tells.
use Rattle.std.specs.Prelude.{◌≡◌, List, ◌++◌, Option, Some, None}
use Rattle.rv_serve.specs.declared.heard.Heard.{Heard}

-- Just this was heard: what was told before is told, and then this; or nothing is told any more.
abbrev pub Hears : Option (List Heard) → Option (List Heard) → List Heard → Type 0
Hears None None more = Unit {0}
Hears (Some old) None more = Unit {0}
Hears None (Some new) more = ⊥
Hears (Some old) (Some new) more = new ≡ old ++ more
