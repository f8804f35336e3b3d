-- Something of each of the three users, whose numbers are 0, 1 and 2.
use Rattle.std.specs.Prelude.{ℕ, ◌==◌, if◌then◌else◌}
use Rattle.rv_make.specs.declared.three.Three.{Three}

-- what the user of this number has
abbrev pub held_by : {T : Type 0} → ℕ → Three T → T
held_by user three = if user == 0 then three.first else if user == 1 then three.second else three.third

-- the same, where that user has another
abbrev pub with_held : {T : Type 0} → ℕ → T → Three T → Three T
with_held user new three =
    if user == 0 then record three { first = new } else if user == 1 then record three { second = new } else record three { third = new }
