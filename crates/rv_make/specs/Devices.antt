-- The devices of the users: a user's client group, its one client, and the cookie that was answered to its pulls last.
use Rattle.std.specs.Prelude.{ℕ, List, codes, if◌then◌else◌}
use Rattle.std.specs.Str.{bytes_eq}
use Rattle.rv_turns.specs.declared.pushing.Outcome.{Outcome}
use Rattle.rv_turns.specs.declared.pushing.Outcome.TheVariants.{Pulled}
use Rattle.rv_views.specs.declared.cookie.Cookie.TheVariants.{Null}
use Rattle.rv_make.specs.declared.devices.Device.{Device}
use Rattle.rv_make.specs.declared.three.Three.{Three}
use Rattle.rv_make.specs.Names.{lettered}

-- before the first pull there is no cookie
abbrev pub device_of : ℕ → Device
device_of user = record { group = lettered (codes "g") user; client = lettered (codes "c") user; cookie = Null }

abbrev pub first_devices : Three Device
first_devices = record { first = device_of 0; second = device_of 1; third = device_of 2 }

-- the number of a user, by the name
abbrev pub user_number : List ℕ → ℕ
user_number user = if bytes_eq user (codes "u0") then 0 else if bytes_eq user (codes "u1") then 1 else 2

-- the device after what came of a request: it keeps the cookie of an answer to a pull
abbrev pub told_so : Device → Outcome → Device
told_so device (Pulled reply) = record device { cookie = reply.cookie }
told_so device outcome = device
