-- What a request that was made asks for.
use Rattle.std.specs.Prelude.{ℕ, List}
use Rattle.rv_turns.specs.Asks.{Ask}
use Rattle.rv_turns.specs.declared.pushing.Outcome.{Outcome}
use Rattle.rv_views.specs.declared.cookie.Cookie.TheVariants.{Null}
use Rattle.rv_make.specs.declared.devices.Device.{Device}
use Rattle.rv_make.specs.declared.made.MadeRequest.{MadeRequest}
use Rattle.rv_make.specs.declared.made.MadeRequest.TheVariants.{Push, PullLast, PullNull}
use Rattle.rv_make.specs.declared.three.Three.{Three}
use Rattle.rv_make.specs.Devices.{told_so, user_number}
use Rattle.rv_make.specs.Threes.{held_by, with_held}

-- who makes a request
abbrev pub maker : MadeRequest → List ℕ
maker (Push user id call) = user
maker (PullLast user) = user
maker (PullNull user) = user

-- its turn, by the device of its user
abbrev pub asks_by : MadeRequest → Device → Ask
asks_by (Push user id call) device = Ask.mutation (record { user = user; group = device.group }) (record { client = device.client; id = id; call = call })
asks_by (PullLast user) device = Ask.pull user (record { group = device.group; cookie = device.cookie })
asks_by (PullNull user) device = Ask.pull user (record { group = device.group; cookie = Null })

abbrev pub ask_for : MadeRequest → Three Device → Ask
ask_for request devices = asks_by request (held_by (user_number (maker request)) devices)

-- the devices after what came of a request
abbrev pub devices_after : MadeRequest → Outcome → Three Device → Three Device
devices_after request outcome devices =
    let user = user_number (maker request) in
    with_held user (told_so (held_by user devices) outcome) devices
