use Rattle.std.proofs.Common.{◌≡◌, drop}
use Rattle.json.specs.Value.{members_view}
use Rattle.serde_json.specs.Data.{no_members}
use Rattle.rv_json.specs.Documents.{members_of}
use Rattle.rv_json.specs.ValueData.{members_data}
use Rattle.rv_json.proofs.lookup.last_of_each.Given as goal

abbrev pub invariant-loop-name : goal.invariant-loop-name
invariant-loop-name l = members_of (members_view l.name-items) no_members ≡ members_of (members_view (drop l.name-index l.name-items)) (members_data l.members.entries)
