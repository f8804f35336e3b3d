use Rattle.std.proofs.Common.{◌≡◌, drop}
use Rattle.json.specs.Value.{items_view, members_view}
use Rattle.rv_json.specs.Documents.{are_readable, have_readable}
use Rattle.rv_json.proofs.reading.+readable.Given as goal

abbrev pub invariant-are_readable-loop-item : goal.invariant-are_readable-loop-item
invariant-are_readable-loop-item l = are_readable (items_view l.item-items) ≡ are_readable (items_view (drop l.item-index l.item-items))

abbrev pub invariant-have_readable-loop-name : goal.invariant-have_readable-loop-name
invariant-have_readable-loop-name l = have_readable (members_view l._name-items) ≡ have_readable (members_view (drop l._name-index l._name-items))
