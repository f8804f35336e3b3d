use Rattle.std.proofs.Common.{◌≡◌, ◌≤◌, take}
use Rattle.std.specs.Prelude.{fold}
use Rattle.rv_rows.specs.Keys.{key_text}
use Rattle.rv_rows.specs.Held.{remove}
use Rattle.rv_mutators.proofs.staged.remove_keys.Given as goal

abbrev pub invariant-loop-key : goal.invariant-loop-key
invariant-loop-key l = record {
  rows : l.tables.rows ≡ fold (λ t key. remove (key_text key) t) l.initial.tables.rows (take l.key-index l.keys);
  spare : l.initial.tables.spare ≤ l.tables.spare;
}
