use Rattle.std.proofs.Common.{◌≡◌, ◌++◌, ◌∷◌, drop}
use Rattle.json.specs.Token.{begin_object}
use Rattle.rv_wire.proofs.Writing.{ids_tokens}
use Rattle.rv_wire.proofs.answer.write_id_changes.Given as goal

abbrev pub invariant-loop-id : goal.invariant-loop-id
invariant-loop-id l = record {
  before : l.out.before ≡ l.fn.out.before;
  tokens : l.out.tokens ++ ids_tokens (drop l.id-index l.ids) ≡ l.fn.out.tokens ++ begin_object ∷ ids_tokens l.ids;
}
