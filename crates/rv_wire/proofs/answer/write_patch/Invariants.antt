use Rattle.std.proofs.Common.{◌≡◌, ◌++◌, ◌∷◌, drop}
use Rattle.json.specs.Token.{begin_array}
use Rattle.rv_wire.proofs.Writing.{ops_tokens}
use Rattle.rv_wire.proofs.answer.write_patch.Given as goal

abbrev pub invariant-loop-op : goal.invariant-loop-op
invariant-loop-op l = record {
  before : l.out.before ≡ l.fn.out.before;
  tokens : l.out.tokens ++ ops_tokens (drop l.op-index l.ops) ≡ l.fn.out.tokens ++ begin_array ∷ ops_tokens l.ops;
}
