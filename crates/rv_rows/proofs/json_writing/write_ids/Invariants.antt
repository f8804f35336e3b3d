use Rattle.std.proofs.Common.{◌≡◌, ℕ, List, ◌++◌, ◌∷◌, drop}
use Rattle.json.specs.Token.{begin_array}
use Rattle.serde_json.specs.Data.{string}
use Rattle.rv_rows.specs.ItemLaws.{list_tokens}
use Rattle.rv_rows.proofs.json_writing.write_ids.Given as goal

abbrev pub invariant-loop-id : goal.invariant-loop-id
invariant-loop-id l = record {
  before : l.out.before ≡ l.fn.out.before;
  tokens : l.out.tokens ++ list_tokens (λ (id : List ℕ). string id) (drop l.id-index l.ids) ≡ l.fn.out.tokens ++ begin_array ∷ list_tokens (λ (id : List ℕ). string id) l.ids;
}
