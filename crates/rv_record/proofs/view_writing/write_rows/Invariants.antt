use Rattle.std.proofs.Common.{◌≡◌, ◌++◌, ◌∷◌, drop}
use Rattle.json.specs.Token.{begin_array}
use Rattle.rv_record.specs.CellTexts.{seen_data}
use Rattle.rv_rows.specs.ItemLaws.{list_tokens}
use Rattle.rv_record.proofs.view_writing.write_rows.Given as goal

abbrev pub invariant-loop-key : goal.invariant-loop-key
invariant-loop-key l = record {
  before : l.out.before ≡ l.fn.out.before;
  tokens : l.out.tokens ++ list_tokens seen_data (drop l.key-index l.rows) ≡ l.fn.out.tokens ++ begin_array ∷ list_tokens seen_data l.rows;
}
