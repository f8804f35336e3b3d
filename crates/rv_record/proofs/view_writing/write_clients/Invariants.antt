use Rattle.std.proofs.Common.{◌≡◌, ◌++◌, ◌∷◌, drop}
use Rattle.json.specs.Token.{begin_array}
use Rattle.rv_record.specs.CellTexts.{client_data}
use Rattle.rv_rows.specs.ItemLaws.{list_tokens}
use Rattle.rv_record.proofs.view_writing.write_clients.Given as goal

abbrev pub invariant-loop-client : goal.invariant-loop-client
invariant-loop-client l = record {
  before : l.out.before ≡ l.fn.out.before;
  tokens : l.out.tokens ++ list_tokens client_data (drop l.client-index l.clients) ≡ l.fn.out.tokens ++ begin_array ∷ list_tokens client_data l.clients;
}
