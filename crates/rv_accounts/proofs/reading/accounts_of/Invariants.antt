use Rattle.std.proofs.Common.{drop, map}
use Rattle.toml.specs.View.{view}
use Rattle.rv_accounts.specs.File.{ordered_accounts}
use Rattle.rv_accounts.proofs.Walk.{Going}
use Rattle.rv_accounts.proofs.reading.accounts_of.Given as goal

abbrev pub invariant-loop-table : goal.invariant-loop-table
invariant-loop-table l = Going l.number l.table-index l.accounts.items (map view (drop l.table-index l.tables)) (ordered_accounts (map view l.tables))
