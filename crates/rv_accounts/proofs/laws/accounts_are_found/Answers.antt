use Rattle.rv_accounts.proofs.Distinct.{found}
use Rattle.rv_accounts.proofs.laws.accounts_are_found.Goals as goal

pub returns : goal.returns
returns c = found
