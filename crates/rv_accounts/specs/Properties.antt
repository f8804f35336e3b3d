-- What follows of what a file says.
use Rattle.std.specs.Prelude.{◌≡◌, ℕ, List, [], Ok}
use Rattle.toml.specs.Data.{Data}
use Rattle.rv_base.specs.Sorted.{Distinct, sorted_by}
use Rattle.rv_accounts.specs.declared.account.Account.{Account}
use Rattle.rv_accounts.specs.File.{account_key, accounts_from, user_in}

-- no two of the accounts have one key, and each key finds the same user in any order
pub record AreFound (accounts : List Account) : Type 0 where
  pub distinct : Distinct account_key accounts
  pub same : (key : List ℕ) → user_in key (sorted_by account_key accounts) ≡ user_in key accounts

-- so it is of the accounts of each file
abbrev pub AccountsAreFound : Type 0
AccountsAreFound = (tables : List Data) (accounts : List Account) → accounts_from 1 [] tables ≡ Ok accounts → AreFound accounts
