-- An account of the file, as the table that it is.
use Rattle.std.specs.Prelude.{ℕ, nat_le, ◌&&◌, List, length, Option, Some, None, if◌then◌else◌, codes}
use Rattle.toml.specs.Data.{Data, get, as_str}
use Rattle.rv_base.specs.Options.{◌>>=◌}
use Rattle.rv_accounts.specs.declared.account.Account.{Account}

-- a text of at least low and at most high bytes
abbrev pub within : ℕ → ℕ → List ℕ → Option (List ℕ)
within low high text = if nat_le low (length text) && nat_le (length text) high then Some text else None

-- a member that is such a text
abbrev pub text_member : ℕ → ℕ → List ℕ → Data → Option (List ℕ)
text_member low high name value = get name value >>= as_str >>= within low high

-- a key of 1 to 256 bytes, and a user; other members are ignored
abbrev pub account_in : Data → Option Account
account_in value = do
  key ← text_member 1 256 (codes "key") value
  user ← text_member 1 64 (codes "user") value
  Some (record { key = key; user = user })
