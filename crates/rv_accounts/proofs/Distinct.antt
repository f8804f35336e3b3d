-- No two accounts of a file have one key.
use Rattle.std.proofs.Common.{◌≡◌, ℕ, ◌+◌, Bool, true, false, ◌||◌, List, [], ◌∷◌, ◌++◌, Some, None, Ok, refl, ap, ◌∙◌, subst}
use Rattle.std.specs.Str.{bytes_eq}
use Rattle.std.specs.Option.{option_map}
use Rattle.toml.specs.Data.{Data}
use Rattle.rv_base.specs.Sorted.{Distinct}
use Rattle.rv_base.specs.PositionLaws.{not_same, find-push_other}
use Rattle.rv_base.specs.ArrangedLaws.{find-sorted}
use Rattle.rv_accounts.specs.declared.account.Account.{Account}
use Rattle.rv_accounts.specs.Members.{account_in}
use Rattle.rv_accounts.specs.File.{account_key, accounts_from, has_key}
use Rattle.rv_accounts.specs.Properties.{AreFound}

neither : (b c : Bool) → (b || c) ≡ false → (b ≡ false) × (c ≡ false)
neither true c e = absurd (cc)
neither false c e = (refl, e)

distinct-push : (account : Account) (accounts : List Account) → Distinct account_key accounts → has_key account.key accounts ≡ false → Distinct account_key (accounts ++ account ∷ [])
distinct-push account [] d new = (refl, tt)
distinct-push account (other ∷ accounts) d new =
    let both = neither (bytes_eq account.key other.key) (has_key account.key accounts) new in
    (find-push_other account_key other.key account accounts (not_same account.key other.key both.0) ∙ d.0, distinct-push account accounts d.1 both.1)

distinct-from : (number : ℕ) (before : List Account) (tables : List Data) (accounts : List Account) → Distinct account_key before → accounts_from number before tables ≡ Ok accounts → Distinct account_key accounts
unfolding accounts_from
distinct-from number before [] accounts d is = let same : before ≡ accounts = cc in subst (Distinct account_key) same d
distinct-from number before (value ∷ values) accounts d is =
    elim (account_in value) as (λ o. account_in value ≡ o → Distinct account_key accounts) [
      | None ↦ λ none. absurd (let e = rw none at is in cc)
      | Some account ↦ λ some. elim (has_key account.key before) as (λ b. has_key account.key before ≡ b → Distinct account_key accounts) [
        | true ↦ λ has. absurd (let e = rw (some, has) at is in cc)
        | false ↦ λ new. distinct-from (number + 1) (before ++ account ∷ []) values accounts (distinct-push account before d new) (rw (some, new) at is)
      ] refl
    ] refl

pub found : (tables : List Data) (accounts : List Account) → accounts_from 1 [] tables ≡ Ok accounts → AreFound accounts
found tables accounts is =
    let d = distinct-from 1 [] tables accounts tt is in
    record { distinct = d; same = λ key. ap (option_map (λ account. account.user)) (find-sorted account_key key accounts d) }
