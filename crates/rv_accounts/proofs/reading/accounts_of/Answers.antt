use Rattle.std.proofs.Common.{◌≤◌, ◌+◌, List, Ok, Err, sym, ◌∙◌, inr, arith, drop, map, length, subst}
use Rattle.toml.specs.View.{view}
use Rattle.rv_base.specs.Sorted.{InOrder}
use Rattle.rv_accounts.specs.declared.account.Account.{Account}
use Rattle.rv_accounts.specs.File.{account_key, ordered_accounts}
use Rattle.rv_accounts.proofs.Walk.{Going, in_order, settles_of, no_account, second_account, one_account, accounts_end}
use Rattle.rv_accounts.proofs.reading.accounts_of.Goals as goal

pub position_of-requires : goal.position_of-requires
position_of-requires c = subst (InOrder account_key) (sym c.deref.ensures.value) (in_order c.loop-table.invariant)

pub returns-in_default-clause-accounts : goal.returns-in_default-clause-accounts
returns-in_default-clause-accounts c =
    inr (no_account c.args.tables.now c.loop-table.table-index c.table-item.result c.loop-table.number c.loop-table.accounts.items _ c.loop-table-test.true c.table-item.is c.loop-table.invariant (sym c.in_ok-account.ensures ∙ c.in_default.is))

pub returns-in_default-position_of-clause-accounts : goal.returns-in_default-position_of-clause-accounts
returns-in_default-position_of-clause-accounts c =
    let s = settles_of c.in-Some.account.key c.as_bytes.result.now c.loop-table.accounts.items c.deref.result.now (Ok c.in_default-position_of.field-0) (c.as_bytes.ensures.value ∙ c.as_str.ensures.value) c.deref.ensures.value c.in_default-position_of.ensures in
    inr (second_account c.args.tables.now c.loop-table.table-index c.table-item.result c.loop-table.number c.loop-table.accounts.items _ c.loop-table-test.true c.table-item.is c.loop-table.invariant c.in-Some.account c.in_default-position_of.field-0 (sym c.in_ok-account.ensures ∙ c.in-Some.is) s)

pub loop-table-preserved : goal.loop-table-preserved
loop-table-preserved c =
    let s = settles_of c.in-Some.account.key c.as_bytes.result.now c.loop-table.accounts.items c.deref.result.now (Err c.in-Err.position) (c.as_bytes.ensures.value ∙ c.as_str.ensures.value) c.deref.ensures.value c.in-Err.ensures in
    subst (λ (held : List Account). Going (c.loop-table.number + 1) (c.loop-table.table-index + 1) held (map view (drop (c.loop-table.table-index + 1) c.args.tables.now)) (ordered_accounts (map view c.args.tables.now))) (sym c.in-Ok.ensures.items)
    (one_account c.args.tables.now c.loop-table.table-index c.table-item.result c.loop-table.number c.loop-table.accounts.items _ c.loop-table-test.true c.table-item.is c.loop-table.invariant c.in-Some.account c.in-Err.position (sym c.in_ok-account.ensures ∙ c.in-Some.is) s)

pub returns-clause-order : goal.returns-clause-order
returns-clause-order c = in_order c.loop-table.invariant

pub returns-clause-accounts : goal.returns-clause-accounts
returns-clause-accounts c =
    let le : length c.args.tables.now ≤ c.loop-table.table-index = omega arith in
    accounts_end c.args.tables.now c.loop-table.table-index c.loop-table.number c.loop-table.accounts.items _ le c.loop-table.invariant
